-- What a command of a DirectX 12 trace says that is no other API's. Each has one spelling: its words, with decimal numbers and no leading zeros.
use Rattle.std.specs.Prelude.{ℕ, ◌<◌, ◌^◌, List, [], ◌∷◌, codes, string_bytes}
use Rattle.std.specs.Fmt.{decimal}
use Rattle.gpu_run.specs.declared.d3d12.command.Other.{Other}
use Rattle.gpu_run.specs.declared.d3d12.command.Other.TheVariants.{Rename, Create, Release, Leaks, Committed}
use Rattle.gpu_run.specs.declared.d3d12.command.Request.{Request}
use Rattle.gpu_capture.specs.Words.{rename_words}
use Rattle.gpu_capture.specs.D3D12.{d3d12_words, release_words}
use Rattle.gpu_block_session.specs.Words.{IsName}
use Rattle.gpu_trace_text.specs.D3D12Resource.{category_word, wanted_words, FitsWanted}

-- a request's words, behind the numbers that it is asked under
abbrev pub request_words : Request → List (List ℕ)
request_words r = d3d12_words r.size r.alignment r.location (category_word r.category) (string_bytes r.name)

-- its words
abbrev pub words : Other → List (List ℕ)
words (Rename key name) = rename_words key (string_bytes name)
words (Create key wanted) = codes "create" ∷ decimal key ∷ wanted_words wanted
words (Release key) = release_words key
words Leaks = codes "leaks" ∷ []
words (Committed t) = codes "committed" ∷ decimal t ∷ []

-- what a request's numbers and name may be
pub record FitsRequest (r : Request) : Type 0 where
  pub size_fits : r.size < 2 ^ 64
  pub alignment_fits : r.alignment < 2 ^ 64
  pub name_fits : IsName (string_bytes r.name)

-- what its numbers and names may be
abbrev pub OtherFits : Other → Type 0
OtherFits (Rename key name) = (key < 2 ^ 64) × IsName (string_bytes name)
OtherFits (Create key wanted) = (key < 2 ^ 64) × FitsWanted wanted
OtherFits (Release key) = key < 2 ^ 64
OtherFits Leaks = Unit {0}
OtherFits (Committed t) = t < 2 ^ 64
