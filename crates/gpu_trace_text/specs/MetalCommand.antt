-- What a command of a Metal trace says that is no other API's. Each has one spelling: its words, with decimal numbers and no leading zeros.
use Rattle.std.specs.Prelude.{ℕ, ◌<◌, ◌^◌, List, [], ◌∷◌, ◌++◌, codes, string_bytes}
use Rattle.std.specs.Fmt.{decimal}
use Rattle.gpu_device.specs.declared.metal.types.StorageMode.{StorageMode}
use Rattle.gpu_device.specs.declared.metal.types.StorageMode.TheVariants as modes
use Rattle.gpu_device.specs.declared.metal.types.TextureDescriptor.{TextureDescriptor}
use Rattle.gpu_run.specs.declared.metal.command.Other.{Other}
use Rattle.gpu_run.specs.declared.metal.command.Other.TheVariants.{Buffer, AccelerationStructure, Texture, Heaps, Commit}
use Rattle.gpu_run.specs.declared.metal.command.Request.{Request}
use Rattle.gpu_capture.specs.Words.{location_word}
use Rattle.gpu_capture.specs.Metal.{metal_words}
use Rattle.gpu_block_session.specs.Words.{IsName}

-- the word for a storage mode; another than the four is told by its number
abbrev pub mode_word : StorageMode → List ℕ
mode_word modes.Shared = codes "shared"
mode_word modes.Managed = codes "managed"
mode_word modes.Private = codes "private"
mode_word modes.Memoryless = codes "memoryless"
mode_word (modes.Other mode) = codes "other:" ++ decimal mode

-- the words of a request for a piece, behind the numbers that it is asked under
abbrev pub request_words : Request → List (List ℕ)
request_words r = metal_words r.size r.alignment r.location (string_bytes r.name)

-- its words
abbrev pub words : Other → List (List ℕ)
words (Buffer key length location name) = codes "buffer" ∷ decimal key ∷ decimal length ∷ location_word location ∷ string_bytes name ∷ []
words (AccelerationStructure key size location name) = codes "structure" ∷ decimal key ∷ decimal size ∷ location_word location ∷ string_bytes name ∷ []
words (Texture key t name) =
    codes "texture" ∷ decimal key ∷ mode_word t.storage_mode ∷ decimal t.width ∷ decimal t.height ∷ decimal t.bytes_per_texel ∷ string_bytes name ∷ []
words Heaps = codes "heaps" ∷ []
words Commit = codes "commit" ∷ []

-- what the numbers and the name of a request for a piece may be
pub record FitsRequest (r : Request) : Type 0 where
  pub size_fits : r.size < 2 ^ 64
  pub alignment_fits : r.alignment < 2 ^ 64
  pub name_fits : IsName (string_bytes r.name)

-- a mode told by its number has 32 bits
abbrev pub FitsMode : StorageMode → Type 0
FitsMode modes.Shared = Unit {0}
FitsMode modes.Managed = Unit {0}
FitsMode modes.Private = Unit {0}
FitsMode modes.Memoryless = Unit {0}
FitsMode (modes.Other mode) = mode < 2 ^ 32

-- a texture's numbers have 64 bits
pub record FitsTexture (t : TextureDescriptor) : Type 0 where
  pub mode_fits : FitsMode t.storage_mode
  pub width_fits : t.width < 2 ^ 64
  pub height_fits : t.height < 2 ^ 64
  pub bytes_fit : t.bytes_per_texel < 2 ^ 64

-- what its numbers and names may be
abbrev pub OtherFits : Other → Type 0
OtherFits (Buffer key length location name) = (key < 2 ^ 64) × (length < 2 ^ 64) × IsName (string_bytes name)
OtherFits (AccelerationStructure key size location name) = (key < 2 ^ 64) × (size < 2 ^ 64) × IsName (string_bytes name)
OtherFits (Texture key t name) = (key < 2 ^ 64) × FitsTexture t × IsName (string_bytes name)
OtherFits Heaps = Unit {0}
OtherFits Commit = Unit {0}
