-- The text of a name, wherever it lies, and of one that is made ready.
use Rattle.std.specs.Prelude.{ℕ, ⊤, ◌≤◌, List, length, string_bytes}
use Rattle.gpu_block_chunks.specs.declared.name.Text.{Text}
use Rattle.gpu_block_chunks.specs.declared.name.Text.TheVariants as texts
use Rattle.gpu_block_chunks.specs.declared.name.NewText.{NewText}
use Rattle.gpu_block_chunks.specs.declared.name.NewText.TheVariants as ready

abbrev pub bytes_of : Text → List ℕ
bytes_of (texts.Short short) = short
bytes_of (texts.Long long) = string_bytes long.value

abbrev pub bytes_of_new : NewText → List ℕ
bytes_of_new (ready.Short short) = short.now
bytes_of_new (ready.Long long) = string_bytes long.value

-- a name of at most 22 bytes is lent, so that it can be copied; a longer one has memory of its own
abbrev pub IsReady : NewText → Type 0
IsReady (ready.Short short) = length short.now ≤ 22
IsReady (ready.Long long) = ⊤
