-- What the calls of Vulkan's machine make of live pieces.
use Rattle.std.specs.Prelude.{◌≡◌, ℕ, ◌%◌, Bool, Option, Some, None, Result, Ok, Err}
use Rattle.gpu_values.specs.declared.error.AllocationError.{AllocationError}
use Rattle.gpu_core.specs.Blocks.{Slots}
use Rattle.gpu_pool.specs.Live.{IsNewlyLive}
use Rattle.gpu_machine.specs.declared.vulkan.answer.Allocated.{Allocated}
use Rattle.gpu_machine.specs.declared.vulkan.answer.Progress.{Progress}
use Rattle.gpu_machine.specs.declared.vulkan.answer.Progress.TheVariants as progress
use Rattle.gpu_machine.specs.declared.vulkan.asking.Asking.{Asking}

module _ {H : Type 0} (eq : H → H → Bool) where
  -- the piece is live, and none that was live before; it begins at a multiple of the alignment
  abbrev pub Gives : (alignment : ℕ) → (old new : Slots H) → Result (Progress H) AllocationError → Type 0
  Gives alignment old new (Ok (progress.Piece a)) = IsNewlyLive eq old new a.memory_type a.piece × (a.piece.offset % alignment ≡ 0)
  Gives alignment old new (Ok (progress.Question q)) = Unit {0}
  Gives alignment old new (Err e) = Unit {0}

  -- the same of the request whose question was open
  abbrev pub GivesAgain : Option Asking → (old new : Slots H) → Result (Progress H) AllocationError → Type 0
  GivesAgain None old new result = Unit {0}
  GivesAgain (Some r) old new result = Gives r.description.requirements.alignment old new result

  -- the same of a piece in the memory that was asked for, which begins where its block does
  abbrev pub GivesAwaited : (old new : Slots H) → Result (Allocated H) AllocationError → Type 0
  GivesAwaited old new (Ok a) = IsNewlyLive eq old new a.memory_type a.piece × (a.piece.offset ≡ 0)
  GivesAwaited old new (Err e) = Unit {0}
