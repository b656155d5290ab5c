-- What the calls of Metal's machine make of live pieces.
use Rattle.std.specs.Prelude.{◌≡◌, ℕ, ◌%◌, Result, Ok, Err}
use Rattle.gpu_values.specs.declared.error.AllocationError.{AllocationError}
use Rattle.gpu_metal.specs.Blocks.{Slots, is_same_heap}
use Rattle.gpu_pool.specs.Live.{IsNewlyLive}
use Rattle.gpu_machine.specs.declared.metal.answer.Granted.{Granted}
use Rattle.gpu_machine.specs.declared.metal.answer.Progress.{Progress}
use Rattle.gpu_machine.specs.declared.metal.answer.Progress.TheVariants as progress

-- the piece is live, and none that was live before; it begins at a multiple of the alignment
abbrev pub Gives : (alignment : ℕ) → (old new : Slots) → Result Progress AllocationError → Type 0
Gives alignment old new (Ok (progress.Piece a)) = IsNewlyLive is_same_heap old new a.memory_type a.piece × (a.piece.offset % alignment ≡ 0)
Gives alignment old new (Ok (progress.Question q)) = Unit {0}
Gives alignment old new (Err e) = Unit {0}

-- the same of a piece in the heap that was asked for, which begins where the heap does
abbrev pub GivesAwaited : (old new : Slots) → Result Granted AllocationError → Type 0
GivesAwaited old new (Ok g) = IsNewlyLive is_same_heap old new g.allocated.memory_type g.allocated.piece × (g.allocated.piece.offset ≡ 0)
GivesAwaited old new (Err e) = Unit {0}
