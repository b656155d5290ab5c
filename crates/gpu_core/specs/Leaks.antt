-- The pieces of an allocator that are still live.
use Rattle.std.specs.Prelude.{ℕ, ◌+◌, List, [], ◌∷◌, ◌++◌}
use Rattle.gpu_block_pieces.specs.Leak.{LeakOf}
use Rattle.gpu_core.specs.TypeReport.{type_leaks}
use Rattle.gpu_core.specs.Blocks.{Slots}

-- the live pieces by memory type, then by slot, then in the order of their starts, where the first memory type has the index `first`
abbrev pub leaks_beginning : {H : Type 0} → (first : ℕ) → Slots H → List LeakOf
leaks_beginning first [] = []
leaks_beginning first (s ∷ ss) = type_leaks first s ++ leaks_beginning (first + 1) ss

-- the live pieces of all memory types
abbrev pub all_leaks : {H : Type 0} → Slots H → List LeakOf
all_leaks slots = leaks_beginning 0 slots
