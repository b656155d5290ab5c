-- What a memory type keeps by each call, and what all of an allocator keep.
use Rattle.std.specs.Prelude.{◌≡◌, ℕ, List, Option, IsTrue}
use Rattle.std.specs.Int.{is_power_of_two}
use Rattle.gpu_core.specs.TypeState.{Slot, capacity_of, shared_count, KeepsOneEmptyAtMost}
use Rattle.gpu_core.specs.Slots.{AreSound}
use Rattle.gpu_core.specs.Blocks.{total_capacity}
use Rattle.gpu_core.specs.Types.{Types, slots_of, MemoryTypesInvariant}

-- the code's sums are those of the slots, the pages are a power of two, the blocks are sound, and at most one is empty
pub record AreKept {H : Type 0} (granularity : ℕ) (slots : List (Option (Slot H))) (capacity shared : ℕ) : Type 0 where
  pub pages : IsTrue (is_power_of_two granularity)
  pub sound : AreSound granularity slots
  pub capacity_is : capacity ≡ capacity_of slots
  pub shared_is : shared ≡ shared_count slots
  pub empty : KeepsOneEmptyAtMost slots

-- all memory types keep their invariant, and the code's sum is that of their blocks
pub record AllAreKept {H : Type 0} (types : Types H) (capacity : ℕ) : Type 0 where
  pub kept : MemoryTypesInvariant types
  pub sum_is : capacity ≡ total_capacity (slots_of types)
