use Rattle.std.proofs.Common.{ℕ, ◌≡◌, ◌≤◌, length, vec_capacity}
use Rattle.gpu_core.specs.TypeState.{slot_at}
use Rattle.gpu_core.specs.TypeTake.{asked, CannotServe}
use Rattle.gpu_core.specs.Slots.{slots_of}
use Rattle.gpu_core.proofs.slots.Slots.allocate_from.Given as goal

abbrev pub invariant-loop-below : goal.invariant-loop-below
invariant-loop-below g l = record {
  within : l.below ≤ length l.self-inside.blocks.items;
  same : slots_of l.self-inside.blocks.items ≡ slots_of l.initial.self-inside.blocks.items;
  room : vec_capacity l.self-inside.blocks ≡ vec_capacity l.initial.self-inside.blocks;
  notes : l.self-inside.notes ≡ l.initial.self-inside.notes;
  above : (i : ℕ) → l.below ≤ i → CannotServe (asked l.request) (slot_at (slots_of l.initial.self-inside.blocks.items) i);
}

abbrev pub decreases-loop-below : goal.decreases-loop-below
decreases-loop-below g l = l.below
