use Rattle.std.proofs.Common.{◌≡◌, ◌*◌, ◌<◌, ◌≤◌, ℕ, false}
use Rattle.gpu_block_gaps.specs.ClassSet.{is_in}
use Rattle.gpu_block_gaps.proofs.class_set.next_bit.Given as goal

abbrev pub invariant-loop-at : goal.invariant-loop-at
invariant-loop-at l = (j : ℕ) → l.from ≤ j → j < l.at * 64 → is_in l.words j ≡ false
