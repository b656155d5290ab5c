use Rattle.std.proofs.Common.{◌≡◌, ℕ, ◌-◌, ◌≤◌, length, get_or, take}
use Rattle.gpu_block_gaps.specs.Scan.{place_in}
use Rattle.gpu_block_gaps.specs.Ordered.{gaps_of}
use Rattle.gpu_block_gaps.proofs.classed.put_all.Given as goal

abbrev pub invariant-loop-slot : goal.invariant-loop-slot
invariant-loop-slot l = (k : ℕ) × (k ≤ length l.from.order) × (l.slot ≡ get_or l.from.order k 0) × (l.index.gaps ≡ take k (gaps_of l.from)) × (l.index.room ≡ l.initial.index.room) × (l.index.longest ≡ l.initial.index.longest)

abbrev pub decreases-loop-slot : goal.decreases-loop-slot
decreases-loop-slot l = length l.from.order - place_in l.slot l.from.order
