use Rattle.std.proofs.Common.{◌≡◌, ℕ, ◌+◌, ◌-◌, ◌<◌, ◌≤◌, length, get_or, take}
use Rattle.std.specs.List.{count_by, AllPairs}
use Rattle.gpu_block_gaps.specs.declared.index.Gap.{Gap}
use Rattle.gpu_cost.specs.Cost.{digits}
use Rattle.gpu_block_gaps.specs.Index.{Before}
use Rattle.gpu_block_pieces.specs.Indexed.{FitsGap, is_long}
use Rattle.gpu_block_pieces.proofs.search.find.Given as goal

abbrev pub invariant-loop-gap : goal.invariant-loop-gap
invariant-loop-gap l = record {
  same : (l.scan).gaps ≡ l.index.gaps;
  within : (l.scan).place ≤ length l.index.gaps;
  past : (k o : ℕ) (d : Gap) → k < (l.scan).place → FitsGap l.wanted (get_or l.index.gaps k d) o → ⊥;
  from : (k : ℕ) (d : Gap) → (l.scan).place ≤ k → k < length l.index.gaps → (l.wanted).size ≤ (get_or l.index.gaps k d).length;
  comparisons : ((l.fn.cost).comparisons ≤ l.cost.comparisons) ×
      (l.cost.comparisons ≤ (l.fn.cost).comparisons + digits (length l.index.gaps));
  tests : l.cost.tests ≡ (l.fn.cost).tests + count_by (is_long (l.wanted).size) (take (l.scan).place l.index.gaps);
  lookups : l.cost.lookups ≡ (l.fn.cost).lookups;
  ordered : AllPairs Before l.index.gaps;
}

abbrev pub decreases-loop-gap : goal.decreases-loop-gap
decreases-loop-gap l = length l.index.gaps - (l.scan).place
