use Rattle.std.proofs.Common.{◌≡◌, ℕ, ◌≤◌, get_or, rules, arith, false, inl, inr}
use Rattle.std.proofs.Math.Dec.{leb}
use Rattle.std.proofs.lemmas.Bool.{leb-true, le-leb, cases_lt, both_ways}
use Rattle.std.proofs.lemmas.List.Elements.{All-cons}
use Rattle.std.proofs.lemmas.List.Sorted.{All-permutation, IsPermutation-insert, IsPartitionPoint-from_clause, IsPartitionedBy-leb, IsNonDecreasingBy-insert}
use Rattle.gpu_plan.specs.declared.span.Span.{Span}
use Rattle.gpu_plan.specs.Span.{IsSpan}
use Rattle.gpu_plan.proofs.by_kind.insert_span.Goals as goal

abbrev start_of : Span → ℕ
start_of s = s.start

above : (x y : ℕ) → leb x y ≡ false → y ≤ x
above x y e = elim (cases_lt x y) [
  | inl lt ↦ absurd (both_ways (leb x y) e (le-leb x y (omega arith)))
  | inr ge ↦ ge
]

pub returns-clause-added : goal.returns-clause-added
returns-clause-added c =
    let a = c.args in
    rw (c.in_ok-insert.ensures.items) (IsPermutation-insert a.spans.now.items c.partition_point-index.result a.span)

pub returns-clause-ordered : goal.returns-clause-ordered
returns-clause-ordered c =
    let a = c.args in
    let spans = a.spans.now.items in
    let at = c.partition_point-index.result in
    let parted = IsPartitionedBy-leb start_of spans a.span.start c.requires.ordered.sorted in
    let whole = rw c.deref.ensures.value at c.partition_point-index.ensures.partitioned in
    let point = IsPartitionPoint-from_clause (λ s. leb s.start a.span.start) spans at whole parted (λ b r q k. search rules) in
    rw c.in_ok-insert.ensures.items (record {
      sized = All-permutation IsSpan _ _ (IsPermutation-insert spans at a.span) (All-cons IsSpan a.span spans c.requires.sized c.requires.ordered.sized);
      sorted = IsNonDecreasingBy-insert start_of spans at a.span c.requires.ordered.sorted (omega arith) (λ k d lt. leb-true _ _ (point.0 k d (omega arith) lt)) (λ k d ge lt. above (get_or spans k d).start a.span.start (point.1 k d ge lt));
    })
