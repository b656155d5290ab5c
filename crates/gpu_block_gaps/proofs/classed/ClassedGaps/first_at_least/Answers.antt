use Rattle.std.proofs.Common.{◌≡◌, ◌<◌, ◌≤◌, ◌+◌, ◌*◌, ◌^◌, ℕ, List, length, get_or, ap, subst, arith}
use Rattle.std.specs.List.{AllPairs}
use Rattle.std.proofs.lemmas.List.{length-map}
use Rattle.gpu_block_gaps.specs.Order.{IsPlaceIn}
use Rattle.gpu_block_gaps.proofs.Positions.{place_there}
use Rattle.gpu_block_gaps.specs.declared.index.Gap.{Gap}
use Rattle.gpu_block_gaps.specs.Index.{Before, Index}
use Rattle.gpu_block_gaps.specs.Thread.{gap_in}
use Rattle.gpu_block_gaps.specs.Ordered.{key_in, gaps_of}
use Rattle.gpu_block_gaps.proofs.Surface.{gaps_sorted, shorter_below, longer_from, few_keys}
use Rattle.gpu_block_gaps.proofs.classed.ClassedGaps.first_at_least.Goals.{After-next_from, After-new-2}
use Rattle.gpu_block_gaps.proofs.classed.ClassedGaps.first_at_least.Goals as goal

pub new-requires-2 : goal.new-requires-2
new-requires-2 c =
    let t = c.self.inside.thread in
    let place = place_there (key_in t.gaps) t.order c.self.invariant.0.1.ordered.sorted (c.args.size * 2 ^ 64 + 0) in
    (place.0, place.1.within, c.next_from.ensures place.0 place.1)

-- the place that the scan begins at
found : (c : After-new-2) → (p : ℕ) × IsPlaceIn (key_in c.self.inside.thread.gaps) c.self.inside.thread.order (c.args.size * 2 ^ 64 + 0) p × (c.new-2.result.place ≡ p)
found c =
    let t = c.self.inside.thread in
    let place = place_there (key_in t.gaps) t.order c.self.invariant.0.1.ordered.sorted (c.args.size * 2 ^ 64 + 0) in
    (place.0, place.1, c.new-2.ensures.place place.0 place.1.within (c.next_from.ensures place.0 place.1))

pub returns-clause-within : goal.returns-clause-within
returns-clause-within c =
    let at = found c in
    let within = at.1.within in
    let is = at.2 in
    let seen = ap (λ (x : Index). length x.gaps) c.self.view_is in
    let long = length-map c.self.inside.thread.order (gap_in c.self.inside.thread.gaps) in
    omega arith

pub returns-clause-below : goal.returns-clause-below
returns-clause-below c =
    let at = found c in
    subst (λ (gs : List Gap). (k : ℕ) (d : Gap) → k < c.new-2.result.place → (get_or gs k d).length < c.args.size) (ap (λ (x : Index). x.gaps) c.self.view_is)
    (λ k d lt. shorter_below c.self.inside.thread c.self.inside.forest c.self.invariant.0.0 c.self.invariant.0.1 c.args.size at.0 at.1 k d (let is = at.2 in omega arith))

pub returns-clause-from : goal.returns-clause-from
returns-clause-from c =
    let at = found c in
    subst (λ (gs : List Gap). (k : ℕ) (d : Gap) → c.new-2.result.place ≤ k → k < length gs → c.args.size ≤ (get_or gs k d).length) (ap (λ (x : Index). x.gaps) c.self.view_is)
    (λ k d le lt. longer_from c.self.inside.thread c.self.inside.forest c.self.invariant.0.0 c.self.invariant.0.1 c.args.size at.0 at.1 k d (let is = at.2 in omega arith) lt)

pub returns-clause-ordered : goal.returns-clause-ordered
returns-clause-ordered c = subst (λ (gs : List Gap). AllPairs Before gs) (ap (λ (x : Index). x.gaps) c.self.view_is) (gaps_sorted c.self.inside.thread c.self.inside.forest c.self.invariant.0.0 c.self.invariant.0.1)

pub returns-clause-compared : goal.returns-clause-compared
returns-clause-compared c =
    let t = c.self.inside.thread in
    let few = few_keys t c.self.inside.forest c.self.invariant.0.0 c.self.invariant.0.1 (c.args.size * 2 ^ 64 + 0) c.compare_near-near.result (c.compare_near-near.ensures.near c.self.invariant.0.0 c.self.invariant.0.1) in
    let seen : length (gaps_of t) ≡ length c.args.self.now.gaps = ap (λ (x : Index). length x.gaps) c.self.view_is in
    let counted = c.compare_near-near.ensures.counted.comparisons in
    (omega arith, omega arith)
