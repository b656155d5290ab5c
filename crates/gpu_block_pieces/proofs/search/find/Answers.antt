use Rattle.std.proofs.Common.{◌≡◌, ◌≤◌, ◌∙◌, ◌+◌, List, length, get_or, sym, ap, subst, arith, slice_get}
use Rattle.std.specs.Option.{MatchOption}
use Rattle.std.proofs.lemmas.Option.{slice_get_within, get_or_from_slice_get}
use Rattle.gpu_block_gaps.specs.declared.index.Gap.{Gap}
use Rattle.gpu_block_pieces.proofs.Searches.{ends, counts_long, counts_short, short_fails, one_more_past}
use Rattle.gpu_block_pieces.specs.Indexed.{NoneFitsAt, IsFoundAt}
use Rattle.gpu_block_pieces.proofs.search.find.Goals as goal

pub loop-gap-init : goal.loop-gap-init
loop-gap-init c =
    let z = counts_short c.args.index.now.gaps c.args.wanted.now.size c.first_at_least-scan.result.place c.first_at_least-scan.ensures.within c.first_at_least-scan.ensures.below in
    let n = c.first_at_least-scan.ensures.counted in
    let first = c.first_at_least-scan.ensures in
    record {
      same = first.gaps;
      within = first.within;
      past = λ k o d lt f. short_fails c.args.wanted.now (get_or c.args.index.now.gaps k d) o (first.below k d lt) f;
      from = first.from;
      comparisons = (n.rises, n.to);
      tests = omega (arith, z, n.tests);
      lookups = n.lookups;
      ordered = first.ordered;
    }

pub loop-gap-preserved : goal.loop-gap-preserved
loop-gap-preserved c =
    let i = c.loop-gap.invariant in
    let at = c.in-Some.ensures.gap ∙ ap (λ (gs : List Gap). slice_get gs c.loop-gap.scan.place) i.same in
    let n = counts_long c.args.index.now.gaps c.args.wanted.now.size c.loop-gap.scan.place c.in-Some.gap at i.from in
    let t : c.next_in_class.new.cost.tests ≡ c.loop-gap.cost.tests + 1 = c.in-Some.ensures.counted in
    let p : c.next_in_class.new.self.place ≡ c.loop-gap.scan.place + 1 = c.in-Some.ensures.place in
    let w = slice_get_within c.args.index.now.gaps c.loop-gap.scan.place c.in-Some.gap (sym at) in
    let o = c.in-Some.ensures.others in
    record {
      same = c.in-Some.ensures.gaps ∙ i.same;
      within = omega arith;
      past = rw p (one_more_past c.args.index.now.gaps c.args.wanted.now c.loop-gap.scan.place c.in-Some.gap at c.in_default-place_in.ensures i.past);
      from = λ k d le lt. i.from k d (omega (arith, p)) lt;
      comparisons = (omega (arith, o.0, i.comparisons.0), omega (arith, o.0, i.comparisons.1));
      tests = rw p (omega (arith, i.tests));
      lookups = o.1 ∙ i.lookups;
      ordered = i.ordered;
    }

pub loop-gap-smaller : goal.loop-gap-smaller
loop-gap-smaller c =
    let at = c.in-Some.ensures.gap ∙ ap (λ (gs : List Gap). slice_get gs c.loop-gap.scan.place) c.loop-gap.invariant.same in
    let p : c.next_in_class.new.self.place ≡ c.loop-gap.scan.place + 1 = c.in-Some.ensures.place in
    let w = slice_get_within c.args.index.now.gaps c.loop-gap.scan.place c.in-Some.gap (sym at) in omega arith

pub returns-in-Some-place_in-clause-found : goal.returns-in-Some-place_in-clause-found
returns-in-Some-place_in-clause-found c =
    let i = c.loop-gap.invariant in
    let at = c.in-Some.ensures.gap ∙ ap (λ (gs : List Gap). slice_get gs c.loop-gap.scan.place) i.same in
    let n = counts_long c.args.index.now.gaps c.args.wanted.now.size c.loop-gap.scan.place c.in-Some.gap at i.from in
    let t : c.next_in_class.new.cost.tests ≡ c.loop-gap.cost.tests + 1 = c.in-Some.ensures.counted in (
      c.loop-gap.scan.place,
      record {
        within = slice_get_within c.args.index.now.gaps c.loop-gap.scan.place c.in-Some.gap (sym at);
        is = λ d. get_or_from_slice_get c.args.index.now.gaps c.loop-gap.scan.place c.in-Some.gap d (sym at);
        fits = c.in-Some-place_in.ensures;
        earlier = i.past;
      },
      omega (arith, i.tests),
    )

pub find_last-requires-clause-left : goal.find_last-requires-clause-left
find_last-requires-clause-left c =
    let few : length c.loop-gap.scan.gaps ≤ c.loop-gap.scan.place + 1 = c.in_default.ensures.gap in
    let same = ap (λ (gs : List Gap). length gs) c.in_default.ensures.gaps in
    let p : c.next_in_class.new.self.place ≡ c.loop-gap.scan.place + 0 = c.in_default.ensures.place in
    omega arith

pub returns-clause-found : goal.returns-clause-found
returns-clause-found c =
    let i = c.loop-gap.invariant in
    let gs = c.args.index.now.gaps in
    let w = c.args.wanted.now in
    let few : length c.loop-gap.scan.gaps ≤ c.loop-gap.scan.place + 1 = c.in_default.ensures.gap in
    let long = ap (λ (xs : List Gap). length xs) i.same in
    let same = c.in_default.ensures.gaps ∙ i.same in
    let here : c.next_in_class.new.self.place ≡ c.loop-gap.scan.place = (let p : c.next_in_class.new.self.place ≡ c.loop-gap.scan.place + 0 = c.in_default.ensures.place in omega arith) in
    let t : c.next_in_class.new.cost.tests ≡ c.loop-gap.cost.tests + 0 = c.in_default.ensures.counted in
    let rest = c.find_last.ensures.tests in
    let as_long = ap (λ (xs : List Gap). length xs) same in
    ends gs w c.loop-gap.scan.place i.within (omega arith) i.past i.from c.find_last.result c.args.cost.now.tests c.next_in_class.new.cost.tests c.find_last.new.cost.tests (omega (arith, i.tests)) (omega arith)
    (subst (λ p. MatchOption c.find_last.result (NoneFitsAt gs w p) (IsFoundAt gs w p)) here
    (subst (λ (xs : List Gap). MatchOption c.find_last.result (NoneFitsAt xs w c.next_in_class.new.self.place) (IsFoundAt xs w c.next_in_class.new.self.place)) same c.find_last.ensures.found))
