use Rattle.std.proofs.Common.{◌≡◌, ◌<◌, suc, ℕ, List, length, get_or, sym, ap, subst, ◌∙◌, arith}
use Rattle.std.proofs.lemmas.List.{length-map, get_or-map, take_all}
use Rattle.gpu_block_gaps.specs.declared.index.Gap.{Gap}
use Rattle.gpu_block_gaps.specs.Index.{HasNoKey, IsInserted}
use Rattle.gpu_block_gaps.specs.Thread.{Threaded, gap_in}
use Rattle.gpu_block_gaps.specs.Ordered.{gaps_of}
use Rattle.gpu_block_gaps.proofs.Surface.{place_is, slot_within, slot_past}
use Rattle.gpu_block_gaps.proofs.Anew.{fresh_next, put_next}
use Rattle.gpu_block_gaps.proofs.classed.put_all.Goals as goal

pub gap-requires : goal.gap-requires
gap-requires c =
    let at = c.loop-slot.invariant in
    let within = slot_within c.args.from.now.order c.loop-slot.slot at.0 at.2 c.loop-slot-test.true in
    (c.sound.ensures.inside c.loop-slot.slot (at.0, within, sym at.2)).1

-- the gap in a slot of the order, by its place there
gap_there : (t : Threaded) (slot k : ℕ) (g : Gap) → slot ≡ get_or t.order k 0 → k < length t.order → g ≡ gap_in t.gaps slot → (k < length (gaps_of t)) × ((d : Gap) → get_or (gaps_of t) k d ≡ g)
gap_there t slot k g at within is =
    let long = length-map t.order (gap_in t.gaps) in
    (omega arith, λ d. get_or-map (gap_in t.gaps) t.order k 0 d within ∙ ap (gap_in t.gaps) (sym at) ∙ sym is)

pub insert-requires-clause-fresh : goal.insert-requires-clause-fresh
insert-requires-clause-fresh c =
    let at = c.loop-slot.invariant in
    let within = slot_within c.args.from.now.order c.loop-slot.slot at.0 at.2 c.loop-slot-test.true in
    let next = gap_there c.args.from.now c.loop-slot.slot at.0 c.gap.result at.2 within c.gap.ensures in
    subst (λ (gs : List Gap). HasNoKey gs c.gap.result.length c.gap.result.start) (sym at.3) (fresh_next (gaps_of c.args.from.now) at.0 c.gap.result c.requires.ordered next.0 next.1)

pub loop-slot-smaller : goal.loop-slot-smaller
loop-slot-smaller c =
    let t = c.args.from.now in
    let at = c.loop-slot.invariant in
    let within = slot_within t.order c.loop-slot.slot at.0 at.2 c.loop-slot-test.true in
    let here = place_is t.order c.loop-slot.slot at.0 c.sound.ensures.distinct (λ s is. (c.sound.ensures.inside s is).0) at.1 at.2 in
    let on = place_is t.order c.next-slot-in-loop-slot.result (suc at.0) c.sound.ensures.distinct (λ s is. (c.sound.ensures.inside s is).0) within (c.next-slot-in-loop-slot.ensures (suc at.0) within at.2) in
    omega arith

pub loop-slot-preserved : goal.loop-slot-preserved
loop-slot-preserved c =
    let t = c.args.from.now in
    let at = c.loop-slot.invariant in
    let within = slot_within t.order c.loop-slot.slot at.0 at.2 c.loop-slot-test.true in
    let next = gap_there t c.loop-slot.slot at.0 c.gap.result at.2 within c.gap.ensures in (
      suc at.0,
      within,
      c.next-slot-in-loop-slot.ensures (suc at.0) within at.2,
      put_next (gaps_of t) at.0 c.gap.result c.requires.ordered next.0 next.1 c.insert.new.self.gaps
          (subst (λ (gs : List Gap). IsInserted gs c.gap.result c.insert.new.self.gaps) at.3 c.insert.ensures.gaps) c.in_order.ensures,
      c.insert.ensures.room ∙ at.4,
      c.insert.ensures.longest ∙ at.5,
    )

pub returns-clause-gaps : goal.returns-clause-gaps
returns-clause-gaps c =
    let t = c.args.from.now in
    let at = c.loop-slot.invariant in
    let past = slot_past t.order c.loop-slot.slot at.0 (λ s is. (c.sound.ensures.inside s is).0) at.2 c.loop-slot-test.false in
    let long = length-map t.order (gap_in t.gaps) in
    at.3 ∙ take_all at.0 (gaps_of t) (omega arith)
