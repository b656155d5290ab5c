use Rattle.std.proofs.Common.{◌∙◌, ◌-◌, sym, ap, arith}
use Rattle.std.proofs.lemmas.List.{length-map}
use Rattle.std.specs.Option.{option_map}
use Rattle.gpu_core.specs.TypeState.{highest_empty}
use Rattle.gpu_core.specs.Slots.{slot_of, slots_of, SlotList}
use Rattle.gpu_core.proofs.EmptySlots.{none_vacant, highest_vacant}
use Rattle.gpu_core.proofs.slots.Slots.highest_empty.Goals as goal

pub returns-in-0 : goal.returns-in-0
returns-in-0 g c =
    let own = c.self.inside in
    let slots = slots_of own.blocks.items in
    let long = length-map own.blocks.items (option_map slot_of) in
    sym (ap (λ (s : SlotList _). highest_empty s.slots) (sym c.self.view_is)
    ∙ none_vacant own.notes slots c.self.invariant (λ i below. c.pass_over.ensures.passed i (omega arith) (omega (arith, below, long, c.len.ensures))))

pub returns-in_default : goal.returns-in_default
returns-in_default g c =
    let own = c.self.inside in
    let slots = slots_of own.blocks.items in
    let long = length-map own.blocks.items (option_map slot_of) in
    let end = c.pass_over.result in
    let found = c.pass_over.ensures in
    sym (ap (λ (s : SlotList _). highest_empty s.slots) (sym c.self.view_is)
    ∙ highest_vacant own.notes slots (end - 1) c.self.invariant (omega (arith, found.within, long, c.len.ensures)) (found.stops (omega arith))
    (λ i above below. found.passed i (omega arith) (omega (arith, below, long, c.len.ensures))))
