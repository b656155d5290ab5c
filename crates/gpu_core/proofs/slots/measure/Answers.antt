use Rattle.std.proofs.Common.{◌<◌, ◌∙◌, length, subst, sym, ap}
use Rattle.std.proofs.lemmas.List.{length-map}
use Rattle.std.specs.Option.{option_map}
use Rattle.gpu_core.specs.Slots.{slot_of, slots_of, Bounds, vacancies}
use Rattle.gpu_core.specs.declared.slots.Notes.{Notes}
use Rattle.gpu_core.proofs.Slotted.{edits}
use Rattle.gpu_core.proofs.Noted.{all_noted}
use Rattle.gpu_core.proofs.slots.measure.Goals as goal

pub returns-clause-noted : goal.returns-clause-noted
returns-clause-noted g c =
    let slots = slots_of c.args.slots.now in
    let slot = c.index-slots-slot.result in
    let e = edits c.args.slots.now c.args.slot slot slot c.requires.within c.index-slots-slot.is in
    let below : c.args.slot < length slots = rw (length-map c.args.slots.now (option_map slot_of)) c.requires.within in
    let here = subst (Bounds c.longest_in.result) (sym e.before) c.longest_in.ensures in
    let new : Notes = record { longest = c.set.new.self; vacant = c.set-2.new.self } in
    all_noted c.args.notes.now new slots c.args.slot c.longest_in.result c.vacancies.result c.requires.others below c.set.ensures.marks c.set-2.ensures.marks here
    (c.vacancies.ensures ∙ ap vacancies (sym e.before))
