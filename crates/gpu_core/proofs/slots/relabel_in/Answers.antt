use Rattle.std.proofs.Common.{◌<◌, length, subst, arith}
use Rattle.std.specs.Option.{option_map}
use Rattle.gpu_core.specs.Slots.{slot_of, SlotIsSound}
use Rattle.gpu_core.proofs.Slotted.{edits, edited_sound}
use Rattle.gpu_core.proofs.Found.{on_ok, on_error}
use Rattle.gpu_core.proofs.slots.relabel_in.Goals as goal

pub relabel-requires : goal.relabel-requires
relabel-requires g c =
    let e = edits c.args.slots.now.items c.args.piece.now.slot c.index_mut-slot.result.now c.index_mut-slot.result.now (omega arith) c.index_mut-slot.ensures.value in
    (c.requires.0, subst (SlotIsSound c.requires.0) e.before (c.requires.1 c.args.piece.now.slot))

pub returns-clause-renamed : goal.returns-clause-renamed
returns-clause-renamed g c =
    let e = edits c.args.slots.now.items c.args.piece.now.slot c.index_mut-slot.result.now c.relabel.new.slot (omega arith) c.index_mut-slot.ensures.value in
    on_ok c.relabel.result _ _ c.relabel.ensures.renamed (λ t. record { slot = option_map slot_of c.relabel.new.slot; renames = rw e.before t; slots = e.slots })

pub returns-clause-refused : goal.returns-clause-refused
returns-clause-refused g c =
    let e = edits c.args.slots.now.items c.args.piece.now.slot c.index_mut-slot.result.now c.relabel.new.slot (omega arith) c.index_mut-slot.ensures.value in
    on_error c.relabel.result _ _ c.relabel.ensures.refused e.same

pub returns-clause-kept : goal.returns-clause-kept
returns-clause-kept g c = λ n sound.
    let below : c.args.piece.now.slot < length c.args.slots.now.items = omega arith in
    let e = edits c.args.slots.now.items c.args.piece.now.slot c.index_mut-slot.result.now c.relabel.new.slot below c.index_mut-slot.ensures.value in
    edited_sound n c.args.slots.now.items c.args.piece.now.slot c.index_mut-slot.result.now c.relabel.new.slot below e sound (c.relabel.ensures.kept n)
