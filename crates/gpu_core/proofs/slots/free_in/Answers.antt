use Rattle.std.proofs.Common.{◌<◌, length, subst, arith}
use Rattle.std.specs.Option.{option_map}
use Rattle.gpu_core.specs.TypeState.{slot_size, shared_in}
use Rattle.gpu_core.specs.Slots.{slot_of, SlotIsSound, released_size, released_shared}
use Rattle.gpu_core.proofs.Slotted.{edits, edited_sound, edited_sum}
use Rattle.gpu_core.proofs.Found.{if_ok, on_error}
use Rattle.gpu_core.proofs.slots.free_in.Goals as goal
use Rattle.gpu_core.proofs.slots.free_in.Goals.{After-release}

pub release-requires : goal.release-requires
release-requires g c =
    let e = edits c.args.slots.now.items c.args.piece.now.slot c.index_mut-slot.result.now c.index_mut-slot.result.now (omega arith) c.index_mut-slot.ensures.value in
    (c.requires.0, subst (SlotIsSound c.requires.0) e.before (c.requires.1 c.args.piece.now.slot))

pub returns-clause-released : goal.returns-clause-released
returns-clause-released g c =
    let e = edits c.args.slots.now.items c.args.piece.now.slot c.index_mut-slot.result.now c.release.new.slot (omega arith) c.index_mut-slot.ensures.value in
    if_ok c.release.result _ _ c.release.ensures.released (λ went t. record { slot = option_map slot_of c.release.new.slot; releases = rw e.before t; slots = e.slots })

pub returns-clause-size : goal.returns-clause-size
returns-clause-size g c =
    let below : c.args.piece.now.slot < length c.args.slots.now.items = omega arith in
    let e = edits c.args.slots.now.items c.args.piece.now.slot c.index_mut-slot.result.now c.release.new.slot below c.index_mut-slot.ensures.value in
    if_ok c.release.result _ _ c.release.ensures.size
    (λ went s. edited_sum slot_size c.args.slots.now.items c.args.piece.now.slot c.index_mut-slot.result.now c.release.new.slot (released_size went) below e s)

pub returns-clause-shared : goal.returns-clause-shared
returns-clause-shared g c =
    let below : c.args.piece.now.slot < length c.args.slots.now.items = omega arith in
    let e = edits c.args.slots.now.items c.args.piece.now.slot c.index_mut-slot.result.now c.release.new.slot below c.index_mut-slot.ensures.value in
    if_ok c.release.result _ _ c.release.ensures.shared
    (λ went s. edited_sum shared_in c.args.slots.now.items c.args.piece.now.slot c.index_mut-slot.result.now c.release.new.slot (released_shared went) below e s)

pub returns-clause-refused : goal.returns-clause-refused
returns-clause-refused g c =
    let e = edits c.args.slots.now.items c.args.piece.now.slot c.index_mut-slot.result.now c.release.new.slot (omega arith) c.index_mut-slot.ensures.value in
    on_error c.release.result _ _ c.release.ensures.refused e.same

pub returns-clause-kept : goal.returns-clause-kept
returns-clause-kept g c = λ n sound.
    let below : c.args.piece.now.slot < length c.args.slots.now.items = omega arith in
    let e = edits c.args.slots.now.items c.args.piece.now.slot c.index_mut-slot.result.now c.release.new.slot below c.index_mut-slot.ensures.value in
    edited_sound n c.args.slots.now.items c.args.piece.now.slot c.index_mut-slot.result.now c.release.new.slot below e sound (c.release.ensures.kept n)
