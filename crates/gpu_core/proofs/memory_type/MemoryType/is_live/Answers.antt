use Rattle.std.proofs.Common.{◌≡◌, Some, subst, sym, ap, ◌∙◌, arith}
use Rattle.std.specs.Option.{option_map}
use Rattle.std.proofs.lemmas.Bool.{false≢true}
use Rattle.gpu_core.specs.TypeState.{slot_at}
use Rattle.gpu_core.specs.TypeRelease.{SlotHolds, IsLive}
use Rattle.gpu_core.specs.Slots.{slot_of, SlotIsSound}
use Rattle.gpu_core.proofs.Slotted.{edits}
use Rattle.gpu_core.proofs.Found.{not_found}
use Rattle.gpu_core.proofs.memory_type.MemoryType.is_live.Goals as goal
use Rattle.gpu_core.proofs.memory_type.MemoryType.is_live.Goals.{In-Some-Some}

the_slot : (g : _) (c : In-Some-Some g) → slot_at c.self.inside.slots.slots c.args.piece.now.slot ≡ Some (slot_of c.in-Some-Some.block)
the_slot g c =
    let read = c.in-Some-Some.ensures.lookup in
    let e = edits c.as_slice.result.now c.args.piece.now.slot c.in-Some-Some.field-0.now c.in-Some-Some.field-0.now (omega arith) read.1 in
    ap (λ xs. slot_at xs c.args.piece.now.slot) (sym c.as_slice.ensures) ∙ e.before ∙ ap (option_map slot_of) c.in-Some-Some.field-0-is

pub find-requires : goal.find-requires
find-requires g c =
    let sound : SlotIsSound c.self.inside.granularity (Some (slot_of c.in-Some-Some.block)) = subst (SlotIsSound c.self.inside.granularity) (the_slot g ((goal.at.find-requires g c).In-Some-Some))
    (c.self.invariant.sound c.args.piece.now.slot) in
    sound.1

pub returns-in_default-find : goal.returns-in_default-find
returns-in_default-find g c =
    let at = the_slot g ((goal.at.returns-in_default-find g c).In-Some-Some) in
    let none : SlotHolds g.H.PartialEq.eq c.args.piece.now (Some (slot_of c.in-Some-Some.block)) → ⊥ = not_found g.H.PartialEq.eq c.args.piece.now (slot_of c.in-Some-Some.block) c.find.result
    c.find.ensures c.in_default-find.not-Piece in (
      λ w. absurd (false≢true w),
      λ live. absurd
          (none (subst (SlotHolds g.H.PartialEq.eq c.args.piece.now) at (subst (λ t. IsLive g.H.PartialEq.eq t.slots c.args.piece.now) (sym c.self.view_is) live))),
    )
