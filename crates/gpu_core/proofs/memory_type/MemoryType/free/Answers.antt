use native.Mathlib.Numerals.{unary_clauses}
use Rattle.std.proofs.Common.{◌-◌, subst, sym, rules}
use Rattle.gpu_core.specs.TypeState.{slot_at, KeepsOneEmptyAtMost}
use Rattle.gpu_core.specs.TypeRelease.{SlotHolds}
use Rattle.gpu_core.specs.TypeInvariant.{AreKept}
use Rattle.gpu_core.specs.Slots.{AreSound, released_handle, released_size, released_shared}
use Rattle.gpu_core.proofs.Slotted.{on_err}
use Rattle.gpu_core.proofs.Dead.{free_dead}
use Rattle.gpu_core.proofs.Kept.{freed_kept}
use Rattle.gpu_core.proofs.memory_type.MemoryType.free.Goals.{In_ok-free, then-gone, else-gone}
use Rattle.gpu_core.proofs.memory_type.MemoryType.free.Goals as goal

kept : (g : _) (c : In_ok-free g) → AreKept c.self.inside.granularity c.free.new.self.slots (c.self.inside.capacity - released_size c.in_ok-free.field-0)
    (c.self.inside.shared - released_shared c.in_ok-free.field-0)
kept g c =
    let i = c.self.inside in
    let went = c.in_ok-free in
    freed_kept i.granularity i.slots.slots i.capacity i.shared c.args.piece.now (released_handle went.field-0) c.free.new.self.slots (released_size went.field-0) (released_shared went.field-0) c.self.invariant
    (c.free.ensures.kept i.granularity c.self.invariant.sound) went.ensures.released went.ensures.size went.ensures.shared

pub invariant_of-self-in-None : goal.invariant_of-self-in-None
invariant_of-self-in-None g c =
    let after = kept g ((goal.at.invariant_of-self-in-None g c).In_ok-free) in
    let same = rw c.in-None.is at after in
    simp unary_clauses at same

pub invariant_of-self-then-gone : goal.invariant_of-self-then-gone
invariant_of-self-then-gone g c =
    let after = kept g ((goal.at.invariant_of-self-then-gone g c).In_ok-free) in
    rw (c.in-Some.is, c.if-gone.true) at after

pub invariant_of-self-else-gone : goal.invariant_of-self-else-gone
invariant_of-self-else-gone g c =
    let after = kept g ((goal.at.invariant_of-self-else-gone g c).In_ok-free) in
    let same = rw (c.in-Some.is, c.if-gone.false) at after in
    simp unary_clauses at same

pub returns-in-None-clause-empty : goal.returns-in-None-clause-empty
returns-in-None-clause-empty g c = (kept g ((goal.at.returns-in-None-clause-empty g c).In_ok-free)).empty

pub returns-after-gone-clause-empty : goal.returns-after-gone-clause-empty
returns-after-gone-clause-empty g c =
    let after = kept g ((goal.at.returns-after-gone-clause-empty g c).In_ok-free) in
    elim c.if-gone.branch [
      | then-gone w ↦ subst (λ t. KeepsOneEmptyAtMost t.slots) (sym w.self-is) after.empty
      | else-gone w ↦ subst (λ t. KeepsOneEmptyAtMost t.slots) (sym w.self-is) after.empty
    ]

pub returns-in_err-free-clause-dead : goal.returns-in_err-free-clause-dead
returns-in_err-free-clause-dead g c =
    on_err c.from_residual.result _ (λ live. free_dead g.H.PartialEq.eq c.args.piece.now c.self.inside.granularity (slot_at c.self.inside.slots.slots c.args.piece.now.slot) _
    (c.self.invariant.sound c.args.piece.now.slot) c.in_err-free.ensures.cause
    (subst (λ t. SlotHolds g.H.PartialEq.eq c.args.piece.now (slot_at t.slots c.args.piece.now.slot)) (sym c.self.view_is) live))

pub returns-in-None-clause-sound : goal.returns-in-None-clause-sound
returns-in-None-clause-sound g c = (kept g ((goal.at.returns-in-None-clause-sound g c).In_ok-free)).sound

pub returns-after-gone-clause-sound : goal.returns-after-gone-clause-sound
returns-after-gone-clause-sound g c =
    let after = kept g ((goal.at.returns-after-gone-clause-sound g c).In_ok-free) in
    elim c.if-gone.branch [
      | then-gone w ↦ subst (λ t. AreSound t.granularity t.slots) (sym w.self-is) after.sound
      | else-gone w ↦ subst (λ t. AreSound t.granularity t.slots) (sym w.self-is) after.sound
    ]

pub returns-after-gone-clause-released : goal.returns-after-gone-clause-released
returns-after-gone-clause-released g c = search rules
