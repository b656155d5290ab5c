use Rattle.std.proofs.Common.{subst, sym, ap, ◌∙◌}
use Rattle.gpu_values.specs.Refusal.{refusal_of}
use Rattle.gpu_core.specs.TypeState.{slot_at, capacity_of}
use Rattle.gpu_core.specs.TypeRelease.{SlotHolds}
use Rattle.gpu_block.specs.Said.{said_of}
use Rattle.gpu_core.specs.TypeInvariant.{AreKept}
use Rattle.gpu_core.proofs.Dead.{name_dead}
use Rattle.gpu_core.proofs.Found.{on_ok, either_way, if_error}
use Rattle.gpu_core.proofs.Kept.{renamed_kept, same_kept}
use Rattle.gpu_core.proofs.Needs.{host_error}
use Rattle.gpu_core.proofs.memory_type.MemoryType.relabel.Goals as goal
use Rattle.gpu_core.proofs.memory_type.MemoryType.relabel.Goals.{After-relabel}

kept : (g : _) (c : After-relabel g) → AreKept c.self.inside.granularity c.relabel.new.self.slots c.self.inside.capacity c.self.inside.shared
kept g c =
    let i = c.self.inside in
    let before = i.slots.slots in
    let after = c.relabel.new.self.slots in
    either_way c.relabel.result _ _ (on_ok c.relabel.result _ _ c.relabel.ensures.renamed
    (renamed_kept i.granularity before i.capacity i.shared c.args.piece.now (said_of c.args.said) after c.self.invariant (c.relabel.ensures.kept i.granularity c.self.invariant.sound)))
    c.relabel.ensures.refused (same_kept i.granularity before i.capacity i.shared after c.self.invariant)

pub invariant_of-self : goal.invariant_of-self
invariant_of-self g c = kept g ((goal.at.invariant_of-self g c).After-relabel)

pub returns-clause-empty : goal.returns-clause-empty
returns-clause-empty g c = (kept g ((goal.at.returns-clause-empty g c).After-relabel)).empty

pub returns-clause-dead : goal.returns-clause-dead
returns-clause-dead g c =
    if_error c.relabel.result _ _ c.relabel.ensures.cause
    (λ e cause other live. name_dead g.H.PartialEq.eq c.args.piece.now c.self.inside.granularity (slot_at c.self.inside.slots.slots c.args.piece.now.slot) (refusal_of e)
    (c.self.invariant.sound c.args.piece.now.slot) cause (λ h. other (host_error e h))
    (subst (λ t. SlotHolds g.H.PartialEq.eq c.args.piece.now (slot_at t.slots c.args.piece.now.slot)) (sym c.self.view_is) live))

pub returns-clause-sound : goal.returns-clause-sound
returns-clause-sound g c = c.relabel.ensures.kept c.self.inside.granularity c.self.invariant.sound

pub returns-clause-capacity : goal.returns-clause-capacity
returns-clause-capacity g c =
    sym (kept g ((goal.at.returns-clause-capacity g c).After-relabel)).capacity_is ∙ c.self.invariant.capacity_is ∙ ap (λ t. capacity_of t.slots) c.self.view_is
