use Rattle.std.proofs.Common.{subst, sym}
use Rattle.gpu_core.specs.Slots.{slots_of, AreSound, OthersAreNoted}
use Rattle.gpu_core.proofs.Noted.{others_kept}
use Rattle.gpu_core.proofs.slots.Slots.relabel.Goals as goal

pub measure-requires-clause-others : goal.measure-requires-clause-others
measure-requires-clause-others g c =
    let i = c.self.inside in
    let renamed = c.in_ok-relabel_in.ensures.renamed in
    subst (λ xs. OthersAreNoted c.args.piece.now.slot i.notes (slots_of xs)) (sym c.deref.ensures.value)
    (others_kept i.notes (slots_of i.blocks.items) c.args.piece.now.slot renamed.slot (slots_of c.relabel_in.new.slots.items) c.self.invariant renamed.slots)

pub returns-clause-kept : goal.returns-clause-kept
returns-clause-kept g c = λ n sound. c.relabel_in.ensures.kept n (subst (λ t. AreSound n t.slots) (sym c.self.view_is) sound)
