use Rattle.std.proofs.Common.{subst, sym}
use Rattle.gpu_core.specs.Slots.{slots_of, AreSound, OthersAreNoted}
use Rattle.gpu_core.proofs.Noted.{others_kept}
use Rattle.gpu_core.proofs.slots.Slots.free.Goals as goal

pub measure-requires-clause-others : goal.measure-requires-clause-others
measure-requires-clause-others g c =
    let i = c.self.inside in
    let released = c.in_ok-gone.ensures.released in
    subst (λ xs. OthersAreNoted c.args.piece.now.slot i.notes (slots_of xs)) (sym c.deref.ensures.value)
    (others_kept i.notes (slots_of i.blocks.items) c.args.piece.now.slot released.slot (slots_of c.free_in.new.slots.items) c.self.invariant released.slots)

pub returns-clause-kept : goal.returns-clause-kept
returns-clause-kept g c = λ n sound. c.free_in.ensures.kept n (subst (λ t. AreSound n t.slots) (sym c.self.view_is) sound)
