use Rattle.std.proofs.Common.{List, ℕ, sym, subst}
use Rattle.gpu_block_gaps.specs.declared.thread.Record.{Record}
use Rattle.gpu_block_gaps.specs.Records.{IsThread}
use Rattle.gpu_block_gaps.proofs.Threads.{more_room}
use Rattle.gpu_block_gaps.proofs.thread.Thread.reserve_to.Goals as goal

pub fill-requires-clause-thread : goal.fill-requires-clause-thread
fill-requires-clause-thread c =
    subst (λ (rs : List Record). IsThread rs c.reserve-2.new.self.items c.reserve-2.new.self.capacity) (sym c.reserve.ensures.items)
    (subst (λ (ss : List ℕ). IsThread c.self.inside.records.items ss c.reserve-2.new.self.capacity) (sym c.reserve-2.ensures.items)
    (more_room c.self.inside.records.items c.self.inside.spare.items _ c.reserve-2.new.self.capacity _ c.reserve-2.ensures.capacity c.self.invariant))

pub invariant_of-self-in_err-reserve-2 : goal.invariant_of-self-in_err-reserve-2
invariant_of-self-in_err-reserve-2 c =
    subst (λ (rs : List Record). IsThread rs c.reserve-2.new.self.items c.reserve-2.new.self.capacity) (sym c.reserve.ensures.items)
    (subst (λ (ss : List ℕ). IsThread c.self.inside.records.items ss c.reserve-2.new.self.capacity) (sym c.reserve-2.ensures.items)
    (more_room c.self.inside.records.items c.self.inside.spare.items _ c.reserve-2.new.self.capacity _ c.reserve-2.ensures.capacity c.self.invariant))
