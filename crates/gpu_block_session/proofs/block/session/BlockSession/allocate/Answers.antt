use Rattle.std.proofs.Common.{rules, ◌∙◌}
use Rattle.gpu_block.specs.SubAllocator.{block_of}
use Rattle.gpu_block_session.specs.BlockSession.{State}
use Rattle.gpu_block_session.proofs.BlockOwning.{owns_after_taking, size_after_taking}
use Rattle.gpu_block_session.proofs.block.session.BlockSession.allocate.Goals as goal

pub invariant_of-self : goal.invariant_of-self
invariant_of-self c =
    let old : State = record { block = block_of c.self.inside.block; bound = c.self.inside.bound.entries } in
    let new : State = record { block = block_of c.allocate_unbound.new.block; bound = c.allocate_unbound.new.bound.entries } in (
      size_after_taking old c.args.key _ c.allocate_unbound.result new c.allocate_unbound.ensures.taking ∙ c.self.invariant.0,
      c.allocate_unbound.ensures.pages c.self.inside.granularity c.self.invariant.1,
      owns_after_taking old c.args.key _ c.allocate_unbound.result new c.allocate_unbound.ensures.taking (c.allocate_unbound.ensures.sound c.self.invariant.2.sound) c.self.invariant.2,
    )

pub returns-then-size-eq0 : goal.returns-then-size-eq0
returns-then-size-eq0 c = search rules

pub allocate_unbound-requires-clause-aligned : goal.allocate_unbound-requires-clause-aligned
allocate_unbound-requires-clause-aligned c = search rules

pub returns-then-contains_key : goal.returns-then-contains_key
returns-then-contains_key c = search rules
