use Rattle.std.proofs.Common.{subst}
use Rattle.gpu_metal.specs.Blocks.{is_same_heap}
use Rattle.gpu_pool.specs.Idle.{SetsWordIdle}
use Rattle.gpu_machine.specs.MetalState.{State}
use Rattle.gpu_machine.proofs.metal.machine.Machine.set_word.Goals as goal

pub returns-clause-sets : goal.returns-clause-sets
returns-clause-sets c =
    subst (λ (s : State). SetsWordIdle is_same_heap s.requests c.args.index c.args.piece.now c.args.word c.set_word.result c.set_word.new.self) c.self.view_is c.set_word.ensures.sets
