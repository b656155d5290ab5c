use Rattle.std.proofs.Common.{subst}
use Rattle.gpu_metal.specs.Blocks.{is_same_heap}
use Rattle.gpu_pool.specs.Idle.{RenamesIdle}
use Rattle.gpu_machine.specs.MetalState.{State}
use Rattle.gpu_machine.proofs.metal.machine.Machine.rename.Goals as goal

pub returns-clause-renames : goal.returns-clause-renames
returns-clause-renames c =
    subst (λ (s : State). RenamesIdle is_same_heap s.requests c.args.index c.args.piece.now c.args.name.now c.rename.result c.rename.new.self) c.self.view_is c.rename.ensures.renames
