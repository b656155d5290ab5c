use Rattle.gpu_values.specs.Refusal.{refusal_of}
use Rattle.gpu_vulkan.proofs.Naming.{refused}
use Rattle.gpu_vulkan.proofs.rename.rename_piece.Goals as goal

pub returns-in-Err-clause-cause : goal.returns-in-Err-clause-cause
returns-in-Err-clause-cause g c =
    (refused c.args.index c.args.piece.now c.args.name.now c.args.pool.now c.rename.new.self (refusal_of c.in-Err.error) c.in-Err.ensures.renames).0
