use Rattle.std.proofs.Common.{arith}
use Rattle.gpu_block_gaps.proofs.Classes.{class_few}
use Rattle.gpu_block_gaps.proofs.class.Scale.up_to.Goals as goal

pub overflow_cast-result : goal.overflow_cast-result
overflow_cast-result c =
    let few = class_few c.args.digits c.args.longest c.requires (omega arith) in
    let is = c.class_of.ensures.class in
    record { fits = omega arith }

pub returns-clause-few : goal.returns-clause-few
returns-clause-few c =
    let few = class_few c.args.digits c.args.longest c.requires (omega arith) in
    let is = c.class_of.ensures.class in
    (c.requires, omega arith)
