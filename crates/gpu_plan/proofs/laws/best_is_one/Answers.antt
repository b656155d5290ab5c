use Rattle.gpu_plan.proofs.Choice.{best_one}
use Rattle.gpu_plan.proofs.laws.best_is_one.Goals as goal

pub returns : goal.returns
returns c = λ resources order other offsets others heap size a b. best_one c.args.page resources 5 order other offsets others heap size a b
