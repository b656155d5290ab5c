use Rattle.std.proofs.Common.{rules}
use Rattle.gpu_sim_base.proofs.script.Script.new.Goals as goal

pub returns : goal.returns
returns c = search rules
