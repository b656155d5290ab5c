use Rattle.std.proofs.Common.{rules}
use Rattle.gpu_sim.proofs.refusal.answer_for_mapping.Goals as goal

pub returns-in-None : goal.returns-in-None
returns-in-None c = search rules
