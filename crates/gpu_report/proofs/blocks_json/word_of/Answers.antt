use Rattle.std.proofs.Common.{rules}
use Rattle.gpu_report.proofs.blocks_json.word_of.Goals as goal

pub returns-in-NonLinear : goal.returns-in-NonLinear
returns-in-NonLinear c = search rules
