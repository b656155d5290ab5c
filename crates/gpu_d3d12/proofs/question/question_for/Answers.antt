use Rattle.std.proofs.Common.{rules}
use Rattle.gpu_d3d12.proofs.question.question_for.Goals as goal

pub returns-in-ResourceState : goal.returns-in-ResourceState
returns-in-ResourceState g c = search rules

pub returns-in-Device10 : goal.returns-in-Device10
returns-in-Device10 g c = search rules

pub returns-in-Device : goal.returns-in-Device
returns-in-Device g c = search rules
