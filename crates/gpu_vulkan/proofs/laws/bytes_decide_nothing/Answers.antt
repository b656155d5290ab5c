use Rattle.gpu_vulkan.proofs.EqualButBytes.{step_alike}
use Rattle.gpu_vulkan.proofs.laws.bytes_decide_nothing.Goals as goal

pub returns : goal.returns
returns c = λ setup call other met meets a b old new twin next sound slots budgets environment alike x y.
    let here = step_alike setup met meets a b old new twin next sound slots budgets environment call other alike x y in
    (here.0, here.1.0, here.1.1, here.2)
