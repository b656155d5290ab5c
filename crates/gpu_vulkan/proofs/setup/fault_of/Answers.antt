use Rattle.std.proofs.Common.{rules}
use Rattle.gpu_vulkan.proofs.setup.fault_of.Goals as goal

pub returns-then-not-is_power_of_two : goal.returns-then-not-is_power_of_two
returns-then-not-is_power_of_two g c = search rules

pub returns-then-not-has_heaps : goal.returns-then-not-has_heaps
returns-then-not-has_heaps g c = search rules

pub returns : goal.returns
returns g c = search rules
