use Rattle.std.proofs.Common.{refl}
use Rattle.gpu_run.proofs.VulkanIsolation.{write_apart}
use Rattle.gpu_run.proofs.vulkan.laws.writes_are_apart.Goals as goal

pub returns : goal.returns
returns c = λ setup key other at bytes o reply old new b own serves apart bound live. write_apart setup key other at bytes o reply old new b own apart bound live (old.bound key) refl serves
