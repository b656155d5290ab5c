use Rattle.std.proofs.Common.{rules, ◌≡◌, IfOk, map, string_bytes}
use Rattle.gpu_block_pieces.specs.Leak.{leak_text}
use Rattle.gpu_core.specs.Leaks.{all_leaks}
use Rattle.gpu_vulkan.proofs.Named.{leaks_step}
use Rattle.gpu_vulkan.proofs.allocator.Allocator.leak_texts.Goals as goal

pub returns-clause-step : goal.returns-clause-step
returns-clause-step g c =
    let texts : IfOk c.leak_texts.result (λ v. map string_bytes v.items ≡ map leak_text (all_leaks c.args.self.now.slots)) = search rules in
    leaks_step g.D.VulkanDevice c.args.self.now c.leak_texts.result texts c.leak_texts.ensures.cause
