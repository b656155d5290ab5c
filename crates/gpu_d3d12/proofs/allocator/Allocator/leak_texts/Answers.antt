use Rattle.std.specs.Prelude.{string_bytes}
use Rattle.std.proofs.Common.{rules, ◌≡◌, IfOk, map}
use Rattle.gpu_block_pieces.specs.Leak.{leak_text}
use Rattle.gpu_core.specs.Leaks.{all_leaks}
use Rattle.gpu_d3d12.proofs.Calls.{leaks_step}
use Rattle.gpu_d3d12.proofs.allocator.Allocator.leak_texts.Goals as goal

pub returns-clause-step : goal.returns-clause-step
returns-clause-step g c =
    let shown : IfOk c.leak_texts.result (λ v. map string_bytes v.items ≡ map leak_text (all_leaks c.args.self.now.slots)) = search rules in
    leaks_step g.D.D3D12Device c.args.self.now c.leak_texts.result shown c.leak_texts.ensures.cause
