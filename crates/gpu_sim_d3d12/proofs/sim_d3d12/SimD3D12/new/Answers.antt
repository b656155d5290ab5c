use Rattle.std.proofs.Common.{ap, ◌∙◌, sym, rules}
use Rattle.std.specs.Prelude.{length}
use Rattle.gpu_device.specs.D3D12History.{refused_in}
use Rattle.gpu_sim_d3d12.proofs.Scripts.{no_refusal, none_issued}
use Rattle.gpu_sim_d3d12.specs.Scripted.{issued_in}
use Rattle.gpu_sim_d3d12.proofs.sim_d3d12.SimD3D12.new.Goals as goal

pub returns-clause-tier : goal.returns-clause-tier
returns-clause-tier c = search rules

pub returns-clause-refused : goal.returns-clause-refused
returns-clause-refused c = ap refused_in c.new-2.ensures.history ∙ no_refusal c.args.refusals.items

pub invariant_of-result : goal.invariant_of-result
invariant_of-result c = record { numbered = ap length c.new.ensures ∙ none_issued c.args.refusals.items ∙ sym (ap issued_in c.new-2.ensures.history) }
