use Rattle.std.proofs.Common.{subst}
use Rattle.gpu_values.specs.Refusal.{refusal_of}
use Rattle.gpu_metal.specs.Setup.{IsNotMade}
use Rattle.gpu_trace_text.specs.MetalStage.{simulated}
use Rattle.gpu_trace_text.proofs.metal.stage.make.Goals as goal

pub returns : goal.returns
returns c = record {
  error = c.in-Err.error;
  number_is = c.number_of.ensures;
  first = c.device.result;
  left = c.in-Err.field-0-1;
  device = record { plan = c.device.ensures.plan; holds_nothing = c.device.ensures.held; refused_nothing = c.device.ensures.refused; recorded = c.device.ensures.history };
  cause = subst (λ wanted. IsNotMade simulated wanted (refusal_of c.in-Err.error) c.device.result c.in-Err.field-0-1) c.wants_set-create_residency_set.ensures c.in-Err.ensures.refused;
}
