use Rattle.std.proofs.Common.{◌∙◌, ap}
use Rattle.gpu_c.specs.MetalHeaps.{refused_told}
use Rattle.gpu_c.proofs.MetalHeapsLaws.{declined_for}
use Rattle.gpu_c.proofs.metal_heaps.refused.Goals as goal

pub returns-then-awaits_answer-clause-declined : goal.returns-then-awaits_answer-clause-declined
returns-then-awaits_answer-clause-declined c ok =
    let awaits = c.awaits_answer.ensures.0 c.if-awaits_answer.true in
    record {
      awaits = awaits;
      told = c.refused_told.ensures ∙ ap refused_told (c.refused.ensures.0 ∙ declined_for _ awaits);
      state = c.refused.ensures.1;
    }
