use Rattle.std.proofs.Common.{◌∙◌, ap, Option, ℤ}
use Rattle.std.proofs.Math.Facts.{to_z-of_z}
use Rattle.gpu_d3d12.specs.HeapAnswer.{answer_refusal}
use Rattle.gpu_c.specs.Heaps.{refused_told, code_told}
use Rattle.gpu_c.proofs.HeapsLaws.{declined_for}
use Rattle.gpu_c.proofs.heaps.refused.Goals as goal

pub returns-then-awaits_answer-clause-declined : goal.returns-then-awaits_answer-clause-declined
returns-then-awaits_answer-clause-declined c ok =
    let awaits = c.awaits_answer.ensures.0 c.if-awaits_answer.true in
    record {
      awaits = awaits;
      told = c.refused_told.ensures
          ∙ ap refused_told
          (c.refused.ensures.0 ∙ declined_for _ _ awaits ∙ ap (λ (o : Option ℤ). answer_refusal o) (c.code_told.ensures ∙ ap (λ (z : ℤ). code_told z) (to_z-of_z c.ranges.code)));
      state = c.refused.ensures.1;
    }
