use Rattle.gpu_block_gaps.specs.Ordered.{key_in}
use Rattle.std.proofs.Common.{[], sym, subst}
use Rattle.gpu_block_gaps.specs.declared.class.Scale.{Scale}
use Rattle.gpu_block_gaps.specs.Class.{EndsAt}
use Rattle.gpu_block_gaps.proofs.Surface.{none_indexed}
use Rattle.gpu_block_gaps.proofs.classed.ClassedGaps.with_digits.Goals as goal

pub invariant_of-result : goal.invariant_of-result
invariant_of-result c = (
  none_indexed c.new.result c.new-2.result c.new.ensures.0 c.new.ensures.1 (c.new-2.ensures.trees (key_in [])),
  subst (λ (s : Scale). EndsAt s c.args.longest) (sym c.new-2.ensures.scale) c.up_to.ensures.last,
)
