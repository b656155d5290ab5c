use Rattle.std.proofs.Common.{refl, arith}
use Rattle.gpu_rows.proofs.Steps.{whole_step}
use Rattle.gpu_rows.proofs.rows.Rows.new.Goals as goal

pub invariant_of-result : goal.invariant_of-result
invariant_of-result g c = rw c.new.ensures.items (record {
  paged = refl;
  fit = omega arith;
  step = whole_step 0;
  least = omega arith;
  most = omega arith;
  few = omega arith;
})
