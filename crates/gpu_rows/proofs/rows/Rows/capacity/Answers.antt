use Rattle.std.proofs.Common.{arith}
use Rattle.gpu_rows.proofs.Placing.{counts}
use Rattle.gpu_rows.proofs.rows.Rows.capacity.Goals as goal

pub returns-clause-fits : goal.returns-clause-fits
returns-clause-fits g c =
    omega (arith, counts c.self.inside.pages.items c.self.inside.len c.self.inside.room c.args.self.now c.self.invariant c.self.view_is, c.self.invariant.fit)
