use Rattle.std.proofs.Common.{refl}
use Rattle.gpu_rows.proofs.Placing.{counted}
use Rattle.gpu_rows.proofs.rows.Rows.len.Goals as goal

pub returns-clause-value : goal.returns-clause-value
returns-clause-value g c = rw (← c.self.view_is, counted c.self.inside.pages.items c.self.inside.len c.self.inside.room c.self.invariant) refl

pub returns-clause-fits : goal.returns-clause-fits
returns-clause-fits g c = rw (← c.self.view_is) c.self.invariant.fit
