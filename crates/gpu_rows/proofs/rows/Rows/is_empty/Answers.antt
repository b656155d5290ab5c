use Rattle.std.proofs.Common.{refl}
use Rattle.gpu_rows.proofs.Placing.{counted}
use Rattle.gpu_rows.proofs.rows.Rows.is_empty.Goals as goal

pub returns : goal.returns
returns g c = rw (← c.self.view_is, counted c.self.inside.pages.items c.self.inside.len c.self.inside.room c.self.invariant) refl
