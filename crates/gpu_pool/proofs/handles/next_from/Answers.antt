use Rattle.std.proofs.Common.{rules, arith}
use Rattle.std.proofs.lemmas.Grind.{common_steps}
use Rattle.gpu_pool.proofs.Listing.{handles_go_on}
use Rattle.gpu_pool.proofs.handles.next_from.Goals as goal

pub loop-at-smaller : goal.loop-at-smaller
loop-at-smaller g c = search (rules, handles_go_on)

pub returns : goal.returns
returns g c = grind (arith, common_steps, handles_go_on)
