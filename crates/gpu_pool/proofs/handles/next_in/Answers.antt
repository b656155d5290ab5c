use Rattle.std.proofs.Common.{rules}
use Rattle.gpu_pool.proofs.Listing.{handles_go_on}
use Rattle.gpu_pool.proofs.handles.next_in.Goals as goal

pub loop-next-preserved : goal.loop-next-preserved
loop-next-preserved g c = search (rules, handles_go_on)
