use Rattle.gpu_plan.proofs.Measure.{peak_within}
use Rattle.gpu_plan.proofs.laws.no_heap_is_below_the_peak.Goals as goal

pub returns : goal.returns
returns c = λ resources offsets heap peak apart heaped is. peak_within c.args.page resources offsets heap peak apart heaped is
