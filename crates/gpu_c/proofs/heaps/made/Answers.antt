use Rattle.gpu_c.proofs.HeapsLaws.{was_asked}
use Rattle.gpu_c.proofs.heaps.made.Goals as goal

pub returns-in-Ok-clause-made : goal.returns-in-Ok-clause-made
returns-in-Ok-clause-made c ok = record {
  awaits = was_asked c.args.machine.now c.made.new.self _ c.in-Ok.recorded c.in-Ok.ensures.makes;
  made = c.in-Ok.recorded;
  told = c.committed_told.ensures;
  makes = c.in-Ok.ensures.makes;
  others = c.in-Ok.ensures.others;
}
