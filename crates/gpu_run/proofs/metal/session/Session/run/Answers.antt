use Rattle.gpu_run.proofs.MetalServing.{run_kept}
use Rattle.gpu_run.proofs.metal.session.Session.run.Goals as goal

pub returns-clause-constant : goal.returns-clause-constant
returns-clause-constant g c = run_kept g.D.MetalDevice c.args.commands.now c.args.self.now c.run.new.session c.run.result c.run.ensures.run c.run.ensures.nothing
