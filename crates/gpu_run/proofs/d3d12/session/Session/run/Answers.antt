use Rattle.gpu_run.proofs.D3D12Serving.{run_kept}
use Rattle.gpu_run.proofs.d3d12.session.Session.run.Goals as goal

pub returns-clause-constant : goal.returns-clause-constant
returns-clause-constant g c = (run_kept g.D.D3D12Device c.args.commands.now c.args.self.now c.run.new.session c.run.result c.run.ensures.run c.run.ensures.nothing).constant

pub returns-clause-basis : goal.returns-clause-basis
returns-clause-basis g c = (run_kept g.D.D3D12Device c.args.commands.now c.args.self.now c.run.new.session c.run.result c.run.ensures.run c.run.ensures.nothing).basis
