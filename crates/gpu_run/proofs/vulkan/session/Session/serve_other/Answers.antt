use Rattle.std.proofs.Common.{rules}
use Rattle.gpu_run.proofs.vulkan.session.Session.serve_other.Goals as goal

pub returns-in-Read : goal.returns-in-Read
returns-in-Read g c = search rules
