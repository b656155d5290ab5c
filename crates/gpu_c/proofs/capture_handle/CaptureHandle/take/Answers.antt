use Rattle.std.proofs.Common.{rules}
use Rattle.gpu_c.proofs.capture_handle.CaptureHandle.take.Goals as goal

pub returns-in-Some-clause-value : goal.returns-in-Some-clause-value
returns-in-Some-clause-value c = search rules
