use Rattle.std.proofs.Common.{rules}
use Rattle.gpu_c.proofs.capture_handle.CaptureHandle.put.Goals as goal

pub returns : goal.returns
returns c = search rules
