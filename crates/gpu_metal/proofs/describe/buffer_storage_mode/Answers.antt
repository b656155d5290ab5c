use Rattle.std.proofs.Common.{rules}
use Rattle.gpu_metal.proofs.describe.buffer_storage_mode.Goals as goal

pub returns-in-GpuOnly : goal.returns-in-GpuOnly
returns-in-GpuOnly c = search rules
