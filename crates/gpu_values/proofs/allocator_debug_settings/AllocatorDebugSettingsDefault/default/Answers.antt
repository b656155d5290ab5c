use Rattle.std.proofs.Common.{rules}
use Rattle.gpu_values.proofs.allocator_debug_settings.AllocatorDebugSettingsDefault.default.Goals as goal

pub returns : goal.returns
returns c = search rules
