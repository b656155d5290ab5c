use Rattle.gpu_trace_text.proofs.Settings.{last_size_only}
use Rattle.gpu_trace_text.proofs.device.setting.sizes.Goals as goal

pub returns-in_default-number : goal.returns-in_default-number
returns-in_default-number c = last_size_only c.args.arguments.now _ c.in_default-number.ensures
