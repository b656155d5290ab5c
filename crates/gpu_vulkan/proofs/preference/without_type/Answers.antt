use Rattle.std.proofs.Common.{arith}
use Rattle.gpu_vulkan.proofs.TypeBits.{is_within}
use Rattle.gpu_vulkan.proofs.preference.without_type.Goals as goal

pub overflow_cast-result : goal.overflow_cast-result
overflow_cast-result c = let below = is_within c.args.bits 32 c.args.index (omega (arith, c.ranges.bits)) c.requires.is_set in omega (arith, below)

pub overflow_shl-result : goal.overflow_shl-result
overflow_shl-result c = is_within c.args.bits 32 c.args.index (omega (arith, c.ranges.bits)) c.requires.is_set
