use Rattle.std.proofs.Common.{◌==◌, ap, sym, arith}
use Rattle.std.proofs.lemmas.Nat.Bits.{bit_at_above}
use Rattle.gpu_vulkan.proofs.choice.has_bit.Goals as goal

pub returns-then-index-ge32 : goal.returns-then-index-ge32
returns-then-index-ge32 c = sym (ap (λ b. b == 1) (bit_at_above c.args.bits 32 c.args.index (omega (arith, c.ranges)) (omega (arith, c.if-index-ge32))))
