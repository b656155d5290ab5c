use Rattle.std.proofs.Common.{arith}
use Rattle.gpu_block_gaps.proofs.Bits.{differ, low_differ, high_differ}
use Rattle.gpu_block_gaps.proofs.key.Key.split.Goals as goal

pub overflow_sub-result-then-self-other-2 : goal.overflow_sub-result-then-self-other-2
overflow_sub-result-then-self-other-2 c =
    let d = differ 64 c.args.self.start c.args.other.start (omega arith) (omega arith) c.if-self-other-2.true in
    omega (arith, d.counted)

pub returns-then-self-other-2 : goal.returns-then-self-other-2
returns-then-self-other-2 c =
    low_differ c.args.self.length c.args.other.length c.args.self.start c.args.other.start (omega arith) (omega arith) c.if-self-other.false c.if-self-other-2.true

pub returns-then-self-other : goal.returns-then-self-other
returns-then-self-other c =
    high_differ c.args.self.length c.args.other.length c.args.self.start c.args.other.start (omega arith) (omega arith) (omega arith) (omega arith) c.if-self-other.true
