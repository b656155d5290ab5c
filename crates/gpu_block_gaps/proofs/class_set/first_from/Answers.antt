use Rattle.std.proofs.Common.{arith}
use Rattle.gpu_block_gaps.proofs.Words.{none_left, first_left}
use Rattle.gpu_block_gaps.proofs.class_set.first_from.Goals as goal

pub returns-then-rest-eq0 : goal.returns-then-rest-eq0
returns-then-rest-eq0 c = none_left c.args.word c.args.from c.if-rest-eq0.true

pub returns : goal.returns
returns c = first_left c.args.word c.args.from (omega arith) c.if-rest-eq0.false
