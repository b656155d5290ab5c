use Rattle.std.proofs.Common.{arith}
use Rattle.gpu_rows.proofs.Steps.{cases}
use Rattle.gpu_rows.proofs.rows.enough_room.Goals as goal

pub returns-then-rows-le-FIRST : goal.returns-then-rows-le-FIRST
returns-then-rows-le-FIRST c = omega (arith, cases c.args.rows)

pub returns-then-rows-le-SECOND : goal.returns-then-rows-le-SECOND
returns-then-rows-le-SECOND c = omega (arith, cases c.args.rows)

pub returns : goal.returns
returns c = omega (arith, cases c.args.rows)
