use Rattle.std.proofs.Common.{refl}
use Rattle.gpu_report.specs.BlocksJson.{gap_json}
use Rattle.gpu_report.proofs.Writing.{writes-listed, writes-next, writes-none}
use Rattle.gpu_report.proofs.blocks_json.write_gaps.Goals as goal

pub loop-gap-init : goal.loop-gap-init
loop-gap-init g c = writes-none g.W.Write.write_str_gives c.write_gap.new.f _ _ refl

pub loop-gap-preserved : goal.loop-gap-preserved
loop-gap-preserved g c =
    writes-next g.W.Write.write_str_gives gap_json c.write_gap.new.f c.loop-gap.f c.write_str.new.self c.write_gap-in-loop-gap.new.f c.in-Some-gap.gap c.loop-gap.gap-iterator
    c.next-in-loop-gap.new.self _
    c.in-Some-gap.ensures.steps c.loop-gap.invariant (λ plain. c.in_ok-write_str.ensures.writes plain refl) (λ plain. c.in_ok-write_gap-2.ensures plain refl)

pub returns : goal.returns
returns g c = λ plain ok.
    writes-listed g.W.Write.write_str_gives gap_json c.args.f.now c.write_gap.new.f c.loop-gap.f c.in-Some.first c.args.gaps c.next.new.self c.into_iter-gap-iterator.result c.loop-gap.gap-iterator
    c.in-Some.ensures.steps c.into_iter-gap-iterator.ensures.into_iter_gives c.in-None.ensures.steps.0 (c.in_ok-write_gap.ensures plain refl) c.loop-gap.invariant
