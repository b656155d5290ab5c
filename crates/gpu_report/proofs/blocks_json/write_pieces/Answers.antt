use Rattle.std.proofs.Common.{refl}
use Rattle.gpu_report.specs.BlocksJson.{piece_json}
use Rattle.gpu_report.proofs.Writing.{writes-listed, writes-next, writes-none}
use Rattle.gpu_report.proofs.blocks_json.write_pieces.Goals as goal

pub loop-piece-init : goal.loop-piece-init
loop-piece-init g c = writes-none g.W.Write.write_str_gives c.write_piece.new.f _ _ refl

pub loop-piece-preserved : goal.loop-piece-preserved
loop-piece-preserved g c =
    writes-next g.W.Write.write_str_gives piece_json c.write_piece.new.f c.loop-piece.f c.write_str.new.self c.write_piece-in-loop-piece.new.f c.in-Some-piece.piece c.loop-piece.piece-iterator
    c.next-in-loop-piece.new.self _
    c.in-Some-piece.ensures.steps c.loop-piece.invariant (λ plain. c.in_ok-write_str.ensures.writes plain refl) (λ plain. c.in_ok-write_piece-2.ensures plain refl)

pub returns : goal.returns
returns g c = λ plain ok.
    writes-listed g.W.Write.write_str_gives piece_json c.args.f.now c.write_piece.new.f c.loop-piece.f c.in-Some.first c.args.pieces c.next.new.self c.into_iter-piece-iterator.result
    c.loop-piece.piece-iterator
    c.in-Some.ensures.steps c.into_iter-piece-iterator.ensures.into_iter_gives c.in-None.ensures.steps.0 (c.in_ok-write_piece.ensures plain refl) c.loop-piece.invariant
