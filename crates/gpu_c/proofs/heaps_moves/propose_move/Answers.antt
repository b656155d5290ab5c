use Rattle.std.proofs.Common.{arith}
use Rattle.gpu_c.proofs.HeapsLaws.{is_shut, is_live}
use Rattle.gpu_c.proofs.heaps_moves.propose_move.Goals as goal

pub returns-in-Err-clause-not_live : goal.returns-in-Err-clause-not_live
returns-in-Err-clause-not_live c = (
  λ is. absurd (omega (arith, is)),
  λ h. absurd (h.2 (is_live c.args.machine.now c.args.piece.now c.in-Some-named_piece.named c.in-Some-named_piece.ensures (c.is_live.ensures.0 c.if-not-is_live.false))),
)

pub returns-in-Err-clause-host_out_of_memory : goal.returns-in-Err-clause-host_out_of_memory
returns-in-Err-clause-host_out_of_memory c is = (
  is_shut c.args.machine.now.requests.awaited _ c.if-awaits_answer.false c.awaits_answer.ensures,
  (c.in-Some.ensures.asked, omega (arith, c.if-request-piece.false)),
  is_live c.args.machine.now c.args.piece.now c.in-Some-named_piece.named c.in-Some-named_piece.ensures (c.is_live.ensures.0 c.if-not-is_live.false),
)

pub returns-in-Ok-clause-proposed : goal.returns-in-Ok-clause-proposed
returns-in-Ok-clause-proposed c ok = record {
  idle = is_shut c.args.machine.now.requests.awaited _ c.if-awaits_answer.false c.awaits_answer.ensures;
  piece = c.in-Some-named_piece.named;
  named = c.in-Some-named_piece.ensures;
  desc = c.in-Some.desc;
  says = c.in-Some.ensures;
  place = c.in-Ok.place;
  moves_is = c.is_some.ensures;
  told = c.place_told.ensures;
  proposes = c.in-Ok.ensures.proposes;
}

pub returns-in-Ok-clause-not_live : goal.returns-in-Ok-clause-not_live
returns-in-Ok-clause-not_live c = (
  λ is. absurd (omega (arith, is)),
  λ h. absurd (h.2 (is_live c.args.machine.now c.args.piece.now c.in-Some-named_piece.named c.in-Some-named_piece.ensures (c.is_live.ensures.0 c.if-not-is_live.false))),
)
