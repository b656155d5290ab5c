use Rattle.std.proofs.Common.{◌≡◌}
use Rattle.gpu_c.specs.Visit.{piece_from}
use Rattle.gpu_c.proofs.visit.name_from.Given as goal

abbrev pub invariant-loop-piece : goal.invariant-loop-piece
invariant-loop-piece l = (piece_from l.fn.from l.piece-iterator ≡ piece_from l.fn.from l.fn.pieces) × (l.buffer ≡ l.fn.buffer)
