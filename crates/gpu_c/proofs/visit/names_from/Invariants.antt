use Rattle.gpu_c.specs.Visit.{pieces_from}
use Rattle.gpu_c.proofs.FillingNames.{FillsNames}
use Rattle.gpu_c.proofs.visit.names_from.Given as goal

abbrev pub invariant-loop-piece : goal.invariant-loop-piece
invariant-loop-piece l = FillsNames (pieces_from l.fn.from l.fn.pieces) (pieces_from l.fn.from l.piece-iterator) l.fn.lengths l.lengths l.fn.names l.names l.count l.filled
