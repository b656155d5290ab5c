use Rattle.gpu_c.specs.Visit.{pieces_from, piece_views}
use Rattle.gpu_c.proofs.Filling.{Fills}
use Rattle.gpu_c.proofs.visit.fill_from.Given as goal

abbrev pub invariant-loop-piece : goal.invariant-loop-piece
invariant-loop-piece l = Fills (piece_views (pieces_from l.fn.from l.fn.pieces)) l.fn.views (piece_views (pieces_from l.fn.from l.piece-iterator)) l.views l.count
