use Rattle.std.specs.List.{All}
use Rattle.gpu_report.specs.Fits.{NumberFits}
use Rattle.gpu_report.proofs.fits.numbers_fit.Given as goal

abbrev pub invariant-loop-piece : goal.invariant-loop-piece
invariant-loop-piece l = All (λ x. NumberFits x.chunk_id) l.piece-iterator → All (λ x. NumberFits x.chunk_id) l.initial.piece-iterator
