use Rattle.std.specs.List.{All}
use Rattle.gpu_report.specs.Fits.{GapFits}
use Rattle.gpu_report.proofs.fits.gaps_fit.Given as goal

abbrev pub invariant-loop-gap : goal.invariant-loop-gap
invariant-loop-gap l = All GapFits l.gap-iterator → All GapFits l.initial.gap-iterator
