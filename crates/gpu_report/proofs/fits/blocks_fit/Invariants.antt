use Rattle.std.specs.List.{AllWithin}
use Rattle.gpu_report.specs.Fits.{BlockFits}
use Rattle.gpu_report.proofs.fits.blocks_fit.Given as goal

abbrev pub invariant-loop-view : goal.invariant-loop-view
invariant-loop-view l = AllWithin BlockFits l.views 0 l.view-index
