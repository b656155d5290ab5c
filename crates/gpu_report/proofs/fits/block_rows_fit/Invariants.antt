use Rattle.std.specs.List.{AllWithin}
use Rattle.gpu_report.specs.Fits.{BlockRowFits}
use Rattle.gpu_report.proofs.fits.block_rows_fit.Given as goal

abbrev pub invariant-loop-block : goal.invariant-loop-block
invariant-loop-block l = AllWithin BlockRowFits l.blocks 0 l.block-index
