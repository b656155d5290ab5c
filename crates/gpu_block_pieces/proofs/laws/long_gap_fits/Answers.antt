use Rattle.gpu_block_pieces.proofs.FitLaw.{fit_law}
use Rattle.gpu_block_pieces.proofs.laws.long_gap_fits.Goals as goal

pub returns : goal.returns
returns c = λ b r s e sound pg pa some gap long. fit_law b r s e sound pg pa some gap long
