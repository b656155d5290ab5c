use Rattle.gpu_block_pieces.proofs.Shared.{no_shared_page}
use Rattle.gpu_block_pieces.proofs.laws.kinds_share_no_page.Goals as goal

pub returns : goal.returns
returns c = no_shared_page
