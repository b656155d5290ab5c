use Rattle.gpu_report.proofs.Blocks.{document-blocks}
use Rattle.gpu_report.proofs.laws.blocks_read_back.Goals as goal

pub returns : goal.returns
returns c = document-blocks
