use Rattle.std.proofs.Common.{rules}
use Rattle.gpu_c.proofs.virtual_block.VirtualBlock.rename.Goals as goal

pub returns-after-rename_allocation-clause-renamed : goal.returns-after-rename_allocation-clause-renamed
returns-after-rename_allocation-clause-renamed c = search rules
