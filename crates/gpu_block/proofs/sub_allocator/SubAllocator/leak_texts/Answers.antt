use Rattle.std.proofs.Common.{rules}
use Rattle.gpu_block.proofs.sub_allocator.SubAllocator.leak_texts.Goals as goal

pub returns-clause-texts : goal.returns-clause-texts
returns-clause-texts c = search rules
