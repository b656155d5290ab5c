use Rattle.gpu_block_gaps.proofs.Words.{clear_one}
use Rattle.gpu_block_gaps.proofs.class_set.clear_bit.Goals as goal

pub returns-clause-changes : goal.returns-clause-changes
returns-clause-changes c = clear_one c.args.words.now c.args.class c.requires
