use Rattle.gpu_block_gaps.proofs.Words.{set_one}
use Rattle.gpu_block_gaps.proofs.class_set.set_bit.Goals as goal

pub returns-clause-changes : goal.returns-clause-changes
returns-clause-changes c = set_one c.args.words.now c.args.class c.requires
