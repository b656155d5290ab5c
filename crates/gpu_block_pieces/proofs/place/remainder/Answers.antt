use Rattle.gpu_block_pieces.proofs.Powers.{masked, positive_from_test}
use Rattle.gpu_block_pieces.proofs.place.remainder.Goals as goal

pub overflow_sub-result : goal.overflow_sub-result
overflow_sub-result c = positive_from_test c.args.step c.requires

pub returns : goal.returns
returns c = masked c.args.place c.args.step c.requires
