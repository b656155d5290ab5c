use Rattle.gpu_block_pieces.specs.Changes.{named, worded}
use Rattle.gpu_block.proofs.Blocks.{relabel_once_in}
use Rattle.gpu_block.proofs.laws.one_rename_in.Goals as goal

pub returns-clause-renamed : goal.returns-clause-renamed
returns-clause-renamed c = λ old n name. relabel_once_in old n (named name)

pub returns-clause-word : goal.returns-clause-word
returns-clause-word c = λ old n word. relabel_once_in old n (worded word)
