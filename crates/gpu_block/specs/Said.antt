-- What a caller says anew of a live piece.
use Rattle.gpu_block.specs.declared.said.Said.{Said}
use Rattle.gpu_block.specs.declared.said.Said.TheVariants as variants
use Rattle.gpu_block_pieces.specs.Changes as changes
use Rattle.gpu_block_pieces.specs.Changes.{named, worded}

abbrev pub said_of : Said → changes.Said
said_of (variants.Name name) = named name.now
said_of (variants.Word word) = worded word

-- a name may need memory, and a word never does
abbrev pub MayStarve : changes.Said → Type 0
MayStarve (named name) = Unit {0}
MayStarve (worded word) = ⊥
