use Rattle.gpu_block_pieces.proofs.OneOutcome.{takes_once}
use Rattle.gpu_block_pieces.proofs.laws.one_allocate.Goals as goal

pub returns : goal.returns
returns c = λ old r o p n m new next sound t u.
    let s = takes_once old r o p n m new next sound.one_gap t u in
    (s.offsets, s.numbers, s.blocks)
