use Rattle.gpu_block_pieces.proofs.Live.{takes_keeps, takes_adds, takes_new_chunk_id}
use Rattle.gpu_block_pieces.proofs.laws.allocate_adds_one_piece.Goals as goal

pub returns : goal.returns
returns c = record {
  keeps = λ old r o n new t. takes_keeps old r o n new t;
  adds = λ old r o n new t. takes_adds old r o n new t;
  chunk_id = λ old r o n new before after t. takes_new_chunk_id old r o n
      new before after t;
}
