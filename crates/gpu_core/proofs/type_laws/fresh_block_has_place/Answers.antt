use Rattle.std.proofs.Common.{false, refl, arith}
use Rattle.gpu_block_pieces.specs.FreeList.{fresh_free_list}
use Rattle.gpu_block_pieces.proofs.Empty.{empty_chosen}
use Rattle.gpu_core.proofs.Needs.{fresh_served, fresh_begins}
use Rattle.gpu_core.proofs.type_laws.fresh_block_has_place.Goals as goal

pub returns : goal.returns
returns c = record {
  place = λ size granularity r some le. empty_chosen (fresh_free_list size granularity 2) r refl (omega arith) le;
  served = λ size granularity r some le h. fresh_served size granularity r (omega arith) le h;
  begins = λ size granularity r o n new some le t. fresh_begins false size granularity r o n new some le t;
}
