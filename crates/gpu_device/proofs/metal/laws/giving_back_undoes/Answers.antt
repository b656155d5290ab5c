use Rattle.gpu_device.proofs.HeapsAndSets.{heap_undone, without_heap_is}
use Rattle.gpu_device.proofs.metal.laws.giving_back_undoes.Goals as goal

pub returns : goal.returns
returns c = record { heap = heap_undone; nothing = λ held number is. without_heap_is held number _ is }
