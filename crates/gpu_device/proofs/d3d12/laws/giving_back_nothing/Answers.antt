use Rattle.gpu_device.proofs.HeapsAndResources.{without_heap_is, without_resource_is}
use Rattle.gpu_device.proofs.d3d12.laws.giving_back_nothing.Goals as goal

pub returns : goal.returns
returns c = record {
  no_heap = λ held number is. without_heap_is held number _ is;
  no_resource = λ held number is. without_resource_is held number _ is;
  heap_stays = λ held number desc is. without_resource_is held number _ is;
  committed_stays = λ held number size is. without_heap_is held number _ is;
  placed_stays = λ held number heap offset size is. without_heap_is held number _ is;
}
