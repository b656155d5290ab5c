use Rattle.gpu_device.proofs.HeapsAndResources.{without_heap_is, without_resource_is}
use Rattle.gpu_device.proofs.d3d12.laws.giving_back_removes.Goals as goal

pub returns : goal.returns
returns c = record {
  heap = λ held number desc is. without_heap_is held number _ is;
  committed = λ held number size is. without_resource_is held number _ is;
  placed = λ held number heap offset size is. without_resource_is held number _ is;
}
