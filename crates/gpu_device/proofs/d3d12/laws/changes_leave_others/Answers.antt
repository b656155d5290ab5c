use Rattle.gpu_device.proofs.Maps.{get-insert_other}
use Rattle.gpu_device.proofs.HeapsAndResources.{get-without_heap_other, get-without_resource_other}
use Rattle.gpu_device.proofs.d3d12.laws.changes_leave_others.Goals as goal

pub returns : goal.returns
returns c = record {
  added = λ held number other e apart. get-insert_other held number other e apart;
  heap_released = get-without_heap_other;
  resource_released = get-without_resource_other;
}
