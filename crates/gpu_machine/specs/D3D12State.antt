-- What callers see of DirectX 12's machine.
use Rattle.gpu_device.specs.declared.d3d12.types.ID3D12Heap.{ID3D12Heap}
use Rattle.gpu_device.specs.declared.d3d12.types.ResourceHeapTier.{ResourceHeapTier}
use Rattle.gpu_d3d12.specs.CommittedRequests.{RecordState}
use Rattle.gpu_pool.specs.RequestState.{RequestState}

-- whose memory types these are; the blocks and the open request for a heap; and the committed resources with the one that is asked for
pub record State : Type 0 where
  pub tier : ResourceHeapTier
  pub requests : RequestState ID3D12Heap
  pub committed : RecordState
