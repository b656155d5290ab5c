-- What a device tells of itself, once and for all.
use Rattle.std.specs.Prelude.{ℕ, List}
use Rattle.gpu_device.specs.declared.vulkan.types.MemoryHeap.{MemoryHeap}
use Rattle.gpu_device.specs.declared.vulkan.types.MemoryTypeInfo.{MemoryTypeInfo}

pub record Properties : Type 0 where
  pub types : List MemoryTypeInfo
  pub heaps : List MemoryHeap
  -- linear and other resources keep to pages of this size: `bufferImageGranularity`
  pub granularity : ℕ
