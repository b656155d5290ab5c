-- What a DirectX 12 device holds and tells of itself, and what each call makes of it.
use Rattle.std.specs.Prelude.{ℕ, ℤ, List, Option, Some, None, Result, Ok, Err}
use Rattle.std.specs.Ordering.{nat_cmp}
use Rattle.std.specs.FinMap.{FinMap, get, remove}
use Rattle.gpu_device.specs.declared.d3d12.types.Format.{Format}
use Rattle.gpu_device.specs.declared.d3d12.types.HeapDesc.{HeapDesc}
use Rattle.gpu_device.specs.declared.d3d12.types.ID3D12Heap.{ID3D12Heap}
use Rattle.gpu_device.specs.declared.d3d12.types.ID3D12Resource.{ID3D12Resource}
use Rattle.gpu_device.specs.declared.d3d12.types.ResourceAllocationInfo.{ResourceAllocationInfo}
use Rattle.gpu_device.specs.declared.d3d12.types.ResourceDesc.{ResourceDesc}
use Rattle.gpu_device.specs.declared.d3d12.types.ResourceDesc1.{ResourceDesc1}
use Rattle.gpu_device.specs.declared.d3d12.types.ResourceHeapTier.{ResourceHeapTier}

-- ---- what a device tells of itself

pub record Properties : Type 0 where
  -- the heap tier, or the code with which it can't be told
  pub tier : Result ResourceHeapTier ℤ
  -- what a resource takes of a heap
  pub allocation_info : ResourceDesc → ResourceAllocationInfo
  -- the same of a resource with castable formats
  pub allocation_info3 : ResourceDesc1 → List Format → ResourceAllocationInfo

-- how many bytes the device tells a resource to take
abbrev pub told_size : Properties → ResourceDesc → ℕ
told_size properties desc = (properties.allocation_info desc).size_in_bytes

-- the same for the later calls: without a list of formats the earlier call tells it
abbrev pub told_size1 : Properties → ResourceDesc1 → Option (List Format) → ℕ
told_size1 properties desc None = told_size properties desc.desc
told_size1 properties desc (Some formats) = (properties.allocation_info3 desc formats).size_in_bytes

-- ---- what is there

-- what a number stands for; a resource's size is the one that the device tells
pub data Entry : Type 0 where
  -- a heap, as it was asked for
  Heap : (desc : HeapDesc) → Entry
  -- a resource in memory of its own
  Committed : (size : ℕ) → Entry
  -- a resource at an offset in the heap of this number
  Placed : (heap offset size : ℕ) → Entry

-- heaps and resources, by number
abbrev pub Held : Type 0
Held = FinMap nat_cmp Entry

-- ---- what an answer changes

-- the number that an answer grants: an error and null grant none
abbrev pub granted_heap : Result (Option ID3D12Heap) ℤ → Option ℕ
granted_heap (Ok (Some heap)) = Some heap.0
granted_heap (Ok None) = None
granted_heap (Err code) = None

abbrev pub granted_resource : Result (Option ID3D12Resource) ℤ → Option ℕ
granted_resource (Ok (Some resource)) = Some resource.0
granted_resource (Ok None) = None
granted_resource (Err code) = None

-- ---- what giving back takes away

abbrev pub remove_if_heap : Held → ℕ → Option Entry → Held
remove_if_heap held number None = held
remove_if_heap held number (Some (Heap desc)) = remove held number
remove_if_heap held number (Some (Committed size)) = held
remove_if_heap held number (Some (Placed heap offset size)) = held

-- the same without this heap; nothing changes where the number is no heap's
abbrev pub without_heap : Held → ℕ → Held
without_heap held number = remove_if_heap held number (get held number)

abbrev pub remove_if_resource : Held → ℕ → Option Entry → Held
remove_if_resource held number None = held
remove_if_resource held number (Some (Heap desc)) = held
remove_if_resource held number (Some (Committed size)) = remove held number
remove_if_resource held number (Some (Placed heap offset size)) = remove held number

-- the same without this resource; nothing changes where the number is no resource's
abbrev pub without_resource : Held → ℕ → Held
without_resource held number = remove_if_resource held number (get held number)
