-- A resource, as its owner holds it, and what asking for one results in.
use Rattle.std.specs.Prelude.{◌≡◌, ℕ, ◌+◌, ◌≤◌, ◌%◌, Option, Some, None, Result, Ok, Err}
use Rattle.std.specs.FinMap.{get}
use Rattle.gpu_device.specs.declared.d3d12.types.HeapDesc.{HeapDesc}
use Rattle.gpu_core.specs.declared.piece.Piece.{Piece}
use Rattle.gpu_device.specs.D3D12.{Held, Heap, Placed}
use Rattle.gpu_device.specs.declared.d3d12.types.ID3D12Heap.{ID3D12Heap}
use Rattle.gpu_device.specs.declared.d3d12.types.ResourceAllocationInfo.{ResourceAllocationInfo}
use Rattle.gpu_d3d12.specs.declared.describe.AllocationCreateDesc.{AllocationCreateDesc}
use Rattle.gpu_d3d12.specs.declared.question.ResourceCreateDesc.{ResourceCreateDesc}
use Rattle.gpu_d3d12.specs.Blocks.{Slots}
use Rattle.gpu_d3d12.specs.declared.committed_record.CommittedRecord.{CommittedRecord}
use Rattle.gpu_values.specs.declared.error.AllocationError.{AllocationError}
use Rattle.gpu_pool.specs.Allocation.{AreDistinct, IsAllocated}
use Rattle.gpu_d3d12.specs.Live.{Allocation, IsLive}
use Rattle.gpu_d3d12.specs.declared.resource.Resource.{Resource}

-- what the piece of a placed resource is asked for, where the device tells this of its size and alignment
abbrev pub piece_desc : ResourceCreateDesc → ResourceAllocationInfo → AllocationCreateDesc
piece_desc d info = record {
  name = d.name;
  location = d.memory_location;
  size = info.size_in_bytes;
  alignment = info.alignment;
  resource_category = d.resource_category;
}

-- the record of a committed resource
abbrev pub record_of : Resource → CommittedRecord
record_of r = record { resource = r.resource; size = r.size }

-- ---- what is given

-- the piece that a resource of the t-th memory type lies in, if it lies in one
abbrev pub LiesIn : (t : ℕ) → ResourceCreateDesc → Option (Piece ID3D12Heap) → Option Allocation → Type 0
LiesIn t d None None = Unit {0}
LiesIn t d (Some p) (Some a) = IsAllocated t d.name.now p a
LiesIn t d None (Some a) = ⊥
LiesIn t d (Some p) None = ⊥

-- the resource that is given: of the t-th memory type, in this piece where it is placed, under this number, and of this size
pub record IsMade (d : ResourceCreateDesc) (t : ℕ) (piece : Option (Piece ID3D12Heap)) (number size : ℕ) (r : Resource) : Type 0 where
  pub resource : r.resource.0 ≡ number
  pub allocation : LiesIn t d piece r.allocation
  pub location : r.memory_location ≡ d.memory_location
  pub memory_type : r.memory_type_index ≡ t
  pub size_is : r.size ≡ size

-- ---- its piece, beside those of others

-- the piece that the resource lies in, if it lies in one, is live, and is none of those that were
abbrev pub IsNewIn : (old new : Slots) → Option Allocation → Type 0
IsNewIn old new None = Unit {0}
IsNewIn old new (Some a) = IsLive new a × ((b : Allocation) → IsLive old b → AreDistinct b a)

-- the piece that the resource lies in, if it lies in one, begins at a multiple of this
abbrev pub BeginsAligned : (alignment : ℕ) → Option Allocation → Type 0
BeginsAligned alignment None = Unit {0}
BeginsAligned alignment (Some a) = a.offset % alignment ≡ 0

-- an allocation is another piece than the one that the resource lies in, if it lies in one
abbrev pub IsBeside : Allocation → Option Allocation → Type 0
IsBeside b None = Unit {0}
IsBeside b (Some a) = AreDistinct b a

-- ---- a placed resource that is live

-- a resource is live in an allocation's piece: that is live, and the device holds the resource at its place
pub record IsLivePlaced (held : Held) (slots : Slots) (r : Resource) (a : Allocation) : Type 0 where
  pub allocation : r.allocation ≡ Some a
  pub piece : IsLive slots a
  pub size : ℕ
  pub entry : get held r.resource.0 ≡ Some (Placed a.heap.0 a.offset size)

-- the device holds the heap that the allocation names, and the allocation ends inside it
pub record LiesInHeap (held : Held) (a : Allocation) : Type 0 where
  pub desc : HeapDesc
  pub heap : get held a.heap.0 ≡ Some (Heap desc)
  pub inside : a.offset + a.size ≤ desc.size

-- ---- what the caller gets

-- the number of a resource that is given
abbrev pub number_given : Result Resource AllocationError → Option ℕ
number_given (Ok r) = Some r.resource.0
number_given (Err e) = None

-- a resource stands in the piece of this allocation
pub record IsPlacedIn (d : ResourceCreateDesc) (a : Allocation) (number size : ℕ) (r : Resource) : Type 0 where
  pub resource : r.resource.0 ≡ number
  pub allocation : r.allocation ≡ Some a
  pub location : r.memory_location ≡ d.memory_location
  pub memory_type : r.memory_type_index ≡ a.memory_type_index
  pub size_is : r.size ≡ size
