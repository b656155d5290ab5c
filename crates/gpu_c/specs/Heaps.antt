-- An allocator of DirectX 12's memory behind a handle: what C says and is told, in the words of the machine.
use Rattle.std.specs.Prelude.{◌≡◌, ℕ, ℤ, pos, ◌==◌, if◌then◌else◌, false, List, [], length, All, Option, Some, None, cond, IsSome, Ok, Err}
use Rattle.std.specs.Int.NonZero.{non_zero_u64_get}
use Rattle.std.specs.Option.{option_map}
use Rattle.std.specs.Ordering.{int_eq}
use Rattle.gpu_values.specs.Refusal.{Refusal, refusal_of}
use Rattle.gpu_values.specs.Sizes.{Sizes, only_size, with_largest}
use Rattle.gpu_values.specs.declared.error.AllocationError.{AllocationError}
use Rattle.gpu_values.specs.declared.memory_location.MemoryLocation.{MemoryLocation}
use Rattle.gpu_core.specs.declared.piece.Piece.{Piece}
use Rattle.gpu_device.specs.declared.d3d12.types.CpuPageProperty.{CpuPageProperty}
use Rattle.gpu_device.specs.declared.d3d12.types.CpuPageProperty.TheVariants as pages
use Rattle.gpu_device.specs.declared.d3d12.types.HeapContent.{HeapContent}
use Rattle.gpu_device.specs.declared.d3d12.types.HeapContent.TheVariants as contents
use Rattle.gpu_device.specs.declared.d3d12.types.HeapType.{HeapType}
use Rattle.gpu_device.specs.declared.d3d12.types.HeapType.TheVariants as types
use Rattle.gpu_device.specs.declared.d3d12.types.ID3D12Heap.{ID3D12Heap}
use Rattle.gpu_device.specs.declared.d3d12.types.MemoryPool.{MemoryPool}
use Rattle.gpu_device.specs.declared.d3d12.types.MemoryPool.TheVariants as pools
use Rattle.gpu_device.specs.declared.d3d12.types.ResourceHeapTier.{ResourceHeapTier}
use Rattle.gpu_device.specs.declared.d3d12.types.ResourceHeapTier.TheVariants as tiers
use Rattle.gpu_pool.specs.Idle.{FreesIdle, RenamesIdle, SetsWordIdle}
use Rattle.gpu_pool.specs.Live as machine_live
use Rattle.gpu_d3d12.specs.Blocks.{is_same_heap}
use Rattle.gpu_d3d12.specs.Committed.{records_at, place_of}
use Rattle.gpu_d3d12.specs.CommittedRequests.{Makes, Declines, Forgets, record_of}
use Rattle.gpu_d3d12.specs.HeapAnswer.{answer_refusal}
use Rattle.gpu_d3d12.specs.MemoryKinds.{memory_kinds}
use Rattle.gpu_d3d12.specs.declared.category.ResourceCategory.{ResourceCategory}
use Rattle.gpu_d3d12.specs.declared.category.ResourceCategory.TheVariants as categories
use Rattle.gpu_d3d12.specs.declared.committed_requests.Committed.{Committed}
use Rattle.gpu_d3d12.specs.declared.describe.AllocationCreateDesc.{AllocationCreateDesc}
use Rattle.gpu_d3d12.specs.declared.question.CommittedAllocationStatistics.{CommittedAllocationStatistics}
use Rattle.gpu_machine.specs.D3D12Begin.{Begins, Grants, BeginsCommitted}
use Rattle.gpu_machine.specs.D3D12State.{State}
use Rattle.gpu_machine.specs.declared.d3d12.answer.Allocated.{Allocated}
use Rattle.gpu_machine.specs.declared.d3d12.answer.Progress.{Progress}
use Rattle.gpu_machine.specs.declared.d3d12.answer.Progress.TheVariants as progress
use Rattle.gpu_machine.specs.declared.d3d12.answer.Question.{Question}
use Rattle.gpu_c.specs.MemoryType.{no_memory_piece, memory_block}
use Rattle.gpu_c.specs.Request.{IsRequestServed, linear, location_named}
use Rattle.gpu_c.specs.Status as status
use Rattle.gpu_c.specs.Status.{refusal_status}
use Rattle.gpu_c.specs.declared.heaps_values.HeapsCommitted.{HeapsCommitted}
use Rattle.gpu_c.specs.declared.heaps_values.HeapsCommittedCounts.{HeapsCommittedCounts}
use Rattle.gpu_c.specs.declared.heaps_values.HeapsPiece.{HeapsPiece}
use Rattle.gpu_c.specs.declared.heaps_values.HeapsProgress.{HeapsProgress}
use Rattle.gpu_c.specs.declared.heaps_values.HeapsQuestion.{HeapsQuestion}
use Rattle.gpu_c.specs.declared.heaps_values.HeapsRequest.{HeapsRequest}
use Rattle.gpu_c.specs.declared.heaps_values.HeapsSettings.{HeapsSettings}
use Rattle.gpu_c.specs.declared.memory_type_values.MemoryBlock.{MemoryBlock}
use Rattle.gpu_c.specs.declared.memory_type_values.MemoryPiece.{MemoryPiece}

-- ---- made from settings

-- the resource heap tier of that number: 1, or 2 and each later one; 0 is none
abbrev pub tier_named : ℕ → Option ResourceHeapTier
tier_named n =
    if n == 0 then None else
    (if n == 1 then Some tiers.Tier1 else Some tiers.Tier2)

-- the sizes of blocks that the settings ask for
abbrev pub block_sizes : HeapsSettings → Sizes
block_sizes s = record {
  device = with_largest (only_size s.device_block_size) s.largest_device_block_size;
  host = with_largest (only_size s.host_block_size) s.largest_host_block_size;
}

-- an allocator of that tier's memory types, without blocks, budgets, committed resources and open questions
pub record IsFresh (s : HeapsSettings) (new : State) : Type 0 where
  pub tier_is : tier_named s.heap_tier ≡ Some new.tier
  pub sizes_are : new.requests.sizes ≡ block_sizes s
  pub types_there : length new.requests.slots ≡ length (memory_kinds new.tier)
  pub empty : All (λ slots. slots ≡ []) new.requests.slots
  pub unbounded : All (λ b. b ≡ None) new.requests.budgets
  pub bounds_there : length new.requests.budgets ≡ length (memory_kinds new.tier)
  pub lists_there : length new.committed.records ≡ length (memory_kinds new.tier)
  pub uncommitted : All (λ records. records ≡ []) new.committed.records
  pub closed : (new.requests.awaited ≡ None) × (new.committed.awaited ≡ None)

-- ---- a request

-- the category of that number
abbrev pub category_named : ℕ → Option ResourceCategory
category_named n =
    if n == 1 then Some categories.Buffer else
    (if n == 2 then Some categories.RtvDsvTexture else
    (if n == 3 then Some categories.OtherTexture else None))

-- location and category have these numbers
abbrev pub AreNamed : (location category : ℕ) → Type 0
AreNamed location category = IsSome (location_named location) × IsSome (category_named category)

-- a request that is served: its size isn't 0, its alignment is a power of two, its location and its category are known, and its name is UTF-8
abbrev pub IsAsked : HeapsRequest → List ℕ → Type 0
IsAsked r name = IsRequestServed r.size r.alignment linear name × AreNamed r.location r.category

-- what C asks for, as the machine is asked
pub record Says (r : HeapsRequest) (name : List ℕ) (d : AllocationCreateDesc) : Type 0 where
  pub asked : IsAsked r name
  pub name_is : d.name.now ≡ name
  pub size_is : d.size ≡ r.size
  pub alignment_is : d.alignment ≡ r.alignment
  pub location : location_named r.location ≡ Some d.location
  pub category : category_named r.category ≡ Some d.resource_category

-- ---- what C is told of pieces and heaps

abbrev pub piece_told : Piece ID3D12Heap → MemoryPiece
piece_told p = record { slot = p.slot; number = non_zero_u64_get p.chunk_id; offset = p.offset; size = p.size; block = p.handle.0 }

abbrev pub allocated_told : Allocated → HeapsPiece
allocated_told a = record { memory_type = a.memory_type; piece = piece_told a.piece }

abbrev pub no_heaps_piece : HeapsPiece
no_heaps_piece = record { memory_type = 0; piece = no_memory_piece }

-- a heap, or none
abbrev pub heap_told : Option ID3D12Heap → MemoryBlock
heap_told heap = memory_block (option_map (λ h. h.0) heap)

-- the numbers of D3D12_HEAP_TYPE
abbrev pub heap_type_number : HeapType → ℕ
heap_type_number types.Default = 1
heap_type_number types.Upload = 2
heap_type_number types.Readback = 3
heap_type_number types.Custom = 4

-- the numbers of D3D12_CPU_PAGE_PROPERTY
abbrev pub page_number : CpuPageProperty → ℕ
page_number pages.Unknown = 0
page_number pages.NotAvailable = 1
page_number pages.WriteCombine = 2
page_number pages.WriteBack = 3

-- the numbers of D3D12_MEMORY_POOL
abbrev pub pool_number : MemoryPool → ℕ
pool_number pools.Unknown = 0
pool_number pools.L0 = 1
pool_number pools.L1 = 2

-- D3D12_HEAP_FLAGS: 0 allows all, 0xc0 buffers alone, 0x84 render targets and depth stencils alone, 0x44 other textures alone
abbrev pub heap_flags : HeapContent → ℕ
heap_flags contents.All = 0
heap_flags contents.Buffers = 192
heap_flags contents.RtDsTextures = 132
heap_flags contents.NonRtDsTextures = 68

-- the heap that the device is to be asked for
abbrev pub question_told : Question → HeapsQuestion
question_told q = record {
  memory_type = q.block.memory_type;
  size = q.desc.size;
  alignment = q.desc.alignment;
  heap_type = heap_type_number q.desc.properties.heap_type;
  cpu_page_property = page_number q.desc.properties.cpu_page_property;
  memory_pool = pool_number q.desc.properties.memory_pool_preference;
  flags = heap_flags q.desc.content;
  dedicated = q.block.dedicated;
}

abbrev pub no_heaps_question : HeapsQuestion
no_heaps_question = record { memory_type = 0; size = 0; alignment = 0; heap_type = 0; cpu_page_property = 0; memory_pool = 0; flags = 0; dedicated = false }

-- what a request leads to: 1 is a piece, 2 a question
abbrev pub progress_told : Progress → HeapsProgress
progress_told (progress.Piece a) = record { kind = 1; status = status.ok; piece = allocated_told a; question = no_heaps_question }
progress_told (progress.Question q) = record { kind = 2; status = status.ok; piece = no_heaps_piece; question = question_told q }

-- once the device has refused the heap: 3 is the request's refusal
abbrev pub refused_told : Refusal → HeapsProgress
refused_told refusal = record { kind = 3; status = refusal_status refusal; piece = no_heaps_piece; question = no_heaps_question }

-- the device's code of a refusal; 0, S_OK, says that there was no error, and no heap
abbrev pub code_told : ℤ → Option ℤ
code_told code = cond (int_eq code (pos 0)) None (Some code)

-- ---- begin, and the answers

-- the request is begun: it leads to a piece or to a question
pub record IsBegun (old : State) (r : HeapsRequest) (name : List ℕ) (out : HeapsProgress) (new : State) : Type 0 where
  pub idle : old.requests.awaited ≡ None
  pub desc : AllocationCreateDesc
  pub says : Says r name desc
  pub answer : Progress
  pub told : out ≡ progress_told answer
  pub begins : Begins old desc (Ok answer) new

-- the request says what the machine refuses, and with which status
pub record IsDenied (s : State) (r : HeapsRequest) (name : List ℕ) (code : ℕ) : Type 0 where
  pub idle : s.requests.awaited ≡ None
  pub desc : AllocationCreateDesc
  pub says : Says r name desc
  pub cause : AllocationError
  pub code_is : code ≡ refusal_status (refusal_of cause)
  pub begins : Begins s desc (Err cause) s

-- the heap is the awaited block, and the piece in it is told
pub record IsGranted (old : State) (heap : ℕ) (out : HeapsPiece) (new : State) : Type 0 where
  pub awaits : IsSome old.requests.awaited
  pub given : Allocated
  pub told : out ≡ allocated_told given
  pub grants : Grants old (record { 0 = heap }) (Ok given) new

-- the device made no heap, with this code; why the request is refused is told, and nothing is left of it
pub record IsDeclined (old : State) (code : ℤ) (out : HeapsProgress) (new : State) : Type 0 where
  pub awaits : IsSome old.requests.awaited
  pub told : out ≡ refused_told (answer_refusal (code_told code))
  pub state : new ≡ record old { requests = record old.requests { awaited = None } }

-- ---- free, rename, word

-- the piece that C names is live
pub record IsLive (s : State) (p : HeapsPiece) : Type 0 where
  pub piece : Piece ID3D12Heap
  pub named : piece_told piece ≡ p.piece
  pub live : machine_live.IsLive is_same_heap s.requests.slots p.memory_type piece

-- the piece is freed, and the heap that goes back with it is told
pub record IsFreed (old : State) (p : HeapsPiece) (out : MemoryBlock) (new : State) : Type 0 where
  pub idle : old.requests.awaited ≡ None
  pub piece : Piece ID3D12Heap
  pub named : piece_told piece ≡ p.piece
  pub back : Option ID3D12Heap
  pub told : out ≡ heap_told back
  pub frees : FreesIdle is_same_heap old.requests p.memory_type piece (Ok back) new.requests
  pub others : new ≡ record old { requests = new.requests }

-- the piece has that name
pub record IsRenamed (old : State) (p : HeapsPiece) (name : List ℕ) (new : State) : Type 0 where
  pub idle : old.requests.awaited ≡ None
  pub piece : Piece ID3D12Heap
  pub named : piece_told piece ≡ p.piece
  pub renames : RenamesIdle is_same_heap old.requests p.memory_type piece name (Ok tt) new.requests
  pub others : new ≡ record old { requests = new.requests }

-- this word is kept with the piece
pub record IsWorded (old : State) (p : HeapsPiece) (word : ℕ) (new : State) : Type 0 where
  pub idle : old.requests.awaited ≡ None
  pub piece : Piece ID3D12Heap
  pub named : piece_told piece ≡ p.piece
  pub sets : SetsWordIdle is_same_heap old.requests p.memory_type piece word (Ok tt) new.requests
  pub others : new ≡ record old { requests = new.requests }

-- ---- committed resources

-- one of this size is asked for, with room for its record at hand
pub record IsCommittedBegun (old : State) (size location category : ℕ) (new : State) : Type 0 where
  pub idle : old.committed.awaited ≡ None
  pub place : MemoryLocation
  pub place_is : location_named location ≡ Some place
  pub kind : ResourceCategory
  pub kind_is : category_named category ≡ Some kind
  pub begins : BeginsCommitted old place kind size (Ok tt) new

-- one of this size is refused, with which status
pub record IsCommittedDenied (s : State) (size location category code : ℕ) : Type 0 where
  pub idle : s.committed.awaited ≡ None
  pub place : MemoryLocation
  pub place_is : location_named location ≡ Some place
  pub kind : ResourceCategory
  pub kind_is : category_named category ≡ Some kind
  pub cause : AllocationError
  pub code_is : code ≡ refusal_status (refusal_of cause)
  pub begins : BeginsCommitted s place kind size (Err cause) s

abbrev pub committed_told : Committed → HeapsCommitted
committed_told c = record { memory_type = c.memory_type; resource = c.resource.0; size = c.size }

-- the committed resource that C names
abbrev pub committed_named : HeapsCommitted → Committed
committed_named c = record { memory_type = c.memory_type; resource = record { 0 = c.resource }; size = c.size }

-- the device made the committed resource that was asked for, and what is recorded of it is told
pub record IsMade (old : State) (resource : ℕ) (out : HeapsCommitted) (new : State) : Type 0 where
  pub awaits : IsSome old.committed.awaited
  pub made : Committed
  pub told : out ≡ committed_told made
  pub makes : Makes old.committed (record { 0 = resource }) (Ok made) new.committed
  pub others : new ≡ record old { committed = new.committed }

-- the device made none, and nothing is left of the request
pub record IsNotMade (old new : State) : Type 0 where
  pub awaits : IsSome old.committed.awaited
  pub declines : Declines old.committed (Ok tt) new.committed
  pub others : new ≡ record old { committed = new.committed }

-- the committed resource that C names is forgotten
pub record IsForgotten (old : State) (c : HeapsCommitted) (new : State) : Type 0 where
  pub idle : old.committed.awaited ≡ None
  pub forgets : Forgets old.committed (committed_named c) (Ok tt) new.committed
  pub others : new ≡ record old { committed = new.committed }

-- no record is of this memory type, number and size
abbrev pub HasNoRecord : State → HeapsCommitted → Type 0
HasNoRecord s c = place_of (records_at s.committed.records c.memory_type) (record_of (committed_named c)) ≡ None

-- how many committed resources of a memory type there are, and their sizes' sum
abbrev pub committed_counts : CommittedAllocationStatistics → HeapsCommittedCounts
committed_counts c = record { count = c.num_allocations; bytes = c.total_size }
