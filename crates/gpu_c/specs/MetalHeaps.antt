-- An allocator of Metal's memory behind a handle: what C says and is told, in the words of the machine.
use Rattle.std.specs.Prelude.{◌≡◌, ℕ, false, true, List, [], length, All, Option, Some, None, IsSome, Ok, Err}
use Rattle.std.specs.Int.NonZero.{non_zero_u64_get}
use Rattle.gpu_values.specs.Refusal.{Refusal, refusal_of}
use Rattle.gpu_values.specs.Sizes.{Sizes, only_size, with_largest}
use Rattle.gpu_values.specs.declared.error.AllocationError.{AllocationError}
use Rattle.gpu_values.specs.declared.memory_location.MemoryLocation.{MemoryLocation}
use Rattle.gpu_values.specs.declared.memory_location.MemoryLocation.TheVariants as locations
use Rattle.gpu_core.specs.declared.piece.Piece.{Piece}
use Rattle.gpu_device.specs.declared.metal.types.CpuCacheMode.{CpuCacheMode}
use Rattle.gpu_device.specs.declared.metal.types.CpuCacheMode.TheVariants as caches
use Rattle.gpu_device.specs.declared.metal.types.MTLHeap.{MTLHeap}
use Rattle.gpu_device.specs.declared.metal.types.StorageMode.{StorageMode}
use Rattle.gpu_device.specs.declared.metal.types.StorageMode.TheVariants as modes
use Rattle.gpu_pool.specs.Idle.{RenamesIdle, SetsWordIdle}
use Rattle.gpu_pool.specs.Live as machine_live
use Rattle.gpu_metal.specs.Blocks.{is_same_heap}
use Rattle.gpu_metal.specs.HeapAnswer.{heap_refusal}
use Rattle.gpu_metal.specs.MemoryKinds as kinds
use Rattle.gpu_metal.specs.declared.describe.AllocationCreateDesc.{AllocationCreateDesc}
use Rattle.gpu_machine.specs.MetalBegin.{Begins, Grants}
use Rattle.gpu_machine.specs.MetalCalls.{MachineFrees}
use Rattle.gpu_machine.specs.MetalState.{State}
use Rattle.gpu_machine.specs.declared.metal.answer.Allocated.{Allocated}
use Rattle.gpu_machine.specs.declared.metal.answer.Granted.{Granted}
use Rattle.gpu_machine.specs.declared.metal.answer.HeapBack.{HeapBack}
use Rattle.gpu_machine.specs.declared.metal.answer.Progress.{Progress}
use Rattle.gpu_machine.specs.declared.metal.answer.Progress.TheVariants as progress
use Rattle.gpu_machine.specs.declared.metal.answer.Question.{Question}
use Rattle.gpu_c.specs.MemoryType.{no_memory_piece}
use Rattle.gpu_c.specs.Request.{IsRequestServed, linear, location_named}
use Rattle.gpu_c.specs.Status as status
use Rattle.gpu_c.specs.Status.{refusal_status}
use Rattle.gpu_c.specs.declared.heaps_values.HeapsPiece.{HeapsPiece}
use Rattle.gpu_c.specs.declared.memory_type_values.MemoryPiece.{MemoryPiece}
use Rattle.gpu_c.specs.declared.metal_heaps_values.MetalHeapsBlock.{MetalHeapsBlock}
use Rattle.gpu_c.specs.declared.metal_heaps_values.MetalHeapsGrant.{MetalHeapsGrant}
use Rattle.gpu_c.specs.declared.metal_heaps_values.MetalHeapsProgress.{MetalHeapsProgress}
use Rattle.gpu_c.specs.declared.metal_heaps_values.MetalHeapsQuestion.{MetalHeapsQuestion}
use Rattle.gpu_c.specs.declared.metal_heaps_values.MetalHeapsRequest.{MetalHeapsRequest}
use Rattle.gpu_c.specs.declared.metal_heaps_values.MetalHeapsSettings.{MetalHeapsSettings}

-- ---- made from settings

-- the sizes of blocks that the settings ask for
abbrev pub block_sizes : MetalHeapsSettings → Sizes
block_sizes s = record {
  device = with_largest (only_size s.device_block_size) s.largest_device_block_size;
  host = with_largest (only_size s.host_block_size) s.largest_host_block_size;
}

-- an allocator of Metal's memory types, without blocks, budgets and open question, whose heaps are members of a set or of none
pub record IsFresh (s : MetalHeapsSettings) (new : State) : Type 0 where
  pub set_is : new.has_set ≡ s.has_residency_set
  pub sizes_are : new.requests.sizes ≡ block_sizes s
  pub types_there : length new.requests.slots ≡ length kinds.locations
  pub empty : All (λ slots. slots ≡ []) new.requests.slots
  pub unbounded : All (λ b. b ≡ None) new.requests.budgets
  pub bounds_there : length new.requests.budgets ≡ length kinds.locations
  pub closed : new.requests.awaited ≡ None

-- ---- a request

-- a request that is served: its size isn't 0, its alignment is a power of two, its location is known, and its name is UTF-8
abbrev pub IsAsked : MetalHeapsRequest → List ℕ → Type 0
IsAsked r name = IsRequestServed r.size r.alignment linear name × IsSome (location_named r.location)

-- what C asks for, as the machine is asked
pub record Says (r : MetalHeapsRequest) (name : List ℕ) (d : AllocationCreateDesc) : Type 0 where
  pub asked : IsAsked r name
  pub name_is : d.name.now ≡ name
  pub size_is : d.size ≡ r.size
  pub alignment_is : d.alignment ≡ r.alignment
  pub location : location_named r.location ≡ Some d.location

-- ---- what C is told of pieces and heaps

abbrev pub piece_told : Piece MTLHeap → MemoryPiece
piece_told p = record { slot = p.slot; number = non_zero_u64_get p.chunk_id; offset = p.offset; size = p.size; block = p.handle.0 }

abbrev pub allocated_told : Allocated → HeapsPiece
allocated_told a = record { memory_type = a.memory_type; piece = piece_told a.piece }

abbrev pub no_heaps_piece : HeapsPiece
no_heaps_piece = record { memory_type = 0; piece = no_memory_piece }

-- a piece of a new heap, and whether the heap joins the residency set
abbrev pub grant_told : Granted → MetalHeapsGrant
grant_told g = record { piece = allocated_told g.allocated; joins = g.joins }

-- a heap with whether it leaves the residency set, or none
abbrev pub block_told : Option HeapBack → MetalHeapsBlock
block_told None = record { exists = false; heap = 0; leaves = false }
block_told (Some back) = record { exists = true; heap = back.heap.0; leaves = back.leaves }

-- the numbers of the locations
abbrev pub location_number : MemoryLocation → ℕ
location_number locations.Unknown = 1
location_number locations.GpuOnly = 2
location_number locations.CpuToGpu = 3
location_number locations.GpuToCpu = 4

-- the numbers of MTLStorageMode
abbrev pub storage_number : StorageMode → ℕ
storage_number modes.Shared = 0
storage_number modes.Managed = 1
storage_number modes.Private = 2
storage_number modes.Memoryless = 3
storage_number (modes.Other n) = n

-- the numbers of MTLCPUCacheMode
abbrev pub cache_number : CpuCacheMode → ℕ
cache_number caches.DefaultCache = 0
cache_number caches.WriteCombined = 1

-- the heap that the device is to be asked for
abbrev pub question_told : Question → MetalHeapsQuestion
question_told q = record {
  memory_type = q.block.memory_type;
  size = q.block.size;
  location = location_number q.location;
  storage_mode = storage_number q.descriptor.storage_mode;
  cpu_cache_mode = cache_number q.descriptor.cpu_cache_mode;
  dedicated = q.block.dedicated;
}

abbrev pub no_heaps_question : MetalHeapsQuestion
no_heaps_question = record { memory_type = 0; size = 0; location = 0; storage_mode = 0; cpu_cache_mode = 0; dedicated = false }

-- what a request leads to: 1 is a piece, 2 a question
abbrev pub progress_told : Progress → MetalHeapsProgress
progress_told (progress.Piece a) = record { kind = 1; status = status.ok; piece = allocated_told a; question = no_heaps_question }
progress_told (progress.Question q) = record { kind = 2; status = status.ok; piece = no_heaps_piece; question = question_told q }

-- once the device has refused the heap: 3 is the request's refusal
abbrev pub refused_told : Refusal → MetalHeapsProgress
refused_told refusal = record { kind = 3; status = refusal_status refusal; piece = no_heaps_piece; question = no_heaps_question }

-- ---- begin, and the answers

-- the request is begun: it leads to a piece or to a question
pub record IsBegun (old : State) (r : MetalHeapsRequest) (name : List ℕ) (out : MetalHeapsProgress) (new : State) : Type 0 where
  pub idle : old.requests.awaited ≡ None
  pub desc : AllocationCreateDesc
  pub says : Says r name desc
  pub answer : Progress
  pub told : out ≡ progress_told answer
  pub begins : Begins old desc (Ok answer) new

-- the request says what the machine refuses, and with which status
pub record IsDenied (s : State) (r : MetalHeapsRequest) (name : List ℕ) (code : ℕ) : Type 0 where
  pub idle : s.requests.awaited ≡ None
  pub desc : AllocationCreateDesc
  pub says : Says r name desc
  pub cause : AllocationError
  pub code_is : code ≡ refusal_status (refusal_of cause)
  pub begins : Begins s desc (Err cause) s

-- the heap is the awaited block, and the piece in it is told
pub record IsGranted (old : State) (heap : ℕ) (out : MetalHeapsGrant) (new : State) : Type 0 where
  pub awaits : IsSome old.requests.awaited
  pub given : Granted
  pub told : out ≡ grant_told given
  pub grants : Grants old (record { 0 = heap }) (Ok given) new

-- the device made no heap; why the request is refused is told, and nothing is left of it
pub record IsDeclined (old : State) (out : MetalHeapsProgress) (new : State) : Type 0 where
  pub awaits : IsSome old.requests.awaited
  pub told : out ≡ refused_told heap_refusal
  pub state : new ≡ record old { requests = record old.requests { awaited = None } }

-- ---- free, rename, word

-- the piece that C names is live
pub record IsLive (s : State) (p : HeapsPiece) : Type 0 where
  pub piece : Piece MTLHeap
  pub named : piece_told piece ≡ p.piece
  pub live : machine_live.IsLive is_same_heap s.requests.slots p.memory_type piece

-- the piece is freed, and the heap that goes back with it is told
pub record IsFreed (old : State) (p : HeapsPiece) (out : MetalHeapsBlock) (new : State) : Type 0 where
  pub idle : old.requests.awaited ≡ None
  pub piece : Piece MTLHeap
  pub named : piece_told piece ≡ p.piece
  pub back : Option HeapBack
  pub told : out ≡ block_told back
  pub frees : MachineFrees old p.memory_type piece (Ok back) new

-- the piece has that name
pub record IsRenamed (old : State) (p : HeapsPiece) (name : List ℕ) (new : State) : Type 0 where
  pub idle : old.requests.awaited ≡ None
  pub piece : Piece MTLHeap
  pub named : piece_told piece ≡ p.piece
  pub renames : RenamesIdle is_same_heap old.requests p.memory_type piece name (Ok tt) new.requests
  pub others : new.has_set ≡ old.has_set

-- this word is kept with the piece
pub record IsWorded (old : State) (p : HeapsPiece) (word : ℕ) (new : State) : Type 0 where
  pub idle : old.requests.awaited ≡ None
  pub piece : Piece MTLHeap
  pub named : piece_told piece ≡ p.piece
  pub sets : SetsWordIdle is_same_heap old.requests p.memory_type piece word (Ok tt) new.requests
  pub others : new.has_set ≡ old.has_set
