-- An allocator of Vulkan's memory behind a handle: what C says and is told, in the words of the machine.
use Rattle.std.specs.Prelude.{◌≡◌, ℕ, ℤ, ◌==◌, ◌&&◌, if◌then◌else◌, not, nat_lt, Bool, true, false, List, [], length, map, All, Option, Some, None, IsSome, Result, Ok, Err}
use Rattle.std.specs.Option.{is_some, unwrap_or}
use Rattle.std.specs.List.{list_any}
use Rattle.std.specs.Int.{is_power_of_two}
use Rattle.std.specs.Int.NonZero.{non_zero_u64_get}
use Rattle.gpu_values.specs.Refusal.{Refusal, refusal_of}
use Rattle.gpu_values.specs.Sizes.{Sizes, only_size, with_largest}
use Rattle.gpu_values.specs.declared.allocator_debug_settings.AllocatorDebugSettings.{AllocatorDebugSettings}
use Rattle.gpu_values.specs.declared.error.AllocationError.{AllocationError}
use Rattle.gpu_core.specs.declared.piece.Piece.{Piece}
use Rattle.gpu_device.specs.Properties.{Properties}
use Rattle.gpu_device.specs.declared.vulkan.types.AllocationScheme.{AllocationScheme}
use Rattle.gpu_device.specs.declared.vulkan.types.AllocationScheme.TheVariants as schemes
use Rattle.gpu_device.specs.declared.vulkan.types.MemoryHeap.{MemoryHeap}
use Rattle.gpu_device.specs.declared.vulkan.types.MemoryTypeInfo.{MemoryTypeInfo}
use Rattle.gpu_pool.specs.Idle.{RenamesIdle, SetsWordIdle}
use Rattle.gpu_pool.specs.Live as machine_live
use Rattle.gpu_vulkan.specs.Setup.{properties_told, lacks_heap}
use Rattle.gpu_vulkan.specs.declared.describe.AllocationCreateDesc.{AllocationCreateDesc}
use Rattle.gpu_machine.specs.VulkanBegin.{Begins, Grants, Declines}
use Rattle.gpu_machine.specs.VulkanCalls.{MachineFrees}
use Rattle.gpu_machine.specs.VulkanDescription.{Description, description_of}
use Rattle.gpu_machine.specs.VulkanState as machine_state
use Rattle.gpu_machine.specs.declared.vulkan.answer.Allocated.{Allocated}
use Rattle.gpu_machine.specs.declared.vulkan.answer.LiveBlock.{LiveBlock}
use Rattle.gpu_machine.specs.declared.vulkan.answer.MemoryBack.{MemoryBack}
use Rattle.gpu_machine.specs.declared.vulkan.answer.Progress.{Progress}
use Rattle.gpu_machine.specs.declared.vulkan.answer.Progress.TheVariants as progress
use Rattle.gpu_machine.specs.declared.vulkan.answer.Question.{Question}
use Rattle.gpu_c.specs.MemoryType.{no_memory_piece}
use Rattle.gpu_c.specs.Request.{IsRequestServed, linear, location_named}
use Rattle.gpu_c.specs.Status as status
use Rattle.gpu_c.specs.Status.{refusal_status}
use Rattle.gpu_c.specs.declared.mapped_memory.MappedMemory.{MappedMemory}
use Rattle.gpu_c.specs.declared.memory_type_values.MemoryPiece.{MemoryPiece}
use Rattle.gpu_c.specs.declared.allocator_values.AllocatorBlock.{AllocatorBlock}
use Rattle.gpu_c.specs.declared.allocator_values.AllocatorBudget.{AllocatorBudget}
use Rattle.gpu_c.specs.declared.allocator_values.AllocatorMemory.{AllocatorMemory}
use Rattle.gpu_c.specs.declared.allocator_values.AllocatorPiece.{AllocatorPiece}
use Rattle.gpu_c.specs.declared.allocator_values.AllocatorProgress.{AllocatorProgress}
use Rattle.gpu_c.specs.declared.allocator_values.AllocatorQuestion.{AllocatorQuestion}
use Rattle.gpu_c.specs.declared.allocator_values.AllocatorRequest.{AllocatorRequest}
use Rattle.gpu_c.specs.declared.allocator_values.AllocatorSettings.{AllocatorSettings}
use Rattle.gpu_c.specs.declared.allocator_values.DeviceHeap.{DeviceHeap}
use Rattle.gpu_c.specs.declared.allocator_values.DeviceMemoryType.{DeviceMemoryType}

-- a machine whose blocks are known by the driver's memory and the address at which it is mapped
abbrev pub State : Type 0
State = machine_state.State MappedMemory

-- two blocks are the same: their memory is, and where it is mapped
abbrev pub is_same_block : MappedMemory → MappedMemory → Bool
is_same_block a b = (a.memory == b.memory) && (a.address == b.address)

-- ---- made from what is told of a device

abbrev pub memory_type_told : DeviceMemoryType → MemoryTypeInfo
memory_type_told t = record { property_flags = record { 0 = t.flags }; heap_index = t.heap }

abbrev pub heap_told : DeviceHeap → MemoryHeap
heap_told h = record { size = h.size; flags = h.flags }

-- what the caller tells of its device
abbrev pub device_told : List DeviceMemoryType → List DeviceHeap → AllocatorSettings → Properties
device_told types heaps s = properties_told (map memory_type_told types) (map heap_told heaps) s.granularity

-- the sizes of blocks that the settings ask for
abbrev pub block_sizes : AllocatorSettings → Sizes
block_sizes s = record {
  device = with_largest (only_size s.device_block_size) s.largest_device_block_size;
  host = with_largest (only_size s.host_block_size) s.largest_host_block_size;
}

-- nothing is logged
abbrev pub no_lines : AllocatorDebugSettings
no_lines = record { log_memory_information = false; log_leaks_on_shutdown = false; log_allocations = false; log_frees = false }

-- an allocator without blocks, budgets, limits and an open question, whose blocks are no smaller where memory is short, over the device that was told
pub record IsFresh (types : List DeviceMemoryType) (heaps : List DeviceHeap) (s : AllocatorSettings) (new : State) : Type 0 where
  pub setup : new.setup ≡ record { properties = device_told types heaps s; sizes = block_sizes s; debug = no_lines; device_address = false }
  pub types_there : length new.requests.slots ≡ length types
  pub empty : All (λ slots. slots ≡ []) new.requests.slots
  pub unbounded : All (λ b. b ≡ None) new.requests.budgets
  pub bounds_there : length new.requests.budgets ≡ length types
  pub plain : machine_state.AsksAsAllocator new
  pub limits_there : length new.limits ≡ length heaps
  pub closed : (new.requests.awaited ≡ None) × (new.asking ≡ None)

-- ---- statuses

-- why no allocator is made of a device that is told, the first cause that holds; ok where there is none
abbrev pub device_status : Properties → ℕ
device_status p =
    if not (is_power_of_two p.granularity) then status.invalid_device else
    (if nat_lt 32 (length p.types) then status.too_many_types else
    (if list_any (lacks_heap p) p.types then status.no_such_heap else status.ok))

-- ---- a request

-- what memory is made for: whatever its owner puts there, or a buffer or an image alone
abbrev pub scheme_named : (scheme resource : ℕ) → Option AllocationScheme
scheme_named scheme resource =
    if scheme == 1 then Some schemes.GpuAllocatorManaged else
    (if scheme == 2 then Some (schemes.DedicatedBuffer (record { 0 = resource })) else
    (if scheme == 3 then Some (schemes.DedicatedImage (record { 0 = resource })) else None))

-- what C asks for, as the machine is asked; a request with a size of 0, an alignment that is no power of two, an unknown number or a name that isn't UTF-8 says nothing
pub record Says (r : AllocatorRequest) (name : List ℕ) (k : Description) : Type 0 where
  pub served : IsRequestServed r.size r.alignment r.kind name
  pub name_is : k.name ≡ name
  pub requirements : k.requirements ≡ record { size = r.size; alignment = r.alignment; memory_type_bits = r.memory_type_bits }
  pub linear_is : k.linear ≡ (r.kind == linear)
  pub location : location_named r.location ≡ Some k.location
  pub scheme : scheme_named r.scheme r.resource ≡ Some k.scheme

-- the request is none that is served
abbrev pub SaysNothing : AllocatorRequest → List ℕ → Type 0
SaysNothing r name = (k : Description) → Says r name k → ⊥

-- ---- what C is told

abbrev pub piece_told : Piece MappedMemory → MemoryPiece
piece_told p = record { slot = p.slot; number = non_zero_u64_get p.chunk_id; offset = p.offset; size = p.size; block = p.handle.memory }

abbrev pub allocated_told : Allocated MappedMemory → AllocatorPiece
allocated_told a = record { memory_type = a.memory_type; address = a.piece.handle.address; piece = piece_told a.piece }

-- C names this piece
pub record Names (named : AllocatorPiece) (p : Piece MappedMemory) : Type 0 where
  pub piece : piece_told p ≡ named.piece
  pub address : p.handle.address ≡ named.address

abbrev pub no_allocator_piece : AllocatorPiece
no_allocator_piece = record { memory_type = 0; address = 0; piece = no_memory_piece }

abbrev pub question_told : Question → AllocatorQuestion
question_told q = record { size = q.block.size; memory_type = q.block.memory_type; dedicated = q.block.dedicated; mapped = q.mapped }

abbrev pub no_question : AllocatorQuestion
no_question = record { size = 0; memory_type = 0; dedicated = false; mapped = false }

-- what a request leads to: 1 is a piece, 2 a question
abbrev pub progress_told : Progress MappedMemory → AllocatorProgress
progress_told (progress.Piece a) = record { kind = 1; status = status.ok; piece = allocated_told a; question = no_question }
progress_told (progress.Question q) = record { kind = 2; status = status.ok; piece = no_allocator_piece; question = question_told q }

-- the same once the driver has refused: 3 is the request's refusal
abbrev pub outcome_told : Result (Progress MappedMemory) AllocationError → AllocatorProgress
outcome_told (Ok p) = progress_told p
outcome_told (Err e) = record { kind = 3; status = refusal_status (refusal_of e); piece = no_allocator_piece; question = no_question }

-- memory that goes back, or none
abbrev pub memory_told : Option (MemoryBack MappedMemory) → AllocatorMemory
memory_told None = record { exists = false; mapped = false; memory = 0; address = 0 }
memory_told (Some b) = record { exists = true; mapped = b.mapped; memory = b.handle.memory; address = b.handle.address }

-- a live block, or none
abbrev pub block_told : Option (LiveBlock MappedMemory) → AllocatorBlock
block_told None = record { exists = false; mapped = false; shared = false; memory = 0; address = 0; size = 0 }
block_told (Some b) = record { exists = true; mapped = b.mapped; shared = b.shared; memory = b.handle.memory; address = b.handle.address; size = b.size }

abbrev pub budget_told : Option ℕ → AllocatorBudget
budget_told b = record { exists = is_some b; bytes = unwrap_or b 0 }

-- ---- begin, and the answers

-- the request is begun: it leads to a piece or to a question
pub record IsBegun (old : State) (r : AllocatorRequest) (name : List ℕ) (out : AllocatorProgress) (new : State) : Type 0 where
  pub idle : old.requests.awaited ≡ None
  pub desc : AllocationCreateDesc
  pub says : Says r name (description_of desc)
  pub answer : Progress MappedMemory
  pub told : out ≡ progress_told answer
  pub begins : Begins old desc (Ok answer) new

-- the request says what the machine refuses, and with which status
pub record IsDenied (s : State) (r : AllocatorRequest) (name : List ℕ) (code : ℕ) : Type 0 where
  pub idle : s.requests.awaited ≡ None
  pub desc : AllocationCreateDesc
  pub says : Says r name (description_of desc)
  pub cause : AllocationError
  pub code_is : code ≡ refusal_status (refusal_of cause)
  pub begins : Begins s desc (Err cause) s

-- the driver's memory, mapped at that address, is the awaited block, and the piece in it is told
pub record IsGranted (old : State) (memory address : ℕ) (out : AllocatorPiece) (new : State) : Type 0 where
  pub awaits : IsSome old.requests.awaited
  pub given : Allocated MappedMemory
  pub told : out ≡ allocated_told given
  pub grants : Grants old (record { memory = memory; address = address }) (Ok given) new

-- the awaited block isn't there for this cause, and what comes of it is told
pub record IsDeclined (old : State) (cause : Refusal) (out : AllocatorProgress) (new : State) : Type 0 where
  pub awaits : IsSome old.requests.awaited
  pub answer : Result (Progress MappedMemory) AllocationError
  pub told : out ≡ outcome_told answer
  pub declines : Declines old cause answer new

-- the driver's code, where it told one
abbrev pub code_if : Bool → ℤ → Option ℤ
code_if exists code = if exists then Some code else None

-- ---- free, rename, word

-- the piece that C names is live
pub record IsLive (s : State) (p : AllocatorPiece) : Type 0 where
  pub piece : Piece MappedMemory
  pub named : Names p piece
  pub live : machine_live.IsLive is_same_block s.requests.slots p.memory_type piece

-- the piece is freed, and the memory that goes back with it is told
pub record IsFreed (old : State) (p : AllocatorPiece) (out : AllocatorMemory) (new : State) : Type 0 where
  pub idle : old.requests.awaited ≡ None
  pub piece : Piece MappedMemory
  pub named : Names p piece
  pub back : Option (MemoryBack MappedMemory)
  pub told : out ≡ memory_told back
  pub frees : MachineFrees is_same_block old p.memory_type piece (Ok back) new

-- the piece has that name
pub record IsRenamed (old : State) (p : AllocatorPiece) (name : List ℕ) (new : State) : Type 0 where
  pub idle : old.requests.awaited ≡ None
  pub piece : Piece MappedMemory
  pub named : Names p piece
  pub renames : RenamesIdle is_same_block old.requests p.memory_type piece name (Ok tt) new.requests
  pub others : new ≡ record old { requests = new.requests }

-- this word is kept with the piece
pub record IsWorded (old : State) (p : AllocatorPiece) (word : ℕ) (new : State) : Type 0 where
  pub idle : old.requests.awaited ≡ None
  pub piece : Piece MappedMemory
  pub named : Names p piece
  pub sets : SetsWordIdle is_same_block old.requests p.memory_type piece word (Ok tt) new.requests
  pub others : new ≡ record old { requests = new.requests }
