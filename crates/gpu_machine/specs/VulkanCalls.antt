-- What the other calls of Vulkan's machine return and leave.
use Rattle.std.specs.Prelude.{◌≡◌, ℕ, Bool, true, false, nat_lt, length, Option, Some, None, Result, Ok, Err, codes}
use Rattle.std.specs.List.{slice_set}
use Rattle.std.specs.Option.{option_map}
use Rattle.gpu_values.specs.Refusal.{Refusal, internal}
use Rattle.gpu_values.specs.declared.error.AllocationError.{AllocationError}
use Rattle.gpu_core.specs.Blocks.{slots_at}
use Rattle.gpu_block.specs.Block.{size_of, is_shared}
use Rattle.gpu_core.specs.TypeState.{Slot, slot_at}
use Rattle.gpu_core.specs.declared.piece.Piece.{Piece}
use Rattle.gpu_pool.specs.Idle.{FreesIdle}
use Rattle.gpu_pool.specs.RequestState.{answer_awaited}
use Rattle.gpu_pool.specs.declared.requests.Awaited.{Awaited}
use Rattle.gpu_vulkan.specs.Setup.{Setup}
use Rattle.gpu_vulkan.specs.Types.{is_mapped}
use Rattle.gpu_machine.specs.VulkanState.{State, IsRefused}
use Rattle.gpu_machine.specs.declared.vulkan.answer.LiveBlock.{LiveBlock}
use Rattle.gpu_machine.specs.declared.vulkan.answer.MemoryBack.{MemoryBack}

-- the memory of the block that goes, mapped where its memory type is
abbrev pub memory_back : {H : Type 0} → Setup → (t : ℕ) → Option H → Option (MemoryBack H)
memory_back setup t went = option_map (λ handle. record { handle = handle; mapped = is_mapped setup.properties t }) went

-- the memory that goes back, where some does
abbrev pub memory_in : {H : Type 0} → Option (MemoryBack H) → Option H
memory_in back = option_map (λ b. b.handle) back

abbrev pub handle_in : {H : Type 0} → Result (Option (MemoryBack H)) AllocationError → Result (Option H) AllocationError
handle_in (Ok back) = Ok (memory_in back)
handle_in (Err e) = Err e

abbrev pub TellsMapped : {H : Type 0} → Setup → (t : ℕ) → Result (Option (MemoryBack H)) AllocationError → Type 0
TellsMapped setup t (Ok (Some back)) = back.mapped ≡ is_mapped setup.properties t
TellsMapped setup t (Ok None) = Unit {0}
TellsMapped setup t (Err e) = Unit {0}

-- a piece is freed where no question is open, and the memory is told that goes with it, if some does
pub record MachineFrees {H : Type 0} (eq : H → H → Bool) (old : State H) (t : ℕ) (p : Piece H) (result : Result (Option (MemoryBack H)) AllocationError) (new : State H) : Type 0 where
  pub frees : FreesIdle eq old.requests t p (handle_in result) new.requests
  pub mapped : TellsMapped old.setup t result
  pub state : new ≡ record old { requests = new.requests }

-- what is told of the block in a slot
abbrev pub live_block : {H : Type 0} → Setup → (t : ℕ) → Option (Slot H) → Option (LiveBlock H)
live_block setup t None = None
live_block setup t (Some s) = Some (record { handle = s.handle; mapped = is_mapped setup.properties t; size = size_of s.block; shared = is_shared s.block })

-- the block in a slot of a memory type
abbrev pub block_at : {H : Type 0} → State H → (t slot : ℕ) → Option (LiveBlock H)
block_at s t slot = live_block s.setup t (slot_at (slots_at s.requests.slots t) slot)

-- ---- limits of heaps

abbrev pub no_such_heap : Refusal
no_such_heap = internal (codes "No such heap.") None

module _ {H : Type 0} where
  abbrev pub SetsHeapLimitBy : (there : Bool) → State H → (heap : ℕ) → (limit : Option ℕ) → Result (Unit {0}) AllocationError → State H → Type 0
  SetsHeapLimitBy false old heap limit result new = IsRefused no_such_heap old result new
  SetsHeapLimitBy true old heap limit result new = (result ≡ Ok tt) × (new ≡ record old { limits = slice_set old.limits heap limit })

  abbrev pub SetsHeapLimitIn : Option Awaited → State H → (heap : ℕ) → (limit : Option ℕ) → Result (Unit {0}) AllocationError → State H → Type 0
  SetsHeapLimitIn (Some _) old heap limit result new = IsRefused answer_awaited old result new
  SetsHeapLimitIn None old heap limit result new = SetsHeapLimitBy (nat_lt heap (length old.limits)) old heap limit result new

  -- the heap has this limit from now on, where no question is open
  abbrev pub SetsHeapLimit : State H → (heap : ℕ) → (limit : Option ℕ) → Result (Unit {0}) AllocationError → State H → Type 0
  SetsHeapLimit old heap limit result new = SetsHeapLimitIn old.requests.awaited old heap limit result new

-- ---- how many blocks there may be

module _ {H : Type 0} where
  abbrev pub SetsMostBlocksIn : Option Awaited → State H → (most : Option ℕ) → Result (Unit {0}) AllocationError → State H → Type 0
  SetsMostBlocksIn (Some _) old most result new = IsRefused answer_awaited old result new
  SetsMostBlocksIn None old most result new = (result ≡ Ok tt) × (new ≡ record old { most_blocks = most })

  -- so many blocks there may be from now on, where no question is open
  abbrev pub SetsMostBlocks : State H → (most : Option ℕ) → Result (Unit {0}) AllocationError → State H → Type 0
  SetsMostBlocks old most result new = SetsMostBlocksIn old.requests.awaited old most result new

-- ---- smaller blocks

module _ {H : Type 0} where
  abbrev pub SetsSmallerBlocksIn : Option Awaited → State H → (smaller_blocks : Bool) → Result (Unit {0}) AllocationError → State H → Type 0
  SetsSmallerBlocksIn (Some _) old smaller_blocks result new = IsRefused answer_awaited old result new
  SetsSmallerBlocksIn None old smaller_blocks result new = (result ≡ Ok tt) × (new ≡ record old { smaller_blocks = smaller_blocks })

  -- blocks are smaller where memory is short from now on, or aren't, where no question is open
  abbrev pub SetsSmallerBlocks : State H → (smaller_blocks : Bool) → Result (Unit {0}) AllocationError → State H → Type 0
  SetsSmallerBlocks old smaller_blocks result new = SetsSmallerBlocksIn old.requests.awaited old smaller_blocks result new
