-- A Metal device as a source of blocks: what it holds, and what its calls are in Metal's own words.
use Rattle.std.specs.Prelude.{◌≡◌, ◌≢◌, ℕ, true, List, nat_eq, slice_get, Option, Some, None, Result, Ok, Err, IsSome, Contains}
use Rattle.std.specs.FinMap.{get}
use Rattle.std.specs.List.{IsDistinct}
use Rattle.std.specs.Option.{option_map}
use Rattle.std.proofs.lemmas.Bool.{eqb-true}
use Rattle.gpu_values.specs.Refusal.{Refusal}
use Rattle.gpu_values.specs.declared.memory_location.MemoryLocation.{MemoryLocation}
use Rattle.gpu_device.specs.Metal.{Held, Entry, Heap, Set, add_member, remove_member, without_heap}
use Rattle.gpu_device.specs.declared.metal.device.MetalDevice.{Ghosts}
use Rattle.gpu_device.specs.declared.metal.types.CpuCacheMode.{CpuCacheMode}
use Rattle.gpu_device.specs.declared.metal.types.CpuCacheMode.TheVariants.{DefaultCache, WriteCombined}
use Rattle.gpu_device.specs.declared.metal.types.HeapDescriptor.{HeapDescriptor}
use Rattle.gpu_device.specs.declared.metal.types.MTLHeap.{MTLHeap}
use Rattle.gpu_device.specs.declared.metal.types.MTLResidencySet.{MTLResidencySet}
use Rattle.gpu_device.specs.declared.metal.types.StorageMode.{StorageMode}
use Rattle.gpu_device.specs.declared.metal.types.StorageMode.TheVariants.{Shared, Managed, Private, Memoryless, Other}
use Rattle.gpu_metal.specs.HeapAnswer.{AsksHeap, heap_refusal}
use Rattle.gpu_metal.specs.MemoryKinds.{locations, heap_descriptor}
use Rattle.gpu_metal.specs.Residency.{with_left, with_committed, release_recorded, commit_recorded, ChangesHeld}
use Rattle.gpu_pool.specs.Source.{HeldBlock, HeldBlocks, block_since}
use Rattle.gpu_metal.specs.Blocks.{Residency, residency_of, is_same_heap}

-- the device, what it was when it was handed in, and the residency set, where there is one
pub record SourceState (D : Type 0) : Type 0 where
  pub device : D
  pub first : D
  pub set : Option MTLResidencySet

-- ---- heaps as blocks

-- the memory type of heaps of these modes
abbrev pub type_of : StorageMode → CpuCacheMode → Option ℕ
type_of Private DefaultCache = Some 0
type_of Private WriteCombined = None
type_of Shared WriteCombined = Some 1
type_of Shared DefaultCache = Some 2
type_of Managed cache = None
type_of Memoryless cache = None
type_of (Other mode) cache = None

-- the memory type of such heaps
abbrev pub heap_type : HeapDescriptor → Option ℕ
heap_type desc = type_of desc.storage_mode desc.cpu_cache_mode

-- what is held under a number, as a block
abbrev pub entry_block : Option Entry → Option HeldBlock
entry_block None = None
entry_block (Some (Heap desc size)) = option_map (λ t. record { memory_type = t; size = size }) (heap_type desc)
entry_block (Some (Set members committed)) = None

abbrev pub new_block : (at_first now : Option Entry) → Option HeldBlock
new_block = block_since entry_block

-- the heaps that came since, as blocks
abbrev pub blocks_of : (first held : Held) → HeldBlocks
blocks_of first held n = new_block (get first n) (get held n)

-- heaps that compare alike have one number
pub one_number : (a b : MTLHeap) → nat_eq a.0 b.0 ≡ true → a.0 ≡ b.0
one_number a b same = eqb-true a.0 b.0 same

-- ---- what the device holds

-- the number isn't the set's
abbrev pub IsNotSet : Option MTLResidencySet → ℕ → Type 0
IsNotSet None n = Unit {0}
IsNotSet (Some set) n = n ≢ set.0

-- the set is new, and its members are the blocks, each once
pub record HasBlocks (set : MTLResidencySet) (first held : Held) : Type 0 where
  pub members : List MTLHeap
  pub committed : List MTLHeap
  pub new : get first set.0 ≡ None
  pub at : get held set.0 ≡ Some (Set members committed)
  pub live : (heap : MTLHeap) → Contains members heap → IsSome (blocks_of first held heap.0)
  pub all : (heap : MTLHeap) → IsSome (blocks_of first held heap.0) → Contains members heap
  pub once : IsDistinct is_same_heap members

-- the same of the set, where there is one
abbrev pub SetHasBlocks : Option MTLResidencySet → (first held : Held) → Type 0
SetHasBlocks None first held = Unit {0}
SetHasBlocks (Some set) first held = HasBlocks set first held

-- the device holds what it held at first; what came since is a block, or the set, whose members are the blocks
pub record HoldsFirst (set : Option MTLResidencySet) (first held : Held) : Type 0 where
  pub stays : (n : ℕ) (e : Entry) → get first n ≡ Some e → get held n ≡ Some e
  pub came : (n : ℕ) → get first n ≡ None → IsNotSet set n → entry_block (get held n) ≡ None → get held n ≡ None
  pub residency : SetHasBlocks set first held

-- ---- what its calls are

-- the set once this heap, if there is one, is a member
abbrev pub joined : Option Residency → Option MTLHeap → Option Residency
joined None heap = None
joined (Some r) None = Some r
joined (Some r) (Some heap) = Some (record r { members = add_member r.members heap })

-- the set once this heap is no member
abbrev pub left : Option Residency → MTLHeap → Option Residency
left None heap = None
left (Some r) heap = Some (record r { members = remove_member r.members heap })

-- the set once its members are the committed members
abbrev pub committed : Option Residency → Option Residency
committed None = None
committed (Some r) = Some (record r { committed = r.members })

-- the heap of an answer, if it is one
abbrev pub heap_in : Result MTLHeap Refusal → Option MTLHeap
heap_in (Ok heap) = Some heap
heap_in (Err e) = None

-- a device refuses a heap without a cause
abbrev pub IsHeapAnswer : Result MTLHeap Refusal → Type 0
IsHeapAnswer (Ok heap) = Unit {0}
IsHeapAnswer (Err e) = e ≡ heap_refusal

module _ {D : Type 0} (g : Ghosts D) where
  -- the set, where there is one, as the device holds it
  abbrev pub set_of : SourceState D → Option Residency
  set_of s = residency_of (g.held s.device) s.set

  -- the device was asked once for a heap of the memory type's location and this size; one that is granted is a member of the set
  pub record AsksBlock (old : SourceState D) (t size : ℕ) (extra : Unit {0}) (answer : Result MTLHeap Refusal) (new : SourceState D) : Type 0 where
    pub location : MemoryLocation
    pub at : slice_get locations t ≡ Some location
    pub refusal : IsHeapAnswer answer
    pub asks : AsksHeap g old.set old.device (heap_descriptor location) size (heap_in answer) new.device
    pub residency : set_of new ≡ joined (set_of old) (heap_in answer)
    pub state : new ≡ record old { device = new.device }

  -- the heap left the set and went back, once
  pub record GivesHeapBack (old : SourceState D) (heap : MTLHeap) (new : SourceState D) : Type 0 where
    pub gives : ChangesHeld g old.device (without_heap (with_left (g.held old.device) old.set heap) heap.0)
        (release_recorded old.set heap (g.history old.device)) new.device
    pub residency : set_of new ≡ left (set_of old) heap
    pub state : new ≡ record old { device = new.device }

  -- the members of the set are its committed members
  pub record CommitsSet (old new : SourceState D) : Type 0 where
    pub commits : ChangesHeld g old.device (with_committed (g.held old.device) old.set) (commit_recorded old.set (g.history old.device)) new.device
    pub residency : set_of new ≡ committed (set_of old)
    pub state : new ≡ record old { device = new.device }
