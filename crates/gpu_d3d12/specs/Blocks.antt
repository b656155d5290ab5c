-- The live blocks of all memory types, and what the device holds of them.
use Rattle.std.specs.Prelude.{◌≡◌, ℕ, Bool, nat_eq, List, [], ◌∷◌, slice_get, Option, IsSomeAnd}
use Rattle.gpu_device.specs.D3D12.{Held, Entry, Heap, without_resource}
use Rattle.gpu_device.specs.declared.d3d12.device.D3D12Device.{Ghosts}
use Rattle.gpu_device.specs.declared.d3d12.event.Event.{Event}
use Rattle.gpu_device.specs.declared.d3d12.event.Event.TheVariants.{ReleasedHeap, ReleasedResource}
use Rattle.gpu_device.specs.declared.d3d12.types.ID3D12Heap.{ID3D12Heap}
use Rattle.gpu_device.specs.declared.d3d12.types.ResourceHeapTier.{ResourceHeapTier}
use Rattle.gpu_d3d12.specs.Heaps.{heap_desc}
use Rattle.gpu_d3d12.specs.MemoryKinds.{memory_kinds}
use Rattle.gpu_d3d12.specs.declared.memory_kind.MemoryKind.{MemoryKind}
use Rattle.gpu_core.specs.Blocks as all
use Rattle.gpu_core.specs.Held.{HoldsBlocks}

-- the slots of each memory type
abbrev pub Slots : Type 0
Slots = all.Slots ID3D12Heap

-- the t-th memory type
abbrev pub kind_at : ResourceHeapTier → (t : ℕ) → Option MemoryKind
kind_at tier t = slice_get (memory_kinds tier) t

-- the number under which a heap is held
abbrev pub heap_number : ID3D12Heap → ℕ
heap_number heap = heap.0

-- the device's entry of a block is the heap that is asked for a block of its size and memory type
abbrev pub IsBlockEntry : ResourceHeapTier → (t size : ℕ) → Entry → Type 0
IsBlockEntry tier t size e = IsSomeAnd (kind_at tier t) (λ k. e ≡ Heap (heap_desc k size))

-- the device holds what it held at first, and just the live blocks
abbrev pub HoldsJustLiveBlocks : ResourceHeapTier → (first held : Held) → Slots → Type 0
HoldsJustLiveBlocks tier first held slots = HoldsBlocks heap_number (IsBlockEntry tier) first held slots

-- heaps are the same where their numbers are
abbrev pub is_same_heap : ID3D12Heap → ID3D12Heap → Bool
is_same_heap m n = nat_eq m.0 n.0

-- ---- what a device was asked

-- what the history has more once these heaps went back, one after another
abbrev pub releases_recorded : List ID3D12Heap → List Event → List Event
releases_recorded [] before = before
releases_recorded (heap ∷ heaps) before = releases_recorded heaps (ReleasedHeap heap ∷ before)

-- the device was asked nothing, and its properties are the same
pub record AsksNothing {D : Type 0} (g : Ghosts D) (old new : D) : Type 0 where
  pub count : g.refused new ≡ g.refused old
  pub latest_heap : g.latest_heap new ≡ g.latest_heap old
  pub latest_formats : g.latest_formats new ≡ g.latest_formats old
  pub latest_clear : g.latest_clear new ≡ g.latest_clear old
  pub latest_memory : g.latest_memory new ≡ g.latest_memory old
  pub constant : g.properties new ≡ g.properties old

-- a resource was released, once, and the device was asked nothing
pub record IsWithoutResource {D : Type 0} (g : Ghosts D) (old : D) (number : ℕ) (new : D) : Type 0 where
  pub held : g.held new ≡ without_resource (g.held old) number
  pub history : g.history new ≡ ReleasedResource (record { 0 = number }) ∷ g.history old
  pub asks_nothing : AsksNothing g old new
