-- What a Metal device holds and tells of itself, and what each call makes of it.
use Rattle.std.specs.Prelude.{ℕ, ℤ, not, nat_eq, if◌then◌else◌, List, [], ◌∷◌, ◌++◌, filter, Option, Some, None, Result, Ok, Err}
use Rattle.std.specs.List.{list_any}
use Rattle.std.specs.Ordering.{nat_cmp}
use Rattle.std.specs.FinMap.{FinMap, get, insert, remove}
use Rattle.gpu_device.specs.declared.metal.types.HeapDescriptor.{HeapDescriptor}
use Rattle.gpu_device.specs.declared.metal.types.MTLHeap.{MTLHeap}
use Rattle.gpu_device.specs.declared.metal.types.MTLResidencySet.{MTLResidencySet}
use Rattle.gpu_device.specs.declared.metal.types.SizeAndAlign.{SizeAndAlign}
use Rattle.gpu_device.specs.declared.metal.types.StorageMode.{StorageMode}
use Rattle.gpu_device.specs.declared.metal.types.TextureDescriptor.{TextureDescriptor}

-- ---- what a device tells of itself: what a resource takes of a heap

pub record Properties : Type 0 where
  -- a buffer of so many bytes
  pub buffer_size : ℕ → StorageMode → SizeAndAlign
  pub texture_size : TextureDescriptor → SizeAndAlign
  -- an acceleration structure of so many bytes
  pub acceleration_structure_size : ℕ → SizeAndAlign

-- ---- what is there

-- what a number stands for
pub data Entry : Type 0 where
  -- a heap, as it was asked for
  Heap : (desc : HeapDescriptor) (size : ℕ) → Entry
  -- a residency set: its heaps in the order in which they were added, and those that it had when it was last committed
  Set : (members committed : List MTLHeap) → Entry

-- heaps and sets, by number
abbrev pub Held : Type 0
Held = FinMap nat_cmp Entry

abbrev pub IsHeapEntry : Option Entry → Type 0
IsHeapEntry None = ⊥
IsHeapEntry (Some (Heap desc size)) = Unit {0}
IsHeapEntry (Some (Set members committed)) = ⊥

-- the number is a heap's
abbrev pub IsHeap : Held → ℕ → Type 0
IsHeap held number = IsHeapEntry (get held number)

abbrev pub IsSetEntry : Option Entry → Type 0
IsSetEntry None = ⊥
IsSetEntry (Some (Heap desc size)) = ⊥
IsSetEntry (Some (Set members committed)) = Unit {0}

-- the number is a set's
abbrev pub IsSet : Held → ℕ → Type 0
IsSet held number = IsSetEntry (get held number)

abbrev pub entry_members : Option Entry → Option (List MTLHeap)
entry_members None = None
entry_members (Some (Heap desc size)) = None
entry_members (Some (Set members committed)) = Some members

-- the heaps of a set, where it is held
abbrev pub members_of : Held → ℕ → Option (List MTLHeap)
members_of held set = entry_members (get held set)

abbrev pub entry_committed : Option Entry → Option (List MTLHeap)
entry_committed None = None
entry_committed (Some (Heap desc size)) = None
entry_committed (Some (Set members committed)) = Some committed

-- the heaps that a set had when it was last committed, where it is held
abbrev pub committed_of : Held → ℕ → Option (List MTLHeap)
committed_of held set = entry_committed (get held set)

-- ---- what an answer changes

-- the number that an answer grants: an error and null grant none
abbrev pub granted_heap : Option MTLHeap → Option ℕ
granted_heap None = None
granted_heap (Some heap) = Some heap.0

abbrev pub granted_set : Result MTLResidencySet ℤ → Option ℕ
granted_set (Ok set) = Some set.0
granted_set (Err code) = None

-- ---- what the other calls change

abbrev pub remove_if_heap : Held → ℕ → Option Entry → Held
remove_if_heap held number None = held
remove_if_heap held number (Some (Heap desc size)) = remove held number
remove_if_heap held number (Some (Set members committed)) = held

-- the same without this heap; nothing changes where the number is no heap's
abbrev pub without_heap : Held → ℕ → Held
without_heap held number = remove_if_heap held number (get held number)

-- these members and a heap, which stands once among them
abbrev pub add_member : List MTLHeap → MTLHeap → List MTLHeap
add_member members heap = if list_any (λ member. nat_eq member.0 heap.0) members then members else members ++ heap ∷ []

-- these members without a heap
abbrev pub remove_member : List MTLHeap → MTLHeap → List MTLHeap
remove_member members heap = filter (λ member. not (nat_eq member.0 heap.0)) members

abbrev pub change_set : Held → ℕ → Option Entry → (List MTLHeap → List MTLHeap → Entry) → Held
change_set held set None change = held
change_set held set (Some (Heap desc size)) change = held
change_set held set (Some (Set members committed)) change = insert held set (change members committed)

-- the same with this heap among the members of this set
abbrev pub with_member : Held → ℕ → MTLHeap → Held
with_member held set heap = change_set held set (get held set) (λ members committed. Set (add_member members heap) committed)

-- the same without this heap among the members of this set
abbrev pub without_member : Held → ℕ → MTLHeap → Held
without_member held set heap = change_set held set (get held set) (λ members committed. Set (remove_member members heap) committed)

-- the same with the members of this set as its committed members
abbrev pub with_commit : Held → ℕ → Held
with_commit held set = change_set held set (get held set) (λ members committed. Set members members)
