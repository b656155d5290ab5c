-- What each call of a DirectX 12 device leaves of the entry that it names, and of every other.
use Rattle.std.proofs.Common.{◌≡◌, ◌≢◌, ℕ, Option, Some, None, refl, ap, ◌∙◌}
use Rattle.std.specs.FinMap.{get, insert}
use Rattle.gpu_device.specs.declared.d3d12.types.HeapDesc.{HeapDesc}
use Rattle.gpu_device.specs.D3D12.{Entry, Heap, Committed, Placed, Held, remove_if_heap, without_heap, remove_if_resource, without_resource}
use Rattle.gpu_device.proofs.Maps.{remove-insert, get-insert_same, get-insert_other, get-remove_same, get-remove_other}

heap_other : (h : Held) (n : ℕ) (x : Option Entry) (m : ℕ) → m ≢ n → get (remove_if_heap h n x) m ≡ get h m
heap_other h n None m ne = refl
heap_other h n (Some (Heap desc)) m ne = get-remove_other h n m ne
heap_other h n (Some (Committed size)) m ne = refl
heap_other h n (Some (Placed heap offset size)) m ne = refl

pub get-without_heap_other : (h : Held) (n m : ℕ) → m ≢ n → get (without_heap h n) m ≡ get h m
get-without_heap_other h n m ne = heap_other h n (get h n) m ne

resource_other : (h : Held) (n : ℕ) (x : Option Entry) (m : ℕ) → m ≢ n → get (remove_if_resource h n x) m ≡ get h m
resource_other h n None m ne = refl
resource_other h n (Some (Heap desc)) m ne = refl
resource_other h n (Some (Committed size)) m ne = get-remove_other h n m ne
resource_other h n (Some (Placed heap offset size)) m ne = get-remove_other h n m ne

pub get-without_resource_other : (h : Held) (n m : ℕ) → m ≢ n → get (without_resource h n) m ≡ get h m
get-without_resource_other h n m ne = resource_other h n (get h n) m ne

-- ---- what is there goes, what isn't there stays

pub without_heap_is : (h : Held) (n : ℕ) (x : Option Entry) → get h n ≡ x → without_heap h n ≡ remove_if_heap h n x
without_heap_is h n x is = ap (remove_if_heap h n) is

pub without_resource_is : (h : Held) (n : ℕ) (x : Option Entry) → get h n ≡ x → without_resource h n ≡ remove_if_resource h n x
without_resource_is h n x is = ap (remove_if_resource h n) is

-- ---- what was new and went again leaves what was there

pub heap_undone : (h : Held) (n : ℕ) (desc : HeapDesc) → get h n ≡ None → without_heap (insert h n (Heap desc)) n ≡ h
heap_undone h n desc new = without_heap_is _ n _ (get-insert_same h n (Heap desc)) ∙ remove-insert h n (Heap desc) new

pub committed_undone : (h : Held) (n size : ℕ) → get h n ≡ None → without_resource (insert h n (Committed size)) n ≡ h
committed_undone h n size new = without_resource_is _ n _ (get-insert_same h n (Committed size)) ∙ remove-insert h n (Committed size) new

pub placed_undone : (h : Held) (n heap offset size : ℕ) → get h n ≡ None → without_resource (insert h n (Placed heap offset size)) n ≡ h
placed_undone h n heap offset size new =
    without_resource_is _ n _ (get-insert_same h n (Placed heap offset size)) ∙ remove-insert h n (Placed heap offset size) new

-- what a caller at any device needs of the calls' clauses
pub ruleset d3d12_changes = (get-insert_same, get-insert_other, get-without_heap_other, get-without_resource_other, heap_undone, committed_undone, placed_undone)
