-- What each call of a Metal device leaves of the entry that it names, and of every other.
use Rattle.std.proofs.Common.{◌≡◌, ◌≢◌, ℕ, List, Option, Some, None, refl, sym, ap, subst, ◌∙◌, ⊎_elim}
use Rattle.std.proofs.lemmas.Bool.{cases_eq}
use Rattle.std.specs.FinMap.{get, insert}
use Rattle.gpu_device.specs.declared.metal.types.HeapDescriptor.{HeapDescriptor}
use Rattle.gpu_device.specs.declared.metal.types.MTLHeap.{MTLHeap}
use Rattle.gpu_device.specs.Metal.{Entry, Heap, Set, Held, IsHeapEntry, IsHeap, IsSetEntry, IsSet, remove_if_heap, without_heap, change_set, with_member, without_member, with_commit, add_member}
use Rattle.gpu_device.specs.Metal.{remove_member}
use Rattle.gpu_device.proofs.Maps.{remove-insert, get-insert_same, get-insert_other, get-remove_other}

heap_other : (h : Held) (n : ℕ) (x : Option Entry) (m : ℕ) → m ≢ n → get (remove_if_heap h n x) m ≡ get h m
heap_other h n None m ne = refl
heap_other h n (Some (Heap desc size)) m ne = get-remove_other h n m ne
heap_other h n (Some (Set members committed)) m ne = refl

pub get-without_heap_other : (h : Held) (n m : ℕ) → m ≢ n → get (without_heap h n) m ≡ get h m
get-without_heap_other h n m ne = heap_other h n (get h n) m ne

pub without_heap_is : (h : Held) (n : ℕ) (x : Option Entry) → get h n ≡ x → without_heap h n ≡ remove_if_heap h n x
without_heap_is h n x is = ap (remove_if_heap h n) is

pub heap_undone : (h : Held) (n : ℕ) (desc : HeapDescriptor) (size : ℕ) → get h n ≡ None → without_heap (insert h n (Heap desc size)) n ≡ h
heap_undone h n desc size new = without_heap_is _ n _ (get-insert_same h n (Heap desc size)) ∙ remove-insert h n (Heap desc size) new

-- ---- sets

set_other : (h : Held) (n : ℕ) (x : Option Entry) (f : List MTLHeap → List MTLHeap → Entry) (m : ℕ) → m ≢ n → get (change_set h n x f) m ≡ get h m
set_other h n None f m ne = refl
set_other h n (Some (Heap desc size)) f m ne = refl
set_other h n (Some (Set members committed)) f m ne = get-insert_other h n m _ ne

pub get-with_member_other : (h : Held) (n : ℕ) (heap : MTLHeap) (m : ℕ) → m ≢ n → get (with_member h n heap) m ≡ get h m
get-with_member_other h n heap m ne = set_other h n (get h n) _ m ne

pub get-without_member_other : (h : Held) (n : ℕ) (heap : MTLHeap) (m : ℕ) → m ≢ n → get (without_member h n heap) m ≡ get h m
get-without_member_other h n heap m ne = set_other h n (get h n) _ m ne

pub get-with_commit_other : (h : Held) (n m : ℕ) → m ≢ n → get (with_commit h n) m ≡ get h m
get-with_commit_other h n m ne = set_other h n (get h n) _ m ne

set_there : (h : Held) (n : ℕ) (f : List MTLHeap → List MTLHeap → Entry) (members committed : List MTLHeap) → get h n ≡ Some (Set members committed)
    → get (change_set h n (get h n) f) n ≡ Some (f members committed)
set_there h n f members committed is = ap (λ x. get (change_set h n x f) n) is ∙ get-insert_same h n (f members committed)

pub get-with_member : (h : Held) (n : ℕ) (heap : MTLHeap) (members committed : List MTLHeap) → get h n ≡ Some (Set members committed)
    → get (with_member h n heap) n ≡ Some (Set (add_member members heap) committed)
get-with_member h n heap members committed is = set_there h n _ members committed is

pub get-without_member : (h : Held) (n : ℕ) (heap : MTLHeap) (members committed : List MTLHeap) → get h n ≡ Some (Set members committed)
    → get (without_member h n heap) n ≡ Some (Set (remove_member members heap) committed)
get-without_member h n heap members committed is = set_there h n _ members committed is

pub get-with_commit : (h : Held) (n : ℕ) (members committed : List MTLHeap) → get h n ≡ Some (Set members committed)
    → get (with_commit h n) n ≡ Some (Set members members)
get-with_commit h n members committed is = set_there h n _ members committed is

-- ---- what stays a heap, and what stays a set

heap_kept : (h : Held) (n : ℕ) (x : Option Entry) (f : List MTLHeap → List MTLHeap → Entry) (m : ℕ) → get h n ≡ x → IsHeap h m → IsHeapEntry (get (change_set h n x f) m)
heap_kept h n None f m is heap = heap
heap_kept h n (Some (Heap desc size)) f m is heap = heap
heap_kept h n (Some (Set members committed)) f m is heap =
    ⊎_elim
    (λ (e : m ≡ n). absurd (subst IsHeapEntry (ap (get h) e ∙ is) heap))
    (λ ne. subst IsHeapEntry (sym (get-insert_other h n m _ ne)) heap)
    (cases_eq m n)

set_kept : (h : Held) (n : ℕ) (x : Option Entry) (f : List MTLHeap → List MTLHeap → Entry) (m : ℕ)
    → ((members committed : List MTLHeap) → IsSetEntry (Some (f members committed))) → IsSet h m → IsSetEntry (get (change_set h n x f) m)
set_kept h n None f m stays is_set = is_set
set_kept h n (Some (Heap desc size)) f m stays is_set = is_set
set_kept h n (Some (Set members committed)) f m stays is_set =
    ⊎_elim
    (λ (e : m ≡ n). subst (λ k. IsSetEntry (get (insert h n (f members committed)) k)) (sym e)
    (subst IsSetEntry (sym (get-insert_same h n (f members committed))) (stays members committed)))
    (λ ne. subst IsSetEntry (sym (get-insert_other h n m _ ne)) is_set)
    (cases_eq m n)

pub with_member-keeps_heap : (h : Held) (n : ℕ) (heap : MTLHeap) (m : ℕ) → IsHeap h m → IsHeap (with_member h n heap) m
with_member-keeps_heap h n heap m is = heap_kept h n (get h n) _ m refl is

pub with_member-keeps_set : (h : Held) (n : ℕ) (heap : MTLHeap) (m : ℕ) → IsSet h m → IsSet (with_member h n heap) m
with_member-keeps_set h n heap m is = set_kept h n (get h n) _ m (λ members committed. tt) is

pub without_member-keeps_heap : (h : Held) (n : ℕ) (heap : MTLHeap) (m : ℕ) → IsHeap h m → IsHeap (without_member h n heap) m
without_member-keeps_heap h n heap m is = heap_kept h n (get h n) _ m refl is

pub without_member-keeps_set : (h : Held) (n : ℕ) (heap : MTLHeap) (m : ℕ) → IsSet h m → IsSet (without_member h n heap) m
without_member-keeps_set h n heap m is = set_kept h n (get h n) _ m (λ members committed. tt) is

pub insert-keeps_heap : (h : Held) (n : ℕ) (e : Entry) (m : ℕ) → get h n ≡ None → IsHeap h m → IsHeap (insert h n e) m
insert-keeps_heap h n e m new is =
    ⊎_elim
    (λ (same : m ≡ n). absurd (subst IsHeapEntry (ap (get h) same ∙ new) is))
    (λ ne. subst IsHeapEntry (sym (get-insert_other h n m e ne)) is)
    (cases_eq m n)

pub insert-keeps_set : (h : Held) (n : ℕ) (e : Entry) (m : ℕ) → get h n ≡ None → IsSet h m → IsSet (insert h n e) m
insert-keeps_set h n e m new is =
    ⊎_elim
    (λ (same : m ≡ n). absurd (subst IsSetEntry (ap (get h) same ∙ new) is))
    (λ ne. subst IsSetEntry (sym (get-insert_other h n m e ne)) is)
    (cases_eq m n)

pub insert-is_heap : (h : Held) (n : ℕ) (desc : HeapDescriptor) (size : ℕ) → IsHeap (insert h n (Heap desc size)) n
insert-is_heap h n desc size = subst IsHeapEntry (sym (get-insert_same h n (Heap desc size))) tt

pub insert-is_set : (h : Held) (n : ℕ) (members committed : List MTLHeap) → IsSet (insert h n (Set members committed)) n
insert-is_set h n members committed = subst IsSetEntry (sym (get-insert_same h n (Set members committed))) tt

-- what a caller at any device needs of the calls' clauses
pub ruleset metal_changes = (
  get-insert_same,
  get-insert_other,
  get-without_heap_other,
  get-with_member_other,
  get-without_member_other,
  get-with_commit_other,
  heap_undone,
  get-with_member,
  get-without_member,
  get-with_commit,
)

-- what is new is a heap or a set, and what was one stays one
pub ruleset metal_kinds = (insert-is_heap, insert-is_set, with_member-keeps_heap, with_member-keeps_set, without_member-keeps_heap, without_member-keeps_set, insert-keeps_heap, insert-keeps_set)
