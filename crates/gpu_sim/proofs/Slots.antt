-- What each change of a slot makes of the memories that a simulated device holds.
use Rattle.std.proofs.Common.{◌≡◌, ◌≢◌, ℕ, zero, suc, ◌+◌, ◌-◌, ◌<◌, ◌≤◌, List, [], ◌∷◌, ◌++◌, length, get_or, set, Some, None, IsSome, is_some, cond, count_by, refl, sym, ap, subst, ◌∙◌, arith}
use Rattle.std.proofs.Common.{⊎_elim}
use Rattle.std.proofs.lemmas.Bool.{cases_eq, cases_lt}
use Rattle.std.proofs.lemmas.List.{get_or_past}
use Rattle.std.proofs.lemmas.List.Sums.{sum_by-cons}
use Rattle.std.proofs.lemmas.Option.{get_or_from_slice_get, slice_get_read}
use Rattle.std.specs.FinMap.{get, insert, remove, len-empty, len-insert}
use Rattle.std.specs.FinMap.{len as map_len}
use Rattle.std.specs.Cmp.{nat_cmp_total}
use Rattle.std.specs.Global.{Vec}
use Rattle.gpu_device.specs.Held as device
use Rattle.gpu_device.specs.Held.{Entry, HasRange, entry_bytes, bytes_of, entry_size, size_of, range_in, range_of, with_bytes, put_bytes, put_range, put_entry, with_range, unmap_entry, unmapped}
use Rattle.gpu_device.specs.Held.{map_entry, mapped_with, IsAsLong, IsWhole}
use Rattle.gpu_device.proofs.Maps.{held_alike, get-insert_same, get-insert_other, get-remove_same, get-remove_other, remove_none}
use Rattle.gpu_device.proofs.Writes.{range_is_there}
use Rattle.gpu_sim.specs.declared.memory.Slot.{Slot}
use Rattle.gpu_sim.specs.declared.memory.Slot.TheVariants.{Free, Held}
use Rattle.gpu_sim.specs.declared.memories.Memories.{Memories}
use Rattle.gpu_sim.specs.Memory.{entry_of, slot_entry, slot_size, slot_bytes, is_held, write_slot, mapped_slot, unmapped_slot}
use Rattle.gpu_sim.specs.Memories.{held_from, slot_at, with_slot, written_memories}
use Rattle.gpu_sim.specs.Numbers.{find_before, get-held, get_set_there, get_set_elsewhere}

-- the same at a number from 1 on
pub at_number : (ss : List Slot) (n : ℕ) → 1 ≤ n → get (held_from 1 ss) n ≡ slot_entry (get_or ss (n - 1) Free)
at_number ss zero h = absurd (omega arith)
at_number ss (suc i) h = let e : suc i - 1 ≡ i = omega arith in get-held ss (suc i) ∙ ap (λ k. slot_entry (get_or ss k Free)) (sym e)

-- nothing is held under a number that was not given out
pub past : (ss : List Slot) (n : ℕ) → 1 ≤ n → length ss ≤ n - 1 → get (held_from 1 ss) n ≡ None
past ss n h le = at_number ss n h ∙ ap slot_entry (get_or_past ss (n - 1) Free le)

-- ---- a slot that changes

set_held : (ss : List Slot) (i : ℕ) (y : Slot) (e : Entry) → i < length ss → slot_entry y ≡ Some e → held_from 1 (set ss i y) ≡ insert (held_from 1 ss) (suc i) e
set_held ss i y e lt is =
    held_alike _ _ (λ q.
    ⊎_elim
    (λ same. subst (λ k. get (held_from 1 (set ss i y)) k ≡ get (insert (held_from 1 ss) (suc i) e) k) (sym same)
    (get_set_there ss i y lt ∙ is ∙ sym (get-insert_same (held_from 1 ss) (suc i) e)))
    (λ ne. get_set_elsewhere ss i y q ne ∙ sym (get-insert_other (held_from 1 ss) (suc i) q e ne))
    (cases_eq q (suc i)))

set_free : (ss : List Slot) (i : ℕ) → i < length ss → held_from 1 (set ss i Free) ≡ remove (held_from 1 ss) (suc i)
set_free ss i lt =
    held_alike _ _ (λ q.
    ⊎_elim
    (λ same. subst (λ k. get (held_from 1 (set ss i Free)) k ≡ get (remove (held_from 1 ss) (suc i)) k) (sym same)
    (get_set_there ss i Free lt ∙ sym (get-remove_same (held_from 1 ss) (suc i))))
    (λ ne. get_set_elsewhere ss i Free q ne ∙ sym (get-remove_other (held_from 1 ss) (suc i) q ne))
    (cases_eq q (suc i)))

size_seen : (x : Slot) → entry_size (slot_entry x) ≡ slot_size x
size_seen Free = refl
size_seen (Held m) = refl

-- the slot at an index, in the words of a read
same_item : (ss : List Slot) (i : ℕ) (x : Slot) → i < length ss → x ≡ get_or ss i x → get_or ss i Free ≡ x
same_item ss i x lt is = get_or_from_slice_get ss i x Free (slice_get_read ss (length ss) i x refl lt is)

set_unmapped : (ss : List Slot) (i : ℕ) (x : Slot) → i < length ss → get (held_from 1 ss) (suc i) ≡ slot_entry x
    → held_from 1 (set ss i (unmapped_slot x)) ≡ unmap_entry (held_from 1 ss) (suc i) (slot_entry x)
set_unmapped ss i Free lt is = set_free ss i lt ∙ remove_none (held_from 1 ss) (suc i) is
set_unmapped ss i (Held m) lt is = set_held ss i _ (with_bytes (entry_of m) None) lt refl

set_mapped : (ss : List Slot) (i : ℕ) (x : Slot) (v : Vec ℕ) → i < length ss → get (held_from 1 ss) (suc i) ≡ slot_entry x → length v.items ≡ slot_size x
    → held_from 1 (set ss i (mapped_slot x v)) ≡ map_entry (held_from 1 ss) (suc i) (slot_entry x) v.items
set_mapped ss i Free v lt is long = set_free ss i lt ∙ remove_none (held_from 1 ss) (suc i) is
set_mapped ss i (Held m) v lt is long =
    set_held ss i _ (with_bytes (entry_of m) (Some v.items)) lt
    (ap (λ n. Some (record { size = n; memory_type_index = m.memory_type_index; bytes = Some v.items })) long)

-- ---- the same in the words of the code: the slot x that was read at index i, which has number n

read_at : (ss : List Slot) (n i : ℕ) (x : Slot) → i + 1 ≡ n → i < length ss → x ≡ get_or ss i x → get (held_from 1 ss) n ≡ slot_entry x
read_at ss n i x e lt is =
    let same : n ≡ suc i = omega arith in
    ap (get (held_from 1 ss)) same ∙ get-held ss (suc i) ∙ ap slot_entry (same_item ss i x lt is)

pub freed : (ss : List Slot) (n i : ℕ) → i + 1 ≡ n → i < length ss → held_from 1 (set ss i Free) ≡ remove (held_from 1 ss) n
freed ss n i e lt = let same : suc i ≡ n = omega arith in set_free ss i lt ∙ ap (remove (held_from 1 ss)) same

pub unmapped_at : (ss : List Slot) (n i : ℕ) (x : Slot) → i + 1 ≡ n → i < length ss → x ≡ get_or ss i x
    → held_from 1 (set ss i (unmapped_slot x)) ≡ unmapped (held_from 1 ss) n
unmapped_at ss n i x e lt is =
    let same : suc i ≡ n = omega arith in
    let there = read_at ss n i x e lt is in
    set_unmapped ss i x lt (ap (get (held_from 1 ss)) same ∙ there)
    ∙ ap (λ k. unmap_entry (held_from 1 ss) k (slot_entry x)) same
    ∙ ap (unmap_entry (held_from 1 ss) n) (sym there)

pub mapped_at : (ss : List Slot) (n i : ℕ) (x : Slot) (v : Vec ℕ) → i + 1 ≡ n → i < length ss → x ≡ get_or ss i x → length v.items ≡ size_of (held_from 1 ss) n
    → held_from 1 (set ss i (mapped_slot x v)) ≡ mapped_with (held_from 1 ss) n v.items
mapped_at ss n i x v e lt is long =
    let same : suc i ≡ n = omega arith in
    let there = read_at ss n i x e lt is in
    set_mapped ss i x v lt (ap (get (held_from 1 ss)) same ∙ there) (long ∙ ap entry_size there ∙ size_seen x)
    ∙ ap (λ k. map_entry (held_from 1 ss) k (slot_entry x) v.items) same
    ∙ ap (λ y. map_entry (held_from 1 ss) n y v.items) (sym there)

pub size_at : (ss : List Slot) (n i : ℕ) (x : Slot) → i + 1 ≡ n → i < length ss → x ≡ get_or ss i x → slot_size x ≡ size_of (held_from 1 ss) n
size_at ss n i x e lt is = sym (size_seen x) ∙ ap entry_size (sym (read_at ss n i x e lt is))

bytes_seen : (x : Slot) → entry_bytes (slot_entry x) ≡ slot_bytes x
bytes_seen Free = refl
bytes_seen (Held m) = refl

pub bytes_at : (ss : List Slot) (n i : ℕ) (x : Slot) → i + 1 ≡ n → i < length ss → x ≡ get_or ss i x → slot_bytes x ≡ bytes_of (held_from 1 ss) n
bytes_at ss n i x e lt is = sym (bytes_seen x) ∙ ap entry_bytes (sym (read_at ss n i x e lt is))

-- ---- how many are held

counted : (ss : List Slot) (k : ℕ) → map_len (held_from k ss) ≡ count_by is_held ss
counted [] k = len-empty _ _
counted (Free ∷ ss) k = counted ss (suc k)
counted (Held m ∷ ss) k =
    let rest : device.Held = held_from (suc k) ss in
    let new : get rest k ≡ None = find_before ss (suc k) k (omega arith) in
    len-insert nat_cmp_total rest k (entry_of m) ∙ ap (λ x. cond (is_some x) (map_len rest) (map_len rest + 1)) new
    ∙ omega (arith, counted ss (suc k), sum_by-cons (λ x. cond (is_held x) 1 0) (Held m) ss)

pub count_held : (ss : List Slot) → map_len (held_from 1 ss) ≡ count_by is_held ss
count_held ss = counted ss 1

-- ---- a slot that is added

get_or_joined : (ss : List Slot) (x : Slot) (j : ℕ) → j ≢ length ss → get_or (ss ++ x ∷ []) j Free ≡ get_or ss j Free
get_or_joined [] x zero ne = absurd (ne refl)
get_or_joined [] x (suc j) ne = refl
get_or_joined (s ∷ ss) x zero ne = refl
get_or_joined (s ∷ ss) x (suc j) ne = get_or_joined ss x j (λ e. ne (ap suc e))

get_or_last : (ss : List Slot) (x : Slot) → get_or (ss ++ x ∷ []) (length ss) Free ≡ x
get_or_last [] x = refl
get_or_last (s ∷ ss) x = get_or_last ss x

on_joined : (ss : List Slot) (x : Slot) (q : ℕ) → q ≢ suc (length ss) → slot_at (ss ++ x ∷ []) q ≡ slot_at ss q
on_joined ss x zero ne = refl
on_joined ss x (suc j) ne = get_or_joined ss x j (λ e. ne (ap suc e))

pub not_held : (ss : List Slot) (n : ℕ) → n ≡ length ss + 1 → get (held_from 1 ss) n ≡ None
not_held ss n e = past ss n (omega arith) (omega arith)

pub pushed : (ss : List Slot) (x : Slot) (e : Entry) (n : ℕ) → n ≡ length ss + 1 → slot_entry x ≡ Some e → held_from 1 (ss ++ x ∷ []) ≡ insert (held_from 1 ss) n e
pushed ss x e n is_n is =
    let same : n ≡ suc (length ss) = omega arith in
    held_alike _ _ (λ q.
    ⊎_elim
    (λ there. subst (λ k. get (held_from 1 (ss ++ x ∷ [])) k ≡ get (insert (held_from 1 ss) n e) k) (sym there)
    (ap (get (held_from 1 (ss ++ x ∷ []))) same ∙ get-held (ss ++ x ∷ []) (suc (length ss)) ∙ ap slot_entry (get_or_last ss x) ∙ is ∙ sym (get-insert_same (held_from 1 ss) n e)))
    (λ ne. get-held (ss ++ x ∷ []) q ∙ ap slot_entry (on_joined ss x q (λ there. ne (there ∙ sym same))) ∙ sym (get-held ss q)
    ∙ sym (get-insert_other (held_from 1 ss) n q e ne))
    (cases_eq q n))

-- ---- a memory that may be written

bytes_held : (ss : List Slot) (n : ℕ) → bytes_of (held_from 1 ss) n ≡ slot_bytes (slot_at ss n)
bytes_held ss n = ap entry_bytes (get-held ss n) ∙ bytes_seen (slot_at ss n)

within_slots : (ss : List Slot) (i s l : ℕ) → HasRange (slot_bytes (get_or ss i Free)) s l → i < length ss
within_slots ss i s l has =
    ⊎_elim (λ lt. lt)
    (λ beyond. absurd (subst (λ x. HasRange (slot_bytes x) s l) (get_or_past ss i Free beyond) has))
    (cases_lt i (length ss))

-- the range is in the slot of this number
pub record IsOpen (ss : List Slot) (n s l : ℕ) : Type 0 where
  pub positive : 1 ≤ n
  pub within : n - 1 < length ss
  pub has : HasRange (slot_bytes (get_or ss (n - 1) Free)) s l

pub opened : (ss : List Slot) (n s l : ℕ) → IsSome (range_of (held_from 1 ss) n s l) → IsOpen ss n s l
opened ss zero s l some = absurd (range_is_there (slot_bytes (slot_at ss 0)) s l (subst (λ b. IsSome (range_in s l b)) (bytes_held ss 0) some))
opened ss (suc i) s l some =
    let has : HasRange (slot_bytes (get_or ss i Free)) s l =
    range_is_there (slot_bytes (slot_at ss (suc i))) s l (subst (λ b. IsSome (range_in s l b)) (bytes_held ss (suc i)) some) in
    let e : suc i - 1 ≡ i = omega arith in
    record {
      positive = omega arith;
      within = omega (arith, within_slots ss i s l has);
      has = subst (λ k. HasRange (slot_bytes (get_or ss k Free)) s l) (sym e) has;
    }

pub open_slot : (ss : List Slot) (n s l : ℕ) (x : Slot) → IsOpen ss n s l → x ≡ get_or ss (n - 1) x → x ≡ get_or ss (n - 1) Free
open_slot ss n s l x o is = sym (same_item ss (n - 1) x o.within is)

pub written_memories_is : (m : Memories) (n s : ℕ) (ws : List ℕ) → 1 ≤ n
    → with_slot m (n - 1) (write_slot (get_or m.slots.items (n - 1) Free) s ws) ≡ written_memories m n s ws
written_memories_is m zero s ws h = absurd (omega arith)
written_memories_is m (suc i) s ws h =
    let e : suc i - 1 ≡ i = omega arith in
    ap (λ k. with_slot m k (write_slot (get_or m.slots.items k Free) s ws)) e
