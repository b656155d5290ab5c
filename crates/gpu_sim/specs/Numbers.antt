-- The memories of a simulated device keep the laws of a device: look-ups by number, what a write leaves, and that sizes
-- and bytes agree.
use Rattle.std.proofs.Common.{◌≡◌, ◌≢◌, ℕ, zero, suc, ◌+◌, ◌<◌, ◌≤◌, List, [], ◌∷◌, ◌++◌, length, get_or, set, take, drop, Option, Some, None, refl, sym, ap, subst, ◌∙◌, arith, ⊎_elim}
use Rattle.std.proofs.Common.{length-append, length-take, length-drop}
use Rattle.std.proofs.lemmas.Bool.{cases_eq, cases_lt}
use Rattle.std.proofs.lemmas.List.{take-append-le, drop-drop, get_or-set_same, get_or-set_other, get_or_past, set_past}
use Rattle.std.specs.FinMap.{get, insert, get-empty}
use Rattle.std.specs.Global.{Vec}
use Rattle.std.specs.Vec.{with_items_from}
use Rattle.gpu_device.specs.Held as device
use Rattle.gpu_device.specs.Held.{Entry, HasRange, entry_bytes, bytes_of, entry_size, size_of, range_in, range_of, with_bytes, put_bytes, put_range, put_entry, with_range, unmap_entry, unmapped}
use Rattle.gpu_device.specs.Held.{map_entry, mapped_with, IsAsLong, IsWhole}
use Rattle.gpu_device.proofs.Maps.{held_alike, get-insert_same, get-insert_other}
use Rattle.gpu_device.proofs.Writes.{length-put_range, written_entry, get_there, get_elsewhere}
use Rattle.gpu_sim.specs.declared.memory.Contents.{Contents}
use Rattle.gpu_sim.specs.declared.memory.Contents.TheVariants.{Unmapped, Mapped}
use Rattle.gpu_sim.specs.declared.memory.Slot.{Slot}
use Rattle.gpu_sim.specs.declared.memory.Slot.TheVariants.{Free, Held}
use Rattle.gpu_sim.specs.declared.memories.Memories.{Memories}
use Rattle.gpu_sim.specs.Memory.{entry_of, slot_entry, contents_size, contents_bytes, write_contents, write_slot}
use Rattle.gpu_sim.specs.Memories.{held_from, held_in, slot_at, written_memories}

-- ---- look-ups

pub find_before : (ss : List Slot) (k n : ℕ) → n < k → get (held_from k ss) n ≡ None
find_before [] k n lt = get-empty _ n
find_before (Free ∷ ss) k n lt = find_before ss (suc k) n (omega arith)
find_before (Held m ∷ ss) k n lt =
    let ne : n ≢ k = λ e. omega arith in
    get-insert_other (held_from (suc k) ss) k n (entry_of m) ne ∙ find_before ss (suc k) n (omega arith)

find_slot : (ss : List Slot) (k i n : ℕ) → n ≡ i + k → get (held_from k ss) n ≡ slot_entry (get_or ss i Free)
find_slot [] k i n e = get-empty _ n
find_slot (Free ∷ ss) k zero n e = find_before ss (suc k) n (omega arith)
find_slot (Free ∷ ss) k (suc i) n e = find_slot ss (suc k) i n (omega arith)
find_slot (Held m ∷ ss) k zero n e =
    let same : n ≡ k = omega arith in
    ap (get (insert (held_from (suc k) ss) k (entry_of m))) same ∙ get-insert_same (held_from (suc k) ss) k (entry_of m)
find_slot (Held m ∷ ss) k (suc i) n e =
    let ne : n ≢ k = λ same. omega arith in
    get-insert_other (held_from (suc k) ss) k n (entry_of m) ne ∙ find_slot ss (suc k) i n (omega arith)

-- what is held under a number is what its slot holds
pub get-held : (ss : List Slot) (n : ℕ) → get (held_from 1 ss) n ≡ slot_entry (slot_at ss n)
get-held ss zero = find_before ss 1 0 (omega arith)
get-held ss (suc i) = find_slot ss 1 i (suc i) (omega arith)

pub at_zero : (ss : List Slot) → get (held_from 1 ss) 0 ≡ None
at_zero ss = get-held ss 0

-- ---- a slot that changes

pub get_set_there : (ss : List Slot) (i : ℕ) (x : Slot) → i < length ss → get (held_from 1 (set ss i x)) (suc i) ≡ slot_entry x
get_set_there ss i x lt = get-held (set ss i x) (suc i) ∙ ap slot_entry (get_or-set_same ss i x Free lt)

off : (ss : List Slot) (i : ℕ) (x : Slot) (q : ℕ) → q ≢ suc i → slot_at (set ss i x) q ≡ slot_at ss q
off ss i x zero ne = refl
off ss i x (suc j) ne = get_or-set_other ss i j x Free (λ e. ne (ap suc e))

pub get_set_elsewhere : (ss : List Slot) (i : ℕ) (x : Slot) (q : ℕ) → q ≢ suc i → get (held_from 1 (set ss i x)) q ≡ get (held_from 1 ss) q
get_set_elsewhere ss i x q ne = get-held (set ss i x) q ∙ ap slot_entry (off ss i x q ne) ∙ sym (get-held ss q)

-- ---- a write

items_written : (v : Vec ℕ) (s : ℕ) (ws : List ℕ) → (with_items_from v s ws).items ≡ put_range v.items s ws
items_written v s ws =
    let ys : List ℕ = take s v.items ++ (ws ++ drop (length ws) (drop s v.items)) in
    let long : length v.items ≤ length ys = simp (length-append, length-take, length-drop) (omega arith) in
    ap (λ k. take k (ys ++ drop (length ys) v.items)) v.ok.0
    ∙ take-append-le (length v.items) ys _ long
    ∙ ap (λ l. take (length v.items) (take s v.items ++ (ws ++ l))) (drop-drop (length ws) s v.items)

bytes_written : (c : Contents) (s : ℕ) (ws : List ℕ) → contents_bytes (write_contents c s ws) ≡ put_bytes (contents_bytes c) s ws
bytes_written (Unmapped size) s ws = refl
bytes_written (Mapped v) s ws = ap Some (items_written v s ws)

size_written : (c : Contents) (s : ℕ) (ws : List ℕ) → contents_size (write_contents c s ws) ≡ contents_size c
size_written (Unmapped size) s ws = refl
size_written (Mapped v) s ws = ap length (items_written v s ws) ∙ length-put_range v.items s ws

slot_written : (x : Slot) (s : ℕ) (ws : List ℕ) → slot_entry (write_slot x s ws) ≡ written_entry (slot_entry x) s ws
slot_written Free s ws = refl
slot_written (Held m) s ws =
    ap (λ n. Some (record { size = n; memory_type_index = m.memory_type_index; bytes = contents_bytes (write_contents m.contents s ws) })) (size_written m.contents s ws)
    ∙ ap (λ b. Some (record { size = contents_size m.contents; memory_type_index = m.memory_type_index; bytes = b })) (bytes_written m.contents s ws)

written_at : (ss : List Slot) (i s : ℕ) (ws : List ℕ) → get (held_from 1 (set ss i (write_slot (get_or ss i Free) s ws))) (suc i)
    ≡ written_entry (get (held_from 1 ss) (suc i)) s ws
written_at ss i s ws =
    ⊎_elim
    (λ lt. get_set_there ss i _ lt ∙ slot_written (get_or ss i Free) s ws
    ∙ ap (λ x. written_entry x s ws) (sym (get-held ss (suc i))))
    (λ beyond.
    let none : get (held_from 1 ss) (suc i) ≡ None = get-held ss (suc i) ∙ ap slot_entry (get_or_past ss i Free beyond) in
    ap (λ (l : List Slot). get (held_from 1 l) (suc i)) (set_past ss i _ beyond) ∙ none ∙ ap (λ x. written_entry x s ws) (sym none))
    (cases_lt i (length ss))

none_put : (h : device.Held) (n s : ℕ) (ws : List ℕ) (x : Option Entry) → x ≡ None → h ≡ put_entry h n x s ws
none_put h n s ws None e = refl
none_put h n s ws (Some d) e = cc

pub written_held : (m : Memories) (n s : ℕ) (ws : List ℕ) → held_in (written_memories m n s ws) ≡ with_range (held_in m) n s ws
written_held m zero s ws = none_put _ 0 s ws _ (at_zero m.slots.items)
written_held m (suc i) s ws =
    held_alike _ _ (λ q.
    ⊎_elim
    (λ e. subst (λ k. get (held_in (written_memories m (suc i) s ws)) k ≡ get (with_range (held_in m) (suc i) s ws) k) (sym e)
    (written_at m.slots.items i s ws ∙ sym (get_there (held_in m) (suc i) s ws)))
    (λ ne. get_set_elsewhere m.slots.items i _ q ne ∙ sym (get_elsewhere (held_in m) (suc i) s ws q ne))
    (cases_eq q (suc i)))

-- ---- a mapped memory has as many bytes as its size says

contents_whole : (c : Contents) → IsAsLong (contents_size c) (contents_bytes c)
contents_whole (Unmapped size) = tt
contents_whole (Mapped v) = refl

slot_whole : (x : Slot) → IsWhole (slot_entry x)
slot_whole Free = tt
slot_whole (Held m) = contents_whole m.contents

pub whole : (m : Memories) (n : ℕ) → IsWhole (get (held_in m) n)
whole m n = subst IsWhole (sym (get-held m.slots.items n)) (slot_whole (slot_at m.slots.items n))
