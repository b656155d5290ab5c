-- The handles of the live blocks, one after another.
use Rattle.std.proofs.Common.{◌≡◌, ◌∙◌, ◌≤◌, ◌⊎◌, refl, sym, ap, ℕ, zero, suc, ◌+◌, List, [], ◌∷◌, ◌++◌, length, drop, Option, Some, None, inl, inr, ⊎_elim, arith}
use Rattle.gpu_core.specs.TypeState.{Slot, slot_at, block_number}
use Rattle.gpu_core.specs.Blocks.{Slots, slots_at, block_at}
use Rattle.gpu_core.proofs.Options.{none_some, some_same}
use Rattle.gpu_pool.specs.Handles.{handles_in, all_handles, handles_from}

later : (i : ℕ) → suc i + 1 ≡ suc (i + 1)
later i = omega arith

-- ---- in the slots of one memory type

nothing_left : {A : Type 0} (i : ℕ) → drop {A = A} i [] ≡ []
nothing_left zero = refl
nothing_left (suc i) = refl

pub past_slots : {H : Type 0} (ss : List (Option (Slot H))) (i : ℕ) → length ss ≤ i → handles_in (drop i ss) ≡ []
past_slots [] i past = ap handles_in (nothing_left i)
past_slots (s ∷ ss) zero past = absurd (omega (arith, past))
past_slots (s ∷ ss) (suc i) past = past_slots ss i (omega (arith, past))

pub skip_slot : {H : Type 0} (ss : List (Option (Slot H))) (i : ℕ) → block_number (slot_at ss i) ≡ None → handles_in (drop i ss) ≡ handles_in (drop (i + 1) ss)
skip_slot [] i none = ap handles_in (nothing_left i) ∙ sym (ap handles_in (nothing_left (i + 1)))
skip_slot (None ∷ ss) zero none = refl
skip_slot (Some s ∷ ss) zero none = absurd (none_some s.handle (sym none))
skip_slot (s ∷ ss) (suc i) none = skip_slot ss i none ∙ sym (ap (λ k. handles_in (drop k (s ∷ ss))) (later i))

pub take_slot : {H : Type 0} (ss : List (Option (Slot H))) (i : ℕ) (handle : H) → block_number (slot_at ss i) ≡ Some handle → handles_in (drop i ss) ≡ handle ∷ handles_in (drop (i + 1) ss)
take_slot [] i handle is = absurd (none_some handle is)
take_slot (None ∷ ss) zero handle is = absurd (none_some handle is)
take_slot {H} (Some s ∷ ss) zero handle is = ap (λ (h : H). h ∷ handles_in ss) (some_same s.handle handle is)
take_slot (s ∷ ss) (suc i) handle is = take_slot ss i handle is ∙ sym (ap (λ k. handle ∷ handles_in (drop k (s ∷ ss))) (later i))

-- ---- among all memory types

pub all_from : {H : Type 0} (ss : Slots H) (t : ℕ) → all_handles (drop t ss) ≡ handles_in (slots_at ss t) ++ all_handles (drop (t + 1) ss)
all_from [] t = ap all_handles (nothing_left t) ∙ sym (ap all_handles (nothing_left (t + 1)))
all_from (s ∷ ss) zero = refl
all_from (s ∷ ss) (suc t) = all_from ss t ∙ sym (ap (λ k. handles_in (slots_at ss t) ++ all_handles (drop k (s ∷ ss))) (later t))

-- the next memory type, once none is left in this one
pub next_type : {H : Type 0} (ss : Slots H) (t i : ℕ) → handles_in (drop i (slots_at ss t)) ≡ [] → handles_from t i ss ≡ handles_from (t + 1) 0 ss
next_type {H} ss t i none = ap (λ (handles : List H). handles ++ all_handles (drop (t + 1) ss)) none ∙ all_from ss (t + 1)

pub past_types : {H : Type 0} (ss : Slots H) (t i : ℕ) → length ss ≤ t → handles_from t i ss ≡ []
past_types {H} [] t i past = ap (λ (handles : List H). handles ++ all_handles (drop (t + 1) [])) (ap handles_in (nothing_left i)) ∙ ap all_handles (nothing_left (t + 1))
past_types (s ∷ ss) zero i past = absurd (omega (arith, past))
past_types (s ∷ ss) (suc t) i past = ap (λ k. handles_in (drop i (slots_at ss t)) ++ all_handles (drop k (s ∷ ss))) (later t) ∙ past_types ss t i (omega (arith, past))

pub from_first : {H : Type 0} (ss : Slots H) → handles_from 0 0 ss ≡ all_handles ss
from_first ss = sym (all_from ss 0)

pub ruleset handles_go_on = (past_slots, skip_slot, take_slot, next_type, past_types, from_first)

-- ---- which blocks they are of

abbrev pub In : {H : Type 0} → List H → H → Type 0
In [] x = ⊥
In (y ∷ ys) x = (y ≡ x) ⊎ In ys x

in_left : {H : Type 0} (xs ys : List H) (x : H) → In xs x → In (xs ++ ys) x
in_left [] ys x h = absurd h
in_left (z ∷ xs) ys x h = ⊎_elim (λ e. inl e) (λ later. inr (in_left xs ys x later)) h

in_right : {H : Type 0} (xs ys : List H) (x : H) → In ys x → In (xs ++ ys) x
in_right [] ys x h = h
in_right (z ∷ xs) ys x h = inr (in_right xs ys x h)

pub in_either : {H : Type 0} (xs ys : List H) (x : H) → In (xs ++ ys) x → In xs x ⊎ In ys x
in_either [] ys x h = inr h
in_either (z ∷ xs) ys x h =
    ⊎_elim
    (λ e. inl (inl e))
    (λ later. ⊎_elim (λ l. inl (inr l)) (λ r. inr r) (in_either xs ys x later))
    h

in_slots : {H : Type 0} (ss : List (Option (Slot H))) (i : ℕ) (s : Slot H) → slot_at ss i ≡ Some s → In (handles_in ss) s.handle
in_slots [] i s at = absurd (none_some s at)
in_slots (None ∷ ss) zero s at = absurd (none_some s at)
in_slots (None ∷ ss) (suc i) s at = in_slots ss i s at
in_slots {H} (Some a ∷ ss) zero s at = inl (ap (λ (x : Slot H). x.handle) (some_same a s at))
in_slots (Some a ∷ ss) (suc i) s at = inr (in_slots ss i s at)

-- each live block's handle is listed
pub block_listed : {H : Type 0} (ss : Slots H) (t i : ℕ) (s : Slot H) → block_at ss t i ≡ Some s → In (all_handles ss) s.handle
block_listed [] t i s at = absurd (none_some s at)
block_listed (x ∷ ss) zero i s at = in_left (handles_in x) (all_handles ss) s.handle (in_slots x i s at)
block_listed (x ∷ ss) (suc t) i s at = in_right (handles_in x) (all_handles ss) s.handle (block_listed ss t i s at)

pub slot_of : {H : Type 0} (ss : List (Option (Slot H))) (handle : H) → In (handles_in ss) handle → (i : ℕ) × (s : Slot H) × (slot_at ss i ≡ Some s) × (s.handle ≡ handle)
slot_of [] handle h = absurd h
slot_of (None ∷ ss) handle h = let f = slot_of ss handle h in (suc f.0, f.1, f.2, f.3)
slot_of (Some a ∷ ss) handle h = ⊎_elim (λ e. (0, a, refl, e)) (λ later. let f = slot_of ss handle later in (suc f.0, f.1, f.2, f.3)) h

-- a handle that is listed is a live block's
pub listed_block : {H : Type 0} (ss : Slots H) (handle : H) → In (all_handles ss) handle → (t : ℕ) × (i : ℕ) × (s : Slot H) × (block_at ss t i ≡ Some s) × (s.handle ≡ handle)
listed_block [] handle h = absurd h
listed_block (x ∷ ss) handle h =
    ⊎_elim
    (λ here. let f = slot_of x handle here in (0, f.0, f.1, f.2, f.3))
    (λ later. let f = listed_block ss handle later in (suc f.0, f.1, f.2, f.3, f.4))
    (in_either (handles_in x) (all_handles ss) handle h)
