-- The empty slots of a memory type, and where a new block goes.
use Rattle.std.proofs.Common.{◌≡◌, ◌<◌, ◌≤◌, ℕ, zero, suc, Bool, true, false, arith, List, [], ◌∷◌, length, refl, sym, ap, subst, inl, inr, Option, Some, None}
use Rattle.std.specs.Prelude.{slice_index}
use Rattle.std.proofs.lemmas.Bool.{cases_eq}
use Rattle.std.proofs.lemmas.List.Quantifiers.{position-Some}
use Rattle.std.proofs.lemmas.List.Sums.{position_or_len_is}
use Rattle.std.proofs.lemmas.Grind.{common_steps}
use Rattle.std.specs.List.{position_or_len}
use Rattle.gpu_core.specs.TypeState.{Slot, slot_at, is_empty_slot, lowest_empty, highest_empty, highest_below}
use Rattle.gpu_core.specs.TypeTake.{new_slot}
use Rattle.gpu_core.specs.Slots.{vacancies, AreNoted, IsEmptyAt}
use Rattle.gpu_core.specs.declared.slots.Notes.{Notes}

-- what fails at each index below n fails to be found
none_below : (p : ℕ → Bool) (n : ℕ) → ((i : ℕ) → i < n → p i ≡ false) → highest_below p n ≡ None
none_below p zero h = refl
none_below p (suc n) h = rw (h n (omega arith)) (none_below p n (λ i b. h i (omega arith)))

highest_found : (p : ℕ → Bool) (n i : ℕ) → highest_below p n ≡ Some i → (i < n) × (p i ≡ true)
highest_found p zero i h = absurd (cc)
highest_found p (suc n) i h = grind (arith, common_steps, highest_found p n i)

empty_is_none : {H : Type 0} (s : Option (Slot H)) → is_empty_slot s ≡ true → s ≡ None
empty_is_none None h = refl
empty_is_none (Some x) h = absurd (cc)

pub lowest_found : {H : Type 0} (slots : List (Option (Slot H))) (i : ℕ) → lowest_empty slots ≡ Some i → IsEmptyAt slots i
lowest_found slots i h =
    let found = position-Some is_empty_slot slots i None h in
    record { below = found.0; empty = empty_is_none (slot_at slots i) found.1 }

pub highest_empty_found : {H : Type 0} (slots : List (Option (Slot H))) (i : ℕ) → highest_empty slots ≡ Some i → IsEmptyAt slots i
highest_empty_found slots i h =
    let found = highest_found (λ j. is_empty_slot (slot_at slots j)) (length slots) i h in
    record { below = found.0; empty = empty_is_none (slot_at slots i) found.1 }

missed : {H : Type 0} (slots : List (Option (Slot H))) → length slots ≤ position_or_len is_empty_slot slots → (i : ℕ) → i < length slots → is_empty_slot (slot_at slots i) ≡ false
missed [] h i below = absurd (omega arith)
missed (None ∷ ss) h i below = absurd (omega arith)
missed (Some x ∷ ss) h zero below = refl
missed (Some x ∷ ss) h (suc i) below = missed ss (omega arith) i (omega arith)

pub lowest_missed : {H : Type 0} (slots : List (Option (Slot H))) → lowest_empty slots ≡ None → highest_empty slots ≡ None
lowest_missed slots h =
    let past : length slots ≤ position_or_len is_empty_slot slots = grind (arith, common_steps) in
    none_below (λ i. is_empty_slot (slot_at slots i)) (length slots) (missed slots past)

-- ---- what a search among the notes finds

highest_is : (p : ℕ → Bool) (n i : ℕ) → i < n → p i ≡ true → ((j : ℕ) → i < j → j < n → p j ≡ false) → highest_below p n ≡ Some i
highest_is p zero i below here above = absurd (omega arith)
highest_is p (suc n) i below here above =
    elim (cases_eq i n) [
      | inl e ↦ (let last : p n ≡ true = subst (λ k. p k ≡ true) e here in rw last (ap Some (sym e)))
      | inr ne ↦ (let last : p n ≡ false = above n (omega arith) (omega arith) in rw last (highest_is p n i (omega arith) here (λ j more less. above j more (omega arith))))
    ]

is_full : {H : Type 0} (s : Option (Slot H)) (n : ℕ) → n ≡ vacancies s → n < 1 → is_empty_slot s ≡ false
is_full None n e less = absurd (omega arith)
is_full (Some x) n e less = refl

is_vacant : {H : Type 0} (s : Option (Slot H)) (n : ℕ) → n ≡ vacancies s → 1 ≤ n → is_empty_slot s ≡ true
is_vacant None n e more = refl
is_vacant (Some x) n e more = absurd (omega arith)

pub none_vacant : {H : Type 0} (notes : Notes) (slots : List (Option (Slot H))) → AreNoted notes slots → ((i : ℕ) → i < length slots → slice_index notes.vacant.marks i < 1) → highest_empty slots ≡ None
none_vacant notes slots noted none =
    none_below (λ i. is_empty_slot (slot_at slots i)) (length slots) (λ i below. is_full (slot_at slots i) (slice_index notes.vacant.marks i) (noted.counted i below) (none i below))

pub highest_vacant : {H : Type 0} (notes : Notes) (slots : List (Option (Slot H))) (i : ℕ) → AreNoted notes slots → i < length slots → 1 ≤ slice_index notes.vacant.marks i
    → ((j : ℕ) → i < j → j < length slots → slice_index notes.vacant.marks j < 1) → highest_empty slots ≡ Some i
highest_vacant notes slots i noted below here above =
    highest_is (λ j. is_empty_slot (slot_at slots j)) (length slots) i below (is_vacant (slot_at slots i) (slice_index notes.vacant.marks i) (noted.counted i below) here)
    (λ j more less. is_full (slot_at slots j) (slice_index notes.vacant.marks j) (noted.counted j less) (above j more less))

pub lowest_vacant : {H : Type 0} (notes : Notes) (slots : List (Option (Slot H))) (i : ℕ) → AreNoted notes slots → i ≤ length slots → ((j : ℕ) → j < i → slice_index notes.vacant.marks j < 1)
    → (i < length slots → 1 ≤ slice_index notes.vacant.marks i) → i ≡ new_slot true slots
lowest_vacant notes slots i noted within under here =
    let at : position_or_len is_empty_slot slots ≡ i =
    position_or_len_is is_empty_slot slots i None within (λ j less. is_full (slot_at slots j) (slice_index notes.vacant.marks j) (noted.counted j (omega arith)) (under j less))
    (λ below. is_vacant (slot_at slots i) (slice_index notes.vacant.marks i) (noted.counted i below) (here below)) in
    grind (arith, common_steps, at)
