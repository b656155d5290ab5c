-- What is noted of the slots, where one of them changes.
use Rattle.std.proofs.Common.{◌≡◌, ◌≢◌, ◌∙◌, ℕ, zero, suc, ◌+◌, ◌<◌, ◌≤◌, List, [], ◌∷◌, ◌++◌, length, slice_set, refl, sym, ap, subst, inl, inr, arith, Bool, true, false, Option, Some, None, length-set}
use Rattle.std.specs.Prelude.{◌||◌, nat_lt, slice_index}
use Rattle.std.specs.Option.{is_some}
use Rattle.std.proofs.lemmas.Bool.{cases_eq, cases_lt, ltb-true}
use Rattle.std.proofs.lemmas.List.{length-append, get_or_append_left, get_or-set_same, get_or-set_other}
use Rattle.gpu_block_pieces.specs.Request.{Request}
use Rattle.gpu_block.specs.Block.{Block, free_list, dedicated, HasNoPlaceIn}
use Rattle.gpu_core.specs.TypeState.{Slot, slot_at, lowest_empty, highest_empty}
use Rattle.gpu_core.specs.TypeTake.{BlockCannotServe, new_slot, with_block}
use Rattle.gpu_core.specs.Slots.{Bounds, vacancies, AreNoted, OthersAreNoted}
use Rattle.gpu_core.specs.declared.slots.Notes.{Notes}
use Rattle.gpu_core.proofs.Slotted.{OnlyAt}
use Rattle.gpu_core.proofs.EmptySlots.{lowest_found, highest_empty_found, lowest_missed}
use Rattle.gpu_core.proofs.NewSlots.{IsNewSlot, empty_slot, the_end, is_new_slot, put_only, with_empty, with_end}

-- a block without a place for a request can't serve it
pub placeless_block : (b : Block) (r : Request) → HasNoPlaceIn b r → BlockCannotServe r b
placeless_block (free_list b) r none = none
placeless_block (dedicated b) r none = tt

pub past_slots : {H : Type 0} (slots : List (Option (Slot H))) (i : ℕ) → length slots ≤ i → slot_at slots i ≡ None
past_slots [] i le = refl
past_slots (s ∷ ss) zero le = absurd (omega arith)
past_slots (s ∷ ss) (suc i) le = past_slots ss i (omega arith)

-- ---- the notes are as they were

pub still_noted : {H : Type 0} (old new : Notes) (slots : List (Option (Slot H))) → AreNoted old slots → new.longest.marks ≡ old.longest.marks → new.vacant.marks ≡ old.vacant.marks → AreNoted new slots
still_noted old new slots b longest vacant =
    record {
      as_long = ap length longest ∙ b.as_long;
      as_many = ap length vacant ∙ b.as_many;
      bounded = λ i. subst (λ marks. Bounds (slice_index marks i) (slot_at slots i)) (sym longest) (b.bounded i);
      counted = λ i below. ap (λ marks. slice_index marks i) vacant ∙ b.counted i below;
    }

-- ---- one slot is written

pub others_kept : {H : Type 0} (notes : Notes) (old : List (Option (Slot H))) (i : ℕ) (s : Option (Slot H)) (new : List (Option (Slot H)))
    → AreNoted notes old → new ≡ slice_set old i s → OthersAreNoted i notes new
others_kept notes old i s new b e =
    let len : length new ≡ length old = ap length e ∙ length-set old i s in
    let same : (j : ℕ) → j ≢ i → slot_at new j ≡ slot_at old j = λ j ne. ap (λ xs. slot_at xs j) e ∙ get_or-set_other old i j s None ne in
    record {
      as_long = b.as_long ∙ sym len;
      as_many = b.as_many ∙ sym len;
      bounded = λ j ne. subst (Bounds (slice_index notes.longest.marks j)) (sym (same j ne)) (b.bounded j);
      counted = λ j ne below. b.counted j (omega arith) ∙ ap vacancies (sym (same j ne));
    }

-- its notes are written too
pub all_noted : {H : Type 0} (old new : Notes) (slots : List (Option (Slot H))) (i bound count : ℕ) → OthersAreNoted i old slots → i < length slots
    → new.longest.marks ≡ slice_set old.longest.marks i bound → new.vacant.marks ≡ slice_set old.vacant.marks i count
    → Bounds bound (slot_at slots i) → count ≡ vacancies (slot_at slots i) → AreNoted new slots
all_noted old new slots i bound count b below longest vacant here places =
    let long = b.as_long in
    let many = b.as_many in
    record {
      as_long = ap length longest ∙ length-set old.longest.marks i bound ∙ long;
      as_many = ap length vacant ∙ length-set old.vacant.marks i count ∙ many;
      bounded = λ j. elim (cases_eq j i) [
        | inl e ↦ (let at : slice_index new.longest.marks j ≡ bound = ap (λ xs. slice_index xs j) longest ∙ ap (slice_index (slice_set old.longest.marks i bound)) e
            ∙ get_or-set_same old.longest.marks i bound 0 (omega arith) in
            subst (λ m. Bounds m (slot_at slots j)) (sym at) (subst (λ k. Bounds bound (slot_at slots k)) (sym e) here))
        | inr ne ↦ subst (λ m. Bounds m (slot_at slots j)) (sym (ap (λ xs. slice_index xs j) longest ∙ get_or-set_other old.longest.marks i j bound 0 ne)) (b.bounded j ne)
      ];
      counted = λ j inside. elim (cases_eq j i) [
        | inl e ↦ ap (λ xs. slice_index xs j) vacant ∙ ap (slice_index (slice_set old.vacant.marks i count)) e ∙ get_or-set_same old.vacant.marks i count 0 (omega arith) ∙ places
            ∙ ap (λ k. vacancies (slot_at slots k)) (sym e)
        | inr ne ↦ ap (λ xs. slice_index xs j) vacant ∙ get_or-set_other old.vacant.marks i j count 0 ne ∙ b.counted j ne inside
      ];
    }

-- ---- a block is put

put_empty : {H : Type 0} (notes : Notes) (old : List (Option (Slot H))) (i : ℕ) (s : Slot H)
    → AreNoted notes old → IsNewSlot old i → (i ≡ length notes.longest.marks → ⊥) → OthersAreNoted i notes (with_block old i s)
put_empty notes old i s b (empty_slot at) inside = others_kept notes old i (Some s) (with_block old i s) b (with_empty old i s at.below)
put_empty notes old i s b (the_end at) inside = absurd (inside (at ∙ sym b.as_long))

pub put_inside : {H : Type 0} (notes : Notes) (old : List (Option (Slot H))) (is_dedicated : Bool) (i : ℕ) (s : Slot H) (new : List (Option (Slot H)))
    → AreNoted notes old → i ≡ new_slot is_dedicated old → new ≡ with_block old i s → (i ≡ length notes.longest.marks → ⊥) → OthersAreNoted i notes new
put_inside notes old is_dedicated i s new b is e inside =
    subst (OthersAreNoted i notes) (sym e) (put_empty notes old i s b (subst (IsNewSlot old) (sym is) (is_new_slot is_dedicated old)) inside)

pub put_behind : {H : Type 0} (notes after : Notes) (old : List (Option (Slot H))) (i : ℕ) (s : Slot H) (new : List (Option (Slot H)))
    → AreNoted notes old → after.longest.marks ≡ notes.longest.marks ++ 0 ∷ [] → after.vacant.marks ≡ notes.vacant.marks ++ 0 ∷ []
    → new ≡ with_block old i s → i ≡ length notes.longest.marks → OthersAreNoted i after new
put_behind {H} notes after old i s new b longest vacant e end =
    let at : i ≡ length old = end ∙ b.as_long in
    let only : OnlyAt old i (Some s) new = subst (OnlyAt old i (Some s)) (sym e) (put_only old i s (the_end at)) in
    let long = b.as_long in
    let many = b.as_many in
    let longer = ap length longest ∙ length-append notes.longest.marks (0 ∷ []) in
    let more = ap length vacant ∙ length-append notes.vacant.marks (0 ∷ []) in
    let len : length new ≡ length old + 1 = ap length (e ∙ with_end old i s at) ∙ length-append old (Some s ∷ []) in
    record {
      as_long = omega arith;
      as_many = omega arith;
      bounded = λ j ne. elim (cases_lt j (length old)) [
        | inl lt ↦ (let same : slice_index after.longest.marks j ≡ slice_index notes.longest.marks j = ap (λ xs. slice_index xs j) longest
            ∙ get_or_append_left notes.longest.marks (0 ∷ []) 0 j (omega arith) in
            subst (λ k. Bounds k (slot_at new j)) (sym same) (subst (Bounds (slice_index notes.longest.marks j)) (sym (only.others j ne)) (b.bounded j)))
        | inr ge ↦ subst (Bounds (slice_index after.longest.marks j)) (sym (only.others j ne ∙ past_slots old j ge)) (λ r more. tt)
      ];
      counted = λ j ne below.
          ap (λ xs. slice_index xs j) vacant ∙ get_or_append_left notes.vacant.marks (0 ∷ []) 0 j (omega arith) ∙ b.counted j (omega arith) ∙ ap vacancies (sym (only.others j ne));
    }

-- the slot that was put is there
pub put_there : {H : Type 0} (old : List (Option (Slot H))) (is_dedicated : Bool) (i : ℕ) (s : Slot H) (new : List (Option (Slot H)))
    → i ≡ new_slot is_dedicated old → new ≡ with_block old i s → i < length new
put_there old is_dedicated i s new is e =
    elim (subst (IsNewSlot old) (sym is) (is_new_slot is_dedicated old)) [
      | empty_slot at ↦ (let len = ap length (e ∙ with_empty old i s at.below) ∙ length-set old i (Some s) in let below = at.below in omega arith)
      | the_end at ↦ (let len = ap length (e ∙ with_end old i s at) ∙ length-append old (Some s ∷ []) in omega arith)
    ]

-- ---- room

lowest_end : {H : Type 0} (slots : List (Option (Slot H))) (o : Option ℕ) → lowest_empty slots ≡ o → new_slot true slots ≡ length slots → highest_empty slots ≡ None
lowest_end slots None h e = lowest_missed slots h
lowest_end slots (Some i) h e =
    let below = (lowest_found slots i h).below in
    let is : new_slot true slots ≡ i = rw h refl in
    absurd (omega arith)

highest_end : {H : Type 0} (slots : List (Option (Slot H))) (o : Option ℕ) → highest_empty slots ≡ o → new_slot false slots ≡ length slots → highest_empty slots ≡ None
highest_end slots None h e = h
highest_end slots (Some i) h e =
    let below = (highest_empty_found slots i h).below in
    let is : new_slot false slots ≡ i = rw h refl in
    absurd (omega arith)

none_empty : {H : Type 0} (is_dedicated : Bool) (slots : List (Option (Slot H))) → new_slot is_dedicated slots ≡ length slots → highest_empty slots ≡ None
none_empty true slots e = lowest_end slots (lowest_empty slots) refl e
none_empty false slots e = highest_end slots (highest_empty slots) refl e

-- a block that goes behind all slots has room there
pub end_room : {H : Type 0} (is_dedicated : Bool) (slots : List (Option (Slot H))) (room : ℕ)
    → (is_some (highest_empty slots) || nat_lt (length slots) room) ≡ true → new_slot is_dedicated slots ≡ length slots → length slots < room
end_room is_dedicated slots room h e =
    let fits : nat_lt (length slots) room ≡ true = rw (none_empty is_dedicated slots e) at h in
    ltb-true (length slots) room fits
