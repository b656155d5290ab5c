-- One slot of a memory type is changed: what contracts see of the slots then.
use Rattle.std.proofs.Common.{◌≡◌, ◌≢◌, ℕ, zero, suc, [], ◌∷◌, ◌++◌, ◌+◌, ◌-◌, ◌<◌, ◌≤◌, List, length, refl, sym, ◌∙◌, ap, subst, inl, inr, Option, Some, None, arith, slice_index_or, slice_set}
use Rattle.std.proofs.lemmas.List.{map-set, set-get_or, get_or-map, length-map, get_or-set_same, get_or-set_other}
use Rattle.std.proofs.lemmas.Bool.{cases_eq}
use Rattle.std.specs.Prelude.{Result, Ok, Err, OnErr}
use Rattle.std.specs.Option.{option_map}
use Rattle.std.specs.Int.NonZero.{non_zero_u64_get}
use Rattle.gpu_core.specs.declared.slot.LiveBlock.{LiveBlock}
use Rattle.gpu_core.specs.declared.piece.Piece.{Piece}
use Rattle.gpu_block_pieces.specs.Request.{Request}
use Rattle.gpu_core.specs.TypeState.{Slot, slot_at, slots_sum}
use Rattle.gpu_core.specs.TypeTake.{CannotServe, PreparesPiece}
use Rattle.gpu_core.specs.Slots.{slot_of, slots_of, AreSound, SlotTakes, SlotIsSound}

-- the i-th slot is replaced
pub record Edits {H : Type 0} (xs : List (Option (LiveBlock H))) (i : ℕ) (old new : Option (LiveBlock H)) : Type 0 where
  pub slots : slots_of (slice_set xs i new) ≡ slice_set (slots_of xs) i (option_map slot_of new)
  pub same : option_map slot_of new ≡ option_map slot_of old → slots_of (slice_set xs i new) ≡ slots_of xs
  pub before : slot_at (slots_of xs) i ≡ option_map slot_of old

pub edits : {H : Type 0} (xs : List (Option (LiveBlock H))) (i : ℕ) (old new : Option (LiveBlock H)) → i < length xs → old ≡ slice_index_or xs i old → Edits xs i old new
edits xs i old new below read =
    let at : slot_at (slots_of xs) i ≡ option_map slot_of old = get_or-map (option_map slot_of) xs i old None below ∙ ap (option_map slot_of) (sym read) in
    let moved : slots_of (slice_set xs i new) ≡ slice_set (slots_of xs) i (option_map slot_of new) = map-set (option_map slot_of) xs i new in
    record {
      slots = moved;
      same = λ h. moved ∙ (ap (slice_set (slots_of xs) i) (h ∙ sym at) ∙ set-get_or (slots_of xs) i None);
      before = at;
    }

-- the slots from n on can't serve, nor can the one before them
pub none_from : {H : Type 0} (slots : List (Option (Slot H))) (r : Request) (n : ℕ) → 0 < n → ((i : ℕ) → n ≤ i → CannotServe r (slot_at slots i)) → CannotServe r (slot_at slots (n - 1)) → (i : ℕ) → n
    - 1 ≤ i → CannotServe r (slot_at slots i)
none_from slots r n pos above here i le =
    elim (cases_eq i (n - 1)) [
      | inl e ↦ subst (λ k. CannotServe r (slot_at slots k)) (sym e) here
      | inr ne ↦ above i (omega arith)
    ]

pub prepares : {H : Type 0} (slots : List (Option (Slot H))) (r : Request) (p : Piece H) (old new : Option (Slot H)) (after : List (Option (Slot H))) → slot_at slots p.slot ≡ old → SlotTakes old r
    p.offset (non_zero_u64_get p.chunk_id) p.handle new → p.size ≡ r.size → ((i : ℕ) → p.slot < i → CannotServe r (slot_at slots i)) → after ≡ slice_set slots p.slot new → PreparesPiece slots r p after
prepares slots r p None new after at t size above e = absurd t
prepares slots r p (Some s) None after at t size above e = absurd t
prepares slots r p (Some s) (Some q) after at t size above e =
    record {
      slot = s;
      after = q.block;
      at = at;
      shared = t.0;
      takes = t.3;
      highest = above;
      handle = t.1;
      size = size;
      slots = e ∙ ap (λ n. slice_set slots p.slot (Some (record { handle = n; block = q.block }))) t.2;
    }

pub on_err : {V E : Type 0} (r : Result V E) (P : Type 0) → P → OnErr r P
on_err (Ok v) P p = tt
on_err (Err e) P p = p

pub slot_past : {H : Type 0} (xs : List (Option (LiveBlock H))) (i : ℕ) → length xs ≤ i → slot_at (slots_of xs) i ≡ None
slot_past [] i h = refl
slot_past (x ∷ xs) zero h = absurd (omega arith)
slot_past (x ∷ xs) (suc i) h = slot_past xs i (omega arith)

-- ---- what one change leaves of the other slots

-- the i-th slot is s, and the others are what they were
pub record OnlyAt {H : Type 0} (old : List (Option (Slot H))) (i : ℕ) (s : Option (Slot H)) (new : List (Option (Slot H))) : Type 0 where
  pub at : slot_at new i ≡ s
  pub others : (j : ℕ) → j ≢ i → slot_at new j ≡ slot_at old j

pub set_only : {H : Type 0} (slots : List (Option (Slot H))) (i : ℕ) (s : Option (Slot H)) → i < length slots → OnlyAt slots i s (slice_set slots i s)
set_only slots i s below = record { at = get_or-set_same slots i s None below; others = λ j ne. get_or-set_other slots i j s None ne }

pub sound_after : {H : Type 0} (g : ℕ) (old : List (Option (Slot H))) (i : ℕ) (s : Option (Slot H)) (new : List (Option (Slot H))) → AreSound g old → OnlyAt old i s new → SlotIsSound g s → AreSound g
    new
sound_after g old i s new sound only here j =
    elim (cases_eq j i) [
      | inl e ↦ subst (SlotIsSound g) (sym (ap (slot_at new) e ∙ only.at)) here
      | inr ne ↦ subst (SlotIsSound g) (sym (only.others j ne)) (sound j)
    ]

-- the same of the code's slots, one of which is written
pub edited_sound : {H : Type 0} (g : ℕ) (xs : List (Option (LiveBlock H))) (i : ℕ) (old new : Option (LiveBlock H)) → i < length xs → Edits xs i old new → AreSound g (slots_of xs) →
    (SlotIsSound g (option_map slot_of old) → SlotIsSound g (option_map slot_of new)) → AreSound g (slots_of (slice_set xs i new))
edited_sound g xs i old new below e sound to =
    let within : i < length (slots_of xs) = rw (length-map xs (option_map slot_of)) below in
    let here : SlotIsSound g (option_map slot_of old) = subst (SlotIsSound g) e.before (sound i) in
    subst (AreSound g) (sym e.slots) (sound_after g (slots_of xs) i (option_map slot_of new) (slice_set (slots_of xs) i (option_map slot_of new)) sound
    (set_only (slots_of xs) i (option_map slot_of new) within) (to here))

-- ---- sums

pub sum-set : {H : Type 0} (f : Option (Slot H) → ℕ) (slots : List (Option (Slot H))) (i : ℕ) (s : Option (Slot H)) → i < length slots → slots_sum f (slice_set slots i s) + f (slot_at slots i) ≡
    slots_sum f slots + f s
sum-set f [] i s h = absurd (omega arith)
sum-set f (x ∷ xs) zero s h = omega arith
sum-set f (x ∷ xs) (suc i) s h = let e = sum-set f xs i s (omega arith) in omega arith

-- the sum of the slots after one is replaced
pub edited_sum : {H : Type 0} (f : Option (Slot H) → ℕ) (xs : List (Option (LiveBlock H))) (i : ℕ) (old new : Option (LiveBlock H)) (less : ℕ) → i < length xs → Edits xs i old new → f
    (option_map slot_of new) + less ≡ f (option_map slot_of old) → slots_sum f (slots_of (slice_set xs i new)) + less ≡ slots_sum f (slots_of xs)
edited_sum f xs i old new less below e sum =
    let within : i < length (slots_of xs) = rw (length-map xs (option_map slot_of)) below in
    let s = sum-set f (slots_of xs) i (option_map slot_of new) within in
    let at : f (slot_at (slots_of xs) i) ≡ f (option_map slot_of old) = ap f e.before in
    rw e.slots (omega arith)

-- ---- where slots are

pub at_below : {H : Type 0} (slots : List (Option (Slot H))) (i : ℕ) (s : Slot H) → slot_at slots i ≡ Some s → i < length slots
at_below [] i s h = absurd (cc)
at_below (x ∷ xs) zero s h = omega arith
at_below (x ∷ xs) (suc i) s h = let b = at_below xs i s h in omega arith

at_end : {H : Type 0} (slots : List (Option (Slot H))) (s : Option (Slot H)) → slot_at (slots ++ s ∷ []) (length slots) ≡ s
at_end [] s = refl
at_end (x ∷ xs) s = at_end xs s

past_end : {H : Type 0} (slots : List (Option (Slot H))) (s : Option (Slot H)) (j : ℕ) → j ≢ length slots → slot_at (slots ++ s ∷ []) j ≡ slot_at slots j
past_end [] s zero ne = absurd (ne refl)
past_end [] s (suc j) ne = refl
past_end (x ∷ xs) s zero ne = refl
past_end (x ∷ xs) s (suc j) ne = past_end xs s j (λ e. ne (ap suc e))

-- a new block at the end
pub end_only : {H : Type 0} (slots : List (Option (Slot H))) (s : Option (Slot H)) → OnlyAt slots (length slots) s (slots ++ s ∷ [])
end_only slots s = record { at = at_end slots s; others = past_end slots s }
