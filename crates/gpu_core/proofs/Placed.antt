-- One block among all: added, changed in its place, or gone.
use Rattle.std.proofs.Common.{◌≡◌, ◌≢◌, ◌∙◌, ◌⊎◌, refl, sym, ap, subst, ℕ, zero, suc, ◌<◌, ◌≤◌, Bool, true, false, cond, List, [], ◌∷◌, ◌++◌, length, slice_set, Option, Some, None, arith, inl, inr}
use Rattle.std.proofs.Common.{⊎_elim}
use Rattle.std.specs.Option.{unwrap_or}
use Rattle.std.proofs.lemmas.Bool.{cases_eq}
use Rattle.gpu_block_pieces.proofs.OrderedLists.{lt_true, lt_false}
use Rattle.gpu_core.specs.Slots.{IsEmptyAt}
use Rattle.gpu_block_pieces.specs.Request.{Request}
use Rattle.gpu_core.specs.TypeState.{Slot, slot_at, lowest_empty, highest_empty}
use Rattle.gpu_core.specs.TypeTake.{Pending, PreparesPiece, Installs, with_block, new_slot}
use Rattle.gpu_core.specs.declared.piece.Piece.{Piece}
use Rattle.gpu_core.proofs.EmptySlots.{lowest_found, highest_empty_found}
use Rattle.gpu_core.proofs.Slotted.{OnlyAt, set_only}
use Rattle.gpu_core.specs.Blocks.{Slots, slots_at, block_at}
use Rattle.gpu_core.proofs.Options.{none_some}
use Rattle.gpu_core.proofs.Types.{slots_after}

-- ---- among the slots of one memory type

push_at : {A : Type 0} (xs : List (Option (Slot A))) (x : Option (Slot A)) → slot_at (xs ++ x ∷ []) (length xs) ≡ x
push_at [] x = refl
push_at (y ∷ ys) x = push_at ys x

push_others : {A : Type 0} (xs : List (Option (Slot A))) (x : Option (Slot A)) (j : ℕ) → j ≢ length xs → slot_at (xs ++ x ∷ []) j ≡ slot_at xs j
push_others [] x zero ne = absurd (ne refl)
push_others [] x (suc j) ne = refl
push_others (y ∷ ys) x zero ne = refl
push_others (y ∷ ys) x (suc j) ne = push_others ys x j (λ e. ne (ap suc e))

slot_past : {A : Type 0} (xs : List (Option (Slot A))) (i : ℕ) → length xs ≤ i → slot_at xs i ≡ None
slot_past [] i h = refl
slot_past (x ∷ xs) zero h = absurd (omega (arith, h))
slot_past (x ∷ xs) (suc i) h = slot_past xs i (omega (arith, h))

made_only : {H : Type 0} (old : List (Option (Slot H))) (e : Option ℕ) (s : Slot H) → ((i : ℕ) → e ≡ Some i → IsEmptyAt old i)
    → (slot_at old (unwrap_or e (length old)) ≡ None) × OnlyAt old (unwrap_or e (length old)) (Some s) (with_block old (unwrap_or e (length old)) s)
made_only old (Some i) s empty =
    let at = empty i refl in
    (at.empty, subst (OnlyAt old i (Some s)) (sym (ap (λ b. cond b (slice_set old i (Some s)) (old ++ Some s ∷ [])) (lt_true i (length old) at.below))) (set_only old i (Some s) at.below))
made_only old None s empty = (
  slot_past old (length old) (omega arith),
  subst (OnlyAt old (length old) (Some s)) (sym (ap (λ b. cond b (slice_set old (length old) (Some s)) (old ++ Some s ∷ [])) (lt_false (length old) (length old) (omega arith))))
      (record { at = push_at old (Some s); others = push_others old (Some s) }),
)

empty_slot : {H : Type 0} (own : Bool) (old : List (Option (Slot H))) (i : ℕ) → cond own (lowest_empty old) (highest_empty old) ≡ Some i → IsEmptyAt old i
empty_slot true old i e = lowest_found old i e
empty_slot false old i e = highest_empty_found old i e

-- a new block stands in a slot that had none
pub installs_only : {H : Type 0} (old : List (Option (Slot H))) (own : Bool) (ready : Pending) (handle : H) (p : Piece H) (new : List (Option (Slot H)))
    → Installs old own ready handle p new
    → (slot_at old p.slot ≡ None) × OnlyAt old p.slot (Some (record { handle = handle; block = ready.block })) new
installs_only {H} old own ready handle p new h =
    let s : Slot H = record { handle = handle; block = ready.block } in
    let made = made_only old (cond own (lowest_empty old) (highest_empty old)) s (empty_slot own old) in
    subst (λ i. (slot_at old i ≡ None) × OnlyAt old i (Some s) new) (sym h.slot)
    (made.0, subst (OnlyAt old (new_slot own old) (Some s)) (sym h.slots) made.1)

pub some_below : {A : Type 0} (xs : List (Option (Slot A))) (i : ℕ) (s : Slot A) → slot_at xs i ≡ Some s → i < length xs
some_below [] i s at = absurd (none_some s at)
some_below (x ∷ xs) zero s at = omega arith
some_below (x ∷ xs) (suc i) s at = let rest = some_below xs i s at in omega (arith, rest)

-- a piece changes the block that it is taken in alone
pub prepares_only : {H : Type 0} (old : List (Option (Slot H))) (r : Request) (p : Piece H) (new : List (Option (Slot H))) → (h : PreparesPiece old r p new)
    → OnlyAt old p.slot (Some (record h.slot { block = h.after })) new
prepares_only old r p new h =
    subst (OnlyAt old p.slot (Some (record h.slot { block = h.after }))) (sym h.slots) (set_only old p.slot (Some (record h.slot { block = h.after })) (some_below old p.slot h.slot h.at))

-- ---- among all memory types

pub record OnlyBlock {H : Type 0} (old : Slots H) (t i : ℕ) (s : Option (Slot H)) (new : Slots H) : Type 0 where
  pub at : block_at new t i ≡ s
  pub others : (u j : ℕ) → (u ≡ t → j ≡ i → ⊥) → block_at new u j ≡ block_at old u j

pub only_block : {H : Type 0} (old : Slots H) (t i : ℕ) (s : Option (Slot H)) (x : List (Option (Slot H))) → t < length old → OnlyAt (slots_at old t) i s x
    → OnlyBlock old t i s (slice_set old t x)
only_block old t i s x below only = record {
  at = ⊎_elim (λ h. ap (λ ss. slot_at ss i) h.1 ∙ only.at) (λ h. absurd (h.0 refl)) (slots_after old t x t below);
  others = λ u j ne.
      ⊎_elim
      (λ h. ap (λ ss. slot_at ss j) h.1 ∙ only.others j (ne h.0) ∙ ap (λ k. slot_at (slots_at old k) j) (sym h.0))
      (λ h. ap (λ ss. slot_at ss j) h.1)
      (slots_after old t x u below);
}

-- two places are the same, or they aren't
pub same_place : (u t j i : ℕ) → ((u ≡ t) × (j ≡ i)) ⊎ (u ≡ t → j ≡ i → ⊥)
same_place u t j i =
    ⊎_elim
    (λ e. ⊎_elim (λ f. inl (e, f)) (λ ne. inr (λ _ f. ne f)) (cases_eq j i))
    (λ ne. inr (λ e _. ne e))
    (cases_eq u t)
