-- A number is a live block's, or it isn't.
use Rattle.std.proofs.Common.{◌≡◌, ◌∙◌, ◌⊎◌, refl, sym, ap, ⊎_elim, inl, inr, ℕ, zero, suc, List, [], ◌∷◌, Option, Some, None}
use Rattle.std.proofs.lemmas.Bool.{cases_eq}
use Rattle.gpu_core.specs.TypeState.{Slot, slot_at}
use Rattle.gpu_device.specs.declared.metal.types.MTLHeap.{MTLHeap}
use Rattle.gpu_core.specs.Blocks.{slots_at}
use Rattle.gpu_core.specs.Held.{IsNoBlock}
use Rattle.gpu_core.proofs.Options.{none_some, some_same}
use Rattle.gpu_metal.specs.Blocks.{Slots, heap_number, IsBlockHeap}

same_heap : (x y : MTLHeap) → x.0 ≡ y.0 → x ≡ y
same_heap x y e = ap (λ n. record { 0 = n }) e

abbrev IsIn : List (Option (Slot MTLHeap)) → ℕ → Type 0
IsIn ss n = (i : ℕ) × (s : Slot MTLHeap) × (slot_at ss i ≡ Some s) × (s.handle.0 ≡ n)

none_first : (ss : List (Option (Slot MTLHeap))) (n i : ℕ) (s : Slot MTLHeap) → slot_at (None ∷ ss) i ≡ Some s → s.handle.0 ≡ n → IsIn ss n
none_first ss n zero s at is = absurd (none_some s at)
none_first ss n (suc i) s at is = (i, s, at, is)

not_first : (a : Slot MTLHeap) (ss : List (Option (Slot MTLHeap))) (n i : ℕ) (s : Slot MTLHeap) → (n ≡ a.handle.0 → ⊥) → slot_at (Some a ∷ ss) i ≡ Some s → s.handle.0 ≡ n → IsIn ss n
not_first a ss n zero s ne at is = absurd (ne (sym is ∙ ap (λ (x : Slot MTLHeap). x.handle.0) (sym (some_same a s at))))
not_first a ss n (suc i) s ne at is = (i, s, at, is)

slots_cases : (ss : List (Option (Slot MTLHeap))) (n : ℕ) → IsIn ss n ⊎ (IsIn ss n → ⊥)
slots_cases [] n = inr (λ f. none_some f.1 f.2)
slots_cases (None ∷ ss) n =
    ⊎_elim
    (λ f. inl (suc f.0, f.1, f.2, f.3))
    (λ out. inr (λ f. out (none_first ss n f.0 f.1 f.2 f.3)))
    (slots_cases ss n)
slots_cases (Some a ∷ ss) n =
    ⊎_elim
    (λ e. inl (0, a, refl, sym e))
    (λ ne. ⊎_elim
    (λ f. inl (suc f.0, f.1, f.2, f.3))
    (λ out. inr (λ f. out (not_first a ss n f.0 f.1 ne f.2 f.3)))
    (slots_cases ss n))
    (cases_eq n a.handle.0)

-- a live block has the number
abbrev pub IsBlockNumber : Slots → ℕ → Type 0
IsBlockNumber ss n = (t : ℕ) × IsIn (slots_at ss t) n

number_first : (x : List (Option (Slot MTLHeap))) (ss : Slots) (n t : ℕ) → IsIn (slots_at (x ∷ ss) t) n → IsIn x n ⊎ IsBlockNumber ss n
number_first x ss n zero f = inl f
number_first x ss n (suc t) f = inr (t, f)

pub number_cases : (ss : Slots) (n : ℕ) → IsBlockNumber ss n ⊎ IsNoBlock heap_number ss n
number_cases [] n = inr (λ t i s at is. none_some s at)
number_cases (x ∷ ss) n =
    ⊎_elim
    (λ f. inl (0, f))
    (λ out. ⊎_elim
    (λ f. inl (suc f.0, f.1))
    (λ none. inr (λ t i s at is. ⊎_elim out (λ f. none f.0 f.1.0 f.1.1 f.1.2 f.1.3) (number_first x ss n t (i, s, at, is))))
    (number_cases ss n))
    (slots_cases x n)

pub number_heap : (ss : Slots) (heap : MTLHeap) → IsBlockNumber ss heap.0 → IsBlockHeap ss heap
number_heap ss heap f = (f.0, f.1.0, f.1.1, f.1.2, same_heap f.1.1.handle heap f.1.3)
