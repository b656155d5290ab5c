-- Lists that a loop goes through one by one.
use Rattle.std.proofs.Common.{◌≡◌, ℕ, suc, ◌+◌, ◌<◌, ◌||◌, Bool, true, false, List, [], ◌∷◌, ◌++◌, take, length, Option, Some, slice_get, ap, sym, ◌∙◌, arith, refl, subst, not, IfSome, None, ◌≤◌}
use Rattle.std.proofs.Common.{⊎_elim}
use Rattle.std.specs.List.{list_any}
use Rattle.std.proofs.Math.Seq.{take-suc}
use Rattle.std.proofs.Common.{get_or}
use Rattle.std.proofs.lemmas.List.Folds.{list_any-append, list_any_at}
use Rattle.std.proofs.lemmas.Option.{slice_get_within, slice_get_cases, get_or_from_slice_get}
use Rattle.gpu_core.proofs.Options.{none_some}

take_next : {A : Type 0} (xs : List A) (i : ℕ) (x : A) → slice_get xs i ≡ Some x → take (i + 1) xs ≡ take i xs ++ x ∷ []
take_next xs i x at =
    let next : i + 1 ≡ suc i = omega arith in
    ap (λ k. take k xs) next ∙ take-suc xs i x (slice_get_within xs i x at) ∙ ap (λ y. take i xs ++ y ∷ []) (get_or_from_slice_get xs i x x at)

-- a list that is filled with the elements in turn
pub taken_next : {A : Type 0} (xs ys : List A) (i : ℕ) (x : A) → ys ≡ take i xs → slice_get xs i ≡ Some x → ys ++ x ∷ [] ≡ take (i + 1) xs
taken_next xs ys i x so at = ap (λ l. l ++ x ∷ []) so ∙ sym (take_next xs i x at)

-- none so far passes the test, nor does the next
pub none_next : {A : Type 0} (p : A → Bool) (xs : List A) (i : ℕ) (x : A)
    → list_any p (take i xs) ≡ false → slice_get xs i ≡ Some x → p x ≡ false → list_any p (take (i + 1) xs) ≡ false
none_next p xs i x so at fails =
    ap (list_any p) (take_next xs i x at) ∙ list_any-append p (take i xs) (x ∷ []) ∙ ap (λ b. b || (p x || false)) so ∙ ap (λ b. false || (b || false)) fails

-- one passes the test
pub one_passes : {A : Type 0} (p : A → Bool) (xs : List A) (i : ℕ) (x : A) → slice_get xs i ≡ Some x → p x ≡ true → list_any p xs ≡ true
one_passes p xs i x at passes = list_any_at p xs i x (slice_get_within xs i x at) (ap p (get_or_from_slice_get xs i x x at) ∙ passes)

slice_get_none : {A : Type 0} (xs : List A) (i : ℕ) → slice_get xs i ≡ None → length xs ≤ i
slice_get_none {A} xs i none =
    ⊎_elim (λ (there : (x : A) × (i < length xs) × (slice_get xs i ≡ Some x) × (get_or xs i x ≡ x)). absurd (none_some there.0 (sym none ∙ there.2)))
    (λ past. past.0)
    (slice_get_cases xs i).1

not_true : (b : Bool) → true ≡ not b → b ≡ false
not_true true e = cc
not_true false e = refl

not_false : (b : Bool) → false ≡ not b → b ≡ true
not_false true e = refl
not_false false e = cc

next_of : {A : Type 0} (p : A → Bool) (xs : List A) (i : ℕ) (o : Option A) → slice_get xs i ≡ o → i < length xs
    → list_any p (take i xs) ≡ false → IfSome o (λ x. true ≡ not (p x)) → list_any p (take (i + 1) xs) ≡ false
next_of p xs i None at below so fails =
    let there : slice_get xs i ≡ None = at in
    absurd (omega (arith, slice_get_none xs i there))
next_of p xs i (Some x) at below so fails = none_next p xs i x so at (not_true (p x) fails)

one_of : {A : Type 0} (p : A → Bool) (xs : List A) (i : ℕ) (o : Option A) → slice_get xs i ≡ o → i < length xs
    → IfSome o (λ x. false ≡ not (p x)) → list_any p xs ≡ true
one_of p xs i None at below passes = absurd (omega (arith, slice_get_none xs i at))
one_of p xs i (Some x) at below passes = one_passes p xs i x at (not_false (p x) passes)

-- the same of an element that a test tells of
pub none_next_told : {A : Type 0} (p : A → Bool) (xs : List A) (i : ℕ) (r : Bool) → r ≡ true → i < length xs
    → list_any p (take i xs) ≡ false → IfSome (slice_get xs i) (λ x. r ≡ not (p x)) → list_any p (take (i + 1) xs) ≡ false
none_next_told p xs i r is below so told =
    next_of p xs i (slice_get xs i) refl below so (subst (λ b. IfSome (slice_get xs i) (λ x. b ≡ not (p x))) is told)

pub one_passes_told : {A : Type 0} (p : A → Bool) (xs : List A) (i : ℕ) (r : Bool) → r ≡ false → i < length xs
    → IfSome (slice_get xs i) (λ x. r ≡ not (p x)) → false ≡ not (list_any p xs)
one_passes_told p xs i r is below told =
    sym (ap not (one_of p xs i (slice_get xs i) refl below (subst (λ b. IfSome (slice_get xs i) (λ x. b ≡ not (p x))) is told)))
