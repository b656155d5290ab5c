-- Records of committed resources: which stay where one more is kept, and where one goes.
use Rattle.std.proofs.Common.{◌≡◌, ◌≢◌, ◌⊎◌, ◌∙◌, ℕ, zero, suc, ◌<◌, ◌≤◌, ◌==◌, ◌&&◌, nat_lt, true, false, Bool, List, [], ◌∷◌, length, slice_set, get_or, Option, Some, None, refl, ap, sym, subst, inl, inr, ⊎_elim, arith}
use Rattle.std.specs.Prelude.{Contains}
use Rattle.std.specs.List.{remove, position_or_len}
use Rattle.std.proofs.lemmas.Bool.{cases_eq, ltb-false}
use Rattle.std.proofs.lemmas.Bool.Decides.{nat_tests}
use Rattle.std.proofs.lemmas.List.{get_or-set_other}
use Rattle.std.proofs.lemmas.List.Elements.{Contains-push_cases, Contains-append_cases}
use Rattle.std.proofs.lemmas.List.Quantifiers.{position-Some}
use Rattle.std.proofs.lemmas.List.Sorted.{IsPermutation-remove, Contains-permutation}
use Rattle.std.proofs.lemmas.List.Sums.{fails_before_first}
use Rattle.gpu_d3d12.specs.Committed.{Committed, records_at, place_of, is_same_record, ReleasesRecord}
use Rattle.gpu_d3d12.specs.declared.committed_record.CommittedRecord.{CommittedRecord}

-- what is set stands there, or there was nothing
set_or_none : (c : Committed) (t : ℕ) (x : List CommittedRecord) → (records_at (slice_set c t x) t ≡ x) ⊎ (records_at c t ≡ [])
set_or_none [] t x = inr refl
set_or_none (y ∷ c) zero x = inl refl
set_or_none (y ∷ c) (suc t) x = set_or_none c t x

none_in : (r : CommittedRecord) → Contains [] r → ⊥
none_in r h = let below = h.1 in omega (arith, below)

-- a record stays where the list of its memory type is set to one that has it
pub kept_set : (c : Committed) (t u : ℕ) (x : List CommittedRecord) (r : CommittedRecord) → (u ≡ t → Contains (records_at c t) r → Contains x r)
    → Contains (records_at c u) r → Contains (records_at (slice_set c t x) u) r
kept_set c t u x r keeps h = elim (cases_eq u t) [
  | inl same ↦
      let was : Contains (records_at c t) r = subst (λ n. Contains (records_at c n) r) same h in
      subst (λ n. Contains (records_at (slice_set c t x) n) r) (sym same)
      (elim (set_or_none c t x) [
        | inl set ↦ subst (λ xs. Contains xs r) (sym set) (keeps same was)
        | inr none ↦ absurd (none_in r (subst (λ xs. Contains xs r) none was))
      ])
  | inr away ↦ subst (λ xs. Contains xs r) (sym (get_or-set_other c t u x [] away)) h
]

-- the default doesn't matter below the length
read_same : (xs : List CommittedRecord) (i : ℕ) (d e : CommittedRecord) → i < length xs → get_or xs i d ≡ get_or xs i e
read_same [] i d e below = absurd (omega (arith, below))
read_same (x ∷ xs) zero d e below = refl
read_same (x ∷ xs) (suc i) d e below = read_same xs i d e (omega (arith, below))

-- a record stays where another one goes
contains_removed : (xs : List CommittedRecord) (i : ℕ) (r : CommittedRecord) → i < length xs → (get_or xs i r ≡ r → ⊥) → Contains xs r → Contains (remove xs i) r
contains_removed xs i r below other h =
    let x = get_or xs i r in
    ⊎_elim
    (λ here. absurd (⊎_elim (λ none. none_in r none) (λ same. other same) (Contains-push_cases [] x r here)))
    (λ there. there)
    (Contains-append_cases (x ∷ []) (remove xs i) r (Contains-permutation xs (x ∷ remove xs i) r (IsPermutation-remove xs i x below (read_same xs i r x below)) h))

both_true : (a b : Bool) → (a && b) ≡ true → a ≡ true
both_true true b h = refl
both_true false b h = absurd (let f = h in cc)

same_chunk_id : (a b : CommittedRecord) → is_same_record a b ≡ true → a.resource.0 ≡ b.resource.0
same_chunk_id a b h = let e = both_true (a.resource.0 == b.resource.0) (a.size == b.size) h in grind (arith, nat_tests, e)

is_itself : (r : CommittedRecord) → is_same_record r r ≡ true
is_itself r = grind (arith, nat_tests)

-- where a record goes, those of other resources stay
pub gives_keeps : (t u : ℕ) (r q : CommittedRecord) (old new : Committed) → ReleasesRecord t r old new → q.resource.0 ≢ r.resource.0 → Contains (records_at old u) q → Contains (records_at new u) q
gives_keeps t u r q old new gives apart h =
    let at = position-Some (λ (x : CommittedRecord). is_same_record x r) (records_at old t) gives.place q gives.stands in
    let other : (get_or (records_at old t) gives.place q ≡ q → ⊥) =
    λ same. apart (ap (λ (x : CommittedRecord). x.resource.0) (sym same) ∙ same_chunk_id _ r at.1) in
    subst (λ c. Contains (records_at c u) q) (sym gives.records)
    (kept_set old t u (remove (records_at old t) gives.place) q (λ same was. contains_removed (records_at old t) gives.place q at.0 other was) h)

none_some : (i : ℕ) → Some i ≡ None → ⊥
none_some i e = cc

abbrev cond_place : Bool → ℕ → Option ℕ
cond_place true p = Some p
cond_place false p = None

not_found : (b : Bool) (p n : ℕ) → nat_lt p n ≡ b → cond_place b p ≡ None → n ≤ p
not_found true p n is e = absurd (none_some p e)
not_found false p n is e = ltb-false p n is

cond_is : (b : Bool) (p : ℕ) (xs : List CommittedRecord) (r : CommittedRecord) → nat_lt (position_or_len (λ x. is_same_record x r) xs) (length xs) ≡ b → p ≡ position_or_len (λ x. is_same_record x r) xs
    → place_of xs r ≡ cond_place b p
cond_is true p xs r is at = rw (is, sym at) refl
cond_is false p xs r is at = rw is refl

absurd_bool : false ≡ true → ⊥
absurd_bool e = cc

-- a record that is there is found
pub found : (xs : List CommittedRecord) (r : CommittedRecord) → Contains xs r → place_of xs r ≡ None → ⊥
found xs r h none =
    let p = position_or_len (λ (x : CommittedRecord). is_same_record x r) xs in
    let b = nat_lt p (length xs) in
    let beyond : length xs ≤ p = not_found b p (length xs) refl (sym (cond_is b p xs r refl refl) ∙ none) in
    let below = h.1 in
    let fails = fails_before_first (λ (x : CommittedRecord). is_same_record x r) xs h.0 r (omega (arith, beyond, below)) in
    let itself = is_itself r in
    absurd_bool (sym fails ∙ ap (λ (x : CommittedRecord). is_same_record x r) h.2 ∙ itself)
