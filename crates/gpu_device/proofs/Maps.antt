-- What the calls leave of each entry: look-ups in a map from numbers to entries, whatever a device holds there.
use Rattle.std.proofs.Common.{◌≡◌, ◌≢◌, ℕ, Some, None, true, false, cond, refl, sym, ap, subst, ◌∙◌, arith, ⊎_elim}
use Rattle.std.proofs.lemmas.Bool.{cases_eq}
use Rattle.std.specs.declared.cmp.Ordering.TheVariants.{Less, Equal, Greater}
use Rattle.std.specs.Ordering.{nat_cmp, eq_by_cmp, is_eq}
use Rattle.std.specs.FinMap.{FinMap, get, insert, remove, get-insert, get-remove, same_map, nat_cmp-IsAntisymmetric, gets}
use Rattle.std.specs.Cmp.{nat_cmp_total, eq_by_cmp_equiv}

pub not_tied : (m n : ℕ) → m ≢ n → eq_by_cmp nat_cmp m n ≡ false
not_tied m n ne =
    elim (nat_cmp m n) as (λ r. nat_cmp m n ≡ r → is_eq r ≡ false) [
      | Less ↦ λ e. refl
      | Equal ↦ λ e. absurd (ne (nat_cmp-IsAntisymmetric m n e))
      | Greater ↦ λ e. refl
    ] refl

pub tied : (m n : ℕ) → m ≡ n → eq_by_cmp nat_cmp m n ≡ true
tied m n same = subst (λ k. eq_by_cmp nat_cmp m k ≡ true) same ((eq_by_cmp_equiv nat_cmp_total).refl m)

-- two maps that answer alike are one
pub held_alike : {E : Type 0} (h k : FinMap nat_cmp E) → ((n : ℕ) → get h n ≡ get k n) → h ≡ k
held_alike h k alike = same_map nat_cmp_total nat_cmp-IsAntisymmetric h k alike

-- ---- an entry that was added

pub get-insert_same : {E : Type 0} (h : FinMap nat_cmp E) (n : ℕ) (e : E) → get (insert h n e) n ≡ Some e
get-insert_same h n e = grind (arith, gets)

pub get-insert_other : {E : Type 0} (h : FinMap nat_cmp E) (n m : ℕ) (e : E) → m ≢ n → get (insert h n e) m ≡ get h m
get-insert_other h n m e ne = get-insert nat_cmp_total h n e m ∙ ap (λ b. cond b (Some e) (get h m)) (not_tied m n ne)

-- ---- an entry that was given back

pub get-remove_same : {E : Type 0} (h : FinMap nat_cmp E) (n : ℕ) → get (remove h n) n ≡ None
get-remove_same h n = grind (arith, gets)

pub get-remove_other : {E : Type 0} (h : FinMap nat_cmp E) (n m : ℕ) → m ≢ n → get (remove h n) m ≡ get h m
get-remove_other h n m ne = get-remove nat_cmp_total h n m ∙ ap (λ b. cond b None (get h m)) (not_tied m n ne)

-- what isn't there goes without a change
pub remove_none : {E : Type 0} (h : FinMap nat_cmp E) (n : ℕ) → get h n ≡ None → remove h n ≡ h
remove_none h n none =
    held_alike _ _ (λ m.
    ⊎_elim
    (λ same. subst (λ k. get (remove h n) k ≡ get h k) (sym same) (get-remove_same h n ∙ sym none))
    (λ ne. get-remove_other h n m ne)
    (cases_eq m n))

-- what was new and went again leaves what was there
pub remove-insert : {E : Type 0} (h : FinMap nat_cmp E) (n : ℕ) (e : E) → get h n ≡ None → remove (insert h n e) n ≡ h
remove-insert h n e new =
    held_alike _ _ (λ m.
    ⊎_elim
    (λ same. subst (λ k. get (remove (insert h n e) n) k ≡ get h k) (sym same) (get-remove_same (insert h n e) n ∙ sym new))
    (λ ne. get-remove_other (insert h n e) n m ne ∙ get-insert_other h n m e ne)
    (cases_eq m n))
