-- Slots that are linked in a ring.
use Rattle.std.proofs.Common.{◌≡◌, ◌≢◌, ℕ, zero, suc, ◌+◌, ◌-◌, ◌<◌, ◌≤◌, ◌==◌, List, [], ◌∷◌, length, get_or, drop, ◌⊎◌, inl, inr, Bool, false, sym, ap, ◌∙◌, arith}
use Rattle.std.specs.Bool.{if◌then◌else◌}
use Rattle.std.specs.List.{AllPairs, insert, remove}
use Rattle.std.proofs.Math.Seq.{drop-cons}
use Rattle.std.proofs.lemmas.Bool.{cases_lt, cases_eq}
use Rattle.std.proofs.lemmas.Bool.Decides.{nat_tests}
use Rattle.std.proofs.lemmas.List.{get_or_past, drop_all}
use Rattle.std.proofs.lemmas.List.Edits.{length-insert, get_or-insert_below, get_or-insert_at, get_or-insert_above, length-remove, get_or-remove_below, get_or-remove_above}
use Rattle.gpu_block_gaps.specs.Records.{AreLinked, follow}

not_zero : (at : ℕ) → at ≢ 0 → (at == 0) ≡ false
not_zero at some = grind (arith, nat_tests)

-- ---- what is met along the links

pub follow_is : (next prev : ℕ → ℕ) (order : List ℕ) → AreLinked next prev order → AllPairs (λ a b. a ≢ b) (0 ∷ order) → (most k : ℕ) → k ≤ length order → length order ≤ k + most
    → follow most next (get_or order k 0) ≡ drop k order
follow_is next prev order linked distinct zero k le enough = sym (drop_all k order (omega arith))
follow_is next prev order linked distinct (suc most) k le enough = by_order (follow_is next prev order linked distinct most (suc k)) (cases_lt k (length order))
  where
    by_order : (suc k ≤ length order → length order ≤ suc k + most → follow most next (get_or order (suc k) 0) ≡ drop (suc k) order) → (k < length order) ⊎ (length order ≤ k)
        → follow (suc most) next (get_or order k 0) ≡ drop k order
    by_order rest (inl lt) =
        let some : get_or order k 0 ≢ 0 = λ none. distinct 0 (suc k) 0 (omega arith) (omega arith) (sym none) in
        let test = not_zero (get_or order k 0) some in
        let on : next (get_or order k 0) ≡ get_or order (suc k) 0 = (linked (suc k) lt).0 in
        ap (λ (b : Bool). if b then [] else (get_or order k 0 ∷ follow most next (next (get_or order k 0)))) test
        ∙ ap (λ m. get_or order k 0 ∷ follow most next m) on ∙ ap (λ (xs : List ℕ). get_or order k 0 ∷ xs) (rest (omega arith) (omega arith)) ∙ sym (drop-cons order k 0 lt)
    by_order rest (inr past) =
        ap (λ m. follow (suc most) next m) (get_or_past order k 0 past) ∙ sym (drop_all k order past)

module _ (next prev next' prev' : ℕ → ℕ) (order : List ℕ) (linked : AreLinked next prev order) (distinct : AllPairs (λ a b. a ≢ b) (0 ∷ order)) where
  -- places of the ring have slots of their own
  other : (i j : ℕ) → i ≤ length order → j ≤ length order → i ≢ j → get_or (0 ∷ order) i 0 ≢ get_or (0 ∷ order) j 0
  other i j in_i in_j apart same = by_order (cases_lt i j)
    where
      by_order : (i < j) ⊎ (j ≤ i) → ⊥
      by_order (inl lt) = distinct i j 0 lt (omega arith) same
      by_order (inr ge) = distinct j i 0 (omega arith) (omega arith) (sym same)

  -- and so have those behind them
  other_next : (i j : ℕ) → i ≤ length order → j ≤ length order → i ≢ j → get_or order i 0 ≢ get_or order j 0
  other_next i j in_i in_j apart same = by_order (cases_lt i (length order)) (cases_lt j (length order))
    where
      by_order : (i < length order) ⊎ (length order ≤ i) → (j < length order) ⊎ (length order ≤ j) → ⊥
      by_order (inl a) (inl b) = other (suc i) (suc j) a b (λ e. omega arith) same
      by_order (inl a) (inr b) = other (suc i) 0 a (omega arith) (λ e. omega arith) (same ∙ get_or_past order j 0 b)
      by_order (inr a) (inl b) = other 0 (suc j) (omega arith) b (λ e. omega arith) (sym (get_or_past order i 0 a) ∙ same)
      by_order (inr a) (inr b) = omega arith

  -- ---- one more

  module _ (p s : ℕ) (le : p ≤ length order) (fresh : (k : ℕ) → k ≤ length order → get_or (0 ∷ order) k 0 ≢ s)
      (next_at : next' (get_or (0 ∷ order) p 0) ≡ s) (next_new : next' s ≡ get_or order p 0) (next_same : (k : ℕ) → k ≢ get_or (0 ∷ order) p 0 → k ≢ s → next' k ≡ next k)
      (prev_at : prev' (get_or order p 0) ≡ s) (prev_new : prev' s ≡ get_or (0 ∷ order) p 0) (prev_same : (k : ℕ) → k ≢ get_or order p 0 → k ≢ s → prev' k ≡ prev k) where
    long : length (insert order p s) ≡ length order + 1
    long = length-insert order p s le

    fresh_next : (k : ℕ) → k ≤ length order → get_or order k 0 ≢ s
    fresh_next k in_k same = by_order (cases_lt k (length order))
      where
        by_order : (k < length order) ⊎ (length order ≤ k) → ⊥
        by_order (inl a) = fresh (suc k) a same
        by_order (inr a) = fresh 0 (omega arith) (sym (get_or_past order k 0 a) ∙ same)

    -- a place whose links are as before
    same_links : (k : ℕ) → k ≤ length order → k ≢ p → (next' (get_or (0 ∷ order) k 0) ≡ get_or order k 0) × (prev' (get_or order k 0) ≡ get_or (0 ∷ order) k 0)
    same_links k in_k apart = (
      next_same (get_or (0 ∷ order) k 0) (other k p in_k le apart) (fresh k in_k) ∙ (linked k in_k).0,
      prev_same (get_or order k 0) (other_next k p in_k le apart) (fresh_next k in_k) ∙ (linked k in_k).1,
    )

    related : (k a b : ℕ) → get_or (0 ∷ insert order p s) k 0 ≡ a → get_or (insert order p s) k 0 ≡ b → (next' a ≡ b) × (prev' b ≡ a)
        → (next' (get_or (0 ∷ insert order p s) k 0) ≡ get_or (insert order p s) k 0) × (prev' (get_or (insert order p s) k 0) ≡ get_or (0 ∷ insert order p s) k 0)
    related k a b is_a is_b links = (ap next' is_a ∙ links.0 ∙ sym is_b, ap prev' is_b ∙ links.1 ∙ sym is_a)

    pub linked_more : AreLinked next' prev' (insert order p s)
    linked_more k in_k = by_order (cases_lt k p) (cases_lt (suc p) k)
      where
        by_order : (k < p) ⊎ (p ≤ k) → (suc p < k) ⊎ (k ≤ suc p)
            → (next' (get_or (0 ∷ insert order p s) k 0) ≡ get_or (insert order p s) k 0) × (prev' (get_or (insert order p s) k 0) ≡ get_or (0 ∷ insert order p s) k 0)
        by_order (inl a) b =
            related k (get_or (0 ∷ order) k 0) (get_or order k 0) (get_or-insert_below (0 ∷ order) (suc p) s 0 k (omega arith) (omega arith)) (get_or-insert_below order p s 0 k a le)
            (same_links k (omega arith) (λ e. omega arith))
        by_order (inr a) (inl b) =
            let e : k ≡ k - 1 + 1 = omega arith in
            related k (get_or (0 ∷ order) (k - 1) 0) (get_or order (k - 1) 0)
            (ap (λ j. get_or (0 ∷ insert order p s) j 0) e ∙ get_or-insert_above (0 ∷ order) (suc p) s 0 (k - 1) (omega arith) (omega arith))
            (ap (λ j. get_or (insert order p s) j 0) e ∙ get_or-insert_above order p s 0 (k - 1) (omega arith) le)
            (same_links (k - 1) (omega (arith, long)) (λ e. omega arith))
        by_order (inr a) (inr b) = by_place (cases_eq k p)
          where
            by_place : (k ≡ p) ⊎ (k ≢ p)
                → (next' (get_or (0 ∷ insert order p s) k 0) ≡ get_or (insert order p s) k 0) × (prev' (get_or (insert order p s) k 0) ≡ get_or (0 ∷ insert order p s) k 0)
            by_place (inl e) =
                related k (get_or (0 ∷ order) p 0) s
                (ap (λ j. get_or (0 ∷ insert order p s) j 0) e ∙ get_or-insert_below (0 ∷ order) (suc p) s 0 p (omega arith) (omega arith))
                (ap (λ j. get_or (insert order p s) j 0) e ∙ get_or-insert_at order p s 0 le)
                (next_at, prev_new)
            by_place (inr apart) =
                let e : k ≡ suc p = omega arith in
                let f : k ≡ p + 1 = omega arith in
                related k s (get_or order p 0)
                (ap (λ j. get_or (0 ∷ insert order p s) j 0) e ∙ get_or-insert_at order p s 0 le)
                (ap (λ j. get_or (insert order p s) j 0) f ∙ get_or-insert_above order p s 0 p (omega arith) le)
                (next_new, prev_at)

  -- ---- one less

  module _ (p : ℕ) (lt : p < length order)
      (next_at : next' (get_or (0 ∷ order) p 0) ≡ get_or order (suc p) 0) (next_same : (k : ℕ) → k ≢ get_or (0 ∷ order) p 0 → next' k ≡ next k)
      (prev_at : prev' (get_or order (suc p) 0) ≡ get_or (0 ∷ order) p 0) (prev_same : (k : ℕ) → k ≢ get_or order (suc p) 0 → prev' k ≡ prev k) where
    short : length (remove order p) + 1 ≡ length order
    short = length-remove order p lt

    related_less : (k a b : ℕ) → get_or (0 ∷ remove order p) k 0 ≡ a → get_or (remove order p) k 0 ≡ b → (next' a ≡ b) × (prev' b ≡ a)
        → (next' (get_or (0 ∷ remove order p) k 0) ≡ get_or (remove order p) k 0) × (prev' (get_or (remove order p) k 0) ≡ get_or (0 ∷ remove order p) k 0)
    related_less k a b is_a is_b links = (ap next' is_a ∙ links.0 ∙ sym is_b, ap prev' is_b ∙ links.1 ∙ sym is_a)

    pub linked_less : AreLinked next' prev' (remove order p)
    linked_less k in_k = by_order (cases_lt k p) (cases_lt p k)
      where
        by_order : (k < p) ⊎ (p ≤ k) → (p < k) ⊎ (k ≤ p)
            → (next' (get_or (0 ∷ remove order p) k 0) ≡ get_or (remove order p) k 0) × (prev' (get_or (remove order p) k 0) ≡ get_or (0 ∷ remove order p) k 0)
        by_order (inl a) b =
            related_less k (get_or (0 ∷ order) k 0) (get_or order k 0) (get_or-remove_below (0 ∷ order) (suc p) 0 k (omega arith) (omega arith)) (get_or-remove_below order p 0 k a lt) (
              next_same (get_or (0 ∷ order) k 0) (other k p (omega arith) (omega arith) (λ e. omega arith)) ∙ (linked k (omega arith)).0,
              prev_same (get_or order k 0) (other_next k (suc p) (omega arith) lt (λ e. omega arith)) ∙ (linked k (omega arith)).1,
            )
        by_order (inr a) (inl b) =
            related_less k (get_or (0 ∷ order) (k + 1) 0) (get_or order (k + 1) 0)
            (get_or-remove_above (0 ∷ order) (suc p) 0 k b (omega arith))
            (get_or-remove_above order p 0 k a lt) (
              next_same (get_or (0 ∷ order) (k + 1) 0) (other (k + 1) p (omega (arith, short)) (omega arith) (λ e. omega arith)) ∙ (linked (k + 1) (omega (arith, short))).0,
              prev_same (get_or order (k + 1) 0) (other_next (k + 1) (suc p) (omega (arith, short)) lt (λ e. omega arith)) ∙ (linked (k + 1) (omega (arith, short))).1,
            )
        by_order (inr a) (inr b) =
            let e : k ≡ p = omega arith in
            let f : p + 1 ≡ suc p = omega arith in
            related_less k (get_or (0 ∷ order) p 0) (get_or order (suc p) 0)
            (ap (λ j. get_or (0 ∷ remove order p) j 0) e ∙ get_or-remove_below (0 ∷ order) (suc p) 0 p (omega arith) (omega arith))
            (ap (λ j. get_or (remove order p) j 0) e ∙ get_or-remove_above order p 0 p (omega arith) lt ∙ ap (λ j. get_or order j 0) f)
            (next_at, prev_at)
