-- Lists in the order of a key, and edits of them.
use Rattle.std.proofs.Common.{◌≡◌, ◌≢◌, ℕ, ◌<◌, ◌≤◌, List, [], ◌∷◌, ◌++◌, refl, ap, ◌∙◌, arith, true, false, cond, ltb, eqb, map}
use Rattle.std.specs.Prelude.{All, filter, not}
use Rattle.std.proofs.lemmas.List.Elements.{All-head, All-tail}
use Rattle.std.proofs.lemmas.Bool.Decides.{nat_tests}
use Rattle.gpu_block_pieces.specs.Changes.{placed}

pub lt_true : (a b : ℕ) → a < b → ltb a b ≡ true
lt_true a b h = grind (arith, nat_tests)

pub lt_false : (a b : ℕ) → b ≤ a → ltb a b ≡ false
lt_false a b h = grind (arith, nat_tests)

pub eq_false : (a b : ℕ) → a ≢ b → eqb a b ≡ false
eq_false a b h = grind (arith, nat_tests)

pub eq_true : (a b : ℕ) → a ≡ b → eqb a b ≡ true
eq_true a b h = grind (arith, nat_tests)

module _ {X : Type 0} (key : X → ℕ) where
  pub placed-below : (x : X) (xs ys : List X) → All (λ y. key y < key x) xs → placed key x (xs ++ ys) ≡ xs ++ placed key x ys
  placed-below x [] ys h = refl
  placed-below x (y ∷ xs) ys h =
      let lt = lt_true (key y) (key x) (All-head (λ z. key z < key x) y xs h) in
      ap (λ b. cond b (y ∷ placed key x (xs ++ ys)) (x ∷ y ∷ (xs ++ ys))) lt ∙ ap (λ zs. y ∷ zs) (placed-below x xs ys (All-tail (λ z. key z < key x) y xs h))

  pub placed-above : (x : X) (ys : List X) → All (λ y. key x ≤ key y) ys → placed key x ys ≡ x ∷ ys
  placed-above x [] h = refl
  placed-above x (y ∷ ys) h =
      let le = lt_false (key y) (key x) (All-head (λ z. key x ≤ key z) y ys h) in
      ap (λ b. cond b (y ∷ placed key x ys) (x ∷ y ∷ ys)) le

  pub placed-mid : (x : X) (xs ys : List X) → All (λ y. key y < key x) xs → All (λ y. key x ≤ key y) ys → placed key x (xs ++ ys) ≡ xs ++ x ∷ ys
  placed-mid x xs ys a b = placed-below x xs ys a ∙ ap (λ zs. xs ++ zs) (placed-above x ys b)

  pub kept_all : (k : ℕ) (xs : List X) → All (λ y. key y ≢ k) xs → filter (λ y. not (eqb (key y) k)) xs ≡ xs
  kept_all k [] h = refl
  kept_all k (y ∷ xs) h =
      let ne = eq_false (key y) k (All-head (λ z. key z ≢ k) y xs h) in
      ap (λ b. cond (not b) (y ∷ filter (λ z. not (eqb (key z) k)) xs) (filter (λ z. not (eqb (key z) k)) xs)) ne ∙ ap (λ zs. y ∷ zs) (kept_all k xs (All-tail (λ z. key z ≢ k) y xs h))

  pub kept_mid : (k : ℕ) (x : X) (xs ys : List X) → key x ≡ k → All (λ y. key y ≢ k) xs → All (λ y. key y ≢ k) ys → filter (λ y. not (eqb (key y) k)) (xs ++ x ∷ ys) ≡ xs ++ ys
  kept_mid k x [] ys e a b =
      ap (λ c. cond (not c) (x ∷ filter (λ z. not (eqb (key z) k)) ys) (filter (λ z. not (eqb (key z) k)) ys)) (eq_true (key x) k e) ∙ kept_all k ys b
  kept_mid k x (y ∷ xs) ys e a b =
      let ne = eq_false (key y) k (All-head (λ z. key z ≢ k) y xs a) in
      ap (λ c. cond (not c) (y ∷ filter (λ z. not (eqb (key z) k)) (xs ++ x ∷ ys)) (filter (λ z. not (eqb (key z) k)) (xs ++ x ∷ ys))) ne ∙ ap (λ zs. y ∷ zs)
      (kept_mid k x xs ys e (All-tail (λ z. key z ≢ k) y xs a) b)

  pub changed_none : (k : ℕ) (f : X → X) (xs : List X) → All (λ y. key y ≢ k) xs → map (λ y. cond (eqb (key y) k) (f y) y) xs ≡ xs
  changed_none k f [] h = refl
  changed_none k f (y ∷ xs) h =
      let ne = eq_false (key y) k (All-head (λ z. key z ≢ k) y xs h) in
      ap (λ b. cond b (f y) y ∷ map (λ z. cond (eqb (key z) k) (f z) z) xs) ne ∙ ap (λ zs. y ∷ zs) (changed_none k f xs (All-tail (λ z. key z ≢ k) y xs h))

  pub changed_mid : (k : ℕ) (f : X → X) (x : X) (xs ys : List X) → key x ≡ k → All (λ y. key y ≢ k) xs → All (λ y. key y ≢ k) ys → map (λ y. cond (eqb (key y) k) (f y) y) (xs ++ x ∷ ys) ≡ xs ++ f x ∷
      ys
  changed_mid k f x [] ys e a b =
      ap (λ c. cond c (f x) x ∷ map (λ z. cond (eqb (key z) k) (f z) z) ys) (eq_true (key x) k e) ∙ ap (λ zs. f x ∷ zs) (changed_none k f ys b)
  changed_mid k f x (y ∷ xs) ys e a b =
      let ne = eq_false (key y) k (All-head (λ z. key z ≢ k) y xs a) in
      ap (λ c. cond c (f y) y ∷ map (λ z. cond (eqb (key z) k) (f z) z) (xs ++ x ∷ ys)) ne ∙ ap (λ zs. y ∷ zs) (changed_mid k f x xs ys e (All-tail (λ z. key z ≢ k) y xs a) b)
