-- A text in parts that is copied from some byte on.
use Rattle.std.proofs.Common.{◌≡◌, ℕ, zero, suc, ◌+◌, ◌-◌, List, [], ◌∷◌, ◌++◌, length, take, drop, refl, sym, ap, subst, ◌∙◌, arith, append-nil}
use Rattle.gpu_c.specs.Visit.{room_for, copied_into}
use Rattle.gpu_c.proofs.Filling.{Fills, fills_begin, fills_append, fills_end}

module _ {A : Type 0} where
  -- what lies behind so many of two parts
  drop_both : (n : ℕ) (xs ys : List A) → drop n (xs ++ ys) ≡ drop n xs ++ drop (n - length xs) ys
  drop_both zero xs ys = let e : zero - length xs ≡ zero = omega arith in subst (λ (k : ℕ). xs ++ ys ≡ xs ++ drop k ys) (sym e) refl
  drop_both (suc n) [] ys = let e : suc n - zero ≡ suc n = omega arith in subst (λ (k : ℕ). drop (suc n) ys ≡ drop k ys) (sym e) refl
  drop_both (suc n) (x ∷ xs) ys = let e : suc n - suc (length xs) ≡ n - length xs = omega arith in subst (λ (k : ℕ). drop n (xs ++ ys) ≡ drop n xs ++ drop k ys) (sym e) (drop_both n xs ys)

  next : (all old s todo now now' : List A) (count count' : ℕ) → Fills all old (s ++ todo) now count → count' ≡ count + room_for s (drop count now)
      → now' ≡ take count now ++ copied_into s (drop count now) → Fills all old todo now' count'
  next all old s todo now now' count count' f c n =
      subst (λ (k : ℕ). Fills all old todo now' k) (sym c)
      (subst (λ (w : List A). Fills all old todo w (count + room_for s (drop count now))) (sym n) (fills_append all old s todo now count f))

  -- four parts were copied one after another
  pub copied_parts : (a b c d old m1 m2 m3 m4 : List A) (n n1 n2 n3 n4 k1 k2 k3 : ℕ) → k1 ≡ n - length a → k2 ≡ k1 - length b → k3 ≡ k2 - length c
      → n1 ≡ 0 + room_for (drop n a) (drop 0 old) → m1 ≡ take 0 old ++ copied_into (drop n a) (drop 0 old)
      → n2 ≡ n1 + room_for (drop k1 b) (drop n1 m1) → m2 ≡ take n1 m1 ++ copied_into (drop k1 b) (drop n1 m1)
      → n3 ≡ n2 + room_for (drop k2 c) (drop n2 m2) → m3 ≡ take n2 m2 ++ copied_into (drop k2 c) (drop n2 m2)
      → n4 ≡ n3 + room_for (drop k3 d) (drop n3 m3) → m4 ≡ take n3 m3 ++ copied_into (drop k3 d) (drop n3 m3)
      → (m4 ≡ copied_into (drop n (a ++ (b ++ (c ++ d)))) old) × (n4 ≡ room_for (drop n (a ++ (b ++ (c ++ d)))) old)
  copied_parts a b c d old m1 m2 m3 m4 n n1 n2 n3 n4 k1 k2 k3 e1 e2 e3 c1 p1 c2 p2 c3 p3 c4 p4 =
      let all : List A = drop n (a ++ (b ++ (c ++ d))) in
      let r3 : drop k2 (c ++ d) ≡ drop k2 c ++ drop k3 d = drop_both k2 c d ∙ ap (λ (k : ℕ). drop k2 c ++ drop k d) (sym e3) in
      let r2 : drop k1 (b ++ (c ++ d)) ≡ drop k1 b ++ drop k2 (c ++ d) = drop_both k1 b (c ++ d) ∙ ap (λ (k : ℕ). drop k1 b ++ drop k (c ++ d)) (sym e2) in
      let r1 : all ≡ drop n a ++ drop k1 (b ++ (c ++ d)) = drop_both n a (b ++ (c ++ d)) ∙ ap (λ (k : ℕ). drop n a ++ drop k (b ++ (c ++ d))) (sym e1) in
      let f0 : Fills all old (drop n a ++ drop k1 (b ++ (c ++ d))) old 0 = subst (λ (t : List A). Fills all old t old 0) r1 (fills_begin all old) in
      let f1 : Fills all old (drop k1 (b ++ (c ++ d))) m1 n1 = next all old (drop n a) _ old m1 0 n1 f0 c1 p1 in
      let f2 : Fills all old (drop k2 (c ++ d)) m2 n2 = next all old (drop k1 b) _ m1 m2 n1 n2 (subst (λ (t : List A). Fills all old t m1 n1) r2 f1) c2 p2 in
      let f3 : Fills all old (drop k3 d) m3 n3 = next all old (drop k2 c) _ m2 m3 n2 n3 (subst (λ (t : List A). Fills all old t m2 n2) r3 f2) c3 p3 in
      let f4 : Fills all old [] m4 n4 = next all old (drop k3 d) [] m3 m4 n3 n4 (subst (λ (t : List A). Fills all old t m3 n3) (sym (append-nil (drop k3 d))) f3) c4 p4 in
      fills_end all old m4 n4 f4
