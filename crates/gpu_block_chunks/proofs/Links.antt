-- Lists of chunks that a map holds.
use Rattle.std.proofs.Common.{◌≡◌, ℕ, ◌+◌, ◌≤◌, zero, suc, List, [], ◌∷◌, ◌++◌, length, Option, Some, None, IsSome, IfSome, refl, sym, ap, ◌∙◌, subst, inl, inr, arith, rules, true, false, ◌==◌}
use Rattle.std.proofs.lemmas.Bool.Decides.{nat_tests}
use Rattle.gpu_block_chunks.specs.declared.chunk.Chunk.{Chunk}
use Rattle.gpu_block_chunks.specs.Chain.{Node}
use Rattle.gpu_block_chunks.specs.ChunkList.{Covers}
use Rattle.gpu_block_chunks.specs.Chain.{first_or, last_or, node_of, Held, Apart, Distinct, Numbered, Among, Stands, IsChain, met, walk, chunks_in}

pub stands_from : (k : ℕ) (c : Chunk) (cs : List (ℕ × Chunk)) → Among k c cs → Stands cs k c
stands_from k c [] h = elim h [ ]
stands_from k c (x ∷ xs) (inl same) = record { front = []; back = xs; is = ap (λ (j : ℕ). (j, x.1) ∷ xs) same.0 ∙ ap (λ (d : Chunk). (k, d) ∷ xs) same.1 }
stands_from k c (x ∷ xs) (inr later) =
    let s = stands_from k c xs later in
    record { front = x ∷ s.front; back = s.back; is = ap (λ (ys : List (ℕ × Chunk)). x ∷ ys) s.is }

pub same_test : (k : ℕ) → (k == k) ≡ true
same_test k = grind (arith, nat_tests)

pub apart_test : (k q : ℕ) → (k ≡ q → ⊥) → (k == q) ≡ false
apart_test k q apart = grind (arith, nat_tests)

apart_test_back : (k q : ℕ) → (k ≡ q → ⊥) → (q == k) ≡ false
apart_test_back k q apart = apart_test q k (λ (e : q ≡ k). apart (sym e))

pub apart_append : (k : ℕ) (xs ys : List (ℕ × Chunk)) → Apart k (xs ++ ys) → Apart k xs × Apart k ys
apart_append k [] ys h = (tt, h)
apart_append k (x ∷ xs) ys h = let r = apart_append k xs ys h.1 in ((h.0, r.0), r.1)

pub numbered_at : (front : List (ℕ × Chunk)) (k : ℕ) (c : Chunk) (back : List (ℕ × Chunk)) → Numbered (front ++ (k, c) ∷ back) → c.chunk_id ≡ k
numbered_at [] k c back h = h.0
numbered_at (x ∷ xs) k c back h = numbered_at xs k c back h.1

-- the numbers in front of a chunk are not its number
pub apart_front : (front : List (ℕ × Chunk)) (k : ℕ) (c : Chunk) (back : List (ℕ × Chunk)) → Distinct (front ++ (k, c) ∷ back) → Apart k front
apart_front [] k c back d = tt
apart_front (x ∷ xs) k c back d =
    let r = apart_append x.0 xs ((k, c) ∷ back) d.0 in
    ((λ (e : k ≡ x.0). r.1.0 (sym e)), apart_front xs k c back d.1)

is_some_some : (n : Node) → IsSome (Some n)
is_some_some n = search rules

module _ (f : ℕ → Option Node) where
  pub held_front : (b : Option ℕ) (xs ys : List (ℕ × Chunk)) (a : Option ℕ) → Held f b (xs ++ ys) a → Held f b xs (first_or ys a)
  held_front b [] ys a h = tt
  held_front b (x ∷ []) ys a h = (h.0, tt)
  held_front b (x ∷ (y ∷ xs)) ys a h = (h.0, held_front (Some x.0) (y ∷ xs) ys a h.1)

  pub held_back : (b : Option ℕ) (xs ys : List (ℕ × Chunk)) (a : Option ℕ) → Held f b (xs ++ ys) a → Held f (last_or b xs) ys a
  held_back b [] ys a h = h
  held_back b (x ∷ xs) ys a h = held_back (Some x.0) xs ys a h.1

  pub held_join : (b : Option ℕ) (xs ys : List (ℕ × Chunk)) (a : Option ℕ) → Held f b xs (first_or ys a) → Held f (last_or b xs) ys a → Held f b (xs ++ ys) a
  held_join b [] ys a h g = g
  held_join b (x ∷ []) ys a h g = (h.0, g)
  held_join b (x ∷ (y ∷ xs)) ys a h g = (h.0, held_join (Some x.0) (y ∷ xs) ys a h.1 g)

  -- a walk that is long enough meets the whole list
  pub walk_is : (n : ℕ) (b : Option ℕ) (xs : List (ℕ × Chunk)) → Held f b xs None → length xs ≤ n → walk n f (first_or xs None) ≡ xs
  walk_is zero b [] h le = refl
  walk_is (suc n) b [] h le = refl
  walk_is zero b (x ∷ xs) h le = absurd (omega arith)
  walk_is (suc n) b (x ∷ xs) h le =
      ap (λ (o : Option Node). met o x.0 (walk n f)) h.0 ∙ ap (λ (ys : List (ℕ × Chunk)). (x.0, x.1) ∷ ys) (walk_is n (Some x.0) xs h.1 (omega arith))

  pub apart_from_none : (k : ℕ) (b : Option ℕ) (xs : List (ℕ × Chunk)) (a : Option ℕ) → f k ≡ None → Held f b xs a → Apart k xs
  apart_from_none k b [] a none h = tt
  apart_from_none k b (x ∷ xs) a none h =
      ((λ (e : k ≡ x.0). let s : Some (node_of x.1 b (first_or xs a)) ≡ None = sym h.0 ∙ ap f (sym e) ∙ none in cc), apart_from_none k (Some x.0) xs a none h.1)

pub length_covered : (xs : List (ℕ × Chunk)) (from to : ℕ) → Covers (chunks_in xs) from to → length xs + from ≤ to
length_covered [] from to h = omega arith
length_covered (x ∷ xs) from to h = let r = length_covered xs (from + (x.1).size) to h.2 in omega arith

pub stands_within : (front : List (ℕ × Chunk)) (k : ℕ) (c : Chunk) (back : List (ℕ × Chunk)) (from to : ℕ) → Covers (chunks_in (front ++ (k, c) ∷ back)) from to → c.start + c.size ≤ to
stands_within [] k c back from to h = let r = length_covered back (from + c.size) to h.2 in omega arith
stands_within (x ∷ xs) k c back from to h = stands_within xs k c back (from + (x.1).size) to h.2

pub held_within : (f : ℕ → Option Node) (first size : ℕ) (cs : List (ℕ × Chunk)) → IsChain f first size cs → (k : ℕ) (n : Node) → f k ≡ Some n → (n.chunk).start + (n.chunk).size ≤ size
held_within f first size cs chain k n at =
    let s = stands_from k n.chunk cs (chain.every k n at) in
    stands_within s.front k n.chunk s.back 0 size (subst (λ (ys : List (ℕ × Chunk)). Covers (chunks_in ys) 0 size) s.is chain.covers)

-- the walk from the first chunk is the chain's list
pub chain_walk : (f : ℕ → Option Node) (first size : ℕ) (cs : List (ℕ × Chunk)) → IsChain f first size cs → walk size f (Some first) ≡ cs
chain_walk f first size cs chain =
    let n = length_covered cs 0 size chain.covers in
    ap (walk size f) (sym chain.starts) ∙ walk_is f size None cs chain.held (omega arith)

pub walk_chain : (f : ℕ → Option Node) (first size : ℕ) (cs : List (ℕ × Chunk)) → IsChain f first size cs → IsChain f first size (walk size f (Some first))
walk_chain f first size cs chain = subst (λ (ys : List (ℕ × Chunk)). IsChain f first size ys) (sym (chain_walk f first size cs chain)) chain

-- what stands in the list is held
pub held_among : (f : ℕ → Option Node) (b : Option ℕ) (cs : List (ℕ × Chunk)) (a : Option ℕ) → Held f b cs a → (k : ℕ) (c : Chunk) → Among k c cs → (n : Node) × (f k ≡ Some n) × (n.chunk ≡ c)
held_among f b [] a h k c m = elim m [ ]
held_among f b (x ∷ xs) a h k c (inl same) = (node_of x.1 b (first_or xs a), ap f (sym same.0) ∙ h.0, same.1)
held_among f b (x ∷ xs) a h k c (inr later) = held_among f (Some x.0) xs a h.1 k c later

last_held : (f : ℕ → Option Node) (b : Option ℕ) (xs : List (ℕ × Chunk)) (a : Option ℕ) → Held f b xs a → IfSome b (λ p. IsSome (f p)) → IfSome (last_or b xs) (λ p. IsSome (f p))
last_held f b [] a h s = s
last_held f b (x ∷ xs) a h s = last_held f (Some x.0) xs a h.1 (subst (λ (o : Option Node). IsSome o) (sym h.0) (is_some_some (node_of x.1 b (first_or xs a))))

pub prev_held : (f : ℕ → Option Node) (first size : ℕ) (cs : List (ℕ × Chunk)) → IsChain f first size cs → (k : ℕ) (n : Node) → f k ≡ Some n → IfSome n.prev (λ p. IsSome (f p))
prev_held f first size cs chain k n at =
    let s = stands_from k n.chunk cs (chain.every k n at) in
    let h = subst (λ (ys : List (ℕ × Chunk)). Held f None ys None) s.is chain.held in
    let back = held_back f None s.front ((k, n.chunk) ∷ s.back) None h in
    let is : Some n ≡ Some (node_of n.chunk (last_or None s.front) (first_or s.back None)) = sym at ∙ back.0 in
    let prev : n.prev ≡ last_or None s.front = cc in
    subst (λ (o : Option ℕ). IfSome o (λ p. IsSome (f p))) (sym prev) (last_held f None s.front (Some k) (held_front f None s.front ((k, n.chunk) ∷ s.back) None h) (search rules))
