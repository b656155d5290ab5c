-- The chunks of a chain are linked to chunks that are held, and to no other number.
use Rattle.std.proofs.Common.{◌≡◌, ◌≢◌, ℕ, List, [], ◌∷◌, Option, Some, None, IsSome, IsSomeAnd, IfSome, cond, Bool, refl, sym, ap, ◌∙◌, subst, rules}
use Rattle.std.proofs.lemmas.Bool.{false≢true}
use Rattle.gpu_block_chunks.specs.declared.chunk.Chunk.{Chunk}
use Rattle.gpu_block_chunks.specs.Chain.{Node, IsChain, Held, Apart, IsUnlinked, SetsAt, first_or, last_or, node_of}
use Rattle.gpu_block_chunks.proofs.Links.{stands_from, held_back, prev_held, apart_test, apart_from_none}
use Rattle.gpu_block_chunks.proofs.Joins.{apart_among}

module _ (f : ℕ → Option Node) where
  first_held : (b : Option ℕ) (xs : List (ℕ × Chunk)) (a : Option ℕ) → Held f b xs a → IfSome a (λ p. IsSome (f p)) → IfSome (first_or xs a) (λ p. IsSome (f p))
  first_held b [] a h s = s
  first_held b (x ∷ xs) a h s = subst (λ (o : Option Node). IsSome o) (sym h.0) (search rules)

  pub next_held : (first size : ℕ) (cs : List (ℕ × Chunk)) → IsChain f first size cs → (k : ℕ) (n : Node) → f k ≡ Some n → IfSome n.next (λ p. IsSome (f p))
  next_held first size cs chain k n at =
      let s = stands_from k n.chunk cs (chain.every k n at) in
      let h = subst (λ (ys : List (ℕ × Chunk)). Held f None ys None) s.is chain.held in
      let back = held_back f None s.front ((k, n.chunk) ∷ s.back) None h in
      let is : Some n ≡ Some (node_of n.chunk (last_or None s.front) (first_or s.back None)) = sym at ∙ back.0 in
      let next : n.next ≡ first_or s.back None = cc in
      subst (λ (o : Option ℕ). IfSome o (λ p. IsSome (f p))) (sym next) (first_held (Some k) s.back None back.1 (search rules))

  -- a number that no chunk has is held nowhere, and nothing is linked to it
  none_from : (chunk_id : ℕ) (o : Option Node) → f chunk_id ≡ o → ((n : Node) → f chunk_id ≡ Some n → ⊥) → f chunk_id ≡ None
  none_from chunk_id None e never = e
  none_from chunk_id (Some n) e never = absurd (never n e)

  not_linked : (chunk_id : ℕ) → f chunk_id ≡ None → (o : Option ℕ) → IfSome o (λ p. IsSome (f p)) → o ≢ Some chunk_id
  not_linked chunk_id none o h =
      λ (e : o ≡ Some chunk_id).
      let s : IsSome (f chunk_id) = subst (λ (p : Option ℕ). IfSome p (λ j. IsSome (f j))) e h in
      let none_some : IsSome {T = Node} None = subst (λ (p : Option Node). IsSome p) none s in
      false≢true none_some

  pub unlinked : (first size : ℕ) (cs : List (ℕ × Chunk)) → IsChain f first size cs → (chunk_id : ℕ) → Apart chunk_id cs → IsUnlinked chunk_id f
  unlinked first size cs chain chunk_id apart =
      let none = none_from chunk_id (f chunk_id) refl (λ n e. apart_among chunk_id chunk_id n.chunk cs apart (chain.every chunk_id n e) refl) in
      record {
        none = none;
        apart = λ q n e. (not_linked chunk_id none n.prev (prev_held f first size cs chain q n e), not_linked chunk_id none n.next (next_held first size cs chain q n e));
      }

  pub unlinked_none : (first size : ℕ) (cs : List (ℕ × Chunk)) → IsChain f first size cs → (chunk_id : ℕ) → f chunk_id ≡ None → IsUnlinked chunk_id f
  unlinked_none first size cs chain chunk_id none = unlinked first size cs chain chunk_id (apart_from_none f chunk_id None cs None none chain.held)

  unlinked_apart : (chunk_id k : ℕ) → IsUnlinked chunk_id f → IsSome (f k) → chunk_id ≡ k → ⊥
  unlinked_apart chunk_id k un some is =
      let none_some : IsSome {T = Node} None = subst (λ (o : Option Node). IsSome o) (ap f (sym is) ∙ un.none) some in
      false≢true none_some

  -- what is held under another number stays, where one is put under a new number
  pub put_apart : (g : ℕ → Option Node) (chunk_id k : ℕ) (o : Option Node) → IsUnlinked chunk_id f → IsSome (f k) → SetsAt chunk_id o f g → g k ≡ f k
  put_apart g chunk_id k o un some sets = sets k ∙ ap (λ (b : Bool). cond b o (f k)) (apart_test chunk_id k (unlinked_apart chunk_id k un some))

  pub still_among : (P : Node → Type 0) (g : ℕ → Option Node) (chunk_id k : ℕ) (o : Option Node) → IsUnlinked chunk_id f → IsSome (f k) → SetsAt chunk_id o f g → IsSomeAnd (f k) P → IsSomeAnd (g k) P
  still_among P g chunk_id k o un some sets h = subst (λ (x : Option Node). IsSomeAnd x P) (sym (put_apart g chunk_id k o un some sets)) h
