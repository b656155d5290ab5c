-- A chunk that is freed and longer with its neighbours.
use Rattle.std.proofs.Common.{◌≡◌, ℕ, ◌+◌, ◌<◌, ◌^◌, List, [], ◌∷◌, ◌++◌, Option, Some, None, IsSome, refl, sym, ap, ◌∙◌, subst, inl, inr, ⊎_elim, arith, rules, cond, Bool, true, false, ◌==◌}
use Rattle.std.specs.Option.{option_map}
use Rattle.std.proofs.lemmas.Bool.{cases_eq}
use Rattle.std.proofs.lemmas.List.{append_assoc}
use Rattle.gpu_block_chunks.specs.declared.chunk.Chunk.{Chunk}
use Rattle.gpu_block_chunks.specs.declared.chain.Neighbour.{Neighbour}
use Rattle.gpu_block_chunks.specs.Chain.{Node}
use Rattle.gpu_values.specs.declared.allocation_type.AllocationType.{AllocationType}
use Rattle.gpu_values.specs.declared.allocation_type.AllocationType.TheVariants.{Free, Linear, NonLinear}
use Rattle.gpu_block_chunks.specs.declared.label.Label.{Label}
use Rattle.gpu_block_chunks.specs.Chain.{used_node, worded_node, ChangesAt, SetsAt}
use Rattle.gpu_block_chunks.specs.ChunkList.{Covers, filled_chunk}
use Rattle.gpu_block_chunks.specs.Chain.{first_or, last_or, node_of, Apart, Distinct, Numbered, Among, LinkedAt, IsChain, CanJoin, JoinsNext, JoinsRight, JoinsLeft, longer, is_free_kind}
use Rattle.gpu_block_chunks.specs.Chain.{right_chunk, right_rest, glue_left, walk, chunks_in, JoinsUnder, beside, last_beside, first_by, first_of}
use Rattle.gpu_block_chunks.proofs.Links.{stands_from, same_test, apart_test, numbered_at, apart_front, held_front, held_back, held_join, walk_chain, chain_walk}
use Rattle.gpu_block_chunks.proofs.Splits.{Same, distinct_back, opt_none, same_from, held_same, among_front, among_back, among_cases}

at_is : (f : ℕ → Option Node) (k first size : ℕ) (front : List (ℕ × Chunk)) (c : Chunk) (back : List (ℕ × Chunk)) → IsChain f first size (front ++ (k, c) ∷ back)
    → f k ≡ Some (node_of c (last_or None front) (first_or back None))
at_is f k first size front c back l = (held_back f None front ((k, c) ∷ back) None l.held).0

pub linked_has : (f : ℕ → Option Node) (k : ℕ) → LinkedAt f k → IsSome (f k)
linked_has f k l = subst (λ (o : Option Node). IsSome o) (sym (at_is f k l.first l.size l.front l.chunk l.back l.linked)) (search rules)

next_back : (r : ℕ) (back : List (ℕ × Chunk)) → first_or back None ≡ Some r → (y : Chunk) × (ys : List (ℕ × Chunk)) × (back ≡ (r, y) ∷ ys)
next_back r [] h = cc
next_back r (b ∷ bs) h = let e : b.0 ≡ r = cc in (b.1, bs, ap (λ (j : ℕ). (j, b.1) ∷ bs) e)

back_nil : (back : List (ℕ × Chunk)) → first_or back None ≡ None → back ≡ []
back_nil [] h = refl
back_nil (b ∷ bs) h = cc

last_some : (z : ℕ) (xs : List (ℕ × Chunk)) → last_or (Some z) xs ≡ None → ⊥
last_some z [] h = cc
last_some z (x ∷ xs) h = last_some x.0 xs h

front_nil : (front : List (ℕ × Chunk)) → last_or None front ≡ None → front ≡ []
front_nil [] h = refl
front_nil (x ∷ xs) h = absurd (last_some x.0 xs h)

prev_from : (p : ℕ) (z : ℕ × Chunk) (xs : List (ℕ × Chunk)) → last_or (Some z.0) xs ≡ Some p → (ys : List (ℕ × Chunk)) × (d : Chunk) × (z ∷ xs ≡ ys ++ (p, d) ∷ [])
prev_from p z [] h = let e : z.0 ≡ p = cc in ([], z.1, ap (λ (j : ℕ). (j, z.1) ∷ []) e)
prev_from p z (x ∷ xs) h = let r = prev_from p x xs h in (z ∷ r.0, r.1, ap (λ (ys : List (ℕ × Chunk)). z ∷ ys) r.2)

prev_front : (p : ℕ) (front : List (ℕ × Chunk)) → last_or None front ≡ Some p → (ys : List (ℕ × Chunk)) × (d : Chunk) × (front ≡ ys ++ (p, d) ∷ [])
prev_front p [] h = cc
prev_front p (x ∷ xs) h = prev_from p x xs h

glue_is : (p k : ℕ) (d c : Chunk) (back xs : List (ℕ × Chunk)) → glue_left (xs ++ (p, d) ∷ []) k c back ≡ xs ++ cond (is_free_kind d.kind) ((p, longer d c.size) ∷ back) ((p, d) ∷ (k, c) ∷ back)
glue_is p k d c back [] = refl
glue_is p k d c back (x ∷ []) = refl
glue_is p k d c back (x ∷ (y ∷ xs)) = ap (λ (ys : List (ℕ × Chunk)). x ∷ ys) (glue_is p k d c back (y ∷ xs))

-- the number that a chunk and the one before are under, if they become one
first_is : (kind : AllocationType) (p k : ℕ) → first_by kind p k ≡ cond (is_free_kind kind) p k
first_is Free p k = refl
first_is Linear p k = refl
first_is NonLinear p k = refl

last_is : (o : Option Neighbour) (xs : List (ℕ × Chunk)) (p : ℕ) (d : Chunk) → last_beside o (chunks_in (xs ++ (p, d) ∷ [])) ≡ Some (beside d)
last_is o [] p d = refl
last_is o (x ∷ xs) p d = last_is (Some (beside x.1)) xs p d

-- two that became one are held under the number of the first
pub joined_has : (f g : ℕ → Option Node) (p k : ℕ) → CanJoin f p k → JoinsNext p k f g → IsSome (g p)
joined_has f g p k can j =
    subst (λ (o : Option Node). IsSome o)
    (sym (at_is g p can.first can.size can.front (longer can.chunk (can.next).size) can.back (j can.first can.size can.front can.chunk can.next can.back can.linked))) (search rules)

-- ---- with the next chunk
module _ (f : ℕ → Option Node) (k : ℕ) (next : Option ℕ) (ends : (n : Node) → f k ≡ Some n → next ≡ n.next) where
  next_is : (first size : ℕ) (front : List (ℕ × Chunk)) (c : Chunk) (back : List (ℕ × Chunk)) → IsChain f first size (front ++ (k, c) ∷ back) → next ≡ first_or back None
  next_is first size front c back l = ends (node_of c (last_or None front) (first_or back None)) (at_is f k first size front c back l)

  pub right_can : (r : ℕ) → LinkedAt f k → next ≡ Some r → CanJoin f k r
  right_can r l e =
      let b = next_back r l.back (sym (next_is l.first l.size l.front l.chunk l.back l.linked) ∙ e) in
      record {
        first = l.first;
        size = l.size;
        front = l.front;
        chunk = l.chunk;
        next = b.0;
        back = b.1;
        linked = subst (λ (bs : List (ℕ × Chunk)). IsChain f l.first l.size (l.front ++ (k, l.chunk) ∷ bs)) b.2 l.linked;
        fits = l.fits;
      }

  pub right_none : next ≡ None → JoinsRight k f f
  right_none e = λ first size front c back l.
      let n = back_nil back (sym (next_is first size front c back l) ∙ e) in
      subst (λ (bs : List (ℕ × Chunk)). IsChain f first size (front ++ (k, right_chunk c bs) ∷ right_rest bs)) (sym n)
      (subst (λ (bs : List (ℕ × Chunk)). IsChain f first size (front ++ (k, c) ∷ bs)) n l)

  module _ (r : ℕ) (e : next ≡ Some r) (b : Bool) (tells : (n : Node) → f r ≡ Some n → b ≡ is_free_kind (n.chunk).kind) where
    kind_is : (first size : ℕ) (front : List (ℕ × Chunk)) (c y : Chunk) (ys : List (ℕ × Chunk)) → IsChain f first size (front ++ (k, c) ∷ (r, y) ∷ ys) → b ≡ is_free_kind y.kind
    kind_is first size front c y ys l = tells (node_of y (Some k) (first_or ys None)) (held_back f None front ((k, c) ∷ (r, y) ∷ ys) None l.held).1.0

    pub right_used : b ≡ false → JoinsRight k f f
    right_used no_ = λ first size front c back l.
        let n = next_back r back (sym (next_is first size front c back l) ∙ e) in
        let l2 = subst (λ (bs : List (ℕ × Chunk)). IsChain f first size (front ++ (k, c) ∷ bs)) n.2 l in
        let t = kind_is first size front c n.0 n.1 l2 in
        subst (λ (bs : List (ℕ × Chunk)). IsChain f first size (front ++ (k, right_chunk c bs) ∷ right_rest bs)) (sym n.2)
        (subst (λ (v : Bool). IsChain f first size (front ++ (k, cond v (longer c (n.0).size) c) ∷ cond v n.1 ((r, n.0) ∷ n.1))) (sym no_ ∙ t) l2)

    pub right_free : (g : ℕ → Option Node) → b ≡ true → JoinsNext k r f g → JoinsRight k f g
    right_free g yes_ j = λ first size front c back l.
        let n = next_back r back (sym (next_is first size front c back l) ∙ e) in
        let l2 = subst (λ (bs : List (ℕ × Chunk)). IsChain f first size (front ++ (k, c) ∷ bs)) n.2 l in
        let t = kind_is first size front c n.0 n.1 l2 in
        subst (λ (bs : List (ℕ × Chunk)). IsChain g first size (front ++ (k, right_chunk c bs) ∷ right_rest bs)) (sym n.2)
        (subst (λ (v : Bool). IsChain g first size (front ++ (k, cond v (longer c (n.0).size) c) ∷ cond v n.1 ((r, n.0) ∷ n.1))) (sym yes_ ∙ t) (j first size front c n.0 n.1 l2))

-- ---- with the one before
module _ (f : ℕ → Option Node) (k : ℕ) (prev : Option ℕ) (ends : (n : Node) → f k ≡ Some n → prev ≡ n.prev) where
  prev_is : (first size : ℕ) (front : List (ℕ × Chunk)) (c : Chunk) (back : List (ℕ × Chunk)) → IsChain f first size (front ++ (k, c) ∷ back) → prev ≡ last_or None front
  prev_is first size front c back l = ends (node_of c (last_or None front) (first_or back None)) (at_is f k first size front c back l)

  -- the list, with the chunk before in view
  seen : (p first size : ℕ) (front : List (ℕ × Chunk)) (c : Chunk) (back : List (ℕ × Chunk)) → prev ≡ Some p → IsChain f first size (front ++ (k, c) ∷ back)
      → (ys : List (ℕ × Chunk)) × (d : Chunk) × (front ≡ ys ++ (p, d) ∷ []) × IsChain f first size (ys ++ (p, d) ∷ (k, c) ∷ back)
  seen p first size front c back e l =
      let n = prev_front p front (sym (prev_is first size front c back l) ∙ e) in
      let l2 = subst (λ (xs : List (ℕ × Chunk)). IsChain f first size (xs ++ (k, c) ∷ back)) n.2 l in
      (n.0, n.1, n.2, subst (λ (xs : List (ℕ × Chunk)). IsChain f first size xs) (append_assoc n.0 ((p, n.1) ∷ []) ((k, c) ∷ back)) l2)

  pub left_can : (p : ℕ) → LinkedAt f k → prev ≡ Some p → CanJoin f p k
  left_can p l e =
      let s = seen p l.first l.size l.front l.chunk l.back e l.linked in
      record { first = l.first; size = l.size; front = s.0; chunk = s.1; next = l.chunk; back = l.back; linked = s.3; fits = l.fits }

  pub left_has : (p : ℕ) → LinkedAt f k → prev ≡ Some p → IsSome (f p)
  left_has p l e =
      let s = seen p l.first l.size l.front l.chunk l.back e l.linked in
      subst (λ (o : Option Node). IsSome o) (sym (held_back f None s.0 ((p, s.1) ∷ (k, l.chunk) ∷ l.back) None (s.3).held).0) (search rules)

  pub left_none : prev ≡ None → JoinsLeft k f f
  left_none e = λ first size front c back l.
      let n = front_nil front (sym (prev_is first size front c back l) ∙ e) in
      subst (λ (xs : List (ℕ × Chunk)). IsChain f first size (glue_left xs k c back)) (sym n) (subst (λ (xs : List (ℕ × Chunk)). IsChain f first size (xs ++ (k, c) ∷ back)) n l)

  pub under_none : prev ≡ None → JoinsUnder k f k
  under_none e = λ first size front c back l.
      ap (λ (xs : List (ℕ × Chunk)). first_of (last_beside None (chunks_in xs)) k) (sym (front_nil front (sym (prev_is first size front c back l) ∙ e)))

  module _ (p : ℕ) (e : prev ≡ Some p) (b : Bool) (tells : (n : Node) → f p ≡ Some n → b ≡ is_free_kind (n.chunk).kind) where
    left_kind : (first size : ℕ) (ys : List (ℕ × Chunk)) (d c : Chunk) (back : List (ℕ × Chunk)) → IsChain f first size (ys ++ (p, d) ∷ (k, c) ∷ back) → b ≡ is_free_kind d.kind
    left_kind first size ys d c back l = tells (node_of d (last_or None ys) (Some k)) (held_back f None ys ((p, d) ∷ (k, c) ∷ back) None l.held).0

    pub left_used : b ≡ false → JoinsLeft k f f
    left_used no_ = λ first size front c back l.
        let s = seen p first size front c back e l in
        let t = left_kind first size s.0 s.1 c back s.3 in
        subst (λ (xs : List (ℕ × Chunk)). IsChain f first size (glue_left xs k c back)) (sym s.2)
        (subst (λ (xs : List (ℕ × Chunk)). IsChain f first size xs) (sym (glue_is p k s.1 c back s.0))
        (subst (λ (v : Bool). IsChain f first size (s.0 ++ cond v ((p, longer s.1 c.size) ∷ back) ((p, s.1) ∷ (k, c) ∷ back))) (sym no_ ∙ t) s.3))

    pub left_free : (g : ℕ → Option Node) → b ≡ true → JoinsNext p k f g → JoinsLeft k f g
    left_free g yes_ j = λ first size front c back l.
        let s = seen p first size front c back e l in
        let t = left_kind first size s.0 s.1 c back s.3 in
        subst (λ (xs : List (ℕ × Chunk)). IsChain g first size (glue_left xs k c back)) (sym s.2)
        (subst (λ (xs : List (ℕ × Chunk)). IsChain g first size xs) (sym (glue_is p k s.1 c back s.0))
        (subst (λ (v : Bool). IsChain g first size (s.0 ++ cond v ((p, longer s.1 c.size) ∷ back) ((p, s.1) ∷ (k, c) ∷ back))) (sym yes_ ∙ t) (j first size s.0 s.1 c back s.3)))

    under_is : JoinsUnder k f (cond b p k)
    under_is = λ first size front c back l.
        let s = seen p first size front c back e l in
        let t = left_kind first size s.0 s.1 c back s.3 in
        let n : (s.1).chunk_id ≡ p = numbered_at s.0 p s.1 ((k, c) ∷ back) (s.3).numbered in
        ap (λ (v : Bool). cond v p k) t ∙ ap (λ (q : ℕ). cond (is_free_kind (s.1).kind) q k) (sym n) ∙ sym (first_is (s.1).kind (s.1).chunk_id k)
        ∙ ap (λ (o : Option Neighbour). first_of o k) (sym (last_is None s.0 p s.1))
        ∙ ap (λ (xs : List (ℕ × Chunk)). first_of (last_beside None (chunks_in xs)) k) (sym s.2)

    pub under_used : b ≡ false → JoinsUnder k f k
    under_used no_ = subst (λ (v : Bool). JoinsUnder k f (cond v p k)) no_ under_is

    pub under_free : b ≡ true → JoinsUnder k f p
    under_free yes_ = subst (λ (v : Bool). JoinsUnder k f (cond v p k)) yes_ under_is

-- ---- another use
module _ (f g : ℕ → Option Node) (k offset : ℕ) (kind : AllocationType) (label : Label) (change : ChangesAt k (used_node offset kind label) f g) where
  use_others : (q : ℕ) → (k ≡ q → ⊥) → g q ≡ f q
  use_others q ne = change q ∙ ap (λ (b : Bool). cond b (option_map (used_node offset kind label) (f q)) (f q)) (apart_test k q ne)

  use_same : (xs : List (ℕ × Chunk)) → Apart k xs → Same f g xs
  use_same xs apart = same_from f g None k k (λ q no_last ne ne2. use_others q ne) xs (opt_none xs) apart apart

  use_starts : (front : List (ℕ × Chunk)) (c d : Chunk) (back : List (ℕ × Chunk)) → first_or (front ++ (k, d) ∷ back) None ≡ first_or (front ++ (k, c) ∷ back) None
  use_starts [] c d back = refl
  use_starts (x ∷ xs) c d back = refl

  use_covers : (front : List (ℕ × Chunk)) (c : Chunk) (back : List (ℕ × Chunk)) (from to : ℕ) → Covers (chunks_in (front ++ (k, c) ∷ back)) from to
      → Covers (chunks_in (front ++ (k, filled_chunk c offset kind label) ∷ back)) from to
  use_covers [] c back from to h = h
  use_covers (x ∷ xs) c back from to h = (h.0, h.1, use_covers xs c back (from + (x.1).size) to h.2)

  use_apart : (j : ℕ) (front : List (ℕ × Chunk)) (c d : Chunk) (back : List (ℕ × Chunk)) → Apart j (front ++ (k, c) ∷ back) → Apart j (front ++ (k, d) ∷ back)
  use_apart j [] c d back h = h
  use_apart j (x ∷ xs) c d back h = (h.0, use_apart j xs c d back h.1)

  use_distinct : (front : List (ℕ × Chunk)) (c d : Chunk) (back : List (ℕ × Chunk)) → Distinct (front ++ (k, c) ∷ back) → Distinct (front ++ (k, d) ∷ back)
  use_distinct [] c d back h = h
  use_distinct (x ∷ xs) c d back h = (use_apart x.0 xs c d back h.0, use_distinct xs c d back h.1)

  use_numbered : (front : List (ℕ × Chunk)) (c : Chunk) (back : List (ℕ × Chunk)) → Numbered (front ++ (k, c) ∷ back) → Numbered (front ++ (k, filled_chunk c offset kind label) ∷ back)
  use_numbered [] c back h = h
  use_numbered (x ∷ xs) c back h = (h.0, use_numbered xs c back h.1)

  pub linked_use : (first size : ℕ) (front : List (ℕ × Chunk)) (c : Chunk) (back : List (ℕ × Chunk)) → IsChain f first size (front ++ (k, c) ∷ back)
      → IsChain g first size (front ++ (k, filled_chunk c offset kind label) ∷ back)
  linked_use first size front c back l =
      let hf = held_front f None front ((k, c) ∷ back) None l.held in
      let hb = held_back f None front ((k, c) ∷ back) None l.held in
      let kf = apart_front front k c back l.distinct in
      let kb = (distinct_back front ((k, c) ∷ back) l.distinct).0 in
      let at : g k ≡ Some (node_of (filled_chunk c offset kind label) (last_or None front) (first_or back None)) =
      change k ∙ ap (λ (b : Bool). cond b (option_map (used_node offset kind label) (f k)) (f k)) (same_test k) ∙ ap (λ (o : Option Node). option_map (used_node offset kind label) o) hb.0 in
      record {
        held =
            held_join g None front ((k, filled_chunk c offset kind label) ∷ back) None (held_same f g None front (Some k) (use_same front kf) hf)
            (at, held_same f g (Some k) back None (use_same back kb) hb.1);
        starts = use_starts front c (filled_chunk c offset kind label) back ∙ l.starts;
        covers = use_covers front c back 0 size l.covers;
        distinct = use_distinct front c (filled_chunk c offset kind label) back l.distinct;
        numbered = use_numbered front c back l.numbered;
        every = λ q n e. ⊎_elim
            (λ (is_k : k ≡ q).
            let s : Some n ≡ Some (node_of (filled_chunk c offset kind label) (last_or None front) (first_or back None)) = sym e ∙ ap g (sym is_k) ∙ at in
            let w : n ≡ node_of (filled_chunk c offset kind label) (last_or None front) (first_or back None) = cc in
            among_back q n.chunk front ((k, filled_chunk c offset kind label) ∷ back) (inl (is_k, ap (λ (m : Node). m.chunk) (sym w))))
            (λ (not_k : k ≡ q → ⊥). ⊎_elim
            (λ (fr : Among q n.chunk front). among_front q n.chunk front ((k, filled_chunk c offset kind label) ∷ back) fr)
            (λ (bk : Among q n.chunk ((k, c) ∷ back)). ⊎_elim
            (λ (it : (k ≡ q) × (c ≡ n.chunk)). absurd (not_k it.0))
            (λ (last : Among q n.chunk back). among_back q n.chunk front ((k, filled_chunk c offset kind label) ∷ back) (inr last))
            bk)
            (among_cases q n.chunk front ((k, c) ∷ back) (l.every q n (sym (use_others q not_k) ∙ e))))
            (cases_eq k q);
      }

-- ---- what the chain's methods use
pub record Opened (f : ℕ → Option Node) (first size : ℕ) (ds : List (ℕ × Chunk)) (k : ℕ) : Type 0 where
  pub front : List (ℕ × Chunk)
  pub chunk : Chunk
  pub back : List (ℕ × Chunk)
  pub was : ds ≡ front ++ (k, chunk) ∷ back
  pub linked : IsChain f first size (front ++ (k, chunk) ∷ back)

pub opened : (f : ℕ → Option Node) (first size : ℕ) (ds : List (ℕ × Chunk)) (k : ℕ) (c : Chunk) → IsChain f first size ds → Among k c ds → Opened f first size ds k
opened f first size ds k c chain among =
    let s = stands_from k c ds among in
    record {
      front = s.front;
      chunk = c;
      back = s.back;
      was = s.is;
      linked = subst (λ (ys : List (ℕ × Chunk)). IsChain f first size ys) s.is chain;
    }

pub opened_has : (f : ℕ → Option Node) (first size : ℕ) (ds : List (ℕ × Chunk)) (k : ℕ) → Opened f first size ds k → IsSome (f k)
opened_has f first size ds k o = subst (λ (x : Option Node). IsSome x) (sym (at_is f k first size o.front o.chunk o.back o.linked)) (search rules)

-- the list after another use
pub fill_done : (f g : ℕ → Option Node) (first size : ℕ) (ds : List (ℕ × Chunk)) (k offset : ℕ) (kind : AllocationType) (label : Label) → (o : Opened f first size ds k)
    → ChangesAt k (used_node offset kind label) f g
    → IsChain g first size (walk size g (Some first)) × (walk size g (Some first) ≡ o.front ++ (k, filled_chunk o.chunk offset kind label) ∷ o.back)
fill_done f g first size ds k offset kind label o change =
    let c = linked_use f g k offset kind label change first size o.front o.chunk o.back o.linked in
    (walk_chain g first size (o.front ++ (k, filled_chunk o.chunk offset kind label) ∷ o.back) c, chain_walk g first size (o.front ++ (k, filled_chunk o.chunk offset kind label) ∷ o.back) c)

-- another word is another use with the same offset, kind and name
pub word_change : (f g : ℕ → Option Node) (first size : ℕ) (ds : List (ℕ × Chunk)) (k word : ℕ) (o : Opened f first size ds k) → ChangesAt k (worded_node word) f g
    → ChangesAt k (used_node o.chunk.offset o.chunk.kind (record o.chunk.label { word = word })) f g
word_change f g first size ds k word o change q =
    let other = used_node o.chunk.offset o.chunk.kind (record o.chunk.label { word = word }) in
    ⊎_elim
    (λ (is : k ≡ q).
    let at : f q ≡ Some (node_of o.chunk (last_or None o.front) (first_or o.back None)) = ap f (sym is) ∙ at_is f k first size o.front o.chunk o.back o.linked in
    change q ∙ ap (λ (y : Option Node). cond (k == q) y (f q)) (ap (option_map (worded_node word)) at ∙ sym (ap (option_map other) at)))
    (λ (ne : k ≡ q → ⊥).
    change q ∙ ap (λ (b : Bool). cond b (option_map (worded_node word) (f q)) (f q)) (apart_test k q ne)
    ∙ sym (ap (λ (b : Bool). cond b (option_map other (f q)) (f q)) (apart_test k q ne)))
    (cases_eq k q)

abbrev pub freed : Chunk → Label → Chunk
freed c empty = filled_chunk c c.start Free empty

module _ (f f1 : ℕ → Option Node) (first size : ℕ) (ds : List (ℕ × Chunk)) (k start : ℕ) (empty : Label) (o : Opened f first size ds k)
    (ends : (n : Node) → f k ≡ Some n → start ≡ (n.chunk).start) (change : ChangesAt k (used_node start Free empty) f f1) where
  released_first : IsChain f1 first size (o.front ++ (k, freed o.chunk empty) ∷ o.back)
  released_first =
      let e = ends (node_of o.chunk (last_or None o.front) (first_or o.back None)) (at_is f k first size o.front o.chunk o.back o.linked) in
      subst (λ (s : ℕ). IsChain f1 first size (o.front ++ (k, filled_chunk o.chunk s Free empty) ∷ o.back)) e (linked_use f f1 k start Free empty change first size o.front o.chunk o.back o.linked)

  pub right_ready : size < 2 ^ 64 → LinkedAt f1 k
  right_ready fits = record { first = first; size = size; front = o.front; chunk = freed o.chunk empty; back = o.back; linked = released_first; fits = fits }

  module _ (f2 : ℕ → Option Node) (joins : JoinsRight k f1 f2) where
    pub left_ready : size < 2 ^ 64 → LinkedAt f2 k
    left_ready fits = record {
      first = first;
      size = size;
      front = o.front;
      chunk = right_chunk (freed o.chunk empty) o.back;
      back = right_rest o.back;
      linked = joins first size o.front (freed o.chunk empty) o.back released_first;
      fits = fits;
    }

    pub release_done : (f3 : ℕ → Option Node) → JoinsLeft k f2 f3
        → IsChain f3 first size (walk size f3 (Some first)) × (walk size f3 (Some first) ≡ glue_left o.front k (right_chunk (freed o.chunk empty) o.back) (right_rest o.back))
    release_done f3 left =
        let c = left first size o.front (right_chunk (freed o.chunk empty) o.back) (right_rest o.back) (joins first size o.front (freed o.chunk empty) o.back released_first) in (
          walk_chain f3 first size (glue_left o.front k (right_chunk (freed o.chunk empty) o.back) (right_rest o.back)) c,
          chain_walk f3 first size
              (glue_left o.front k (right_chunk (freed o.chunk empty) o.back) (right_rest o.back)) c,
        )

    pub under_done : (j : ℕ) → JoinsUnder k f2 j → j ≡ first_of (last_beside None (chunks_in o.front)) k
    under_done j under =
        under first size o.front (right_chunk (freed o.chunk empty) o.back) (right_rest o.back) (joins first size o.front (freed o.chunk empty) o.back released_first)

-- ---- a fresh block
pub fresh_chain : (f g : ℕ → Option Node) (size : ℕ) (c : Chunk) → ((q : ℕ) → f q ≡ None) → SetsAt 1 (Some (node_of c None None)) f g → 0 < size → c.start ≡ 0 → c.size ≡ size → c.chunk_id ≡ 1
    → IsChain g 1 size (walk size g (Some 1)) × (walk size g (Some 1) ≡ (1, c) ∷ [])
fresh_chain f g size c none sets pos start len chunk_id =
    let at : g 1 ≡ Some (node_of c None None) = sets 1 ∙ ap (λ (b : Bool). cond b (Some (node_of c None None)) (f 1)) (same_test 1) in
    let chain : IsChain g 1 size ((1, c) ∷ []) = record {
      held = (at, tt);
      starts = refl;
      covers = (start, omega arith, omega arith);
      distinct = (tt, tt);
      numbered = (chunk_id, tt);
      every = λ q n e. ⊎_elim
          (λ (is : 1 ≡ q).
          let s : Some n ≡ Some (node_of c None None) = sym e ∙ ap g (sym is) ∙ at in
          let w : n ≡ node_of c None None = cc in
          inl (is, ap (λ (m : Node). m.chunk) (sym w)))
          (λ (not : 1 ≡ q → ⊥).
          let s : Some n ≡ None = sym e ∙ sets q ∙ ap (λ (b : Bool). cond b (Some (node_of c None None)) (f q)) (apart_test 1 q not) ∙ none q in
          cc)
          (cases_eq 1 q);
    } in
    (walk_chain g 1 size ((1, c) ∷ []) chain, chain_walk g 1 size ((1, c) ∷ []) chain)
