-- Two neighbours that become one chunk.
use Rattle.std.proofs.Common.{◌≡◌, ℕ, ◌+◌, ◌<◌, ◌^◌, List, [], ◌∷◌, ◌++◌, Option, Some, None, IsSome, IsSomeAnd, IfSome, refl, sym, ap, ◌∙◌, subst, inl, inr, ⊎_elim, arith, rules, cond, Bool, true, false, ◌==◌, ◌≢◌}
use Rattle.std.specs.Option.{option_map}
use Rattle.std.proofs.lemmas.Bool.{cases_eq}
use Rattle.gpu_block_chunks.specs.declared.chunk.Chunk.{Chunk}
use Rattle.gpu_block_chunks.specs.Chain.{Node}
use Rattle.gpu_block_chunks.specs.Chain.{with_prev, joined_node, is_at, ChangesAt, ChangesAtOpt, SetsAt, IsUnlinked}
use Rattle.gpu_block_chunks.specs.Nodes.{IsAlone}
use Rattle.gpu_block_chunks.specs.ChunkList.{Covers}
use Rattle.gpu_block_chunks.specs.Chain.{first_or, last_or, node_of, Held, Apart, Distinct, Numbered, Among, IsChain, CanJoin, JoinsNext, longer, chunks_in}
use Rattle.gpu_block_chunks.proofs.Links.{same_test, apart_test, apart_append, apart_front, held_front, held_back, held_join, stands_within}
use Rattle.gpu_block_chunks.proofs.Splits.{OptApart, opt_none, opt_from, distinct_back, Same, held_same, same_from, at_opt_other, at_opt_same, kept_by, among_front, among_back, among_cases}
use Rattle.gpu_block_chunks.proofs.Splits.{some_changed}

pub apart_among : (j q : ℕ) (c : Chunk) (ys : List (ℕ × Chunk)) → Apart j ys → Among q c ys → j ≡ q → ⊥
apart_among j q c [] h m e = elim m [ ]
apart_among j q c (y ∷ ys) h (inl m) e = h.0 (e ∙ sym m.0)
apart_among j q c (y ∷ ys) h (inr m) e = apart_among j q c ys h.1 m e

apart_of_later : (q : ℕ) (c : Chunk) (xs ys : List (ℕ × Chunk)) → Distinct (xs ++ ys) → Among q c ys → Apart q xs
apart_of_later q c [] ys d m = tt
apart_of_later q c (x ∷ xs) ys d m =
    ((λ (e : q ≡ x.0). apart_among x.0 q c ys (apart_append x.0 xs ys d.0).1 m (sym e)), apart_of_later q c xs ys d.1 m)

first_among : (bs : List (ℕ × Chunk)) (y : ℕ) → first_or bs None ≡ Some y → (e : Chunk) × Among y e bs
first_among [] y h = cc
first_among (b ∷ bs) y h = let e : b.0 ≡ y = cc in (b.1, inl (e, refl))

-- the first number of a back is apart from the front
first_apart : (o : Option ℕ) (xs ys : List (ℕ × Chunk)) → ((q : ℕ) → o ≡ Some q → (e : Chunk) × Among q e ys) → Distinct (xs ++ ys) → OptApart o xs
first_apart None xs ys h d = opt_none xs
first_apart (Some q) xs ys h d = let m = h q refl in opt_from q xs (apart_of_later q m.0 xs ys d m.1)

module _ (f g : ℕ → Option Node) (prev : Option ℕ) where
  -- the first chunk of a back gets another `prev`
  pub relink_first : (b : Option ℕ) (ys : List (ℕ × Chunk)) (a : Option ℕ)
      → ((q : ℕ) (n : Node) → first_or ys None ≡ Some q → f q ≡ Some n → g q ≡ Some (with_prev prev n))
      → ((y : ℕ × Chunk) (zs : List (ℕ × Chunk)) → ys ≡ y ∷ zs → Same f g zs)
      → Held f b ys a → Held g prev ys a
  relink_first b [] a first same h = tt
  relink_first b (y ∷ ys) a first same h = (first y.0 _ refl h.0, held_same f g (Some y.0) ys a (same y ys refl) h.1)

module _ (k r : ℕ) (c d : Chunk) (back : List (ℕ × Chunk)) where
  abbrev pub two : List (ℕ × Chunk) → List (ℕ × Chunk)
  two front = front ++ (k, c) ∷ (r, d) ∷ back

  abbrev pub one : List (ℕ × Chunk) → List (ℕ × Chunk)
  one front = front ++ (k, longer c d.size) ∷ back

  pub apart_join : (j : ℕ) (front : List (ℕ × Chunk)) → Apart j (two front) → Apart j (one front)
  apart_join j [] h = (h.0, h.1.1)
  apart_join j (x ∷ xs) h = (h.0, apart_join j xs h.1)

  pub distinct_join : (front : List (ℕ × Chunk)) → Distinct (two front) → Distinct (one front)
  distinct_join [] h = (h.0.1, h.1.1)
  distinct_join (x ∷ xs) h = (apart_join x.0 xs h.0, distinct_join xs h.1)

  pub covers_join : (front : List (ℕ × Chunk)) (from to : ℕ) → Covers (chunks_in (two front)) from to → Covers (chunks_in (one front)) from to
  covers_join [] from to h =
      let e : from + c.size + d.size ≡ from + (c.size + d.size) = omega arith in
      (h.0, omega (arith, h.1), subst (λ (n : ℕ). Covers (chunks_in back) n to) e h.2.2)
  covers_join (x ∷ xs) from to h = (h.0, h.1, covers_join xs (from + (x.1).size) to h.2)

  pub numbered_join : (front : List (ℕ × Chunk)) → Numbered (two front) → Numbered (one front)
  numbered_join [] h = (h.0, h.1.1)
  numbered_join (x ∷ xs) h = (h.0, numbered_join xs h.1)

  pub starts_join : (front : List (ℕ × Chunk)) (first : ℕ) → first_or (two front) None ≡ Some first → first_or (one front) None ≡ Some first
  starts_join [] first h = h
  starts_join (x ∷ xs) first h = h

  pub among_join : (front : List (ℕ × Chunk)) (q : ℕ) (e : Chunk) → (k ≡ q → ⊥) → (r ≡ q → ⊥) → Among q e (two front) → Among q e (one front)
  among_join front q e nk nr h = ⊎_elim
      (λ (l : Among q e front). among_front q e front ((k, longer c d.size) ∷ back) l)
      (λ (m : Among q e ((k, c) ∷ (r, d) ∷ back)). among_back q e front ((k, longer c d.size) ∷ back) (⊎_elim
      (λ (here : (k ≡ q) × (c ≡ e)). absurd (nk here.0))
      (λ (later : Among q e ((r, d) ∷ back)). ⊎_elim
      (λ (here : (r ≡ q) × (d ≡ e)). absurd (nr here.0))
      (λ (last : Among q e back). inr last)
      later)
      m))
      (among_cases q e front ((k, c) ∷ (r, d) ∷ back) h)

  module _ (f g : ℕ → Option Node) (front : List (ℕ × Chunk)) where
    pub record IsJoined : Type 0 where
      pub at_left : g k ≡ Some (node_of (longer c d.size) (last_or None front) (first_or back None))
      pub at_right : g r ≡ None
      pub at_first : (q : ℕ) (n : Node) → first_or back None ≡ Some q → f q ≡ Some n → (k ≡ q → ⊥) → (r ≡ q → ⊥) → g q ≡ Some (with_prev (Some k) n)
      pub others : (q : ℕ) → (first_or back None ≡ Some q → ⊥) → (k ≡ q → ⊥) → (r ≡ q → ⊥) → g q ≡ f q
      pub kept : (q : ℕ) (n : Node) → (k ≡ q → ⊥) → (r ≡ q → ⊥) → g q ≡ Some n → (m : Node) × (f q ≡ Some m) × (n.chunk ≡ m.chunk)

    pub held_join_two : IsJoined → Held f None (two front) None → Distinct (two front) → Held g None (one front) None
    held_join_two j h d2 =
        let hf = held_front f None front ((k, c) ∷ (r, d) ∷ back) None h in
        let hb = held_back f None front ((k, c) ∷ (r, d) ∷ back) None h in
        let db = distinct_back front ((k, c) ∷ (r, d) ∷ back) d2 in
        let kf = apart_front front k c ((r, d) ∷ back) d2 in
        let rf = apart_of_later r d front ((k, c) ∷ (r, d) ∷ back) d2 (inr (inl (refl, refl))) in
        let later : (q : ℕ) → first_or back None ≡ Some q → (e : Chunk) × Among q e ((k, c) ∷ (r, d) ∷ back) = λ q e. let m = first_among back q e in (m.0, inr (inr m.1)) in
        let of_ = first_apart (first_or back None) front ((k, c) ∷ (r, d) ∷ back) later d2 in
        let front_held = held_same f g None front (Some k) (same_from f g (first_or back None) k r j.others front of_ kf rf) hf in
        let back_held = relink_first f g (Some k) (Some r) back None
        (λ q n e fq. let m = first_among back q e in j.at_first q n e fq (apart_among k q m.0 back db.0.1 m.1) (apart_among r q m.0 back db.1.0 m.1))
        (λ y zs e.
        let ka = subst (λ (bs : List (ℕ × Chunk)). Apart k bs) e db.0.1 in
        let ra = subst (λ (bs : List (ℕ × Chunk)). Apart r bs) e db.1.0 in
        let dd = subst (λ (bs : List (ℕ × Chunk)). Distinct bs) e db.1.1 in
        let o = subst (λ (bs : List (ℕ × Chunk)). OptApart (first_or bs None) zs) (sym e) (opt_from y.0 zs dd.0) in
        same_from f g (first_or back None) k r j.others zs o ka.1 ra.1)
        hb.1.1 in
        held_join g None front ((k, longer c d.size) ∷ back) None front_held (j.at_left, back_held)

    pub every_join : IsJoined → ((q : ℕ) (n : Node) → f q ≡ Some n → Among q n.chunk (two front)) → (q : ℕ) (n : Node) → g q ≡ Some n → Among q n.chunk (one front)
    every_join j every q n at =
        ⊎_elim
        (λ (is_left : k ≡ q).
        let e : Some n ≡ Some (node_of (longer c d.size) (last_or None front) (first_or back None)) = sym at ∙ ap g (sym is_left) ∙ j.at_left in
        let w : n ≡ node_of (longer c d.size) (last_or None front) (first_or back None) = cc in
        among_back q n.chunk front ((k, longer c d.size) ∷ back) (inl (is_left, ap (λ (m : Node). m.chunk) (sym w))))
        (λ (not_left : k ≡ q → ⊥). ⊎_elim
        (λ (is_right : r ≡ q). let e : Some n ≡ None = sym at ∙ ap g (sym is_right) ∙ j.at_right in cc)
        (λ (not_right : r ≡ q → ⊥).
        let m = j.kept q n not_left not_right at in
        subst (λ (e : Chunk). Among q e (one front)) (sym m.2) (among_join front q (m.0).chunk not_left not_right (every q m.0 m.1)))
        (cases_eq r q))
        (cases_eq k q)

    pub linked_join : IsJoined → (first size : ℕ) → IsChain f first size (two front) → IsChain g first size (one front)
    linked_join j first size l = record {
      held = held_join_two j l.held l.distinct;
      starts = starts_join front first l.starts;
      covers = covers_join front 0 size l.covers;
      distinct = distinct_join front l.distinct;
      numbered = numbered_join front l.numbered;
      every = every_join j l.every;
    }

  pub joins : (f f1 f2 f3 : ℕ → Option Node) (front : List (ℕ × Chunk)) (more : ℕ) (next : Option ℕ) → Held f None (two front) None → Distinct (two front)
      → more ≡ d.size → next ≡ first_or back None
      → SetsAt r None f f1 → ChangesAt k (joined_node more next) f1 f2 → ChangesAtOpt next (with_prev (Some k)) f2 f3 → IsJoined f f3 front
  joins f f1 f2 f3 front more next h d2 em en c1 c2 c3 =
      let hb = held_back f None front ((k, c) ∷ (r, d) ∷ back) None h in
      let db = distinct_back front ((k, c) ∷ (r, d) ∷ back) d2 in
      let not_k : next ≡ Some k → ⊥ = λ (e : next ≡ Some k). let m = first_among back k (sym en ∙ e) in apart_among k k m.0 back db.0.1 m.1 refl in
      let not_r : next ≡ Some r → ⊥ = λ (e : next ≡ Some r). let m = first_among back r (sym en ∙ e) in apart_among r r m.0 back db.1.0 m.1 refl in
      let r_not_k : r ≡ k → ⊥ = λ (e : r ≡ k). db.0.0 (sym e) in
      let other_two : (q : ℕ) → (k ≡ q → ⊥) → (r ≡ q → ⊥) → f2 q ≡ f q = λ q nk nr.
      c2 q ∙ ap (λ (b : Bool). cond b (option_map (joined_node more next) (f1 q)) (f1 q)) (apart_test k q nk)
      ∙ c1 q ∙ ap (λ (b : Bool). cond b None (f q)) (apart_test r q nr) in
      record {
        at_left = c3 k
            ∙ ap (λ (b : Bool). cond b (option_map (with_prev (Some k)) (f2 k)) (f2 k)) (at_opt_other next k not_k)
            ∙ c2 k ∙ ap (λ (b : Bool). cond b (option_map (joined_node more next) (f1 k)) (f1 k)) (same_test k)
            ∙ ap (λ (o : Option Node). option_map (joined_node more next) o) (c1 k ∙ ap (λ (b : Bool). cond b None (f k)) (apart_test r k r_not_k) ∙ hb.0)
            ∙ ap (λ (o : Option ℕ). Some (node_of (longer c more) (last_or None front) o)) en
            ∙ ap (λ (m : ℕ). Some (node_of (longer c m) (last_or None front) (first_or back None))) em;
        at_right = c3 r
            ∙ ap (λ (b : Bool). cond b (option_map (with_prev (Some k)) (f2 r)) (f2 r)) (at_opt_other next r not_r)
            ∙ c2 r ∙ ap (λ (b : Bool). cond b (option_map (joined_node more next) (f1 r)) (f1 r)) (apart_test k r db.0.0)
            ∙ c1 r ∙ ap (λ (b : Bool). cond b None (f r)) (same_test r);
        at_first = λ q n e fq nk nr. c3 q
            ∙ ap (λ (b : Bool). cond b (option_map (with_prev (Some k)) (f2 q)) (f2 q)) (at_opt_same next q (en ∙ e))
            ∙ ap (λ (o : Option Node). option_map (with_prev (Some k)) o) (other_two q nk nr ∙ fq);
        others = λ q nl nk nr. c3 q
            ∙ ap (λ (b : Bool). cond b (option_map (with_prev (Some k)) (f2 q)) (f2 q)) (at_opt_other next q (λ (e : next ≡ Some q). nl (sym en ∙ e)))
            ∙ other_two q nk nr;
        kept = λ q m nk nr e. kept_by (is_at next q) (with_prev (Some k)) (λ x. refl) (f q) m
            (sym (ap (λ (o : Option Node). cond (is_at next q) (option_map (with_prev (Some k)) o) o) (other_two q nk nr)) ∙ sym (c3 q) ∙ e);
      }

-- ---- what the code asks and gives
right_is : (f : ℕ → Option Node) (k r : ℕ) (c d : Chunk) (front back : List (ℕ × Chunk)) (n : Node) → Held f None (two k r c d back front) None → f r ≡ Some n
    → n ≡ node_of d (Some k) (first_or back None)
right_is f k r c d front back n h at =
    let hb = held_back f None front ((k, c) ∷ (r, d) ∷ back) None h in
    let e : Some n ≡ Some (node_of d (Some k) (first_or back None)) = sym at ∙ hb.1.0 in
    cc

pub join_has : (f : ℕ → Option Node) (k r : ℕ) → CanJoin f k r → IsSome (f r)
join_has f k r j =
    let hb = held_back f None j.front ((k, j.chunk) ∷ (r, j.next) ∷ j.back) None (j.linked).held in
    subst (λ (o : Option Node). IsSome o) (sym hb.1.0) (search rules)

pub join_apart : (f : ℕ → Option Node) (k r : ℕ) → CanJoin f k r → k ≢ r
join_apart f k r j = (distinct_back j.front ((k, j.chunk) ∷ (r, j.next) ∷ j.back) (j.linked).distinct).0.0

pub join_fits : (f : ℕ → Option Node) (k r : ℕ) (n : Node) → CanJoin f k r → f r ≡ Some n → IsSomeAnd (f k) (λ m. (m.chunk).size + (n.chunk).size < 2 ^ 64)
join_fits f k r n j at =
    let hb = held_back f None j.front ((k, j.chunk) ∷ (r, j.next) ∷ j.back) None (j.linked).held in
    let is = right_is f k r j.chunk j.next j.front j.back n (j.linked).held at in
    let cov = covers_join k r j.chunk j.next j.back j.front 0 j.size (j.linked).covers in
    let w = stands_within j.front k (longer j.chunk (j.next).size) j.back 0 j.size cov in
    let s : (n.chunk).size ≡ (j.next).size = ap (λ (m : Node). (m.chunk).size) is in
    let fits = j.fits in
    subst (λ (o : Option Node). IsSomeAnd o (λ m. (m.chunk).size + (n.chunk).size < 2 ^ 64)) (sym hb.0) (omega (arith, w, s))

-- what was held still is, where chunks change
pub held_changed : (f f1 : ℕ → Option Node) (k : ℕ) (change : Node → Node) → ChangesAt k change f f1 → (o : Option ℕ) → IfSome o (λ p. IsSome (f p)) → IfSome o (λ p. IsSome (f1 p))
held_changed f f1 k change c None h = h
held_changed f f1 k change c (Some p) h = subst (λ (o : Option Node). IsSome o) (sym (c p)) (some_changed (k == p) change (f p) h)

pub held_changed_at : (f f1 : ℕ → Option Node) (at : Option ℕ) (change : Node → Node) → ChangesAtOpt at change f f1 → (o : Option ℕ) → IfSome o (λ p. IsSome (f p)) → IfSome o (λ p. IsSome (f1 p))
held_changed_at f f1 at change c None h = h
held_changed_at f f1 at change c (Some p) h = subst (λ (o : Option Node). IsSome o) (sym (c p)) (some_changed (is_at at p) change (f p) h)

pub joins_next : (f f1 f2 f3 : ℕ → Option Node) (k r : ℕ) (n : Node) → f r ≡ Some n → SetsAt r None f f1 → ChangesAt k (joined_node (n.chunk).size n.next) f1 f2
    → ChangesAtOpt n.next (with_prev (Some k)) f2 f3 → JoinsNext k r f f3
joins_next f f1 f2 f3 k r n at c1 c2 c3 = λ first size front c d back l.
    let is = right_is f k r c d front back n l.held at in
    linked_join k r c d back f f3 front
    (joins k r c d back f f1 f2 f3 front (n.chunk).size n.next l.held l.distinct (ap (λ (m : Node). (m.chunk).size) is) (ap (λ (m : Node). m.next) is) c1 c2 c3)
    first size l

-- the same, where the right one is taken out last
commuted : (b c d : Bool) (change change2 : Node → Node) (o : Option Node)
    → cond b None (cond d (option_map change2 (cond c (option_map change o) o)) (cond c (option_map change o) o))
    ≡ cond d (option_map change2 (cond c (option_map change (cond b None o)) (cond b None o))) (cond c (option_map change (cond b None o)) (cond b None o))
commuted true true true change change2 o = refl
commuted true true false change change2 o = refl
commuted true false true change change2 o = refl
commuted true false false change change2 o = refl
commuted false c d change change2 o = refl

pub joins_last : (f f1 f2 f3 : ℕ → Option Node) (k r : ℕ) (n : Node) → f r ≡ Some n → ChangesAt k (joined_node (n.chunk).size n.next) f f1
    → ChangesAtOpt n.next (with_prev (Some k)) f1 f2 → SetsAt r None f2 f3 → JoinsNext k r f f3
joins_last f f1 f2 f3 k r n at c1 c2 c3 =
    joins_next f (λ q. cond (r == q) None (f q)) (λ q. cond (k == q) (option_map (joined_node (n.chunk).size n.next) (cond (r == q) None (f q))) (cond (r == q) None (f q))) f3 k r n at
    (λ q. refl) (λ q. refl)
    (λ q.
    c3 q ∙ ap (λ (o : Option Node). cond (r == q) None o) (c2 q ∙ ap (λ (o : Option Node). cond (is_at n.next q) (option_map (with_prev (Some k)) o) o) (c1 q))
    ∙ commuted (r == q) (k == q) (is_at n.next q) (joined_node (n.chunk).size n.next) (with_prev (Some k)) (f q))

-- then no other is linked to the right one
pub joined_alone : (f f1 f2 : ℕ → Option Node) (k r : ℕ) (n : Node) → CanJoin f k r → f r ≡ Some n → ChangesAt k (joined_node (n.chunk).size n.next) f f1
    → ChangesAtOpt n.next (with_prev (Some k)) f1 f2 → (list : (g : ℕ → Option Node) (first size : ℕ) (cs : List (ℕ × Chunk)) → IsChain g first size cs → g r ≡ None → IsUnlinked r g) → IsAlone r f2
joined_alone f f1 f2 k r n j at c1 c2 unlinked = λ q m ne e.
    let f3 : ℕ → Option Node = λ p. cond (r == p) None (f2 p) in
    let chain = joins_last f f1 f2 f3 k r n at c1 c2 (λ p. refl) j.first j.size j.front j.chunk j.next j.back j.linked in
    let none : f3 r ≡ None = ap (λ (b : Bool). cond b None (f2 r)) (same_test r) in
    (unlinked f3 j.first j.size _ chain none).apart q m (ap (λ (b : Bool). cond b None (f2 q)) (apart_test r q (λ (same : r ≡ q). ne (sym same))) ∙ e)
