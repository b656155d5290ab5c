-- A chunk that is split in front.
use Rattle.std.proofs.Common.{◌≡◌, ℕ, ◌+◌, ◌-◌, ◌<◌, ◌≤◌, ◌⊎◌, List, [], ◌∷◌, ◌++◌, Option, Some, None, IsSome, IsSomeAnd, IfSome, ◌^◌, refl, sym, ap, ◌∙◌, subst, inl, inr, ⊎_elim, arith, rules}
use Rattle.std.proofs.Common.{cond, Bool, true, false, ◌==◌}
use Rattle.std.specs.Option.{option_map}
use Rattle.std.proofs.lemmas.Bool.{cases_eq}
use Rattle.gpu_block_chunks.specs.declared.chunk.Chunk.{Chunk}
use Rattle.gpu_block_chunks.specs.Chain.{Node}
use Rattle.gpu_values.specs.declared.allocation_type.AllocationType.{AllocationType}
use Rattle.gpu_block_chunks.specs.declared.label.Label.{Label}
use Rattle.gpu_block_chunks.specs.Chain.{with_next, cut_node, is_at, ChangesAt, ChangesAtOpt, SetsAt}
use Rattle.gpu_block_chunks.specs.ChunkList.{Covers, cut_chunk}
use Rattle.gpu_block_chunks.specs.Chain.{first_or, last_or, node_of, Held, Apart, Distinct, Numbered, Among, IsChain, front_piece, first_after, walk, chunks_in}
use Rattle.gpu_block_chunks.proofs.Links.{held_among, held_within, chain_walk, walk_chain, stands_from, same_test, apart_test, apart_append, apart_front, held_front, held_back, held_join}

-- no chunk of the list has that number, if it is one
abbrev pub OptApart : Option ℕ → List (ℕ × Chunk) → Type 0
OptApart o [] = Unit {0}
OptApart o (x ∷ xs) = (o ≡ Some x.0 → ⊥) × OptApart o xs

pub opt_from : (k : ℕ) (xs : List (ℕ × Chunk)) → Apart k xs → OptApart (Some k) xs
opt_from k [] h = tt
opt_from k (x ∷ xs) h = ((λ (e : Some k ≡ Some x.0). let f : k ≡ x.0 = cc in h.0 f), opt_from k xs h.1)

pub opt_none : (xs : List (ℕ × Chunk)) → OptApart None xs
opt_none [] = tt
opt_none (x ∷ xs) = ((λ (e : None ≡ Some x.0). cc), opt_none xs)

pub apart_join : (k : ℕ) (xs ys : List (ℕ × Chunk)) → Apart k xs → Apart k ys → Apart k (xs ++ ys)
apart_join k [] ys h g = g
apart_join k (x ∷ xs) ys h g = (h.0, apart_join k xs ys h.1 g)

pub distinct_back : (xs ys : List (ℕ × Chunk)) → Distinct (xs ++ ys) → Distinct ys
distinct_back [] ys d = d
distinct_back (x ∷ xs) ys d = distinct_back xs ys d.1

pub distinct_front : (xs ys : List (ℕ × Chunk)) → Distinct (xs ++ ys) → Distinct xs
distinct_front [] ys d = tt
distinct_front (x ∷ xs) ys d = ((apart_append x.0 xs ys d.0).0, distinct_front xs ys d.1)

-- the last number of a front is apart from what follows
pub last_apart : (b : Option ℕ) (xs ys : List (ℕ × Chunk)) → OptApart b ys → Distinct (xs ++ ys) → OptApart (last_or b xs) ys
last_apart b [] ys h d = h
last_apart b (x ∷ xs) ys h d = last_apart (Some x.0) xs ys (opt_from x.0 ys (apart_append x.0 xs ys d.0).1) d.1

last_is_not : (k z : ℕ) (xs : List (ℕ × Chunk)) → Apart k xs → (k ≡ z → ⊥) → last_or (Some z) xs ≡ Some k → ⊥
last_is_not k z [] h ne e = let f : k ≡ z = cc in ne f
last_is_not k z (x ∷ xs) h ne e = last_is_not k x.0 xs h.1 h.0 e

module _ (f g : ℕ → Option Node) where
  -- g has what f has, at each number of the list
  abbrev pub Same : List (ℕ × Chunk) → Type 0
  Same [] = Unit {0}
  Same (x ∷ xs) = (g x.0 ≡ f x.0) × Same xs

  pub held_same : (b : Option ℕ) (xs : List (ℕ × Chunk)) (a : Option ℕ) → Same xs → Held f b xs a → Held g b xs a
  held_same b [] a s h = tt
  held_same b (x ∷ xs) a s h = (s.0 ∙ h.0, held_same (Some x.0) xs a s.1 h.1)

  module _ (o : Option ℕ) (k m : ℕ) (others : (q : ℕ) → (o ≡ Some q → ⊥) → (k ≡ q → ⊥) → (m ≡ q → ⊥) → g q ≡ f q) where
    pub same_from : (xs : List (ℕ × Chunk)) → OptApart o xs → Apart k xs → Apart m xs → Same xs
    same_from [] p q r = tt
    same_from (x ∷ xs) p q r = (others x.0 p.0 q.0 r.0, same_from xs p.1 q.1 r.1)

  -- the last chunk of a front gets another `next`
  module _ (k m : ℕ) (a : Option ℕ) (next : Option ℕ) where
    pub relink_last : (b : Option ℕ) (xs : List (ℕ × Chunk)) → Distinct xs → Apart k xs → Apart m xs
        → ((q : ℕ) → (last_or b xs ≡ Some q → ⊥) → (k ≡ q → ⊥) → (m ≡ q → ⊥) → g q ≡ f q)
        → ((q : ℕ) (n : Node) → last_or b xs ≡ Some q → f q ≡ Some n → (k ≡ q → ⊥) → (m ≡ q → ⊥) → g q ≡ Some (with_next next n))
        → Held f b xs a → Held g b xs next
    relink_last b [] d p q others last h = tt
    relink_last b (x ∷ []) d p q others last h = (last x.0 _ refl h.0 p.0 q.0, tt)
    relink_last b (x ∷ (y ∷ xs)) d p q others last h =
        (others x.0 (last_is_not x.0 y.0 xs d.0.1 d.0.0) p.0 q.0 ∙ h.0, relink_last (Some x.0) (y ∷ xs) d.1 p.1 q.1 others last h.1)

pub among_front : (q : ℕ) (d : Chunk) (xs ys : List (ℕ × Chunk)) → Among q d xs → Among q d (xs ++ ys)
among_front q d [] ys h = elim h [ ]
among_front q d (x ∷ xs) ys (inl h) = inl h
among_front q d (x ∷ xs) ys (inr h) = inr (among_front q d xs ys h)

pub among_back : (q : ℕ) (d : Chunk) (xs ys : List (ℕ × Chunk)) → Among q d ys → Among q d (xs ++ ys)
among_back q d [] ys h = h
among_back q d (x ∷ xs) ys h = inr (among_back q d xs ys h)

pub among_cases : (q : ℕ) (d : Chunk) (xs ys : List (ℕ × Chunk)) → Among q d (xs ++ ys) → Among q d xs ⊎ Among q d ys
among_cases q d [] ys h = inr h
among_cases q d (x ∷ xs) ys (inl h) = inl (inl h)
among_cases q d (x ∷ xs) ys (inr h) = ⊎_elim (λ (l : Among q d xs). inl (inr l)) (λ (r : Among q d ys). inr r) (among_cases q d xs ys h)

-- ---- the list after a split
module _ (chunk_id : ℕ) (k : ℕ) (c : Chunk) (taken offset : ℕ) (kind : AllocationType) (label : Label) (back : List (ℕ × Chunk)) where
  abbrev piece : Chunk
  piece = front_piece c taken offset kind chunk_id label

  abbrev rest : Chunk
  rest = cut_chunk c taken

  abbrev pub split_list : List (ℕ × Chunk) → List (ℕ × Chunk)
  split_list front = front ++ (chunk_id, piece) ∷ (k, rest) ∷ back

  pub apart_split : (j : ℕ) (front : List (ℕ × Chunk)) → (j ≡ chunk_id → ⊥) → Apart j (front ++ (k, c) ∷ back) → Apart j (split_list front)
  apart_split j [] ne h = (ne, h)
  apart_split j (x ∷ xs) ne h = (h.0, apart_split j xs ne h.1)

  pub distinct_split : (front : List (ℕ × Chunk)) → Apart chunk_id (front ++ (k, c) ∷ back) → Distinct (front ++ (k, c) ∷ back) → Distinct (split_list front)
  distinct_split [] fresh d = (fresh, d)
  distinct_split (x ∷ xs) fresh d = (apart_split x.0 xs (λ (e : x.0 ≡ chunk_id). fresh.0 (sym e)) d.0, distinct_split xs fresh.1 d.1)

  pub covers_split : (front : List (ℕ × Chunk)) (from to : ℕ) → 0 < taken → taken < c.size → Covers (chunks_in (front ++ (k, c) ∷ back)) from to → Covers (chunks_in (split_list front)) from to
  covers_split [] from to pos short h =
      let e : from + c.size ≡ from + taken + (c.size - taken) = omega arith in
      (h.0, pos, (omega (arith, h.0), omega arith, subst (λ (n : ℕ). Covers (chunks_in back) n to) e h.2))
  covers_split (x ∷ xs) from to pos short h = (h.0, h.1, covers_split xs (from + (x.1).size) to pos short h.2)

  pub numbered_split : (front : List (ℕ × Chunk)) → Numbered (front ++ (k, c) ∷ back) → Numbered (split_list front)
  numbered_split [] h = (refl, h)
  numbered_split (x ∷ xs) h = (h.0, numbered_split xs h.1)

  pub among_split : (front : List (ℕ × Chunk)) (q : ℕ) (d : Chunk) → (k ≡ q → ⊥) → Among q d (front ++ (k, c) ∷ back) → Among q d (split_list front)
  among_split front q d ne h = ⊎_elim
      (λ (l : Among q d front). among_front q d front ((chunk_id, piece) ∷ (k, rest) ∷ back) l)
      (λ (r : Among q d ((k, c) ∷ back)). among_back q d front ((chunk_id, piece) ∷ (k, rest) ∷ back) (⊎_elim
      (λ (here : (k ≡ q) × (c ≡ d)). absurd (ne here.0))
      (λ (later : Among q d back). inr (inr later))
      r))
      (among_cases q d front ((k, c) ∷ back) h)

  module _ (f g : ℕ → Option Node) (front : List (ℕ × Chunk)) where
    -- g is f after the three writes
    pub record IsRelinked : Type 0 where
      pub at_new : g chunk_id ≡ Some (node_of piece (last_or None front) (Some k))
      pub at_old : g k ≡ Some (node_of rest (Some chunk_id) (first_or back None))
      pub at_last : (q : ℕ) (n : Node) → last_or None front ≡ Some q → f q ≡ Some n → (k ≡ q → ⊥) → (chunk_id ≡ q → ⊥) → g q ≡ Some (with_next (Some chunk_id) n)
      pub others : (q : ℕ) → (last_or None front ≡ Some q → ⊥) → (k ≡ q → ⊥) → (chunk_id ≡ q → ⊥) → g q ≡ f q
      pub kept : (q : ℕ) (n : Node) → (k ≡ q → ⊥) → (chunk_id ≡ q → ⊥) → g q ≡ Some n → (m : Node) × (f q ≡ Some m) × (n.chunk ≡ m.chunk)

    pub held_split : IsRelinked → Held f None (front ++ (k, c) ∷ back) None → Distinct (front ++ (k, c) ∷ back) → Apart chunk_id (front ++ (k, c) ∷ back) → Held g None (split_list front) None
    held_split r h d fresh =
        let hf = held_front f None front ((k, c) ∷ back) None h in
        let hb = held_back f None front ((k, c) ∷ back) None h in
        let df = distinct_front front ((k, c) ∷ back) d in
        let kf = apart_front front k c back d in
        let nf = apart_append chunk_id front ((k, c) ∷ back) fresh in
        let db = distinct_back front ((k, c) ∷ back) d in
        let lb = last_apart None front ((k, c) ∷ back) (opt_none ((k, c) ∷ back)) d in
        let front_held = relink_last f g k chunk_id (Some k) (Some chunk_id) None front df kf nf.0 r.others r.at_last hf in
        let back_same = same_from f g (last_or None front) k chunk_id r.others back lb.1 db.0 nf.1.1 in
        held_join g None front ((chunk_id, piece) ∷ (k, rest) ∷ back) None front_held (r.at_new, (r.at_old, held_same f g (Some k) back None back_same hb.1))

    pub every_split : IsRelinked → ((q : ℕ) (n : Node) → f q ≡ Some n → Among q n.chunk (front ++ (k, c) ∷ back)) → (q : ℕ) (n : Node) → g q ≡ Some n → Among q n.chunk (split_list front)
    every_split r every q n at =
        ⊎_elim
        (λ (is_new : chunk_id ≡ q).
        let e : Some n ≡ Some (node_of piece (last_or None front) (Some k)) = sym at ∙ ap g (sym is_new) ∙ r.at_new in
        let w : n ≡ node_of piece (last_or None front) (Some k) = cc in
        among_back q n.chunk front ((chunk_id, piece) ∷ (k, rest) ∷ back) (inl (is_new, ap (λ (m : Node). m.chunk) (sym w))))
        (λ (not_new : chunk_id ≡ q → ⊥). ⊎_elim
        (λ (is_old : k ≡ q).
        let e : Some n ≡ Some (node_of rest (Some chunk_id) (first_or back None)) = sym at ∙ ap g (sym is_old) ∙ r.at_old in
        let w : n ≡ node_of rest (Some chunk_id) (first_or back None) = cc in
        among_back q n.chunk front ((chunk_id, piece) ∷ (k, rest) ∷ back) (inr (inl (is_old, ap (λ (m : Node). m.chunk) (sym w)))))
        (λ (not_old : k ≡ q → ⊥).
        let m = r.kept q n not_old not_new at in
        subst (λ (d : Chunk). Among q d (split_list front)) (sym m.2) (among_split front q (m.0).chunk not_old (every q m.0 m.1)))
        (cases_eq k q))
        (cases_eq chunk_id q)

-- ---- the map after a split
pub at_opt_other : (o : Option ℕ) (q : ℕ) → (o ≡ Some q → ⊥) → is_at o q ≡ false
at_opt_other None q ne = refl
at_opt_other (Some p) q ne = apart_test p q (λ (e : p ≡ q). ne (ap (λ (j : ℕ). Some j) e))

pub at_opt_same : (o : Option ℕ) (q : ℕ) → o ≡ Some q → is_at o q ≡ true
at_opt_same o q e = ap (λ (p : Option ℕ). is_at p q) e ∙ same_test q

pub kept_by : (b : Bool) (change : Node → Node) → ((m : Node) → (change m).chunk ≡ m.chunk) → (o : Option Node) (n : Node) → cond b (option_map change o) o ≡ Some n
    → (m : Node) × (o ≡ Some m) × (n.chunk ≡ m.chunk)
kept_by true change same None n e = cc
kept_by true change same (Some m) n e = let f : change m ≡ n = cc in (m, refl, ap (λ (x : Node). x.chunk) (sym f) ∙ same m)
kept_by false change same None n e = cc
kept_by false change same (Some m) n e = let f : m ≡ n = cc in (m, refl, ap (λ (x : Node). x.chunk) (sym f))

last_not_among : (k : ℕ) (xs : List (ℕ × Chunk)) → Apart k xs → last_or None xs ≡ Some k → ⊥
last_not_among k [] h e = cc
last_not_among k (x ∷ xs) h e = last_is_not k x.0 xs h.1 h.0 e

pub relinks : (f f1 f2 f3 : ℕ → Option Node) (chunk_id k taken offset : ℕ) (kind : AllocationType) (label : Label) (front back : List (ℕ × Chunk)) (n : Node)
    → f k ≡ Some n → n.prev ≡ last_or None front → n.next ≡ first_or back None → Apart k front → Apart chunk_id front → (chunk_id ≡ k → ⊥)
    → SetsAt chunk_id (Some (node_of (front_piece n.chunk taken offset kind chunk_id label) n.prev (Some k))) f f1
    → ChangesAt k (cut_node taken (Some chunk_id)) f1 f2
    → ChangesAtOpt n.prev (with_next (Some chunk_id)) f2 f3
    → IsRelinked chunk_id k n.chunk taken offset kind label back f f3 front
relinks f f1 f2 f3 chunk_id k taken offset kind label front back n at prev next kf nf ne c1 c2 c3 =
    let new_not : n.prev ≡ Some chunk_id → ⊥ = λ (e : n.prev ≡ Some chunk_id). last_not_among chunk_id front nf (sym prev ∙ e) in
    let old_not : n.prev ≡ Some k → ⊥ = λ (e : n.prev ≡ Some k). last_not_among k front kf (sym prev ∙ e) in
    let other_two : (q : ℕ) → (k ≡ q → ⊥) → (chunk_id ≡ q → ⊥) → f2 q ≡ f q = λ q nk nn.
    c2 q ∙ ap (λ (b : Bool). cond b (option_map (cut_node taken (Some chunk_id)) (f1 q)) (f1 q)) (apart_test k q nk)
    ∙ c1 q ∙ ap (λ (b : Bool). cond b (Some (node_of (front_piece n.chunk taken offset kind chunk_id label) n.prev (Some k))) (f q)) (apart_test chunk_id q nn) in
    record {
      at_new = c3 chunk_id
          ∙ ap (λ (b : Bool). cond b (option_map (with_next (Some chunk_id)) (f2 chunk_id)) (f2 chunk_id)) (at_opt_other n.prev chunk_id new_not)
          ∙ c2 chunk_id ∙ ap (λ (b : Bool). cond b (option_map (cut_node taken (Some chunk_id)) (f1 chunk_id)) (f1 chunk_id)) (apart_test k chunk_id (λ (e : k ≡ chunk_id). ne (sym e)))
          ∙ c1 chunk_id ∙ ap (λ (b : Bool). cond b (Some (node_of (front_piece n.chunk taken offset kind chunk_id label) n.prev (Some k))) (f chunk_id)) (same_test chunk_id)
          ∙ ap (λ (o : Option ℕ). Some (node_of (front_piece n.chunk taken offset kind chunk_id label) o (Some k))) prev;
      at_old = c3 k
          ∙ ap (λ (b : Bool). cond b (option_map (with_next (Some chunk_id)) (f2 k)) (f2 k)) (at_opt_other n.prev k old_not)
          ∙ c2 k ∙ ap (λ (b : Bool). cond b (option_map (cut_node taken (Some chunk_id)) (f1 k)) (f1 k)) (same_test k)
          ∙ ap (λ (o : Option Node). option_map (cut_node taken (Some chunk_id)) o) (c1 k
          ∙ ap (λ (b : Bool). cond b (Some (node_of (front_piece n.chunk taken offset kind chunk_id label) n.prev (Some k))) (f k)) (apart_test chunk_id k ne) ∙ at)
          ∙ ap (λ (o : Option ℕ). Some (node_of (cut_chunk n.chunk taken) (Some chunk_id) o)) next;
      at_last = λ q m e fq nk nn. c3 q
          ∙ ap (λ (b : Bool). cond b (option_map (with_next (Some chunk_id)) (f2 q)) (f2 q)) (at_opt_same n.prev q (prev ∙ e))
          ∙ ap (λ (o : Option Node). option_map (with_next (Some chunk_id)) o) (other_two q nk nn ∙ fq);
      others = λ q nl nk nn. c3 q
          ∙ ap (λ (b : Bool). cond b (option_map (with_next (Some chunk_id)) (f2 q)) (f2 q)) (at_opt_other n.prev q (λ (e : n.prev ≡ Some q). nl (sym prev ∙ e)))
          ∙ other_two q nk nn;
      kept = λ q m nk nn e. kept_by (is_at n.prev q) (with_next (Some chunk_id)) (λ x. refl) (f q) m
          (sym (ap (λ (o : Option Node). cond (is_at n.prev q) (option_map (with_next (Some chunk_id)) o) o) (other_two q nk nn)) ∙ sym (c3 q) ∙ e);
    }

-- the first number after a new one was put behind `prev`
first_kept : (z : ℕ) (xs : List (ℕ × Chunk)) (chunk_id first : ℕ) → first_after (last_or (Some z) xs) chunk_id first ≡ first
first_kept z [] chunk_id first = refl
first_kept z (x ∷ xs) chunk_id first = first_kept x.0 xs chunk_id first

pub first_split : (front : List (ℕ × Chunk)) (k chunk_id first : ℕ) (c d : Chunk) (back more : List (ℕ × Chunk)) → first_or (front ++ (k, c) ∷ back) None ≡ Some first
    → first_or (front ++ (chunk_id, d) ∷ more) None ≡ Some (first_after (last_or None front) chunk_id first)
first_split [] k chunk_id first c d back more h = refl
first_split (x ∷ xs) k chunk_id first c d back more h = h ∙ ap (λ (j : ℕ). Some j) (sym (first_kept x.0 xs chunk_id first))

-- the list, split there
pub record IsCut (old : List (ℕ × Chunk)) (k taken chunk_id offset : ℕ) (kind : AllocationType) (label : Label) (new : List (ℕ × Chunk)) : Type 0 where
  pub front : List (ℕ × Chunk)
  pub chunk : Chunk
  pub back : List (ℕ × Chunk)
  pub was : old ≡ front ++ (k, chunk) ∷ back
  pub is : new ≡ front ++ (chunk_id, front_piece chunk taken offset kind chunk_id label) ∷ (k, cut_chunk chunk taken) ∷ back

-- a chunk of that number is longer than `taken`
pub record CanSplit (cs : List (ℕ × Chunk)) (k taken : ℕ) : Type 0 where
  pub chunk : Chunk
  pub among : Among k chunk cs
  pub longer : taken < chunk.size

pub record SplitDone (g : ℕ → Option Node) (first size : ℕ) (cs : List (ℕ × Chunk)) (k taken chunk_id offset : ℕ) (kind : AllocationType) (label : Label) : Type 0 where
  pub list : List (ℕ × Chunk)
  pub split : IsCut cs k taken chunk_id offset kind label list
  pub chain : IsChain g first size list

pub split_chain : (f f1 f2 f3 : ℕ → Option Node) (first size : ℕ) (cs : List (ℕ × Chunk)) (chunk_id k taken offset : ℕ) (kind : AllocationType) (label : Label) (n : Node)
    → IsChain f first size cs → f k ≡ Some n → 0 < taken → taken < (n.chunk).size → Apart chunk_id cs
    → SetsAt chunk_id (Some (node_of (front_piece n.chunk taken offset kind chunk_id label) n.prev (Some k))) f f1
    → ChangesAt k (cut_node taken (Some chunk_id)) f1 f2
    → ChangesAtOpt n.prev (with_next (Some chunk_id)) f2 f3
    → SplitDone f3 (first_after n.prev chunk_id first) size cs k taken chunk_id offset kind label
split_chain f f1 f2 f3 first size cs chunk_id k taken offset kind label n chain at pos short fresh_cs c1 c2 c3 =
    let s = stands_from k n.chunk cs (chain.every k n at) in
    let held = subst (λ (ys : List (ℕ × Chunk)). Held f None ys None) s.is chain.held in
    let distinct = subst (λ (ys : List (ℕ × Chunk)). Distinct ys) s.is chain.distinct in
    let fresh = subst (λ (ys : List (ℕ × Chunk)). Apart chunk_id ys) s.is fresh_cs in
    let covers = subst (λ (ys : List (ℕ × Chunk)). Covers (chunks_in ys) 0 size) s.is chain.covers in
    let numbered = subst (λ (ys : List (ℕ × Chunk)). Numbered ys) s.is chain.numbered in
    let every : (q : ℕ) (m : Node) → f q ≡ Some m → Among q m.chunk (s.front ++ (k, n.chunk) ∷ s.back) = λ q m e. subst (λ (ys : List (ℕ × Chunk)). Among q m.chunk ys) s.is (chain.every q m e) in
    let back = held_back f None s.front ((k, n.chunk) ∷ s.back) None held in
    let is : Some n ≡ Some (node_of n.chunk (last_or None s.front) (first_or s.back None)) = sym at ∙ back.0 in
    let prev : n.prev ≡ last_or None s.front = cc in
    let next : n.next ≡ first_or s.back None = cc in
    let nf = apart_append chunk_id s.front ((k, n.chunk) ∷ s.back) fresh in
    let r = relinks f f1 f2 f3 chunk_id k taken offset kind label s.front s.back n at prev next (apart_front s.front k n.chunk s.back distinct) nf.0 nf.1.0 c1 c2 c3 in
    record {
      list = split_list chunk_id k n.chunk taken offset kind label s.back s.front;
      split = record { front = s.front; chunk = n.chunk; back = s.back; was = s.is; is = refl };
      chain = record {
        held = held_split chunk_id k n.chunk taken offset kind label s.back f f3 s.front r held distinct fresh;
        starts =
            first_split s.front k chunk_id first n.chunk (front_piece n.chunk taken offset kind chunk_id label) s.back ((k, cut_chunk n.chunk taken) ∷ s.back)
            (ap (λ (ys : List (ℕ × Chunk)). first_or ys None) (sym s.is) ∙ chain.starts)
            ∙ ap (λ (o : Option ℕ). Some (first_after o chunk_id first)) (sym prev);
        covers = covers_split chunk_id k n.chunk taken offset kind label s.back s.front 0 size pos short covers;
        distinct = distinct_split chunk_id k n.chunk taken offset kind label s.back s.front fresh distinct;
        numbered = numbered_split chunk_id k n.chunk taken offset kind label s.back s.front numbered;
        every = every_split chunk_id k n.chunk taken offset kind label s.back f f3 s.front r every;
      };
    }

pub split_ready : (f : ℕ → Option Node) (first size : ℕ) (cs : List (ℕ × Chunk)) → IsChain f first size cs → (k taken : ℕ) → CanSplit cs k taken
    → (n : Node) × (f k ≡ Some n) × (taken < (n.chunk).size) × ((n.chunk).start + (n.chunk).size ≤ size)
split_ready f first size cs chain k taken can =
    let h = held_among f None cs None chain.held k can.chunk can.among in
    (h.0, h.1, subst (λ (d : Chunk). taken < d.size) (sym h.2) can.longer, held_within f first size cs chain k h.0 h.1)

pub split_needs : (f : ℕ → Option Node) (first size : ℕ) (cs : List (ℕ × Chunk)) → IsChain f first size cs → (k taken : ℕ) → CanSplit cs k taken → size < 2 ^ 64
    → IsSome (f k) × IsSomeAnd (f k) (λ n. (taken < (n.chunk).size) × ((n.chunk).start + (n.chunk).size < 2 ^ 64))
split_needs f first size cs chain k taken can fits =
    let r = split_ready f first size cs chain k taken can in (
      subst (λ (o : Option Node). IsSome o) (sym r.1) (search rules),
      subst (λ (o : Option Node). IsSomeAnd o (λ n. (taken < (n.chunk).size) × ((n.chunk).start + (n.chunk).size < 2 ^ 64))) (sym r.1) (r.2, omega (arith, r.3)),
    )

pub some_changed : (b : Bool) (change : Node → Node) (o : Option Node) → IsSome o → IsSome (cond b (option_map change o) o)
some_changed true change None h = h
some_changed true change (Some m) h = search rules
some_changed false change o h = h

some_set : (b : Bool) (n : Node) (o : Option Node) → IsSome o → IsSome (cond b (Some n) o)
some_set true n o h = search rules
some_set false n o h = h

pub still_held : (f f1 f2 : ℕ → Option Node) (k m : ℕ) (change : Node → Node) (n : Node) → SetsAt m (Some n) f f1 → ChangesAt k change f1 f2 → (o : Option ℕ)
    → IfSome o (λ p. IsSome (f p)) → IfSome o (λ p. IsSome (f2 p))
still_held f f1 f2 k m change n c1 c2 None h = h
still_held f f1 f2 k m change n c1 c2 (Some p) h =
    subst (λ (o : Option Node). IsSome o) (sym (c2 p)) (some_changed (k == p) change (f1 p) (subst (λ (o : Option Node). IsSome o) (sym (c1 p)) (some_set (m == p) n (f p) h)))

pub split_chain_at : (f f1 f2 f3 : ℕ → Option Node) (first size : ℕ) (cs ds : List (ℕ × Chunk)) (chunk_id k taken offset : ℕ) (kind : AllocationType) (label : Label) (start : ℕ) (prev : Option ℕ)
    → IsChain f first size cs → cs ≡ ds → CanSplit ds k taken → 0 < taken → Apart chunk_id ds
    → ((n : Node) → f k ≡ Some n → (start ≡ (n.chunk).start) × (prev ≡ n.prev))
    → SetsAt chunk_id (Some (node_of (record { start = start; size = taken; offset = offset; kind = kind; chunk_id = chunk_id; label = label }) prev (Some k))) f f1
    → ChangesAt k (cut_node taken (Some chunk_id)) f1 f2
    → ChangesAtOpt prev (with_next (Some chunk_id)) f2 f3
    → SplitDone f3 (first_after prev chunk_id first) size ds k taken chunk_id offset kind label
split_chain_at f f1 f2 f3 first size cs ds chunk_id k taken offset kind label start prev chain_cs same can pos fresh ends c1 c2 c3 =
    let chain = subst (λ (ys : List (ℕ × Chunk)). IsChain f first size ys) same chain_cs in
    let r = split_ready f first size ds chain k taken can in
    let e = ends r.0 r.1 in
    let d2 = subst (λ (s : ℕ). SetsAt chunk_id (Some (node_of (record { start = s; size = taken; offset = offset; kind = kind; chunk_id = chunk_id; label = label }) prev (Some k))) f f1) e.0 c1 in
    let e2 = subst (λ (p : Option ℕ). SetsAt chunk_id (Some (node_of (front_piece (r.0).chunk taken offset kind chunk_id label) p (Some k))) f f1) e.1 d2 in
    let e3 = subst (λ (p : Option ℕ). ChangesAtOpt p (with_next (Some chunk_id)) f2 f3) e.1 c3 in
    subst (λ (p : Option ℕ). SplitDone f3 (first_after p chunk_id first) size ds k taken chunk_id offset kind label) (sym e.1)
    (split_chain f f1 f2 f3 first size ds chunk_id k taken offset kind label r.0 chain r.1 pos r.2 fresh e2 c2 e3)

pub split_walk : (g : ℕ → Option Node) (first size : ℕ) (cs : List (ℕ × Chunk)) (k taken chunk_id offset : ℕ) (kind : AllocationType) (label : Label)
    → SplitDone g first size cs k taken chunk_id offset kind label → IsChain g first size (walk size g (Some first)) × IsCut cs k taken chunk_id offset kind label (walk size g (Some first))
split_walk g first size cs k taken chunk_id offset kind label done = (
  walk_chain g first size done.list done.chain,
  subst (λ (ys : List (ℕ × Chunk)). IsCut cs k taken chunk_id offset kind label ys) (sym (chain_walk g first size done.list done.chain)) done.split,
)
