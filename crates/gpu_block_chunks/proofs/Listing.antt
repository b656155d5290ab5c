-- A chain's list of chunks, and the same list with each chunk beside the number that it is held under.
use Rattle.std.proofs.Common.{◌≡◌, ◌≢◌, ◌<◌, ◌^◌, ℕ, List, [], ◌∷◌, ◌++◌, length, Option, Some, None, refl, sym, ap, ◌∙◌, subst, inl, inr, arith, cond, true, false, Bool, ◌==◌}
use Rattle.std.specs.Option.{option_map}
use Rattle.std.proofs.lemmas.List.{append_assoc}
use Rattle.std.proofs.lemmas.Option.{same_Some}
use Rattle.std.proofs.lemmas.List.Elements.{All-nil, All-cons, All-head, All-tail}
use Rattle.gpu_block_chunks.specs.declared.chunk.Chunk.{Chunk}
use Rattle.gpu_block_chunks.specs.Chain.{Node}
use Rattle.gpu_block_chunks.specs.declared.chain.Neighbour.{Neighbour}
use Rattle.gpu_block_chunks.specs.declared.chain.Neighbours.{Neighbours}
use Rattle.gpu_values.specs.declared.allocation_type.AllocationType.{AllocationType}
use Rattle.gpu_values.specs.declared.allocation_type.AllocationType.TheVariants.{Free, Linear, NonLinear}
use Rattle.gpu_block_chunks.specs.declared.label.Label.{Label}
use Rattle.gpu_block_chunks.specs.Label.{no_label}
use Rattle.gpu_block_chunks.specs.ChunkList.{IsFree, filled_chunk, cut_chunk, join_kinds, join_back, join_front, AreDistinct}
use Rattle.gpu_block_chunks.specs.Chain.{first_or, last_or, node_of, Held, Apart, Distinct, Numbered, Among, IsChain, chunks_in, StandsAt, HasChunkId, HasNoChunkId, AreNeighbours, IsChunkAt}
use Rattle.gpu_block_chunks.specs.Chain.{IsLonger, IsSplit, IsFilled, IsWorded, IsReleased, from_chunk_id, beside, beside_of, around_of, last_beside, first_beside, longer, right_chunk, right_rest, glue_left}
use Rattle.gpu_block_chunks.specs.Chain.{is_free_kind, front_piece, ChangesAt, used_node, worded_node, JoinsRight, JoinsLeft, JoinsUnder, LinkedAt, HasNoPiece, ReleasesPiece, first_of, walk}
use Rattle.gpu_block_chunks.proofs.Links.{numbered_at, stands_from, same_test, apart_test, apart_front, held_front, held_back, apart_from_none}
use Rattle.gpu_block_chunks.proofs.Parts.{All-parts}
use Rattle.gpu_block_chunks.proofs.Splits.{IsCut, CanSplit}
use Rattle.gpu_block_chunks.proofs.Unlinks.{freed, Opened, opened, fill_done, word_change, release_done, right_ready, left_ready, under_done}

cons_parts : {X : Type 0} (c d : X) (b e : List X) → c ∷ b ≡ d ∷ e → (c ≡ d) × (b ≡ e)
cons_parts c d b e h = (cc, cc)

pub chunks_append : (xs ys : List (ℕ × Chunk)) → chunks_in (xs ++ ys) ≡ chunks_in xs ++ chunks_in ys
chunks_append [] ys = refl
chunks_append (x ∷ xs) ys = ap (λ (cs : List Chunk). x.1 ∷ cs) (chunks_append xs ys)

pub among_of : (ps : List (ℕ × Chunk)) (front back : List Chunk) (c : Chunk) → chunks_in ps ≡ front ++ c ∷ back → Numbered ps → Among c.chunk_id c ps
among_of [] [] back c e n = cc
among_of [] (f ∷ fs) back c e n = cc
among_of (p ∷ ps) [] back c e n =
    let q = cons_parts p.1 c (chunks_in ps) back e in
    inl (sym n.0 ∙ ap (λ (d : Chunk). d.chunk_id) q.0, q.0)
among_of (p ∷ ps) (f ∷ fs) back c e n =
    inr (among_of ps fs back c (cons_parts p.1 f (chunks_in ps) (fs ++ c ∷ back) e).1 n.1)

pub among_stands : (ps : List (ℕ × Chunk)) (cs : List Chunk) (k : ℕ) (c : Chunk) → chunks_in ps ≡ cs → Numbered ps → StandsAt cs k c → Among k c ps
among_stands ps cs k c e n s = subst (λ (q : ℕ). Among q c ps) s.numbered (among_of ps s.front s.back c (e ∙ s.split) n)

pub numbered_front : (xs ys : List (ℕ × Chunk)) → Numbered (xs ++ ys) → Numbered xs
numbered_front [] ys h = tt
numbered_front (x ∷ xs) ys h = (h.0, numbered_front xs ys h.1)

abbrev pub stands_of : (ps front back : List (ℕ × Chunk)) (cs : List Chunk) (k : ℕ) (c : Chunk) → ps ≡ front ++ (k, c) ∷ back → chunks_in ps ≡ cs → Numbered ps → StandsAt cs k c
stands_of ps front back cs k c p e n = record {
  front = chunks_in front;
  back = chunks_in back;
  split = sym e ∙ ap chunks_in p ∙ chunks_append front ((k, c) ∷ back);
  numbered = numbered_at front k c back (subst (λ (xs : List (ℕ × Chunk)). Numbered xs) p n);
}

pub none_of : (k : ℕ) (ps : List (ℕ × Chunk)) → Apart k ps → Numbered ps → HasNoChunkId (chunks_in ps) k
none_of k [] h n = All-nil (λ (c : Chunk). c.chunk_id ≢ k)
none_of k (x ∷ xs) h n = All-cons (λ (c : Chunk). c.chunk_id ≢ k) x.1 (chunks_in xs) (λ (e : (x.1).chunk_id ≡ k). h.0 (sym e ∙ n.0)) (none_of k xs h.1 n.1)

pub apart_of : (k : ℕ) (ps : List (ℕ × Chunk)) → HasNoChunkId (chunks_in ps) k → Numbered ps → Apart k ps
apart_of k [] h n = tt
apart_of k (x ∷ xs) h n =
    ((λ (e : k ≡ x.0). All-head (λ (c : Chunk). c.chunk_id ≢ k) x.1 (chunks_in xs) h (n.0 ∙ sym e)), apart_of k xs (All-tail (λ (c : Chunk). c.chunk_id ≢ k) x.1 (chunks_in xs) h) n.1)

-- ---- what is beside a chunk

module _ (f : ℕ → Option Node) where
  last_beside_is : (b : Option ℕ) (kb : Option Neighbour) (xs : List (ℕ × Chunk)) (a : Option ℕ) → Held f b xs a → beside_of f b ≡ kb → beside_of f (last_or b xs) ≡ last_beside kb (chunks_in xs)
  last_beside_is b kb [] a h e = e
  last_beside_is b kb (x ∷ xs) a h e = last_beside_is (Some x.0) (Some (beside x.1)) xs a h.1 (ap (λ (o : Option Node). option_map (λ (n : Node). beside n.chunk) o) h.0)

  first_beside_is : (b : Option ℕ) (xs : List (ℕ × Chunk)) → Held f b xs None → beside_of f (first_or xs None) ≡ first_beside (chunks_in xs)
  first_beside_is b [] h = refl
  first_beside_is b (x ∷ xs) h = ap (λ (o : Option Node). option_map (λ (n : Node). beside n.chunk) o) h.0

  pub is_around : (first size : ℕ) (ps : List (ℕ × Chunk)) (cs : List Chunk) → IsChain f first size ps → chunks_in ps ≡ cs → (k : ℕ) (n : Node) → f k ≡ Some n
      → AreNeighbours cs k (around_of f n)
  is_around first size ps cs chain e k n at =
      let s = stands_from k n.chunk ps (chain.every k n at) in
      let h = subst (λ (ys : List (ℕ × Chunk)). Held f None ys None) s.is chain.held in
      let front = held_front f None s.front ((k, n.chunk) ∷ s.back) None h in
      let back = held_back f None s.front ((k, n.chunk) ∷ s.back) None h in
      let is : Some n ≡ Some (node_of n.chunk (last_or None s.front) (first_or s.back None)) = sym at ∙ back.0 in
      let prev : n.prev ≡ last_or None s.front = cc in
      let next : n.next ≡ first_or s.back None = cc in
      record {
        chunk = n.chunk;
        at = stands_of ps s.front s.back cs k n.chunk s.is e chain.numbered;
        here = refl;
        before = ap (beside_of f) prev ∙ last_beside_is None None s.front (Some k) front refl;
        after = ap (beside_of f) next ∙ first_beside_is (Some k) s.back back.1;
      }

-- ---- the list from a number on

from_split : (k : ℕ) (front : List (ℕ × Chunk)) (c : Chunk) (back : List Chunk) → Apart k front → Numbered front → c.chunk_id ≡ k → from_chunk_id (Some k) (chunks_in front ++ c ∷ back) ≡ c ∷ back
from_split k [] c back a n e =
    let t : (c.chunk_id == k) ≡ true = ap (λ (q : ℕ). q == k) e ∙ same_test k in
    ap (λ (b : Bool). cond b (c ∷ back) (from_chunk_id (Some k) back)) t
from_split k (x ∷ xs) c back a n e =
    let t : ((x.1).chunk_id == k) ≡ false = apart_test (x.1).chunk_id k (λ (q : (x.1).chunk_id ≡ k). a.0 (sym q ∙ n.0)) in
    ap (λ (b : Bool). cond b (x.1 ∷ (chunks_in xs ++ c ∷ back)) (from_chunk_id (Some k) (chunks_in xs ++ c ∷ back))) t ∙ from_split k xs c back a.1 n.1 e

-- from the first number of the rest on, the rest is met
from_rest : (front back : List (ℕ × Chunk)) → Distinct (front ++ back) → Numbered (front ++ back) → from_chunk_id (first_or back None) (chunks_in (front ++ back)) ≡ chunks_in back
from_rest front [] d n = refl
from_rest front (y ∷ ys) d n =
    ap (from_chunk_id (Some y.0)) (chunks_append front (y ∷ ys))
    ∙ from_split y.0 front y.1 (chunks_in ys) (apart_front front y.0 y.1 ys d) (numbered_front front (y ∷ ys) n) (numbered_at front y.0 y.1 ys n)

pub from_first : (f : ℕ → Option Node) (first size : ℕ) (ps : List (ℕ × Chunk)) (cs : List Chunk) → IsChain f first size ps → chunks_in ps ≡ cs → from_chunk_id (Some first) cs ≡ cs
from_first f first size ps cs chain e =
    subst (λ (xs : List Chunk). from_chunk_id (Some first) xs ≡ xs) e (ap (λ (o : Option ℕ). from_chunk_id o (chunks_in ps)) (sym chain.starts) ∙ from_rest [] ps chain.distinct chain.numbered)

pub chunk_at : (f : ℕ → Option Node) (first size : ℕ) (ps : List (ℕ × Chunk)) (cs : List Chunk) → IsChain f first size ps → chunks_in ps ≡ cs → (k : ℕ) (n : Node) → f k ≡ Some n
    → IsChunkAt cs k n.chunk n.next
chunk_at f first size ps cs chain e k n at =
    let s = stands_from k n.chunk ps (chain.every k n at) in
    let h = subst (λ (ys : List (ℕ × Chunk)). Held f None ys None) s.is chain.held in
    let d = subst (λ (ys : List (ℕ × Chunk)). Distinct ys) s.is chain.distinct in
    let m = subst (λ (ys : List (ℕ × Chunk)). Numbered ys) s.is chain.numbered in
    let back = held_back f None s.front ((k, n.chunk) ∷ s.back) None h in
    let is : Some n ≡ Some (node_of n.chunk (last_or None s.front) (first_or s.back None)) = sym at ∙ back.0 in
    let next : n.next ≡ first_or s.back None = cc in
    let whole : cs ≡ chunks_in (s.front ++ (k, n.chunk) ∷ s.back) = sym e ∙ ap chunks_in s.is in
    let assoc = append_assoc s.front ((k, n.chunk) ∷ []) s.back in
    let here : from_chunk_id (Some k) cs ≡ n.chunk ∷ chunks_in s.back =
    ap (from_chunk_id (Some k)) whole ∙ from_rest s.front ((k, n.chunk) ∷ s.back) d m in
    let later : from_chunk_id n.next cs ≡ chunks_in s.back =
    ap (λ (o : Option ℕ). from_chunk_id o cs) next ∙ ap (from_chunk_id (first_or s.back None)) (whole ∙ ap chunks_in (sym assoc))
    ∙ from_rest (s.front ++ (k, n.chunk) ∷ []) s.back (subst (λ (ys : List (ℕ × Chunk)). Distinct ys) (sym assoc) d) (subst (λ (ys : List (ℕ × Chunk)). Numbered ys) (sym assoc) m) in
    record {
      at = stands_of ps s.front s.back cs k n.chunk s.is e chain.numbered;
      from = here ∙ ap (λ (xs : List Chunk). n.chunk ∷ xs) (sym later);
    }

pub none_held : (f : ℕ → Option Node) (first size : ℕ) (ps : List (ℕ × Chunk)) (cs : List Chunk) → IsChain f first size ps → chunks_in ps ≡ cs → (k : ℕ) → f k ≡ None → HasNoChunkId cs k
none_held f first size ps cs chain e k none =
    subst (λ (xs : List Chunk). HasNoChunkId xs k) e (none_of k ps (apart_from_none f k None ps None none chain.held) chain.numbered)

-- ---- the changes

pub can_split : (ps : List (ℕ × Chunk)) (cs : List Chunk) (k taken : ℕ) → chunks_in ps ≡ cs → Numbered ps → IsLonger cs k taken → CanSplit ps k taken
can_split ps cs k taken e n l = record { chunk = l.chunk; among = among_stands ps cs k l.chunk e n l.at; longer = l.longer }

pub split_listed : (ps qs : List (ℕ × Chunk)) (cs : List Chunk) (k taken chunk_id offset : ℕ) (kind : AllocationType) (label : Label) → chunks_in ps ≡ cs → Numbered ps
    → IsCut ps k taken chunk_id offset kind label qs → IsSplit cs k taken chunk_id offset kind label (chunks_in qs)
split_listed ps qs cs k taken chunk_id offset kind label e n c = record {
  chunk = c.chunk;
  at = stands_of ps c.front c.back cs k c.chunk c.was e n;
  is = ap chunks_in c.is ∙ chunks_append c.front ((chunk_id, front_piece c.chunk taken offset kind chunk_id label) ∷ (k, cut_chunk c.chunk taken) ∷ c.back);
}

pub fill_listed : (ps qs front back : List (ℕ × Chunk)) (cs : List Chunk) (c : Chunk) (k offset : ℕ) (kind : AllocationType) (label : Label) → chunks_in ps ≡ cs → Numbered ps
    → ps ≡ front ++ (k, c) ∷ back → qs ≡ front ++ (k, filled_chunk c offset kind label) ∷ back → IsFilled cs k offset kind label (chunks_in qs)
fill_listed ps qs front back cs c k offset kind label e n was is = record {
  chunk = c;
  at = stands_of ps front back cs k c was e n;
  is = ap chunks_in is ∙ chunks_append front ((k, filled_chunk c offset kind label) ∷ back);
}

right_by : (kind : AllocationType) (c : Chunk) (y : ℕ × Chunk) (ys : List (ℕ × Chunk))
    → cond (is_free_kind kind) (longer c (y.1).size) c ∷ chunks_in (cond (is_free_kind kind) ys (y ∷ ys)) ≡ join_kinds kind c y.1 (chunks_in ys)
right_by Free c y ys = refl
right_by Linear c y ys = refl
right_by NonLinear c y ys = refl

right_listed : (c : Chunk) (back : List (ℕ × Chunk)) → right_chunk c back ∷ chunks_in (right_rest back) ≡ join_back c (chunks_in back)
right_listed c [] = refl
right_listed c (y ∷ ys) = right_by (y.1).kind c y ys

left_by : (kind : AllocationType) (x : ℕ × Chunk) (k : ℕ) (c : Chunk) (back : List (ℕ × Chunk))
    → chunks_in (cond (is_free_kind kind) ((x.0, longer x.1 c.size) ∷ back) (x ∷ (k, c) ∷ back)) ≡ join_kinds kind x.1 c (chunks_in back)
left_by Free x k c back = refl
left_by Linear x k c back = refl
left_by NonLinear x k c back = refl

left_listed : (front : List (ℕ × Chunk)) (k : ℕ) (c : Chunk) (back : List (ℕ × Chunk)) → chunks_in (glue_left front k c back) ≡ join_front (chunks_in front) (c ∷ chunks_in back)
left_listed [] k c back = refl
left_listed (x ∷ []) k c back = left_by (x.1).kind x k c back
left_listed (x ∷ (y ∷ ys)) k c back = ap (λ (cs : List Chunk). x.1 ∷ cs) (left_listed (y ∷ ys) k c back)

pub release_listed : (ps qs front back : List (ℕ × Chunk)) (cs : List Chunk) (c : Chunk) (k : ℕ) → chunks_in ps ≡ cs → Numbered ps → ps ≡ front ++ (k, c) ∷ back
    → qs ≡ glue_left front k (right_chunk (freed c no_label) back) (right_rest back) → IsReleased cs k (chunks_in qs)
release_listed ps qs front back cs c k e n was is = record {
  chunk = c;
  at = stands_of ps front back cs k c was e n;
  is = ap chunks_in is ∙ left_listed front k (right_chunk (freed c no_label) back) (right_rest back) ∙ ap (join_front (chunks_in front)) (right_listed (freed c no_label) back);
}

-- ---- what the chain's methods use

module _ (f : ℕ → Option Node) (first size : ℕ) (ps : List (ℕ × Chunk)) (cs : List Chunk) (chain : IsChain f first size ps) (shown : chunks_in ps ≡ cs) where
  pub open_at : (k : ℕ) → HasChunkId cs k → Opened f first size ps k
  open_at k has = opened f first size ps k has.0 chain (among_stands ps cs k has.0 shown chain.numbered has.1)

  pub filled : (g : ℕ → Option Node) (k offset : ℕ) (kind : AllocationType) (label : Label) → HasChunkId cs k → ChangesAt k (used_node offset kind label) f g
      → IsChain g first size (walk size g (Some first)) × IsFilled cs k offset kind label (chunks_in (walk size g (Some first)))
  filled g k offset kind label has change =
      let o = open_at k has in
      let d = fill_done f g first size ps k offset kind label o change in
      (d.0, fill_listed ps (walk size g (Some first)) o.front o.back cs o.chunk k offset kind label shown chain.numbered o.was d.1)

  pub worded : (g : ℕ → Option Node) (k word : ℕ) → HasChunkId cs k → ChangesAt k (worded_node word) f g
      → IsChain g first size (walk size g (Some first)) × IsWorded cs k word (chunks_in (walk size g (Some first)))
  unfolding fill_listed
  worded g k word has change =
      let o = open_at k has in
      let label : Label = record o.chunk.label { word = word } in
      let d = fill_done f g first size ps k o.chunk.offset o.chunk.kind label o (word_change f g first size ps k word o change) in
      let l = fill_listed ps (walk size g (Some first)) o.front o.back cs o.chunk k o.chunk.offset o.chunk.kind label shown chain.numbered o.was d.1 in
      (d.0, record { chunk = o.chunk; at = l.at; is = l.is })

  pub released : (f1 f2 f3 : ℕ → Option Node) (k start : ℕ) → HasChunkId cs k → ((n : Node) → f k ≡ Some n → start ≡ (n.chunk).start)
      → ChangesAt k (used_node start Free no_label) f f1 → JoinsRight k f1 f2 → JoinsLeft k f2 f3
      → IsChain f3 first size (walk size f3 (Some first)) × IsReleased cs k (chunks_in (walk size f3 (Some first)))
  released f1 f2 f3 k start has ends change right left =
      let o = open_at k has in
      let d = release_done f f1 first size ps k start no_label o ends change f2 right f3 left in
      (d.0, release_listed ps (walk size f3 (Some first)) o.front o.back cs o.chunk k shown chain.numbered o.was d.1)

-- a number that no chunk has: nothing is met
pub from_none : (k : ℕ) (cs : List Chunk) → HasNoChunkId cs k → from_chunk_id (Some k) cs ≡ []
from_none k [] h = refl
from_none k (c ∷ cs) h =
    let t : (c.chunk_id == k) ≡ false = apart_test c.chunk_id k (All-head (λ (d : Chunk). d.chunk_id ≢ k) c cs h) in
    ap (λ (b : Bool). cond b (c ∷ cs) (from_chunk_id (Some k) cs)) t ∙ from_none k cs (All-tail (λ (d : Chunk). d.chunk_id ≢ k) c cs h)

pub empty_of : (xs : List Chunk) → length xs ≡ 0 → xs ≡ []
empty_of [] h = refl
empty_of (x ∷ xs) h = absurd (omega arith)

-- ---- one number, one chunk

distinct_of : (ps : List (ℕ × Chunk)) → Distinct ps → Numbered ps → AreDistinct (chunks_in ps)
distinct_of [] d n = tt
distinct_of (x ∷ xs) d n =
    (subst (λ (k : ℕ). HasNoChunkId (chunks_in xs) k) (sym n.0) (none_of x.0 xs d.0 n.1), distinct_of xs d.1 n.1)

pub distinct_listed : (f : ℕ → Option Node) (first size : ℕ) (ps : List (ℕ × Chunk)) (cs : List Chunk) → IsChain f first size ps → chunks_in ps ≡ cs → AreDistinct cs
distinct_listed f first size ps cs chain e = subst (λ (xs : List Chunk). AreDistinct xs) e (distinct_of ps chain.distinct chain.numbered)

pub record SameSplit (front : List Chunk) (c : Chunk) (back other : List Chunk) (d : Chunk) (rest : List Chunk) : Type 0 where
  pub fronts : front ≡ other
  pub chunks : c ≡ d
  pub backs : back ≡ rest

pub one_split : (front : List Chunk) (c : Chunk) (back other : List Chunk) (d : Chunk) (rest : List Chunk) → front ++ c ∷ back ≡ other ++ d ∷ rest → AreDistinct (front ++ c ∷ back)
    → c.chunk_id ≡ d.chunk_id → SameSplit front c back other d rest
one_split [] c back [] d rest e w n =
    let p = cons_parts c d back rest e in
    record { fronts = refl; chunks = p.0; backs = p.1 }
one_split [] c back (y ∷ ys) d rest e w n =
    let p = cons_parts c y back (ys ++ d ∷ rest) e in
    let all : HasNoChunkId (ys ++ d ∷ rest) c.chunk_id = subst (λ (xs : List Chunk). HasNoChunkId xs c.chunk_id) p.1 w.0 in
    absurd (All-head (λ (x : Chunk). x.chunk_id ≢ c.chunk_id) d rest (All-parts (λ (x : Chunk). x.chunk_id ≢ c.chunk_id) ys (d ∷ rest) all).1 (sym n))
one_split (x ∷ xs) c back [] d rest e w n =
    let p = cons_parts x d (xs ++ c ∷ back) rest e in
    absurd (All-head (λ (y : Chunk). y.chunk_id ≢ x.chunk_id) c back (All-parts (λ (y : Chunk). y.chunk_id ≢ x.chunk_id) xs (c ∷ back) w.0).1 (n ∙ ap (λ (y : Chunk). y.chunk_id) (sym p.0)))
one_split (x ∷ xs) c back (y ∷ ys) d rest e w n =
    let p = cons_parts x y (xs ++ c ∷ back) (ys ++ d ∷ rest) e in
    let r = one_split xs c back ys d rest p.1 w.1 n in
    record { fronts = ap (λ (h : Chunk). h ∷ xs) p.0 ∙ ap (λ (hs : List Chunk). y ∷ hs) r.fronts; chunks = r.chunks; backs = r.backs }

-- the chunk that stands there is the one between front and back
pub stands_once : (cs front back : List Chunk) (c d : Chunk) (k : ℕ) → AreDistinct cs → (s : StandsAt cs k d) → cs ≡ front ++ c ∷ back → c.chunk_id ≡ k → SameSplit front c back s.front d s.back
stands_once cs front back c d k w s p n =
    one_split front c back s.front d s.back (sym p ∙ s.split) (subst (λ (xs : List Chunk). AreDistinct xs) p w) (n ∙ sym s.numbered)

-- ---- a piece that is released

told : (f : ℕ → Option Node) (o : Option Node) (a : Neighbours) → option_map (around_of f) o ≡ Some a → (n : Node) × (o ≡ Some n) × (around_of f n ≡ a)
told f None a e = cc
told f (Some n) a e = (n, refl, same_Some (around_of f n) a e)

neighbours_at : (f : ℕ → Option Node) (first size : ℕ) (ps : List (ℕ × Chunk)) → IsChain f first size ps → (k : ℕ) (a : Neighbours) → option_map (around_of f) (f k) ≡ Some a
    → AreNeighbours (chunks_in ps) k a
neighbours_at f first size ps chain k a e =
    let t = told f (f k) a e in
    subst (λ (x : Neighbours). AreNeighbours (chunks_in ps) k x) t.2 (is_around f first size ps (chunks_in ps) chain refl k t.0 t.1)

module _ (f : ℕ → Option Node) (first size : ℕ) (ps : List (ℕ × Chunk)) (cs : List Chunk) (chain : IsChain f first size ps) (shown : chunks_in ps ≡ cs) where
  pub none_free : (k : ℕ) → f k ≡ None → HasNoPiece cs k
  none_free k none = λ c at.
      let h = subst (λ (xs : List Chunk). HasNoChunkId xs k) at.split (none_held f first size ps cs chain shown k none) in
      absurd (All-head (λ (x : Chunk). x.chunk_id ≢ k) c at.back (All-parts (λ (x : Chunk). x.chunk_id ≢ k) at.front (c ∷ at.back) h).1 at.numbered)

  stands_beside : (k : ℕ) (a : Neighbours) → option_map (around_of f) (f k) ≡ Some a → AreNeighbours cs k a
  stands_beside k a e = subst (λ (xs : List Chunk). AreNeighbours xs k a) shown (neighbours_at f first size ps chain k a e)

  pub free_alone : (k : ℕ) (a : Neighbours) → option_map (around_of f) (f k) ≡ Some a → IsFree a.here.kind → HasNoPiece cs k
  free_alone k a e free = λ c at.
      let m = stands_beside k a e in
      let s = stands_once cs at.front at.back c m.chunk k (distinct_listed f first size ps cs chain shown) m.at at.split at.numbered in
      subst (λ (x : Chunk). IsFree x.kind) (sym s.chunks) (subst (λ (b : Neighbour). IsFree b.kind) m.here free)

  starts_at : (k : ℕ) (a : Neighbours) → option_map (around_of f) (f k) ≡ Some a → (n : Node) → f k ≡ Some n → a.here.start ≡ (n.chunk).start
  starts_at k a e n at = ap (λ (x : Neighbours). x.here.start) (sym (same_Some (around_of f n) a (sym (ap (option_map (around_of f)) at) ∙ e)))

  module _ (k : ℕ) (was : Neighbours) (e : option_map (around_of f) (f k) ≡ Some was) (f1 : ℕ → Option Node) (change : ChangesAt k (used_node was.here.start Free no_label) f f1) where
    has : HasChunkId cs k
    has = let m = stands_beside k was e in (m.chunk, m.at)

    o : Opened f first size ps k
    o = open_at f first size ps cs chain shown k has

    pub right_linked : size < 2 ^ 64 → LinkedAt f1 k
    right_linked fits = right_ready f f1 first size ps k was.here.start no_label o (starts_at k was e) change fits

    module _ (f2 : ℕ → Option Node) (right : JoinsRight k f1 f2) where
      pub left_linked : size < 2 ^ 64 → LinkedAt f2 k
      left_linked fits = left_ready f f1 first size ps k was.here.start no_label o (starts_at k was e) change f2 right fits

      module _ (f3 : ℕ → Option Node) (left : JoinsLeft k f2 f3) where
        pub chain_left : IsChain f3 first size (walk size f3 (Some first))
        chain_left = (released f first size ps cs chain shown f1 f2 f3 k was.here.start has (starts_at k was e) change right left).0

        under_first : (j : ℕ) → JoinsUnder k f2 j → j ≡ first_of was.before k
        under_first j under =
            let m = stands_beside k was e in
            let at = stands_of ps o.front o.back cs k o.chunk o.was shown chain.numbered in
            let s = stands_once cs at.front at.back o.chunk m.chunk k (distinct_listed f first size ps cs chain shown) m.at at.split at.numbered in
            under_done f f1 first size ps k was.here.start no_label o (starts_at k was e) change f2 right j under
            ∙ ap (λ (xs : List Chunk). first_of (last_beside None xs) k) s.fronts
            ∙ ap (λ (b : Option Neighbour). first_of b k) (sym m.before)

        pub piece_released : (IsFree was.here.kind → ⊥) → (j : ℕ) → JoinsUnder k f2 j → (is : Neighbours) → option_map (around_of f3) (f3 j) ≡ Some is
            → ReleasesPiece cs k (chunks_in (walk size f3 (Some first))) was is
        piece_released live j under is there =
            let r = released f first size ps cs chain shown f1 f2 f3 k was.here.start has (starts_at k was e) change right left in
            record {
              before = stands_beside k was e;
              live = live;
              released = r.1;
              after = subst (λ (q : ℕ). AreNeighbours (chunks_in (walk size f3 (Some first))) q is) (under_first j under) (neighbours_at f3 first size (walk size f3 (Some first)) r.0 j is there);
            }
