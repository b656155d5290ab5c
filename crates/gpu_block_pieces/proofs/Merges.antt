-- What a release changes of the chunks and of the index.
use Rattle.std.proofs.Common.{◌≡◌, ℕ, ◌+◌, ◌<◌, ◌≤◌, List, [], ◌∷◌, ◌++◌, length, refl, sym, ap, ◌∙◌, subst, arith, inl, inr, Option, Some, None}
use Rattle.std.specs.List.{AllPairs, sum_by}
use Rattle.std.proofs.lemmas.List.{length-append, append_assoc, append-nil}
use Rattle.std.proofs.lemmas.List.Quantifiers.{all_pairs_remove}
use Rattle.gpu_block_chunks.specs.declared.chunk.Chunk.{Chunk}
use Rattle.gpu_block_chunks.specs.declared.chain.Neighbour.{Neighbour}
use Rattle.gpu_block_chunks.specs.declared.chain.Neighbours.{Neighbours}
use Rattle.gpu_block_gaps.specs.declared.index.Gap.{Gap}
use Rattle.gpu_values.specs.declared.allocation_type.AllocationType.{AllocationType}
use Rattle.gpu_values.specs.declared.allocation_type.AllocationType.TheVariants.{Free, Linear, NonLinear}
use Rattle.gpu_block_chunks.specs.Label.{no_label}
use Rattle.gpu_block_chunks.specs.ChunkList.{IsFree, Covers, AreDistinct, filled_chunk, joined_chunk, join_back, join_front}
use Rattle.gpu_block_pieces.specs.Chunks.{NotBothFree, NoneTouch, last_kind, extents_of, extent}
use Rattle.gpu_block_chunks.specs.Chain.{AreNeighbours, ReleasesPiece, beside, last_beside, first_beside, first_by, first_of}
use Rattle.gpu_block_gaps.specs.Index.{Before, HasKeyAt, HasNoKey, IsRemoved, IsInserted}
use Rattle.gpu_block_pieces.specs.Indexed.{gap_between, kind_or, gap_first, gaps_between, HasSame, IsListed, beside_kind, Forgets, ForgetsBy, IsGapBeside, MayForget, MayForgetBy}
use Rattle.gpu_block_pieces.proofs.Tiling.{around, last_kind-push}
use Rattle.gpu_block_pieces.proofs.Views.{free_or_live, extents-free, extents-append, extents-split, contains_mid}
use Rattle.gpu_block_pieces.proofs.Edits.{snoc, join_front-push, join_kinds-free, join_kinds-live}
use Rattle.gpu_block_pieces.proofs.Takings.{Touching, touching, touch_join, live_after, live_before}
use Rattle.gpu_block_chunks.proofs.Listing.{stands_once}
use Rattle.gpu_block_pieces.proofs.Indexing.{free_is, first_free, gaps_append, gaps_free, gaps_live, after_same, before_same, few_gaps, other_starts, same_member, same_back, same_length, key_there}
use Rattle.gpu_block_pieces.proofs.Indexing.{no_key, same_less, same_more, same_to}

-- ---- what is forgotten of the index

ordered_by : (k : AllocationType) (b : Neighbour) (gs mid : List Gap) → AllPairs Before gs → ForgetsBy k b gs mid → AllPairs Before mid
ordered_by Free b gs mid o h = subst (λ (xs : List Gap). AllPairs Before xs) (sym h.is) (all_pairs_remove Before gs h.place h.within o)
ordered_by Linear b gs mid o h = subst (λ (xs : List Gap). AllPairs Before xs) (sym h) o
ordered_by NonLinear b gs mid o h = subst (λ (xs : List Gap). AllPairs Before xs) (sym h) o

-- what is left is in order
pub forgets_ordered : (o : Option Neighbour) (gs mid : List Gap) → AllPairs Before gs → Forgets o gs mid → AllPairs Before mid
forgets_ordered None gs mid o h = subst (λ (xs : List Gap). AllPairs Before xs) (sym h) o
forgets_ordered (Some b) gs mid o h = ordered_by b.kind b gs mid o h

self_by : (k : AllocationType) (b : Neighbour) (gs : List Gap) → (IsFree k → ⊥) → ForgetsBy k b gs gs
self_by Free b gs l = absurd (l tt)
self_by Linear b gs l = refl
self_by NonLinear b gs l = refl

-- where no gap stands, nothing is forgotten
pub forgets_self : (o : Option Neighbour) (gs : List Gap) → (IsGapBeside o → ⊥) → Forgets o gs gs
forgets_self None gs l = refl
forgets_self (Some b) gs l = self_by b.kind b gs l

-- beside a chunk stands what these gaps say: none, or one
pub record GoesBy (o : Option Neighbour) (gone : List Gap) : Type 0 where
  pub may : (gs xs ys : List Gap) → HasSame gs (xs ++ (gone ++ ys)) → MayForget o gs
  pub step : (gs mid xs ys : List Gap) → AllPairs Before gs → HasSame gs (xs ++ (gone ++ ys)) → Forgets o gs mid → HasSame mid (xs ++ ys)

goes_none : GoesBy None []
goes_none = record { may = λ gs xs ys same. tt; step = λ gs mid xs ys ordered same e. (λ f. ap (λ (zs : List Gap). sum_by f zs) e ∙ same f) }

may_live : (k : AllocationType) (b : Neighbour) (gs : List Gap) → (IsFree k → ⊥) → MayForgetBy k b gs
may_live Free b gs l = absurd (l tt)
may_live Linear b gs l = tt
may_live NonLinear b gs l = tt

forgets_live : (k : AllocationType) (b : Neighbour) (gs mid : List Gap) → (IsFree k → ⊥) → ForgetsBy k b gs mid → mid ≡ gs
forgets_live Free b gs mid l h = absurd (l tt)
forgets_live Linear b gs mid l h = h
forgets_live NonLinear b gs mid l h = h

goes_live : (b : Neighbour) → (IsFree b.kind → ⊥) → GoesBy (Some b) []
goes_live b l = record {
  may = λ gs xs ys same. may_live b.kind b gs l;
  step = λ gs mid xs ys ordered same h. (λ f. ap (λ (zs : List Gap). sum_by f zs) (forgets_live b.kind b gs mid l h) ∙ same f);
}

may_free : (k : AllocationType) (b : Neighbour) (gs : List Gap) → IsFree k → HasKeyAt gs b.size b.start → MayForgetBy k b gs
may_free Free b gs f h = h
may_free Linear b gs f h = absurd f
may_free NonLinear b gs f h = absurd f

forgets_free : (k : AllocationType) (b : Neighbour) (gs mid : List Gap) → IsFree k → ForgetsBy k b gs mid → IsRemoved gs b.size b.start mid
forgets_free Free b gs mid f h = h
forgets_free Linear b gs mid f h = absurd f
forgets_free NonLinear b gs mid f h = absurd f

goes_free : (b : Neighbour) (g : Gap) → IsFree b.kind → g.length ≡ b.size → g.start ≡ b.start → GoesBy (Some b) (g ∷ [])
goes_free b g f e1 e2 = record {
  may = λ gs xs ys same.
      let m = same_member (xs ++ g ∷ ys) gs g (same_back gs (xs ++ g ∷ ys) same) (contains_mid xs ys g) in
      may_free b.kind b gs f (subst (λ (n : ℕ). HasKeyAt gs n b.start) e1 (subst (λ (n : ℕ). HasKeyAt gs g.length n) e2 (key_there gs g m)));
  step = λ gs mid xs ys ordered same h.
      let r = forgets_free b.kind b gs mid f h in
      same_less gs mid xs ys g ordered same (subst (λ (n : ℕ). IsRemoved gs n g.start mid) (sym e1) (subst (λ (n : ℕ). IsRemoved gs b.size n mid) (sym e2) r));
}

-- ---- what stands before a piece

pub record LeftSide (front : List Chunk) (k : AllocationType) : Type 0 where
  pub outer : List Chunk
  pub gone : List Gap
  pub joined : Chunk → Chunk
  pub goes : GoesBy (last_beside None front) gone
  pub gaps : gaps_between Free front k ≡ gaps_between Free outer Free ++ gone
  pub joins : (x : Chunk) (ys : List Chunk) → join_front front (x ∷ ys) ≡ outer ++ joined x ∷ ys
  pub free : (x : Chunk) → IsFree x.kind → IsFree (joined x).kind
  pub chunk_id : (x : Chunk) → (joined x).chunk_id ≡ first_of (last_beside None front) x.chunk_id
  pub shown : extents_of front ≡ extents_of outer
  pub touch : NoneTouch Linear outer
  pub last : NotBothFree (last_kind Linear outer) Free

last_beside-push : (o : Option Neighbour) (xs : List Chunk) (x : Chunk) → last_beside o (xs ++ x ∷ []) ≡ Some (beside x)
last_beside-push o [] x = refl
last_beside-push o (y ∷ xs) x = last_beside-push (Some (beside y)) xs x

first_by_free : (k : AllocationType) (m n : ℕ) → IsFree k → first_by k m n ≡ m
first_by_free Free m n f = refl
first_by_free Linear m n f = absurd f
first_by_free NonLinear m n f = absurd f

first_by_live : (k : AllocationType) (m n : ℕ) → (IsFree k → ⊥) → first_by k m n ≡ n
first_by_live Free m n l = absurd (l tt)
first_by_live Linear m n l = refl
first_by_live NonLinear m n l = refl

module _ (k : AllocationType) (fs : List Chunk) (l : Chunk) (touch : NoneTouch Linear (fs ++ l ∷ [])) where
  t : Touching Linear fs l []
  t = touching Linear fs l [] touch

  left_free : IsFree l.kind → LeftSide (fs ++ l ∷ []) k
  left_free f =
      let last : NotBothFree (last_kind Linear fs) Free = subst (λ (q : AllocationType). NotBothFree (last_kind Linear fs) q) (free_is l.kind f) t.at in
      let g : Gap = gap_between (last_kind Free fs) l k in
      record {
        outer = fs;
        gone = g ∷ [];
        joined = λ x. joined_chunk l x;
        goes = subst (λ (o : Option Neighbour). GoesBy o (g ∷ [])) (sym (last_beside-push None fs l)) (goes_free (beside l) g f refl refl);
        gaps = gaps_append Free fs (l ∷ []) k ∙ (ap (λ (gs : List Gap). gs ++ gap_first l.kind g []) (after_same Free Linear fs l.kind Free last) ∙ ap
            (λ (gs : List Gap). gaps_between Free fs Free ++ gs) (first_free l.kind g [] f));
        joins = λ x ys. join_front-push fs l x ys ∙ ap (λ (zs : List Chunk). fs ++ zs) (join_kinds-free l.kind l x ys f);
        free = λ x h. f;
        chunk_id = λ x. sym (ap (λ (o : Option Neighbour). first_of o x.chunk_id) (last_beside-push None fs l) ∙ first_by_free l.kind l.chunk_id x.chunk_id f);
        shown = extents-append fs (l ∷ []) ∙ (ap (λ xs. extents_of fs ++ xs) (extents-free l [] f) ∙ append-nil (extents_of fs));
        touch = t.before;
        last = last;
      }

  left_live : (IsFree l.kind → ⊥) → LeftSide (fs ++ l ∷ []) k
  left_live live =
      let last : NotBothFree (last_kind Linear (fs ++ l ∷ [])) Free = subst (λ (q : AllocationType). NotBothFree q Free) (sym (last_kind-push Linear fs l)) (live_before l.kind Free live) in
      record {
        outer = fs ++ l ∷ [];
        gone = [];
        joined = λ x. x;
        goes = subst (λ (o : Option Neighbour). GoesBy o []) (sym (last_beside-push None fs l)) (goes_live (beside l) live);
        gaps = after_same Free Linear (fs ++ l ∷ []) k Free last ∙ sym (append-nil (gaps_between Free (fs ++ l ∷ []) Free));
        joins = λ x ys. join_front-push fs l x ys ∙ (ap (λ (zs : List Chunk). fs ++ zs) (join_kinds-live l.kind l x ys live) ∙ sym (append_assoc fs (l ∷ []) (x ∷ ys)));
        free = λ x h. h;
        chunk_id = λ x. sym (ap (λ (o : Option Neighbour). first_of o x.chunk_id) (last_beside-push None fs l) ∙ first_by_live l.kind l.chunk_id x.chunk_id live);
        shown = refl;
        touch = touch;
        last = last;
      }

left_of_none : (k : AllocationType) → LeftSide [] k
left_of_none k = record {
  outer = [];
  gone = [];
  joined = λ x. x;
  goes = goes_none;
  gaps = refl;
  joins = λ x ys. refl;
  free = λ x h. h;
  chunk_id = λ x. refl;
  shown = refl;
  touch = tt;
  last = tt;
}

pub left_side : (k : AllocationType) (front : List Chunk) → NoneTouch Linear front → LeftSide front k
left_side k [] touch = left_of_none k
left_side k (f ∷ fs) touch =
    let s = snoc f fs in
    let h = subst (λ (xs : List Chunk). NoneTouch Linear xs) s.is touch in
    subst (λ (xs : List Chunk). LeftSide xs k) (sym s.is) (elim (free_or_live s.last.kind) [
      | inl f' ↦ left_free k s.front s.last h f'
      | inr l ↦ left_live k s.front s.last h l
    ])

-- ---- what stands behind it

pub record RightSide (back : List Chunk) (k : AllocationType) : Type 0 where
  pub rest : List Chunk
  pub gone : List Gap
  pub joined : Chunk → Chunk
  pub goes : GoesBy (first_beside back) gone
  pub gaps : gaps_between k back Free ≡ gone ++ gaps_between Free rest Free
  pub joins : (x : Chunk) → join_back x back ≡ joined x ∷ rest
  pub free : (x : Chunk) → IsFree x.kind → IsFree (joined x).kind
  pub chunk_id : (x : Chunk) → (joined x).chunk_id ≡ x.chunk_id
  pub shown : extents_of back ≡ extents_of rest
  pub touch : NoneTouch Free rest

pub right_side : (k : AllocationType) (back : List Chunk) → NoneTouch k back → RightSide back k
right_side k [] touch = record {
  rest = [];
  gone = [];
  joined = λ x. x;
  goes = goes_none;
  gaps = refl;
  joins = λ x. refl;
  free = λ x h. h;
  chunk_id = λ x. refl;
  shown = refl;
  touch = tt;
}
right_side k (r ∷ bs) touch = elim (free_or_live r.kind) [
  | inl f ↦
      let g : Gap = gap_between k r (kind_or bs Free) in
      record {
        rest = bs;
        gone = g ∷ [];
        joined = λ x. joined_chunk x r;
        goes = goes_free (beside r) g f refl refl;
        gaps = first_free r.kind g (gaps_between r.kind bs Free) f ∙ ap (λ (q : AllocationType). g ∷ gaps_between q bs Free) (free_is r.kind f);
        joins = λ x. join_kinds-free r.kind x r bs f;
        free = λ x h. h;
        chunk_id = λ x. refl;
        shown = extents-free r bs f;
        touch = subst (λ (q : AllocationType). NoneTouch q bs) (free_is r.kind f) touch.1;
      }
  | inr l ↦ record {
    rest = r ∷ bs;
    gone = [];
    joined = λ x. x;
    goes = goes_live (beside r) l;
    gaps = before_same k Free (r ∷ bs) Free (live_after Free r.kind l);
    joins = λ x. join_kinds-live r.kind x r bs l;
    free = λ x h. h;
    chunk_id = λ x. refl;
    shown = refl;
    touch = (live_after Free r.kind l, touch.1);
  }
]

-- ---- what stands beside a chunk

last_beside_kind : (o : Option Neighbour) (xs : List Chunk) → beside_kind (last_beside o xs) ≡ last_kind (beside_kind o) xs
last_beside_kind o [] = refl
last_beside_kind o (x ∷ xs) = last_beside_kind (Some (beside x)) xs

first_beside_kind : (xs : List Chunk) → beside_kind (first_beside xs) ≡ kind_or xs Free
first_beside_kind [] = refl
first_beside_kind (x ∷ xs) = refl

pub gap_here : (cs front back : List Chunk) (c : Chunk) (k : ℕ) (a : Neighbours) (before after : AllocationType) → AreDistinct cs → AreNeighbours cs k a → before ≡ beside_kind a.before → after ≡ beside_kind
    a.after → cs ≡ front ++ c ∷ back → c.chunk_id ≡ k
    → record { length = a.here.size; start = a.here.start; chunk_id = a.here.chunk_id; before = before; after = after } ≡ gap_between (last_kind Free front) c (kind_or back Free)
gap_here cs front back c k a before after w m eb ea p n =
    let s = stands_once cs front back c m.chunk k w m.at p n in
    let b : before ≡ last_kind Free front = eb ∙ ap beside_kind m.before ∙ last_beside_kind None m.at.front ∙ ap (last_kind Free) (sym s.fronts) in
    let f : after ≡ kind_or back Free = ea ∙ ap beside_kind m.after ∙ first_beside_kind m.at.back ∙ ap (λ (xs : List Chunk). kind_or xs Free) (sym s.backs) in
    ap (λ (h : Neighbour). record { length = h.size; start = h.start; chunk_id = h.chunk_id; before = before; after = after }) m.here
    ∙ ap (λ (x : AllocationType). gap_between x m.chunk after) b
    ∙ ap (λ (x : AllocationType). gap_between (last_kind Free front) m.chunk x) f
    ∙ ap (λ (x : Chunk). gap_between (last_kind Free front) x (kind_or back Free)) (sym s.chunks)

-- ---- the whole release

module _ (cs ds : List Chunk) (gs : List Gap) (k : ℕ) (a b : Neighbours) (listed : IsListed cs gs) (piece : ReleasesPiece cs k ds a b) (distinct : AreDistinct cs) where
  abbrev pub front : List Chunk
  front = piece.before.at.front

  abbrev pub chunk : Chunk
  chunk = piece.before.chunk

  abbrev pub back : List Chunk
  back = piece.before.at.back

  abbrev pub freed : Chunk
  freed = filled_chunk chunk chunk.start Free no_label

  live : IsFree chunk.kind → ⊥
  live f = piece.live (subst (λ (b : Neighbour). IsFree b.kind) (sym piece.before.here) f)

  pub touch_at : Touching Linear front chunk back
  touch_at = touching Linear front chunk back (subst (λ (xs : List Chunk). NoneTouch Linear xs) piece.before.at.split listed.touch)

  abbrev pub left : LeftSide front chunk.kind
  left = left_side chunk.kind front touch_at.before

  abbrev pub right : RightSide back chunk.kind
  right = right_side chunk.kind back touch_at.after

  abbrev pub gap : Chunk
  gap = left.joined (right.joined freed)

  released_is : ds ≡ join_front front (join_back freed back)
  released_is =
      let s = stands_once cs front back chunk piece.released.chunk k distinct piece.released.at piece.before.at.split piece.before.at.numbered in
      piece.released.is ∙ (ap (λ (xs : List Chunk). join_front xs (join_back (filled_chunk piece.released.chunk piece.released.chunk.start Free no_label) piece.released.at.back)) (sym s.fronts)
      ∙ (ap (λ (x : Chunk). join_front front (join_back (filled_chunk x x.start Free no_label) piece.released.at.back)) (sym s.chunks)
      ∙ ap (λ (xs : List Chunk). join_front front (join_back freed xs)) (sym s.backs)))

  pub gap_split : ds ≡ left.outer ++ gap ∷ right.rest
  gap_split = released_is ∙ (ap (λ (xs : List Chunk). join_front front xs) (right.joins freed) ∙ left.joins (right.joined freed) right.rest)

  pub gap_free : IsFree gap.kind
  gap_free = left.free (right.joined freed) (right.free freed tt)

  pub gap_chunk_id : gap.chunk_id ≡ first_of a.before k
  gap_chunk_id =
      left.chunk_id (right.joined freed)
      ∙ (ap (λ (n : ℕ). first_of (last_beside None front) n) (right.chunk_id freed ∙ piece.before.at.numbered)
      ∙ ap (λ (o : Option Neighbour). first_of o k) (sym piece.before.before))

  abbrev low : List Gap
  low = gaps_between Free left.outer Free

  abbrev high : List Gap
  high = gaps_between Free right.rest Free

  abbrev pub entry : Gap
  entry = gap_between (last_kind Free left.outer) gap (kind_or right.rest Free)

  pub entry_is : (before after : AllocationType) → AreDistinct ds → before ≡ beside_kind b.before → after ≡ beside_kind b.after
      → record { length = b.here.size; start = b.here.start; chunk_id = b.here.chunk_id; before = before; after = after } ≡ entry
  entry_is before after w eb ea = gap_here ds left.outer right.rest gap (first_of a.before k) b before after w piece.after eb ea gap_split gap_chunk_id

  old_same : HasSame gs (low ++ (left.gone ++ (right.gone ++ high)))
  old_same =
      same_to gs (gaps_between Free cs Free) (low ++ (left.gone ++ (right.gone ++ high))) listed.same
      (ap (λ (xs : List Chunk). gaps_between Free xs Free) piece.before.at.split ∙ (gaps_live front chunk back live
      ∙ (ap (λ (xs : List Gap). xs ++ gaps_between chunk.kind back Free) left.gaps ∙ (ap (λ (xs : List Gap). (low ++ left.gone) ++ xs) right.gaps ∙ append_assoc low left.gone (right.gone ++ high)))))

  new_gaps : gaps_between Free ds Free ≡ low ++ entry ∷ high
  new_gaps =
      ap (λ (xs : List Chunk). gaps_between Free xs Free) gap_split ∙ (gaps_free left.outer gap right.rest gap_free
      ∙ (ap (λ (xs : List Gap). xs ++ entry ∷ gaps_between gap.kind right.rest Free) (after_same Free Linear left.outer gap.kind Free left.last)
      ∙ ap (λ (q : AllocationType). low ++ entry ∷ gaps_between q right.rest Free) (free_is gap.kind gap_free)))

  pub may_before : MayForget a.before gs
  may_before = subst (λ (o : Option Neighbour). MayForget o gs) (sym piece.before.before) (left.goes.may gs low (right.gone ++ high) old_same)

  module _ (one two : List Gap) (ordered : AllPairs Before gs) (first : Forgets a.before gs one) where
    one_same : HasSame one (low ++ (right.gone ++ high))
    one_same = left.goes.step gs one low (right.gone ++ high) ordered old_same (subst (λ (o : Option Neighbour). Forgets o gs one) piece.before.before first)

    pub may_after : MayForget a.after one
    may_after = subst (λ (o : Option Neighbour). MayForget o one) (sym piece.before.after) (right.goes.may one low high one_same)

    module _ (ordered_one : AllPairs Before one) (second : Forgets a.after one two) where
      two_same : HasSame two (low ++ high)
      two_same = right.goes.step one two low high ordered_one one_same (subst (λ (o : Option Neighbour). Forgets o one two) piece.before.after second)

      pub no_entry : (size : ℕ) → Covers ds 0 size → HasNoKey two entry.length entry.start
      no_entry size covers =
          let c : Covers (left.outer ++ gap ∷ right.rest) 0 size = subst (λ (xs : List Chunk). Covers xs 0 size) gap_split covers in
          let r = around left.outer gap right.rest 0 size c in
          let pos = r.nonempty in
          no_key two (low ++ high) entry.length entry.start two_same
          (other_starts left.outer gap right.rest size Free Free Free gap.start c (omega arith) (omega arith))

      new_touch : NoneTouch Linear ds
      new_touch =
          let e = free_is gap.kind gap_free in
          subst (λ (xs : List Chunk). NoneTouch Linear xs) (sym gap_split)
          (touch_join Linear left.outer gap right.rest (record {
            before = left.touch;
            at = subst (λ (q : AllocationType). NotBothFree (last_kind Linear left.outer) q) (sym e) left.last;
            after = subst (λ (q : AllocationType). NoneTouch q right.rest) (sym e) right.touch;
          }))

      pub release_live : length (extents_of ds) + 1 ≡ length (extents_of cs)
      release_live =
          let x1 = ap (λ (xs : List Chunk). length (extents_of xs)) gap_split in
          let x2 = ap length (extents-append left.outer (gap ∷ right.rest) ∙ ap (λ ys. extents_of left.outer ++ ys) (extents-free gap right.rest gap_free)) in
          let x3 = length-append (extents_of left.outer) (extents_of right.rest) in
          let y1 = ap (λ (xs : List Chunk). length (extents_of xs)) piece.before.at.split in
          let y2 = ap length (extents-split front back chunk live) in
          let y3 = length-append (extents_of front) (extent chunk ∷ extents_of back) in
          let z1 = ap length left.shown in
          let z2 = ap length right.shown in
          omega arith

      pub room_left : (room : ℕ) → length (extents_of cs) + 1 ≤ room → length two < room
      room_left room le =
          let a1 = same_length two (low ++ high) two_same in
          let a2 = length-append low high in
          let a3 = ap length new_gaps in
          let a4 = length-append low (entry ∷ high) in
          let a5 = few_gaps Free Linear ds Free new_touch in
          let a6 = release_live in
          omega arith

      pub release_listed : (new : List Gap) (g : Gap) → g ≡ entry → IsInserted two g new → IsListed ds new
      release_listed new g e i = record {
        touch = new_touch;
        same = same_to new (low ++ entry ∷ high) (gaps_between Free ds Free) (same_more two new low high entry two_same (subst (λ (x : Gap). IsInserted two x new) e i)) (sym new_gaps);
      }
