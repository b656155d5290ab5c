-- The gaps of a list of chunks, and the index that holds them.
use Rattle.std.proofs.Common.{◌≡◌, ◌≢◌, ℕ, suc, ◌+◌, ◌^◌, ◌<◌, ◌≤◌, List, [], ◌∷◌, ◌++◌, length, get_or, refl, sym, ap, ◌∙◌, subst, inl, inr, ⊎_elim, arith, cond, Bool, true, false, ◌==◌}
use Rattle.std.specs.Prelude.{All, Contains, ◌&&◌}
use Rattle.std.specs.List.{AllPairs, sum_by, remove}
use Rattle.std.proofs.lemmas.List.{get_or_default}
use Rattle.std.proofs.lemmas.List.Sums.{sum_by-append, sum_by-remove, sum_by-insert, sum_by-cons}
use Rattle.std.proofs.lemmas.List.Elements.{All-nil, All-cons, All-weaker, All-contains, All-append}
use Rattle.std.proofs.lemmas.Bool.{cases_lt}
use Rattle.std.proofs.lemmas.Bool.Decides.{nat_tests}
use Rattle.gpu_block_chunks.specs.declared.chunk.Chunk.{Chunk}
use Rattle.gpu_block_gaps.specs.declared.index.Gap.{Gap}
use Rattle.gpu_values.specs.declared.allocation_type.AllocationType.{AllocationType}
use Rattle.gpu_values.specs.declared.allocation_type.AllocationType.TheVariants.{Free, Linear, NonLinear}
use Rattle.gpu_block_chunks.specs.ChunkList.{IsFree, Covers}
use Rattle.gpu_block_chunks.specs.Label.{no_label}
use Rattle.gpu_block_pieces.specs.Chunks.{NotBothFree, NoneTouch, last_kind, extents_of}
use Rattle.gpu_block_gaps.specs.Index.{Before, HasKey, HasKeyAt, HasNoKey, IsRemoved, IsInserted}
use Rattle.gpu_block_pieces.specs.Indexed.{gap_between, kind_or, gap_first, gaps_between, HasSame, IsListed, IsGapOf, IsPlaced, ArePlaced}
use Rattle.gpu_block_pieces.proofs.Tiling.{around, Covers-le}
use Rattle.gpu_block_pieces.proofs.Views.{free_or_live, extents-free, extents-live, contains_mid}
use Rattle.gpu_block_chunks.proofs.Links.{same_test}

-- ---- kinds

pub free_is : (k : AllocationType) → IsFree k → k ≡ Free
free_is Free h = refl
free_is Linear h = absurd h
free_is NonLinear h = absurd h

pub first_free : (k : AllocationType) (g : Gap) (gs : List Gap) → IsFree k → gap_first k g gs ≡ g ∷ gs
first_free Free g gs h = refl
first_free Linear g gs h = absurd h
first_free NonLinear g gs h = absurd h

pub first_live : (k : AllocationType) (g : Gap) (gs : List Gap) → (IsFree k → ⊥) → gap_first k g gs ≡ gs
first_live Free g gs h = absurd (h tt)
first_live Linear g gs h = refl
first_live NonLinear g gs h = refl

pub live_first : (k : AllocationType) → NotBothFree k Free → IsFree k → ⊥
live_first Free h f = h
live_first Linear h f = f
live_first NonLinear h f = f

pub live_second : (k : AllocationType) → NotBothFree Free k → IsFree k → ⊥
live_second Free h f = h
live_second Linear h f = f
live_second NonLinear h f = f

-- ---- the gaps of a list in parts

gap_first_append : (k : AllocationType) (g : Gap) (xs ys : List Gap) → gap_first k g (xs ++ ys) ≡ gap_first k g xs ++ ys
gap_first_append Free g xs ys = refl
gap_first_append Linear g xs ys = refl
gap_first_append NonLinear g xs ys = refl

kind_append : (xs ys : List Chunk) (a : AllocationType) → kind_or (xs ++ ys) a ≡ kind_or xs (kind_or ys a)
kind_append [] ys a = refl
kind_append (x ∷ xs) ys a = refl

pub gaps_append : (b : AllocationType) (xs ys : List Chunk) (a : AllocationType) → gaps_between b (xs ++ ys) a ≡ gaps_between b xs (kind_or ys a) ++ gaps_between (last_kind b xs) ys a
gaps_append b [] ys a = refl
gaps_append b (x ∷ xs) ys a =
    ap (λ (k : AllocationType). gap_first x.kind (gap_between b x k) (gaps_between x.kind (xs ++ ys) a)) (kind_append xs ys a)
    ∙ ap (λ (gs : List Gap). gap_first x.kind (gap_between b x (kind_or xs (kind_or ys a))) gs) (gaps_append x.kind xs ys a)
    ∙ gap_first_append x.kind (gap_between b x (kind_or xs (kind_or ys a))) (gaps_between x.kind xs (kind_or ys a)) (gaps_between (last_kind x.kind xs) ys a)

-- what follows a list plays no part where its last chunk isn't free
pub after_same : (b k : AllocationType) (xs : List Chunk) (a other : AllocationType) → NotBothFree (last_kind k xs) Free → gaps_between b xs a ≡ gaps_between b xs other
after_same b k [] a other h = refl
after_same b k (x ∷ []) a other h = first_live x.kind (gap_between b x a) [] (live_first x.kind h) ∙ sym (first_live x.kind (gap_between b x other) [] (live_first x.kind h))
after_same b k (x ∷ (y ∷ ys)) a other h = ap (λ (gs : List Gap). gap_first x.kind (gap_between b x y.kind) gs) (after_same x.kind x.kind (y ∷ ys) a other h)

-- and what stands before it, where its first chunk isn't free
pub before_same : (b other : AllocationType) (ys : List Chunk) (a : AllocationType) → NotBothFree Free (kind_or ys Linear) → gaps_between b ys a ≡ gaps_between other ys a
before_same b other [] a h = refl
before_same b other (y ∷ ys) a h =
    first_live y.kind (gap_between b y (kind_or ys a)) (gaps_between y.kind ys a) (live_second y.kind h)
    ∙ sym (first_live y.kind (gap_between other y (kind_or ys a)) (gaps_between y.kind ys a) (live_second y.kind h))

pub none_after : (k : AllocationType) (cs : List Chunk) → IsFree k → NoneTouch k cs → NotBothFree Free (kind_or cs Linear)
none_after k [] f h = tt
none_after k (c ∷ cs) f h = subst (λ (q : AllocationType). NotBothFree q c.kind) (free_is k f) h.0

pub gaps_free : (front : List Chunk) (c : Chunk) (back : List Chunk) → IsFree c.kind
    → gaps_between Free (front ++ c ∷ back) Free ≡ gaps_between Free front c.kind ++ gap_between (last_kind Free front) c (kind_or back Free) ∷ gaps_between c.kind back Free
gaps_free front c back f =
    gaps_append Free front (c ∷ back) Free
    ∙ ap (λ (gs : List Gap). gaps_between Free front c.kind ++ gs) (first_free c.kind (gap_between (last_kind Free front) c (kind_or back Free)) (gaps_between c.kind back Free) f)

pub gaps_live : (front : List Chunk) (c : Chunk) (back : List Chunk) → (IsFree c.kind → ⊥)
    → gaps_between Free (front ++ c ∷ back) Free ≡ gaps_between Free front c.kind ++ gaps_between c.kind back Free
gaps_live front c back l =
    gaps_append Free front (c ∷ back) Free
    ∙ ap (λ (gs : List Gap). gaps_between Free front c.kind ++ gs) (first_live c.kind (gap_between (last_kind Free front) c (kind_or back Free)) (gaps_between c.kind back Free) l)

-- ---- where they start

abbrev pub StartsWithin : ℕ → ℕ → Gap → Type 0
StartsWithin from to g = (from ≤ g.start) × (g.start < to)

pub gaps_start : (b : AllocationType) (cs : List Chunk) (a : AllocationType) (from to : ℕ) → Covers cs from to → All (StartsWithin from to) (gaps_between b cs a)
gaps_start b [] a from to h = All-nil (StartsWithin from to)
gaps_start b (c ∷ cs) a from to h =
    let le = Covers-le cs (from + c.size) to h.2 in
    let s : c.start ≡ from = h.0 in
    let pos : 0 < c.size = h.1 in
    let rest = All-weaker (StartsWithin (from + c.size) to) (StartsWithin from to) (λ x q. (omega arith, q.1)) (gaps_between c.kind cs a) (gaps_start c.kind cs a (from + c.size) to h.2) in
    let g = gap_between b c (kind_or cs a) in
    elim (free_or_live c.kind) [
      | inl f ↦ subst (λ (gs : List Gap). All (StartsWithin from to) gs) (sym (first_free c.kind g (gaps_between c.kind cs a) f))
          (All-cons (StartsWithin from to) g (gaps_between c.kind cs a) (omega arith, omega arith) rest)
      | inr l ↦ subst (λ (gs : List Gap). All (StartsWithin from to) gs) (sym (first_live c.kind g (gaps_between c.kind cs a) l)) rest
    ]

-- of the gaps beside a chunk none starts in it
pub other_starts : (front : List Chunk) (c : Chunk) (back : List Chunk) (to : ℕ) (b k a : AllocationType) (s : ℕ) → Covers (front ++ c ∷ back) 0 to → c.start ≤ s → s < c.start + c.size → All
    (λ g. g.start ≢ s) (gaps_between Free front k ++ gaps_between b back a)
other_starts front c back to b k a s h low high =
    let r = around front c back 0 to h in
    All-append (λ g. g.start ≢ s) (gaps_between Free front k) (gaps_between b back a)
    (All-weaker (StartsWithin 0 c.start) (λ g. g.start ≢ s) (λ g q. (let l = q.1 in λ e. absurd (omega arith))) (gaps_between Free front k) (gaps_start Free front k 0 c.start r.before))
    (All-weaker (StartsWithin (c.start + c.size) to) (λ g. g.start ≢ s) (λ g q. (let l = q.0 in λ e. absurd (omega arith))) (gaps_between b back a)
    (gaps_start b back a (c.start + c.size) to r.after))

-- ---- how many there are

abbrev pub spare_by : AllocationType → ℕ
spare_by Free = 0
spare_by Linear = 1
spare_by NonLinear = 1

spare_live : (k : AllocationType) → (IsFree k → ⊥) → spare_by k ≡ 1
spare_live Free h = absurd (h tt)
spare_live Linear h = refl
spare_live NonLinear h = refl

spare_free : (k : AllocationType) → IsFree k → spare_by k ≡ 0
spare_free Free h = refl
spare_free Linear h = absurd h
spare_free NonLinear h = absurd h

not_both : (k l : AllocationType) → NotBothFree k l → IsFree l → IsFree k → ⊥
not_both Free Free h f g = h
not_both Free Linear h f g = f
not_both Free NonLinear h f g = f
not_both Linear l h f g = g
not_both NonLinear l h f g = g

pub few_gaps : (b k : AllocationType) (cs : List Chunk) (a : AllocationType) → NoneTouch k cs → length (gaps_between b cs a) ≤ length (extents_of cs) + spare_by k
few_gaps b k [] a h = omega arith
few_gaps b k (c ∷ cs) a h =
    let r = few_gaps c.kind c.kind cs a h.1 in
    let g = gap_between b c (kind_or cs a) in
    elim (free_or_live c.kind) [
      | inl f ↦
          let x = ap (λ (gs : List Gap). length gs) (first_free c.kind g (gaps_between c.kind cs a) f) in
          let y = ap length (extents-free c cs f) in
          let z = spare_free c.kind f in
          let w = spare_live k (not_both k c.kind h.0 f) in
          omega arith
      | inr l ↦
          let x = ap (λ (gs : List Gap). length gs) (first_live c.kind g (gaps_between c.kind cs a) l) in
          let y = ap length (extents-live c cs l) in
          let z = spare_live c.kind l in
          omega arith
    ]

-- ---- which there are

-- g is the entry of a free chunk of a list between these kinds
record GapAt (b : AllocationType) (cs : List Chunk) (a : AllocationType) (g : Gap) : Type 0 where
  front : List Chunk
  chunk : Chunk
  back : List Chunk
  split : cs ≡ front ++ chunk ∷ back
  free : IsFree chunk.kind
  is : g ≡ gap_between (last_kind b front) chunk (kind_or back a)

all_gaps : (b : AllocationType) (cs : List Chunk) (a : AllocationType) → All (GapAt b cs a) (gaps_between b cs a)
all_gaps b [] a = All-nil (GapAt b [] a)
all_gaps b (c ∷ cs) a =
    let g = gap_between b c (kind_or cs a) in
    let rest : All (GapAt b (c ∷ cs) a) (gaps_between c.kind cs a) = All-weaker (GapAt c.kind cs a) (GapAt b (c ∷ cs) a)
    (λ x m. record { front = c ∷ m.front; chunk = m.chunk; back = m.back; split = ap (λ (ys : List Chunk). c ∷ ys) m.split; free = m.free; is = m.is })
    (gaps_between c.kind cs a) (all_gaps c.kind cs a) in
    elim (free_or_live c.kind) [
      | inl f ↦ subst (λ (gs : List Gap). All (GapAt b (c ∷ cs) a) gs) (sym (first_free c.kind g (gaps_between c.kind cs a) f))
          (All-cons (GapAt b (c ∷ cs) a) g (gaps_between c.kind cs a) (record { front = []; chunk = c; back = cs; split = refl; free = f; is = refl }) rest)
      | inr l ↦ subst (λ (gs : List Gap). All (GapAt b (c ∷ cs) a) gs) (sym (first_live c.kind g (gaps_between c.kind cs a) l)) rest
    ]

pub gap_of_member : (cs : List Chunk) (g : Gap) → Contains (gaps_between Free cs Free) g → IsGapOf cs g
gap_of_member cs g h =
    let m = All-contains (GapAt Free cs Free) (gaps_between Free cs Free) g (all_gaps Free cs Free) h in
    record { front = m.front; chunk = m.chunk; back = m.back; split = m.split; free = m.free; is = m.is }

pub member_at : (cs front back : List Chunk) (c : Chunk) → cs ≡ front ++ c ∷ back → IsFree c.kind → Contains (gaps_between Free cs Free) (gap_between (last_kind Free front) c (kind_or back Free))
member_at cs front back c p f =
    let g = gap_between (last_kind Free front) c (kind_or back Free) in
    subst (λ (gs : List Gap). Contains gs g) (sym (ap (λ (xs : List Chunk). gaps_between Free xs Free) p ∙ gaps_free front c back f))
    (contains_mid (gaps_between Free front c.kind) (gaps_between c.kind back Free) g)

-- ---- the same gaps

abbrev same_kind : AllocationType → AllocationType → Bool
same_kind Free Free = true
same_kind Free Linear = false
same_kind Free NonLinear = false
same_kind Linear Free = false
same_kind Linear Linear = true
same_kind Linear NonLinear = false
same_kind NonLinear Free = false
same_kind NonLinear Linear = false
same_kind NonLinear NonLinear = true

same_kind_self : (k : AllocationType) → same_kind k k ≡ true
same_kind_self Free = refl
same_kind_self Linear = refl
same_kind_self NonLinear = refl

same_kind_is : (k l : AllocationType) → same_kind k l ≡ true → k ≡ l
same_kind_is Free Free h = refl
same_kind_is Free Linear h = cc
same_kind_is Free NonLinear h = cc
same_kind_is Linear Free h = cc
same_kind_is Linear Linear h = refl
same_kind_is Linear NonLinear h = cc
same_kind_is NonLinear Free h = cc
same_kind_is NonLinear Linear h = cc
same_kind_is NonLinear NonLinear h = refl

both : (a b : Bool) → (a && b) ≡ true → (a ≡ true) × (b ≡ true)
both true b h = (refl, h)
both false b h = cc

abbrev is_gap : Gap → Gap → Bool
is_gap g x = (g.length == x.length) && ((g.start == x.start) && ((g.chunk_id == x.chunk_id) && (same_kind g.before x.before && same_kind g.after x.after)))

eq_is : (a b : ℕ) → (a == b) ≡ true → a ≡ b
eq_is a b h = grind (arith, nat_tests)

is_gap_self : (g : Gap) → is_gap g g ≡ true
is_gap_self g = rw (same_test g.length, same_test g.start, same_test g.chunk_id, same_kind_self g.before) (same_kind_self g.after)

is_gap_is : (g x : Gap) → is_gap g x ≡ true → g ≡ x
is_gap_is g x h =
    let p = both (g.length == x.length) ((g.start == x.start) && ((g.chunk_id == x.chunk_id) && (same_kind g.before x.before && same_kind g.after x.after))) h in
    let q = both (g.start == x.start) ((g.chunk_id == x.chunk_id) && (same_kind g.before x.before && same_kind g.after x.after)) p.1 in
    let r = both (g.chunk_id == x.chunk_id) (same_kind g.before x.before && same_kind g.after x.after) q.1 in
    let s = both (same_kind g.before x.before) (same_kind g.after x.after) r.1 in
    ap (λ (n : ℕ). record g { length = n }) (eq_is g.length x.length p.0)
    ∙ ap (λ (n : ℕ). record { length = x.length; start = n; chunk_id = g.chunk_id; before = g.before; after = g.after }) (eq_is g.start x.start q.0)
    ∙ ap (λ (n : ℕ). record { length = x.length; start = x.start; chunk_id = n; before = g.before; after = g.after }) (eq_is g.chunk_id x.chunk_id r.0)
    ∙ ap (λ (k : AllocationType). record { length = x.length; start = x.start; chunk_id = x.chunk_id; before = k; after = g.after }) (same_kind_is g.before x.before s.0)
    ∙ ap (λ (k : AllocationType). record { length = x.length; start = x.start; chunk_id = x.chunk_id; before = x.before; after = k }) (same_kind_is g.after x.after s.1)

abbrev weight : Gap → Gap → ℕ
weight g x = cond (is_gap g x) 1 0

sum_member : (f : Gap → ℕ) (xs : List Gap) (x : Gap) → Contains xs x → f x ≤ sum_by f xs
sum_member f xs x h =
    let r = sum_by-remove f xs h.0 x h.1 in
    let e = ap f h.2 in
    omega arith

record Positive (f : Gap → ℕ) (xs : List Gap) : Type 0 where
  at : Gap
  held : Contains xs at
  more : 0 < f at

sum_positive : (f : Gap → ℕ) (xs : List Gap) → 0 < sum_by f xs → Positive f xs
sum_positive f [] h = absurd (omega arith)
sum_positive f (x ∷ xs) h =
    let e = sum_by-cons f x xs in
    elim (cases_lt 0 (f x)) [
      | inl p ↦ record { at = x; held = (0, omega arith, refl); more = p }
      | inr z ↦ (let r = sum_positive f xs (omega arith) in let m = r.held in record { at = r.at; held = (suc m.0, (let l = m.1 in omega arith), m.2); more = r.more })
    ]

weight_is : (b : Bool) → 0 < cond b 1 0 → b ≡ true
weight_is true h = refl
weight_is false h = absurd (omega arith)

pub same_member : (gs hs : List Gap) (g : Gap) → HasSame gs hs → Contains gs g → Contains hs g
same_member gs hs g same h =
    let w : weight g g ≡ 1 = ap (λ (b : Bool). cond b 1 0) (is_gap_self g) in
    let a = sum_member (weight g) gs g h in
    let s = same (weight g) in
    let p = sum_positive (weight g) hs (omega arith) in
    subst (λ (x : Gap). Contains hs x) (sym (is_gap_is g p.at (weight_is (is_gap g p.at) p.more))) p.held

pub same_back : (gs hs : List Gap) → HasSame gs hs → HasSame hs gs
same_back gs hs same = λ f. sym (same f)

length_sum : (xs : List Gap) → length xs ≡ sum_by (λ (x : Gap). 1) xs
length_sum [] = refl
length_sum (x ∷ xs) = let r = length_sum xs in let e = sum_by-cons (λ (y : Gap). 1) x xs in omega arith

pub same_length : (gs hs : List Gap) → HasSame gs hs → length gs ≡ length hs
same_length gs hs same = length_sum gs ∙ (same (λ (x : Gap). 1) ∙ sym (length_sum hs))

-- ---- keys

before_not_same : (a b : Gap) (l s : ℕ) → Before a b → HasKey a l s → HasKey b l s → ⊥
before_not_same a b l s (inl lt) x y = let p = x.0 in let q = y.0 in absurd (omega arith)
before_not_same a b l s (inr two) x y = let p = x.1 in let q = y.1 in let r = two.1 in absurd (omega arith)

pub same_place : (xs : List Gap) (l s i j : ℕ) (d : Gap) → AllPairs Before xs → i < length xs → j < length xs → HasKey (get_or xs i d) l s → HasKey (get_or xs j d) l s → i ≡ j
same_place xs l s i j d ordered wi wj hi hj =
    ⊎_elim
    (λ (lt : i < j). absurd (before_not_same (get_or xs i d) (get_or xs j d) l s (ordered i j d lt wj) hi hj))
    (λ (ge : j ≤ i). ⊎_elim
    (λ (lt : j < i). absurd (before_not_same (get_or xs j d) (get_or xs i d) l s (ordered j i d lt wi) hj hi))
    (λ (le : i ≤ j). let e : i ≡ j = omega arith in e)
    (cases_lt j i))
    (cases_lt i j)

pub key_there : (gs : List Gap) (g : Gap) → Contains gs g → HasKeyAt gs g.length g.start
key_there gs g m =
    record { at = m.0; at_within = m.1; at_key = λ d. let e = get_or_default gs m.0 d g m.1 ∙ m.2 in (ap (λ (x : Gap). x.length) e, ap (λ (x : Gap). x.start) e) }

pub removed_sum : (gs mid : List Gap) (g : Gap) → AllPairs Before gs → Contains gs g → IsRemoved gs g.length g.start mid → (f : Gap → ℕ) → sum_by f mid + f g ≡ sum_by f gs
removed_sum gs mid g ordered m r f =
    let mine : HasKey (get_or gs m.0 g) g.length g.start = subst (λ (x : Gap). HasKey x g.length g.start) (sym m.2) (refl, refl) in
    let e : r.place ≡ m.0 = same_place gs g.length g.start r.place m.0 g ordered r.within m.1 (r.key g) mine in
    let at : get_or gs r.place g ≡ g = ap (λ (i : ℕ). get_or gs i g) e ∙ m.2 in
    ap (λ (xs : List Gap). sum_by f xs + f g) r.is ∙ (ap (λ (x : Gap). sum_by f (remove gs r.place) + f x) (sym at) ∙ sum_by-remove f gs r.place g r.within)

pub inserted_sum : (mid new : List Gap) (g : Gap) → IsInserted mid g new → (f : Gap → ℕ) → sum_by f new ≡ sum_by f mid + f g
inserted_sum mid new g i f = ap (sum_by f) i.is ∙ sum_by-insert f mid i.place g

pub no_key : (gs hs : List Gap) (n s : ℕ) → HasSame gs hs → All (λ x. x.start ≢ s) hs → HasNoKey gs n s
no_key gs hs n s same all = λ k d lt key.
    let x = get_or gs k d in
    let m : Contains gs x = (k, lt, get_or_default gs k x d lt) in
    All-contains (λ y. y.start ≢ s) hs x all (same_member gs hs x same m) key.1

sum_mid : (f : Gap → ℕ) (xs ys : List Gap) (g : Gap) → sum_by f (xs ++ g ∷ ys) ≡ sum_by f (xs ++ ys) + f g
sum_mid f xs ys g =
    let a = sum_by-append f xs (g ∷ ys) in
    let b = sum_by-append f xs ys in
    let c = sum_by-cons f g ys in
    omega arith

-- without a gap that both lists had
pub same_less : (gs mid xs ys : List Gap) (g : Gap) → AllPairs Before gs → HasSame gs (xs ++ g ∷ ys) → IsRemoved gs g.length g.start mid → HasSame mid (xs ++ ys)
same_less gs mid xs ys g ordered same r = λ f.
    let m = same_member (xs ++ g ∷ ys) gs g (same_back gs (xs ++ g ∷ ys) same) (contains_mid xs ys g) in
    let a = removed_sum gs mid g ordered m r f in
    let b = same f in
    let c = sum_mid f xs ys g in
    omega arith

-- and with one more
pub same_more : (mid new xs ys : List Gap) (g : Gap) → HasSame mid (xs ++ ys) → IsInserted mid g new → HasSame new (xs ++ g ∷ ys)
same_more mid new xs ys g same i = λ f.
    let a = inserted_sum mid new g i f in
    let b = same f in
    let c = sum_mid f xs ys g in
    omega arith

pub same_to : (gs xs ys : List Gap) → HasSame gs xs → xs ≡ ys → HasSame gs ys
same_to gs xs ys same e = λ f. same f ∙ ap (sum_by f) e

-- ---- each gap lies in the block

behind_front : (front : List Chunk) (to start : ℕ) → start ≡ to → Covers front 0 to → (IsFree (last_kind Free front) → ⊥) → 0 < start
behind_front [] to start e h live = absurd (live tt)
behind_front (c ∷ cs) to start e h live = let le = Covers-le cs (0 + c.size) to h.2 in let p = h.1 in omega arith

pub placed_gap : (cs : List Chunk) (size : ℕ) (g : Gap) → Covers cs 0 size → size < 2 ^ 64 → IsGapOf cs g → IsPlaced g
placed_gap cs size g covers lt m =
    let r = around m.front m.chunk m.back 0 size (subst (λ (xs : List Chunk). Covers xs 0 size) m.split covers) in
    let le = Covers-le m.back (m.chunk.start + m.chunk.size) size r.after in
    let e1 : g.start ≡ m.chunk.start = ap (λ (x : Gap). x.start) m.is in
    let e2 : g.length ≡ m.chunk.size = ap (λ (x : Gap). x.length) m.is in
    record {
      behind = λ live. behind_front m.front m.chunk.start g.start e1 r.before (λ f. live (subst (λ (x : Gap). IsFree x.before) (sym m.is) f));
      ends = omega arith;
    }

pub placed_all : (cs : List Chunk) (gs : List Gap) (size : ℕ) → Covers cs 0 size → size < 2 ^ 64 → HasSame gs (gaps_between Free cs Free) → ArePlaced gs
placed_all cs gs size covers lt same = λ k d within.
    let x = get_or gs k d in
    placed_gap cs size x covers lt (gap_of_member cs x (same_member gs (gaps_between Free cs Free) x same (k, within, get_or_default gs k x d within)))

-- the index of a block that is one gap
pub fresh_listed : (gs hs : List Gap) (size : ℕ) → gs ≡ [] → IsInserted gs (record { length = size; start = 0; chunk_id = 1; before = Free; after = Free }) hs
    → IsListed (record { start = 0; size = size; offset = 0; kind = Free; chunk_id = 1; label = no_label } ∷ []) hs
fresh_listed gs hs size none put =
    let gap : Gap = record { length = size; start = 0; chunk_id = 1; before = Free; after = Free } in record {
      touch = (tt, tt);
      same = λ f. omega (arith, inserted_sum gs hs gap put f, ap (sum_by f) none, sum_by-cons f gap []);
    }
