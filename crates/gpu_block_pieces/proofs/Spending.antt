-- What a search costs, said of the gaps of the chunks.
use Rattle.std.proofs.Common.{◌≡◌, ℕ, suc, ◌+◌, ◌<◌, ◌≤◌, List, [], ◌∷◌, ◌++◌, length, get_or, take, drop, refl, sym, ap, ◌∙◌, subst, inl, inr, arith, Option, Some, None, MatchOption, Bool, true}
use Rattle.std.proofs.Common.{false, cond, count_by}
use Rattle.std.specs.Prelude.{nat_lt, nat_le, ◌&&◌, ◌||◌, ◌==◌}
use Rattle.std.specs.List.{AllPairs}
use Rattle.std.proofs.lemmas.List.{take-append-drop, get_or-take, get_or-drop, length-take-le, length-append}
use Rattle.std.proofs.lemmas.List.Sums.{sum_by-append, sum_by-cons}
use Rattle.std.proofs.lemmas.Bool.{cases_lt}
use Rattle.std.proofs.lemmas.Bool.Decides.{nat_tests}
use Rattle.gpu_block_chunks.specs.declared.chunk.Chunk.{Chunk}
use Rattle.gpu_cost.specs.declared.cost.Cost.{Cost}
use Rattle.gpu_block_gaps.specs.declared.index.Gap.{Gap}
use Rattle.gpu_block_pieces.specs.declared.place.Wanted.{Wanted}
use Rattle.gpu_block_pieces.specs.declared.search.Found.{Found}
use Rattle.gpu_values.specs.declared.allocation_type.AllocationType.TheVariants.{Free}
use Rattle.gpu_cost.specs.Cost.{digits}
use Rattle.gpu_block_gaps.specs.Index.{Before}
use Rattle.gpu_block_pieces.specs.Indexed.{gaps_between, HasSame, NoGapFits, IsFirstFit, Spends, is_long, is_tried, tested}
use Rattle.gpu_block_pieces.proofs.Indexing.{same_length}

-- not behind g in the order of length and start
abbrev not_behind : Gap → Gap → Bool
not_behind g h = nat_lt h.length g.length || (h.length == g.length && nat_le h.start g.start)

lt_is : (a b : ℕ) → a < b → nat_lt a b ≡ true
lt_is a b h = grind (arith, nat_tests)

lt_not : (a b : ℕ) → b ≤ a → nat_lt a b ≡ false
lt_not a b h = grind (arith, nat_tests)

le_is : (a b : ℕ) → a ≤ b → nat_le a b ≡ true
le_is a b h = grind (arith, nat_tests)

le_not : (a b : ℕ) → b < a → nat_le a b ≡ false
le_not a b h = grind (arith, nat_tests)

eq_is : (a b : ℕ) → a ≡ b → (a == b) ≡ true
eq_is a b h = grind (arith, nat_tests)

eq_not : (a b : ℕ) → b < a → (a == b) ≡ false
eq_not a b h = grind (arith, nat_tests)

before_tried : (g h : Gap) → Before h g → not_behind g h ≡ true
before_tried g h (inl lt) = rw (lt_is h.length g.length lt) refl
before_tried g h (inr e) = rw (lt_not h.length g.length (let q = e.0 in omega arith), eq_is h.length g.length e.0, le_is h.start g.start (let q = e.1 in omega arith)) refl

self_tried : (g : Gap) → not_behind g g ≡ true
self_tried g = rw (lt_not g.length g.length (omega arith), eq_is g.length g.length refl, le_is g.start g.start (omega arith)) refl

behind_not : (g h : Gap) → Before g h → not_behind g h ≡ false
behind_not g h (inl lt) = rw (lt_not h.length g.length (omega arith), eq_not h.length g.length lt) refl
behind_not g h (inr e) = rw (lt_not h.length g.length (let q = e.0 in omega arith), eq_is h.length g.length (sym e.0), le_not h.start g.start e.1) refl

and_true : (a b : Bool) → b ≡ true → (a && b) ≡ a
and_true true b h = h
and_true false b h = refl

and_false : (a b : Bool) → b ≡ false → (a && b) ≡ false
and_false true b h = h
and_false false b h = refl

abbrev pub one : Bool → ℕ
one b = cond b 1 0

pub count_cons : (p : Gap → Bool) (x : Gap) (xs : List Gap) → count_by p (x ∷ xs) ≡ one (p x) + count_by p xs
count_cons p x xs = sum_by-cons (λ (y : Gap). one (p y)) x xs

count_alike : (p q : Gap → Bool) (xs : List Gap) → ((k : ℕ) (d : Gap) → k < length xs → p (get_or xs k d) ≡ q (get_or xs k d)) → count_by p xs ≡ count_by q xs
count_alike p q [] h = refl
count_alike p q (x ∷ xs) h =
    let e : p x ≡ q x = h 0 x (omega arith) in
    let r : count_by p xs ≡ count_by q xs = count_alike p q xs (λ k d lt. h (suc k) d (omega arith)) in
    count_cons p x xs ∙ (ap (λ (b : Bool). one b + count_by p xs) e ∙ (ap (λ (n : ℕ). one (q x) + n) r ∙ sym (count_cons q x xs)))

count_none : (p : Gap → Bool) (xs : List Gap) → ((k : ℕ) (d : Gap) → k < length xs → p (get_or xs k d) ≡ false) → count_by p xs ≡ 0
count_none p [] h = refl
count_none p (x ∷ xs) h =
    let e : p x ≡ false = h 0 x (omega arith) in
    let r : count_by p xs ≡ 0 = count_none p xs (λ k d lt. h (suc k) d (omega arith)) in
    count_cons p x xs ∙ (ap (λ (b : Bool). one b + count_by p xs) e ∙ (let z : 0 + count_by p xs ≡ count_by p xs = omega arith in z ∙ r))

-- the tests up to a place in an index in order
tried_to : (gs : List Gap) (n place : ℕ) (g : Gap) → AllPairs Before gs → place < length gs → ((d : Gap) → get_or gs place d ≡ g) → count_by (is_tried n g) gs ≡ count_by (is_long n)
    (take (place + 1) gs)
tried_to gs n place g ordered within is =
    let m = place + 1 in
    let len : length (take m gs) ≡ m = length-take-le m gs (omega arith) in
    let whole : length gs ≡ length (take m gs) + length (drop m gs) = ap (λ (xs : List Gap). length xs) (sym (take-append-drop m gs)) ∙ length-append (take m gs) (drop m gs) in
    let first : count_by (is_tried n g) (take m gs) ≡ count_by (is_long n) (take m gs) = count_alike (is_tried n g) (is_long n) (take m gs) (λ k d lt.
    let at : get_or (take m gs) k d ≡ get_or gs k d = get_or-take m gs k d (omega arith) in
    let x = get_or gs k d in
    let ok : not_behind g x ≡ true = elim (cases_lt k place) [
      | inl l ↦ before_tried g x (subst (λ (y : Gap). Before x y) (is d) (ordered k place d l within))
      | inr ge ↦ (let e : k ≡ place = omega arith in ap (not_behind g) (ap (λ (i : ℕ). get_or gs i d) e ∙ is d) ∙ self_tried g)
    ] in
    ap (is_tried n g) at ∙ (and_true (is_long n x) (not_behind g x) ok ∙ ap (is_long n) (sym at))) in
    let last : count_by (is_tried n g) (drop m gs) ≡ 0 = count_none (is_tried n g) (drop m gs) (λ k d lt.
    let at : get_or (drop m gs) k d ≡ get_or gs (m + k) d = get_or-drop m gs k d in
    let x = get_or gs (m + k) d in
    let ok : not_behind g x ≡ false = behind_not g x (subst (λ (y : Gap). Before y x) (is d) (ordered place (m + k) d (omega arith) (omega arith))) in
    ap (is_tried n g) at ∙ and_false (is_long n x) (not_behind g x) ok) in
    let split = ap (λ (xs : List Gap). count_by (is_tried n g) xs) (sym (take-append-drop m gs)) in
    let sums : count_by (is_tried n g) (take m gs ++ drop m gs) ≡ count_by (is_tried n g) (take m gs) + count_by (is_tried n g) (drop m gs) = sum_by-append (λ (y : Gap). cond (is_tried n g y) 1 0)
    (take m gs) (drop m gs) in
    split ∙ (sums ∙ (ap (λ (k : ℕ). count_by (is_tried n g) (take m gs) + k) last ∙
    (let z : count_by (is_tried n g) (take m gs) + 0 ≡ count_by (is_tried n g) (take m gs) = omega arith in z ∙ first)))

module _ (cs : List Chunk) (gs : List Gap) (w : Wanted) (old new : Cost) (same : HasSame gs (gaps_between Free cs Free)) (ordered : AllPairs Before gs) where
  tests_of : (o : Option Found) → MatchOption o
      (NoGapFits gs w × (new.tests ≡ old.tests + count_by (is_long w.size) gs))
      (λ f. (place : ℕ) × IsFirstFit gs w f place × (new.tests ≡ old.tests + count_by (is_long w.size) (take (place + 1) gs)))
      → new.tests ≡ old.tests + tested w.size o (gaps_between Free cs Free)
  tests_of None h = let e = same (λ (y : Gap). cond (is_long w.size y) 1 0) in h.1 ∙ ap (λ (n : ℕ). old.tests + n) e
  tests_of (Some f) h =
      let t = tried_to gs w.size h.0 f.gap ordered h.1.within h.1.is in
      let e = same (λ (y : Gap). cond (is_tried w.size f.gap y) 1 0) in
      h.2 ∙ ap (λ (n : ℕ). old.tests + n) (sym t ∙ e)

  pub spends : (o : Option Found) → MatchOption o
      (NoGapFits gs w × (new.tests ≡ old.tests + count_by (is_long w.size) gs))
      (λ f. (place : ℕ) × IsFirstFit gs w f place × (new.tests ≡ old.tests + count_by (is_long w.size) (take (place + 1) gs)))
      → (old.comparisons ≤ new.comparisons) × (new.comparisons ≤ old.comparisons + digits (length gs)) → new.lookups ≡ old.lookups →
      Spends cs w.size o old new
  spends o h c l = record {
    rises = c.0;
    compared_to = subst (λ (n : ℕ). new.comparisons ≤ old.comparisons + digits n) (same_length gs (gaps_between Free cs Free) same) c.1;
    tests = tests_of o h;
    lookups = l;
  }
