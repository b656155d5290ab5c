-- A list of live pieces with one piece more: which number stands for which piece, and which bytes lie in one.
use Rattle.std.proofs.Common.{◌≡◌, ◌≢◌, ◌∙◌, ◌⊎◌, ℕ, ◌+◌, ◌<◌, ◌≤◌, refl, sym, ap, subst, Bool, true, false, cond, List, [], ◌∷◌, Option, Some, None, Contains, arith, inl, inr, ⊎_elim, ltb, not}
use Rattle.std.proofs.Common.{IfSome, IsSome}
use Rattle.std.specs.Prelude.{◌||◌, ◌==◌, All, filter}
use Rattle.std.specs.List.{list_any}
use Rattle.std.specs.Option.{option_to_list}
use Rattle.std.proofs.lemmas.Bool.{cases_eq, cases_Bool, eqb-true}
use Rattle.std.proofs.lemmas.Bool.Decides.{nat_tests}
use Rattle.std.proofs.lemmas.List.Elements.{All-nil, All-cons, All-head, All-tail, All-weaker, All-contains, All-contains_itself}
use Rattle.gpu_block.specs.Block.{Block, free_list, dedicated, extents_of, IsSoundBlock, TakesIn, ReleasesIn}
use Rattle.gpu_block_pieces.specs.FreeList.{Extent, FreeList}
use Rattle.gpu_block_pieces.specs.Changes.{with_extent, Takes, Releases}
use Rattle.gpu_block.specs.Dedicated.{Dedicated, whole_extent, held_extents}
use Rattle.gpu_block_pieces.specs.Laws.{IsSound}
use Rattle.gpu_block_pieces.specs.Request.{Request}
use Rattle.gpu_block_pieces.proofs.OrderedLists.{eq_false, eq_true}
use Rattle.gpu_block_pieces.proofs.Live.{takes_new_chunk_id, piece_of, piece_held, here, there}
use Rattle.gpu_block_pieces.proofs.Separation.{within_of, in_filter}
use Rattle.gpu_vulkan.specs.ByteView.{piece_of_number, covers, is_covered}

-- `more` has the piece x beside those of xs
pub record Joins (x : Extent) (xs more : List Extent) : Type 0 where
  pub there : piece_of_number more x.chunk_id ≡ Some x
  pub others : (k : ℕ) → k ≢ x.chunk_id → piece_of_number more k ≡ piece_of_number xs k
  pub fresh : piece_of_number xs x.chunk_id ≡ None
  pub free : (at : ℕ) → covers x at ≡ true → is_covered xs at ≡ false
  pub covered : (at : ℕ) → covers x at ≡ true → is_covered more at ≡ true
  pub kept : (at : ℕ) → covers x at ≡ false → is_covered more at ≡ is_covered xs at

false_true : false ≡ true → ⊥
false_true e = cc

or_true : (b : Bool) → (b || true) ≡ true
or_true true = refl
or_true false = refl

pub all_of : {X : Type 0} (xs : List X) (P : X → Type 0) → ((x : X) → Contains xs x → P x) → All P xs
all_of xs P each = All-weaker (Contains xs) P each xs (All-contains_itself xs)

-- ---- which piece has a number

some_is : {X : Type 0} (a b : X) → Some a ≡ Some b → a ≡ b
some_is a b h = cc

-- an element stands in front or behind
split_cons : {X : Type 0} (y : X) (ys : List X) (x : X) → Contains (y ∷ ys) x → (x ≡ y) ⊎ Contains ys x
split_cons y ys x h = All-contains (λ z. (z ≡ y) ⊎ Contains ys z) (y ∷ ys) x
    (All-cons (λ z. (z ≡ y) ⊎ Contains ys z) y ys (inl refl) (All-weaker (Contains ys) (λ z. (z ≡ y) ⊎ Contains ys z) (λ z q. inr q) ys (All-contains_itself ys))) h

pub found_number : (xs : List Extent) (k : ℕ) (x : Extent) → piece_of_number xs k ≡ Some x → Contains xs x × (x.chunk_id ≡ k)
found_number [] k x e = cc
found_number (y ∷ ys) k x e =
    ⊎_elim
    (λ is. let same = some_is y x (sym (ap (λ b. cond b (Some y) (piece_of_number ys k)) is) ∙ e) in
    (subst (λ z. Contains (y ∷ ys) z) same (here y ys), ap (λ (z : Extent). z.chunk_id) (sym same) ∙ eqb-true y.chunk_id k is))
    (λ isnt. let rest = found_number ys k x (sym (ap (λ b. cond b (Some y) (piece_of_number ys k)) isnt) ∙ e) in (there y x ys rest.0, rest.1))
    (cases_Bool (y.chunk_id == k))

pub number_found : (xs : List Extent) (x : Extent) → All (λ (y : Extent). y.chunk_id ≡ x.chunk_id → y ≡ x) xs → Contains xs x → piece_of_number xs x.chunk_id ≡ Some x
number_found [] x one h = let l = h.1 in absurd (omega arith)
number_found (y ∷ ys) x one h =
    let P : Extent → Type 0 = λ z. z.chunk_id ≡ x.chunk_id → z ≡ x in
    ⊎_elim
    (λ is. ap (λ b. cond b (Some y) (piece_of_number ys x.chunk_id)) is ∙ ap Some (All-head P y ys one (eqb-true y.chunk_id x.chunk_id is)))
    (λ isnt.
    let tail : Contains ys x = ⊎_elim (λ same. absurd (false_true (sym isnt ∙ eq_true y.chunk_id x.chunk_id (ap (λ (z : Extent). z.chunk_id) (sym same))))) (λ rest. rest) (split_cons y ys x h) in
    ap (λ b. cond b (Some y) (piece_of_number ys x.chunk_id)) isnt ∙ number_found ys x (All-tail P y ys one) tail)
    (cases_Bool (y.chunk_id == x.chunk_id))

number_missing : (xs : List Extent) (k : ℕ) → All (λ (y : Extent). y.chunk_id ≢ k) xs → piece_of_number xs k ≡ None
number_missing [] k none = refl
number_missing (y ∷ ys) k none =
    let P : Extent → Type 0 = λ z. z.chunk_id ≢ k in
    ap (λ b. cond b (Some y) (piece_of_number ys k)) (eq_false y.chunk_id k (All-head P y ys none)) ∙ number_missing ys k (All-tail P y ys none)

-- ---- which bytes lie in a piece

pub any_of : {X : Type 0} (p : X → Bool) (xs : List X) (x : X) → Contains xs x → p x ≡ true → list_any p xs ≡ true
any_of p [] x h is = let l = h.1 in absurd (omega arith)
any_of p (y ∷ ys) x h is =
    ⊎_elim
    (λ same. ap (λ b. b || list_any p ys) (ap p (sym same) ∙ is))
    (λ rest. ap (λ b. p y || b) (any_of p ys x rest is) ∙ or_true (p y))
    (split_cons y ys x h)

pub none_of : {X : Type 0} (p : X → Bool) (xs : List X) → ((x : X) → Contains xs x → p x ≡ false) → list_any p xs ≡ false
none_of p [] none = refl
none_of p (y ∷ ys) none = ap (λ b. b || list_any p ys) (none y (here y ys)) ∙ none_of p ys (λ x h. none x (there y x ys h))

pub covers_range : (x : Extent) (at : ℕ) → covers x at ≡ true → (x.offset ≤ at) × (at < x.end)
covers_range x at is = (grind (arith, nat_tests), grind (arith, nat_tests))

pub below_or_above : (x : Extent) (at : ℕ) → (at < x.offset) ⊎ (x.end ≤ at) → covers x at ≡ false
below_or_above x at (inl low) = grind (arith, nat_tests)
below_or_above x at (inr high) = grind (arith, nat_tests)

-- ---- a piece placed among others

placed_number : (x : Extent) (xs : List Extent) (k : ℕ) → k ≢ x.chunk_id → piece_of_number (with_extent x xs) k ≡ piece_of_number xs k
placed_number x [] k ne = ap (λ b. cond b (Some x) None) (eq_false x.chunk_id k (λ e. ne (sym e)))
placed_number x (y ∷ ys) k ne =
    elim (ltb y.start x.start) as (λ b. piece_of_number (cond b (y ∷ with_extent x ys) (x ∷ y ∷ ys)) k ≡ piece_of_number (y ∷ ys) k) [
      | true ↦ ap (λ o. cond (y.chunk_id == k) (Some y) o) (placed_number x ys k ne)
      | false ↦ ap (λ b. cond b (Some x) (piece_of_number (y ∷ ys) k)) (eq_false x.chunk_id k (λ e. ne (sym e)))
    ]

placed_covered : (x : Extent) (xs : List Extent) (at : ℕ) → covers x at ≡ false → is_covered (with_extent x xs) at ≡ is_covered xs at
placed_covered x [] at out = ap (λ b. b || false) out
placed_covered x (y ∷ ys) at out =
    elim (ltb y.start x.start) as (λ b. is_covered (cond b (y ∷ with_extent x ys) (x ∷ y ∷ ys)) at ≡ is_covered (y ∷ ys) at) [
      | true ↦ ap (λ b. covers y at || b) (placed_covered x ys at out)
      | false ↦ ap (λ b. b || is_covered (y ∷ ys) at) out
    ]

-- ---- a piece that is left out

module _ (p : Extent → Bool) (gone : Extent) where
  left_number : (xs : List Extent) (k : ℕ) → k ≢ gone.chunk_id → All (λ y. (p y ≡ true) ⊎ (y ≡ gone)) xs → piece_of_number xs k ≡ piece_of_number (filter p xs) k
  left_number [] k ne all = refl
  left_number (y ∷ ys) k ne all =
      let P : Extent → Type 0 = λ z. (p z ≡ true) ⊎ (z ≡ gone) in
      let rest = left_number ys k ne (All-tail P y ys all) in
      let dropped : y ≡ gone → piece_of_number (y ∷ ys) k ≡ piece_of_number ys k = λ same. ap (λ b. cond b (Some y) (piece_of_number ys k))
      (eq_false y.chunk_id k (λ e. ne (sym e ∙ ap (λ (z : Extent). z.chunk_id) same))) in
      ⊎_elim
      (λ stays. ap (λ o. cond (y.chunk_id == k) (Some y) o) rest ∙ sym (ap (λ b. piece_of_number (cond b (y ∷ filter p ys) (filter p ys)) k) stays))
      (λ goes.
      let here_gone : (p y ≡ true) ⊎ (y ≡ gone) = All-head P y ys all in
      ⊎_elim
      (λ stays. absurd (false_true (sym goes ∙ stays)))
      (λ same. dropped same ∙ rest ∙ sym (ap (λ b. piece_of_number (cond b (y ∷ filter p ys) (filter p ys)) k) goes))
      here_gone)
      (cases_Bool (p y))

  left_covered : (xs : List Extent) (at : ℕ) → covers gone at ≡ false → All (λ y. (p y ≡ true) ⊎ (y ≡ gone)) xs → is_covered xs at ≡ is_covered (filter p xs) at
  left_covered [] at out all = refl
  left_covered (y ∷ ys) at out all =
      let P : Extent → Type 0 = λ z. (p z ≡ true) ⊎ (z ≡ gone) in
      let rest = left_covered ys at out (All-tail P y ys all) in
      ⊎_elim
      (λ stays. ap (λ b. covers y at || b) rest ∙ sym (ap (λ b. is_covered (cond b (y ∷ filter p ys) (filter p ys)) at) stays))
      (λ goes.
      ⊎_elim
      (λ stays. absurd (false_true (sym goes ∙ stays)))
      (λ same. ap (λ b. b || is_covered ys at) (ap (λ (z : Extent). covers z at) same ∙ out) ∙ rest ∙ sym (ap (λ b. is_covered (cond b (y ∷ filter p ys) (filter p ys)) at) goes))
      (All-head P y ys all))
      (cases_Bool (p y))

filtered_passes : (p : Extent → Bool) (xs : List Extent) → All (λ y. p y ≡ true) (filter p xs)
filtered_passes p [] = All-nil (λ y. p y ≡ true)
filtered_passes p (y ∷ ys) =
    ⊎_elim
    (λ stays. subst (λ b. All (λ z. p z ≡ true) (cond b (y ∷ filter p ys) (filter p ys))) (sym stays) (All-cons (λ z. p z ≡ true) y (filter p ys) stays (filtered_passes p ys)))
    (λ goes. subst (λ b. All (λ z. p z ≡ true) (cond b (y ∷ filter p ys) (filter p ys))) (sym goes) (filtered_passes p ys))
    (cases_Bool (p y))

-- ---- a take and a release

joins_one : (x : Extent) → Joins x [] (x ∷ [])
joins_one x = record {
  there = ap (λ b. cond b (Some x) None) (eq_true x.chunk_id x.chunk_id refl);
  others = λ k ne. ap (λ b. cond b (Some x) None) (eq_false x.chunk_id k (λ e. ne (sym e)));
  fresh = refl;
  free = λ at is. refl;
  covered = λ at is. ap (λ b. b || false) is;
  kept = λ at out. ap (λ b. b || false) out;
}

pub joins_taken : (old : FreeList) (r : Request) (o n : ℕ) (new : FreeList) → IsSound old → IsSound new → (t : Takes old r o n new) → Joins (piece_of old r o n new t) old.extents new.extents
joins_taken old r o n new before after t =
    let x = piece_of old r o n new t in
    let held = piece_held old r o n new t in record {
      there = number_found new.extents x (all_of new.extents (λ y. y.chunk_id ≡ x.chunk_id → y ≡ x) (λ y h e. after.one_number y x h held e)) held;
      others = λ k ne. ap (λ (xs : List Extent). piece_of_number xs k) t.extent ∙ placed_number x old.extents k ne;
      fresh = number_missing old.extents n (all_of old.extents (λ y. y.chunk_id ≢ n) (λ y h e. takes_new_chunk_id old r o n new before after t (y, h, e)));
      free = λ at is. none_of (λ y. covers y at) old.extents (λ y h.
          let w = within_of old y before h in
          let c = covers_range x at is in
          let low = t.chosen.fits.between.begins.begins.after in
          let high = t.chosen.fits.between.inside in
          below_or_above y at (⊎_elim
          (λ a. inr (omega (arith, a, c.0, low)))
          (λ a. inl (omega (arith, a, c.1, high, w.0)))
          (All-contains (λ (z : Extent). (z.end ≤ t.start) ⊎ (t.end ≤ z.start)) old.extents y t.chosen.fits.gap.meets_none h)));
      covered = λ at is. any_of (λ y. covers y at) new.extents x held is;
      kept = λ at out. ap (λ (xs : List Extent). is_covered xs at) t.extent ∙ placed_covered x old.extents at out;
    }

pub joins_released : (old : FreeList) (n : ℕ) (new : FreeList) → IsSound old → (t : Releases old n new) → Joins t.gone new.extents old.extents
joins_released old n new sound t =
    let x = t.gone in
    let p : Extent → Bool = λ y. not (y.start == x.start) in
    let from_start : (y : Extent) → Contains old.extents y → y.start ≡ x.start → y ≡ x =
    λ y h e.
    let wy = within_of old y sound h in
    let wx = within_of old x sound t.held in
    ⊎_elim (λ same. same) (λ apart. absurd (⊎_elim (λ a. omega (arith, a, e, wy.0, wy.1)) (λ a. omega (arith, a, e, wx.0, wx.1)) apart)) (sound.apart y x h t.held) in
    let stays_or_is : All (λ y. (p y ≡ true) ⊎ (y ≡ x)) old.extents =
    all_of old.extents (λ y. (p y ≡ true) ⊎ (y ≡ x)) (λ y h. ⊎_elim (λ e. inr (from_start y h e)) (λ ne. inl (ap not (eq_false y.start x.start ne))) (cases_eq y.start x.start)) in
    let left : (y : Extent) → Contains (filter p old.extents) y → Contains old.extents y × (y ≡ x → ⊥) =
    λ y h. (
      in_filter p y old.extents h,
      λ same. false_true
          (sym (ap not (eq_true y.start x.start (ap (λ (z : Extent). z.start) same))) ∙ All-contains (λ z. p z ≡ true) (filter p old.extents) y (filtered_passes p old.extents) h),
    ) in
    record {
      there = number_found old.extents x (all_of old.extents (λ y. y.chunk_id ≡ x.chunk_id → y ≡ x) (λ y h e. sound.one_number y x h t.held e)) t.held;
      others = λ k ne. left_number p x old.extents k ne stays_or_is ∙ ap (λ (xs : List Extent). piece_of_number xs k) (sym t.extents);
      fresh = ap (λ (xs : List Extent). piece_of_number xs x.chunk_id) t.extents ∙ number_missing (filter p old.extents) x.chunk_id
          (all_of (filter p old.extents) (λ y. y.chunk_id ≢ x.chunk_id) (λ y h e. (left y h).1 (sound.one_number y x (left y h).0 t.held e)));
      free = λ at is. ap (λ (xs : List Extent). is_covered xs at) t.extents ∙ none_of (λ y. covers y at) (filter p old.extents) (λ y h.
          let there = left y h in
          let wy = within_of old y sound there.0 in
          let wx = within_of old x sound t.held in
          let c = covers_range x at is in
          below_or_above y at (⊎_elim (λ same. absurd (there.1 same)) (λ apart. ⊎_elim (λ a. inr (omega (arith, a, c.0, wx.0))) (λ a. inl (omega (arith, a, c.1, wy.0))) apart)
          (sound.apart y x there.0 t.held)));
      covered = λ at is. any_of (λ y. covers y at) old.extents x t.held is;
      kept = λ at out. left_covered p x old.extents at out stays_or_is ∙ ap (λ (xs : List Extent). is_covered xs at) (sym t.extents);
    }

-- ---- blocks of either form

-- a piece of that number and place was taken, or goes
pub record OneMore (xs more : List Extent) (number offset size : ℕ) : Type 0 where
  pub x : Extent
  pub joins : Joins x xs more
  pub numbered : x.chunk_id ≡ number
  pub begins : x.offset ≡ offset
  pub ends : x.end ≡ offset + size

pub one_more_taken : (old : Block) (r : Request) (o n : ℕ) (new : Block) → IsSoundBlock old → IsSoundBlock new → TakesIn old r o n new → OneMore (extents_of old) (extents_of new) n o r.size
one_more_taken (free_list old) r o n (free_list new) before after t = record
    { x = piece_of old r o n new t; joins = joins_taken old r o n new before after t; numbered = refl; begins = refl; ends = refl }
one_more_taken (free_list old) r o n (dedicated new) before after t = absurd t
one_more_taken (dedicated old) r o n (free_list new) before after t = absurd t
one_more_taken (dedicated old) r o n (dedicated new) before after t = record {
  x = whole_extent r;
  joins = subst (λ (xs : List Extent). Joins (whole_extent r) xs (held_extents new)) (sym (ap option_to_list t.0))
      (subst (λ (d : Dedicated). Joins (whole_extent r) [] (held_extents d)) (sym t.4) (joins_one (whole_extent r)));
  numbered = sym t.3;
  begins = sym t.2;
  ends = (let e = t.2 in omega (arith, e));
}

released_whole : (o : Option Extent) (n size : ℕ) → IsSome o → n ≡ 1 → IfSome o (λ x. (x.start ≡ 0) × (x.offset ≡ 0) × (x.end ≡ size) × (x.chunk_id ≡ 1)) → (x : Extent) × (o ≡ Some x) × (x.chunk_id ≡ n)
released_whole None n size some one whole = absurd (false_true some)
released_whole (Some x) n size some one whole = (x, refl, whole.3 ∙ sym one)

pub one_more_released : (old : Block) (n : ℕ) (new : Block) → IsSoundBlock old → ReleasesIn old n new → (x : Extent) × Joins x (extents_of new) (extents_of old) × (x.chunk_id ≡ n)
one_more_released (free_list old) n (free_list new) sound t = (t.gone, joins_released old n new sound t, t.numbered)
one_more_released (free_list old) n (dedicated new) sound t = absurd t
one_more_released (dedicated old) n (free_list new) sound t = absurd t
one_more_released (dedicated old) n (dedicated new) sound t =
    let w = released_whole old.piece n old.size t.0 t.1 sound in (
      w.0,
      subst (λ (d : Dedicated). Joins w.0 (held_extents d) (held_extents old)) (sym t.2) (subst (λ (o : Option Extent). Joins w.0 [] (option_to_list o)) (sym w.1) (joins_one w.0)),
      w.2,
    )
