-- An array that is filled from its front on: what stands in it, and what is still to come.
use Rattle.std.proofs.Common.{◌≡◌, ℕ, ◌+◌, ◌-◌, ◌≤◌, ◌<◌, List, [], ◌∷◌, ◌++◌, length, slice_set, Some, min, take, drop, true, false, nat_le, Bool, cond, refl, sym, ap, subst, ◌∙◌, arith, append_assoc, length-append}
use Rattle.std.proofs.Math.Nat.{suc-min-suc}
use Rattle.std.proofs.lemmas.Bool.Decides.{nat_tests}
use Rattle.std.proofs.lemmas.List.{set_at, take_at, drop_at, length-take-le, length-drop}
use Rattle.gpu_block_pieces.specs.FreeList.{Extent}
use Rattle.gpu_c.specs.Visit.{room_for, copied_into, pieces_from, piece_view, piece_views}
use Rattle.gpu_c.specs.declared.virtual_block_values.PieceView.{PieceView}

module _ {A : Type 0} where
  -- of `all`, `todo` is still to be put into the array that began as `old`: it has as many as `count` of them at its front
  pub record Fills (all old todo now : List A) (count : ℕ) : Type 0 where
    pub done : List A
    pub rest : List A
    pub split : now ≡ done ++ rest
    pub counted : length done ≡ count
    pub whole : copied_into all old ≡ done ++ copied_into todo rest
    pub rooms : room_for all old ≡ count + room_for todo rest

  copied_nil : (buffer : List A) → copied_into [] buffer ≡ buffer
  copied_nil buffer = let e : min 0 (length buffer) ≡ 0 = omega arith in subst (λ (k : ℕ). take k [] ++ drop k buffer ≡ buffer) (sym e) refl

  copied_full : (xs : List A) → copied_into xs [] ≡ []
  copied_full xs = let e : min (length xs) 0 ≡ 0 = omega arith in subst (λ (k : ℕ). take k xs ++ drop k [] ≡ []) (sym e) refl

  copied_cons : (x b : A) (xs bs : List A) → copied_into (x ∷ xs) (b ∷ bs) ≡ x ∷ copied_into xs bs
  copied_cons x b xs bs = subst (λ (k : ℕ). take k (x ∷ xs) ++ drop k (b ∷ bs) ≡ x ∷ copied_into xs bs) (sym (suc-min-suc (length xs) (length bs))) refl

  pub fills_begin : (all old : List A) → Fills all old all old 0
  fills_begin all old = record { done = []; rest = old; split = refl; counted = refl; whole = refl; rooms = omega arith }

  pub fills_end : (all old now : List A) (count : ℕ) → Fills all old [] now count → (now ≡ copied_into all old) × (count ≡ room_for all old)
  fills_end all old now count f =
      (f.split ∙ ap (λ (r : List A). f.done ++ r) (sym (copied_nil f.rest)) ∙ sym f.whole, omega (arith, f.rooms))

  pub fills_within : (all old todo now : List A) (count : ℕ) → Fills all old todo now count → count ≤ length now
  fills_within all old todo now count f =
      let e : length now ≡ length f.done + length f.rest = ap length f.split ∙ length-append f.done f.rest in omega (arith, e, f.counted)

  full_by : (all old todo now done rest : List A) (count : ℕ) → now ≡ done ++ rest → length done ≡ count → copied_into all old ≡ done ++ copied_into todo rest
      → room_for all old ≡ count + room_for todo rest → count ≡ length now → (now ≡ copied_into all old) × (count ≡ room_for all old)
  full_by all old todo now done [] count split counted whole rooms e =
      (split ∙ ap (λ (r : List A). done ++ r) (sym (copied_full todo)) ∙ sym whole, omega (arith, rooms))
  full_by all old todo now done (b ∷ rest) count split counted whole rooms e =
      let n : length now ≡ length done + length (b ∷ rest) = ap length split ∙ length-append done (b ∷ rest) in absurd (omega (arith, n, counted, e))

  next_by : (all old todo now done rest : List A) (count : ℕ) (x : A) → now ≡ done ++ rest → length done ≡ count → copied_into all old ≡ done ++ copied_into (x ∷ todo) rest
      → room_for all old ≡ count + room_for (x ∷ todo) rest → count < length now → Fills all old todo (slice_set now count x) (count + 1)
  next_by all old todo now done [] count x split counted whole rooms l =
      let n : length now ≡ length done + 0 = ap length split ∙ length-append done [] in absurd (omega (arith, n, counted, l))
  next_by all old todo now done (b ∷ rest) count x split counted whole rooms l =
      let m : room_for (x ∷ todo) (b ∷ rest) ≡ room_for todo rest + 1 = suc-min-suc (length todo) (length rest) ∙ omega arith in record {
        done = done ++ x ∷ [];
        rest = rest;
        split = ap (λ (n : List A). slice_set n count x) split ∙ set_at done b rest x count counted ∙ sym (append_assoc done (x ∷ []) rest);
        counted = length-append done (x ∷ []) ∙ omega (arith, counted);
        whole = whole ∙ ap (λ (r : List A). done ++ r) (copied_cons x b todo rest) ∙ sym (append_assoc done (x ∷ []) (copied_into todo rest));
        rooms = omega (arith, rooms, m);
      }

  pub fills_full : (all old todo now : List A) (count : ℕ) → Fills all old todo now count → count ≡ length now → (now ≡ copied_into all old) × (count ≡ room_for all old)
  fills_full all old todo now count f e = full_by all old todo now f.done f.rest count f.split f.counted f.whole f.rooms e

  pub fills_next : (all old todo now : List A) (count : ℕ) (x : A) → Fills all old (x ∷ todo) now count → count < length now → Fills all old todo (slice_set now count x) (count + 1)
  fills_next all old todo now count x f l = next_by all old todo now f.done f.rest count x f.split f.counted f.whole f.rooms l

  copied_append : (s todo rest : List A) → copied_into (s ++ todo) rest ≡ take (room_for s rest) s ++ copied_into todo (drop (room_for s rest) rest)
  copied_append [] todo rest = let e : min 0 (length rest) ≡ 0 = omega arith in
      subst (λ (k : ℕ). copied_into todo rest ≡ take k [] ++ copied_into todo (drop k rest)) (sym e) refl
  copied_append (x ∷ s) todo [] = let e : min (length (x ∷ s)) 0 ≡ 0 = omega arith in
      subst (λ (k : ℕ). copied_into (x ∷ s ++ todo) [] ≡ take k (x ∷ s) ++ copied_into todo (drop k [])) (sym e) (copied_full (x ∷ s ++ todo) ∙ sym (copied_full todo))
  copied_append (x ∷ s) todo (b ∷ rest) =
      copied_cons x b (s ++ todo) rest ∙ subst (λ (k : ℕ). x ∷ copied_into (s ++ todo) rest ≡ take k (x ∷ s) ++ copied_into todo (drop k (b ∷ rest)))
      (sym (suc-min-suc (length s) (length rest))) (ap (λ (ys : List A). x ∷ ys) (copied_append s todo rest))

  append_by : (all old s todo done rest : List A) (count : ℕ) → length done ≡ count → copied_into all old ≡ done ++ copied_into (s ++ todo) rest
      → room_for all old ≡ count + room_for (s ++ todo) rest → Fills all old todo (done ++ copied_into s rest) (count + room_for s rest)
  append_by all old s todo done rest count counted whole rooms =
      let k : ℕ = room_for s rest in
      let n : length (take k s) ≡ k = length-take-le k s (omega arith) in
      let d : length (drop k rest) ≡ length rest - k = length-drop k rest in
      let m : length (s ++ todo) ≡ length s + length todo = length-append s todo in record {
        done = done ++ take k s;
        rest = drop k rest;
        split = sym (append_assoc done (take k s) (drop k rest));
        counted = length-append done (take k s) ∙ omega (arith, counted, n);
        whole = whole ∙ ap (λ (r : List A). done ++ r) (copied_append s todo rest) ∙ sym (append_assoc done (take k s) (copied_into todo (drop k rest)));
        rooms = omega (arith, rooms, m, d);
      }

  -- several values more are put in, as far as there is room
  pub fills_append : (all old s todo now : List A) (count : ℕ) → Fills all old (s ++ todo) now count
      → Fills all old todo (take count now ++ copied_into s (drop count now)) (count + room_for s (drop count now))
  fills_append all old s todo now count f =
      let t : take count now ≡ f.done = ap (take count) f.split ∙ take_at f.done f.rest count f.counted in
      let d : drop count now ≡ f.rest = ap (drop count) f.split ∙ drop_at f.done f.rest count f.counted in
      subst (λ (r : List A). Fills all old todo (take count now ++ copied_into s r) (count + room_for s r)) (sym d)
      (subst (λ (h : List A). Fills all old todo (h ++ copied_into s f.rest) (count + room_for s f.rest)) (sym t)
      (append_by all old s todo f.done f.rest count f.counted f.whole f.rooms))

le_is : (a b : ℕ) → a ≤ b → nat_le a b ≡ true
le_is a b l = grind (arith, nat_tests)

le_not : (a b : ℕ) → b < a → nat_le a b ≡ false
le_not a b l = grind (arith, nat_tests)

-- the first piece is one of those that are shown
pub pieces_here : (from : ℕ) (x : Extent) (xs : List Extent) → from ≤ x.offset → pieces_from from (x ∷ xs) ≡ x ∷ pieces_from from xs
pieces_here from x xs l = ap (λ (b : Bool). cond b (x ∷ pieces_from from xs) (pieces_from from xs)) (le_is from x.offset l)

-- the first piece lies before them
pub pieces_before : (from : ℕ) (x : Extent) (xs : List Extent) → x.offset < from → pieces_from from (x ∷ xs) ≡ pieces_from from xs
pieces_before from x xs l = ap (λ (b : Bool). cond b (x ∷ pieces_from from xs) (pieces_from from xs)) (le_not from x.offset l)

-- the next piece is shown
pub shows_next : (all old now : List PieceView) (from count : ℕ) (xs rest : List Extent) (x : Extent) (offset : ℕ) (v : PieceView) → xs ≡ x ∷ rest → offset ≡ x.offset → v ≡ piece_view (Some x)
    → from ≤ offset → count < length now → Fills all old (piece_views (pieces_from from xs)) now count
    → Fills all old (piece_views (pieces_from from rest)) (slice_set now count v) (count + 1)
shows_next all old now from count xs rest x offset v steps at is here room f =
    let h : Fills all old (piece_view (Some x) ∷ piece_views (pieces_from from rest)) now count = subst (λ (ys : List Extent). Fills all old (piece_views ys) now count)
    (ap (pieces_from from) steps ∙ pieces_here from x rest (subst (λ (k : ℕ). from ≤ k) at here)) f in
    subst (λ (w : PieceView). Fills all old (piece_views (pieces_from from rest)) (slice_set now count w) (count + 1)) (sym is) (fills_next all old _ now count _ h room)

-- the next piece lies before those that are shown
pub skips_next : (all old now : List PieceView) (from count : ℕ) (xs rest : List Extent) (x : Extent) (offset : ℕ) → xs ≡ x ∷ rest → offset ≡ x.offset → offset < from
    → Fills all old (piece_views (pieces_from from xs)) now count → Fills all old (piece_views (pieces_from from rest)) now count
skips_next all old now from count xs rest x offset steps at before f =
    subst (λ (ys : List Extent). Fills all old (piece_views ys) now count)
    (ap (pieces_from from) steps ∙ pieces_before from x rest (subst (λ (k : ℕ). k < from) at before)) f

-- no piece is left
pub shows_all : (all old now : List PieceView) (from count : ℕ) (xs : List Extent) → xs ≡ [] → Fills all old (piece_views (pieces_from from xs)) now count
    → (now ≡ copied_into all old) × (count ≡ room_for all old)
shows_all all old now from count xs none f =
    fills_end all old now count (subst (λ (ys : List Extent). Fills all old (piece_views (pieces_from from ys)) now count) none f)
