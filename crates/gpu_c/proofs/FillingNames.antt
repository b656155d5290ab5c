-- An array and a buffer that are filled with the lengths of names and with the names.
use Rattle.std.proofs.Common.{◌≡◌, ℕ, suc, ◌+◌, ◌-◌, ◌<◌, List, [], ◌∷◌, ◌++◌, length, map, slice_set, take, drop, refl, sym, ap, subst, ◌∙◌, arith}
use Rattle.std.specs.List.{concat}
use Rattle.std.proofs.lemmas.List.{take_all}
use Rattle.gpu_block_pieces.specs.FreeList.{Extent}
use Rattle.gpu_c.specs.Visit.{room_for, copied_into, names_of, ShowsNames}
use Rattle.gpu_c.proofs.Filling.{Fills, fills_begin, fills_next, fills_append, fills_full, fills_end}

-- the texts of as many names
abbrev pub texts : ℕ → List Extent → List ℕ
texts n xs = concat (take n (names_of xs))

-- of the pieces, `rest` are still to come
pub record FillsNames (xs rest : List Extent) (old_lengths lengths old_names names : List ℕ) (count filled : ℕ) : Type 0 where
  pub by_length : Fills (map length (names_of xs)) old_lengths (map length (names_of rest)) lengths count
  pub by_text : Fills (texts (length old_lengths) xs) old_names (texts (length old_lengths - count) rest) names filled

pub names_begin : (xs : List Extent) (old_lengths old_names : List ℕ) → FillsNames xs xs old_lengths old_lengths old_names old_names 0 0
names_begin xs old_lengths old_names = record {
  by_length = fills_begin (map length (names_of xs)) old_lengths;
  by_text = subst (λ (n : ℕ). Fills (texts (length old_lengths) xs) old_names (texts n xs) old_names 0) (omega arith) (fills_begin (texts (length old_lengths) xs) old_names);
}

texts_next : (room count : ℕ) (x : Extent) (rest : List Extent) → count < room → texts (room - count) (x ∷ rest) ≡ x.name ++ texts (room - (count + 1)) rest
texts_next room count x rest l = let e : room - count ≡ suc (room - (count + 1)) = omega arith in ap (λ (n : ℕ). texts n (x ∷ rest)) e

pub names_next : (xs rest : List Extent) (x : Extent) (old_lengths lengths old_names names names' : List ℕ) (count filled filled' v : ℕ) → length lengths ≡ length old_lengths → count < length lengths
    → v ≡ length x.name → filled' ≡ filled + room_for x.name (drop filled names) → names' ≡ take filled names ++ copied_into x.name (drop filled names)
    → FillsNames xs (x ∷ rest) old_lengths lengths old_names names count filled → FillsNames xs rest old_lengths (slice_set lengths count v) old_names names' (count + 1) filled'
names_next xs rest x old_lengths lengths old_names names names' count filled filled' v same room is further copied f = record {
  by_length = subst (λ (w : ℕ). Fills (map length (names_of xs)) old_lengths (map length (names_of rest)) (slice_set lengths count w) (count + 1)) (sym is)
      (fills_next (map length (names_of xs)) old_lengths (map length (names_of rest)) lengths count (length x.name) f.by_length room);
  by_text =
      let todo : List ℕ = texts (length old_lengths - (count + 1)) rest in
      let h : Fills (texts (length old_lengths) xs) old_names (x.name ++ todo) names filled =
      subst (λ (t : List ℕ). Fills (texts (length old_lengths) xs) old_names t names filled) (texts_next (length old_lengths) count x rest (omega (arith, same, room))) f.by_text in
      subst (λ (n : ℕ). Fills (texts (length old_lengths) xs) old_names todo names' n) (sym further)
      (subst (λ (t : List ℕ). Fills (texts (length old_lengths) xs) old_names todo t (filled + room_for x.name (drop filled names))) (sym copied)
      (fills_append (texts (length old_lengths) xs) old_names x.name todo names filled h));
}

pub names_full : (xs rest : List Extent) (old_lengths lengths old_names names : List ℕ) (count filled : ℕ) → length lengths ≡ length old_lengths → count ≡ length lengths
    → FillsNames xs rest old_lengths lengths old_names names count filled → ShowsNames xs old_lengths lengths old_names names count
names_full xs rest old_lengths lengths old_names names count filled same full f =
    let l = fills_full (map length (names_of xs)) old_lengths (map length (names_of rest)) lengths count f.by_length full in
    let z : length old_lengths - count ≡ 0 = omega (arith, same, full) in
    let h : Fills (texts (length old_lengths) xs) old_names [] names filled = subst (λ (n : ℕ). Fills (texts (length old_lengths) xs) old_names (texts n rest) names filled) z f.by_text in
    record { lengths = l.0; names = (fills_end (texts (length old_lengths) xs) old_names names filled h).0; counted = l.1 }

pub names_end : (xs rest : List Extent) (old_lengths lengths old_names names : List ℕ) (count filled : ℕ) → rest ≡ []
    → FillsNames xs rest old_lengths lengths old_names names count filled → ShowsNames xs old_lengths lengths old_names names count
names_end xs rest old_lengths lengths old_names names count filled none f =
    let l = fills_end (map length (names_of xs)) old_lengths lengths count
    (subst (λ (r : List Extent). Fills (map length (names_of xs)) old_lengths (map length (names_of r)) lengths count) none f.by_length) in
    let e : texts (length old_lengths - count) rest ≡ [] = ap (texts (length old_lengths - count)) none ∙ ap concat (take_all (length old_lengths - count) [] (omega arith)) in
    let h : Fills (texts (length old_lengths) xs) old_names [] names filled = subst (λ (t : List ℕ). Fills (texts (length old_lengths) xs) old_names t names filled) e f.by_text in
    record { lengths = l.0; names = (fills_end (texts (length old_lengths) xs) old_names names filled h).0; counted = l.1 }

-- of no piece
pub names_none : (lengths names : List ℕ) → ShowsNames [] lengths lengths names names 0
names_none lengths names = names_end [] [] lengths lengths names names 0 0 refl (names_begin [] lengths names)
