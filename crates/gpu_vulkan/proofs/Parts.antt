-- A piece's part of its block's bytes, and what is left of them for the rest.
use Rattle.std.proofs.Common.{◌≡◌, ◌≢◌, ◌∙◌, ℕ, zero, suc, ◌+◌, ◌-◌, ◌<◌, ◌≤◌, refl, sym, ap, subst, Bool, true, false, cond, List, [], ◌∷◌, length, take, drop, Option, Some, None, arith, ⊎_elim}
use Rattle.std.proofs.Common.{nat_le, nat_lt, slice_get, length-take, length-drop}
use Rattle.std.specs.Prelude.{if◌then◌else◌, ◌&&◌}
use Rattle.std.proofs.lemmas.Bool.{cases_Bool}
use Rattle.std.proofs.lemmas.Bool.Decides.{nat_tests}
use Rattle.gpu_block_pieces.specs.FreeList.{Extent}
use Rattle.gpu_device.specs.Held.{HasRange, range_in}
use Rattle.gpu_device.proofs.Writes.{fits_within}
use Rattle.gpu_vulkan.specs.ByteView.{piece_of_number, covers, is_covered, byte_at, piece_bytes, IsOutOf}
use Rattle.gpu_vulkan.proofs.Joins.{OneMore}

-- ---- lists by index

pub slice_get-take : {X : Type 0} (n : ℕ) (xs : List X) (i : ℕ) → i < n → slice_get (take n xs) i ≡ slice_get xs i
slice_get-take zero xs i lt = absurd (omega arith)
slice_get-take (suc n) [] i lt = refl
slice_get-take (suc n) (x ∷ xs) zero lt = refl
slice_get-take (suc n) (x ∷ xs) (suc i) lt = slice_get-take n xs i (omega arith)

pub slice_get-drop : {X : Type 0} (n : ℕ) (xs : List X) (i : ℕ) → slice_get (drop n xs) i ≡ slice_get xs (n + i)
slice_get-drop zero xs i = let e : i ≡ zero + i = omega arith in ap (slice_get xs) e
slice_get-drop (suc n) [] i = refl
slice_get-drop (suc n) (x ∷ xs) i = let e : suc (n + i) ≡ suc n + i = omega arith in slice_get-drop n xs i ∙ ap (slice_get (x ∷ xs)) e

pub part_get : (xs : List ℕ) (o size k : ℕ) → k < size → slice_get (take size (drop o xs)) k ≡ slice_get xs (o + k)
part_get xs o size k lt = slice_get-take size (drop o xs) k lt ∙ slice_get-drop o xs k

pub part_length : (xs : List ℕ) (o size : ℕ) → o + size ≤ length xs → length (take size (drop o xs)) ≡ size
part_length xs o size le = simp (length-take, length-drop) (omega arith)

-- ---- a block whose bytes have room for the piece, or that isn't mapped

abbrev pub HasRoom : (mapped : Bool) → Option (List ℕ) → (offset size : ℕ) → Type 0
HasRoom false bytes offset size = bytes ≡ None
HasRoom true bytes offset size = HasRange bytes offset size

-- the bytes of a block at which no piece lies
abbrev pub left_of : Option (List ℕ) → List Extent → ℕ → Option ℕ
left_of bytes xs at = if is_covered xs at then None else byte_at bytes at

-- the byte lies in the range
abbrev pub in_range : (start size at : ℕ) → Bool
in_range start size at = nat_le start at && nat_lt at (start + size)

pub range_part : (ys : List ℕ) (o size : ℕ) → o + size ≤ length ys → range_in o size (Some ys) ≡ Some (take size (drop o ys))
range_part ys o size fits = ap (λ b. cond b (Some (take size (drop o ys))) None) (fits_within (o + size) (length ys) fits)

in_range_from : (o size k : ℕ) → k < size → in_range o size (o + k) ≡ true
in_range_from o size k lt = grind (arith, nat_tests)

in_range_is : (o size at : ℕ) → in_range o size at ≡ true → (o ≤ at) × (at < o + size)
in_range_is o size at is = (grind (arith, nat_tests), grind (arith, nat_tests))

module _ (bytes : Option (List ℕ)) (xs more : List Extent) (n o size : ℕ) (one : OneMore xs more n o size) where
  abbrev x : Extent
  x = one.x

  covers_is : (at : ℕ) → covers x at ≡ in_range o size at
  covers_is at = λ i. nat_le (one.begins i) at && nat_lt at (one.ends i)

  -- the piece's bytes are its range of the block's
  pub piece_range : piece_bytes bytes (piece_of_number more n) ≡ range_in o size bytes
  piece_range =
      let long : x.end - x.offset ≡ size = omega (arith, one.begins, one.ends) in
      ap (λ k. piece_bytes bytes (piece_of_number more k)) (sym one.numbered) ∙ ap (piece_bytes bytes) one.joins.there ∙ (λ i. range_in (one.begins i) (long i) bytes)

  pub no_piece : piece_bytes bytes (piece_of_number xs n) ≡ None
  no_piece = ap (λ k. piece_bytes bytes (piece_of_number xs k)) (sym one.numbered) ∙ ap (piece_bytes bytes) one.joins.fresh

  pub other_pieces : (k : ℕ) → k ≢ n → piece_bytes bytes (piece_of_number more k) ≡ piece_bytes bytes (piece_of_number xs k)
  other_pieces k ne = ap (piece_bytes bytes) (one.joins.others k (λ e. ne (e ∙ one.numbered)))

  free_there : (at : ℕ) → in_range o size at ≡ true → is_covered xs at ≡ false
  free_there at is = one.joins.free at (covers_is at ∙ is)

  -- without the piece, its bytes are left
  pub left_there : (at : ℕ) → in_range o size at ≡ true → left_of bytes xs at ≡ byte_at bytes at
  left_there at is = ap (λ b. if b then None else byte_at bytes at) (free_there at is)

  -- with the piece, its bytes aren't left, and all others are as before
  pub left_with : (at : ℕ) → left_of bytes more at ≡ (if in_range o size at then None else left_of bytes xs at)
  left_with at =
      ⊎_elim
      (λ is. ap (λ b. if b then None else byte_at bytes at) (one.joins.covered at (covers_is at ∙ is)) ∙ sym (ap (λ b. if b then None else left_of bytes xs at) is))
      (λ isnt. ap (λ b. if b then None else byte_at bytes at) (one.joins.kept at (covers_is at ∙ isnt)) ∙ sym (ap (λ b. if b then None else left_of bytes xs at) isnt))
      (cases_Bool (in_range o size at))

-- ---- a piece that is given, and one that goes

out_of : (mapped : Bool) (bytes : Option (List ℕ)) (rest : ℕ → Option ℕ) (o size : ℕ) → HasRoom mapped bytes o size
    → ((at : ℕ) → in_range o size at ≡ true → rest at ≡ byte_at bytes at) → IsOutOf mapped rest o size (range_in o size bytes)
out_of false bytes rest o size none same = ap (range_in o size) none
out_of true None rest o size has same = absurd has
out_of true (Some ys) rest o size has same =
    subst (IsOutOf true rest o size) (sym (range_part ys o size has))
    (part_length ys o size has, λ k lt. part_get ys o size k lt ∙ sym (same (o + k) (in_range_from o size k lt)))

-- the list of a new piece comes out of what was left
pub taken_list : (mapped : Bool) (bytes : Option (List ℕ)) (rest : ℕ → Option ℕ) (xs more : List Extent) (n o size : ℕ) → OneMore xs more n o size → HasRoom mapped bytes o size
    → ((at : ℕ) → rest at ≡ left_of bytes xs at) → IsOutOf mapped rest o size (piece_bytes bytes (piece_of_number more n))
taken_list mapped bytes rest xs more n o size one room same =
    subst (IsOutOf mapped rest o size) (sym (piece_range bytes xs more n o size one))
    (out_of mapped bytes rest o size room (λ at is. same at ∙ left_there bytes xs more n o size one at is))

back_byte : (mapped : Bool) (bytes : Option (List ℕ)) (o size at : ℕ) → HasRoom mapped bytes o size → in_range o size at ≡ true → byte_at (range_in o size bytes) (at - o) ≡ byte_at bytes at
back_byte false bytes o size at none is = ap (λ b. byte_at (range_in o size b) (at - o)) none ∙ ap (λ b. byte_at b at) (sym none)
back_byte true None o size at has is = absurd has
back_byte true (Some ys) o size at has is =
    let w = in_range_is o size at is in
    let back : o + (at - o) ≡ at = omega (arith, w.0) in
    ap (λ l. byte_at l (at - o)) (range_part ys o size has) ∙ part_get ys o size (at - o) (omega (arith, w.0, w.1)) ∙ ap (slice_get ys) back

-- a piece's list goes back into what is left
pub put_back : (mapped : Bool) (bytes : Option (List ℕ)) (xs more : List Extent) (n o size : ℕ) → OneMore xs more n o size → HasRoom mapped bytes o size
    → (at : ℕ) → left_of bytes xs at ≡ (if in_range o size at then byte_at (piece_bytes bytes (piece_of_number more n)) (at - o) else left_of bytes more at)
put_back mapped bytes xs more n o size one room at =
    let list = piece_bytes bytes (piece_of_number more n) in
    ⊎_elim
    (λ is. left_there bytes xs more n o size one at is ∙ sym (ap (λ l. byte_at l (at - o)) (piece_range bytes xs more n o size one) ∙ back_byte mapped bytes o size at room is) ∙ sym
    (ap (λ b. if b then byte_at list (at - o) else left_of bytes more at) is))
    (λ isnt. sym (left_with bytes xs more n o size one at ∙ ap (λ b. if b then None else left_of bytes xs at) isnt) ∙ sym (ap (λ b. if b then byte_at list (at - o) else left_of bytes more at) isnt))
    (cases_Bool (in_range o size at))
