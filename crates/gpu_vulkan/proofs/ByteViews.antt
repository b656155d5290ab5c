-- The lists and the rest of all blocks, as a piece is given or goes in one block.
use Rattle.std.proofs.Common.{◌≡◌, ◌≢◌, ◌∙◌, ℕ, ◌-◌, refl, sym, ap, subst, Bool, true, false, List, [], Option, Some, None, ⊎_elim}
use Rattle.std.specs.Prelude.{if◌then◌else◌, ◌&&◌, ◌==◌}
use Rattle.std.proofs.lemmas.Bool.{cases_eq, cases_Bool}
use Rattle.gpu_block_pieces.proofs.OrderedLists.{eq_false, eq_true}
use Rattle.gpu_block.specs.Block.{extents_of}
use Rattle.gpu_core.specs.TypeState.{Slot}
use Rattle.gpu_device.specs.Held.{Held, bytes_of}
use Rattle.gpu_device.specs.declared.vulkan.types.DeviceMemory.{DeviceMemory}
use Rattle.gpu_vulkan.specs.Blocks.{Slots}
use Rattle.gpu_core.specs.Blocks.{block_at}
use Rattle.gpu_vulkan.specs.ByteView.{AllocationId, is_same_id, ByteView, byte_view_of, list_in, rest_in, piece_bytes, piece_of_number, byte_at, lies_in, IsOutOf, SplitsRest, JoinsRest, AddsBlock}
use Rattle.gpu_vulkan.specs.ByteView.{DropsBlock}
use Rattle.gpu_vulkan.proofs.Joins.{OneMore}
use Rattle.gpu_vulkan.proofs.Parts.{HasRoom, in_range, left_of, left_with, taken_list, no_piece, other_pieces, put_back}
use Rattle.gpu_core.proofs.Placed.{OnlyBlock, same_place}

abbrev pub place : (t i n : ℕ) → AllocationId
place t i n = record { memory_type = t; slot = i; chunk_id = n }

-- ---- tests of places

abbrev at_block : (t i u j : ℕ) → Bool
at_block t i u j = (t == u) && (i == j)

both_equal : (t i u j : ℕ) → t ≡ u → i ≡ j → at_block t i u j ≡ true
both_equal t i u j a b = ap (λ x. x && (i == j)) (eq_true t u a) ∙ eq_true i j b

not_both : (t i u j : ℕ) → (u ≡ t → j ≡ i → ⊥) → at_block t i u j ≡ false
not_both t i u j ne =
    ⊎_elim
    (λ same. ap (λ x. x && (i == j)) (eq_true t u same) ∙ eq_false i j (λ e. ne (sym same) (sym e)))
    (λ apart. ap (λ x. x && (i == j)) (eq_false t u apart))
    (cases_eq t u)

pub same_as : (q : AllocationId) (t i : ℕ) → q.memory_type ≡ t → q.slot ≡ i → place t i q.chunk_id ≡ q
same_as q t i a b =
    let e = sym a in
    let f = sym b in
    λ l. record { memory_type = e l; slot = f l; chunk_id = q.chunk_id }

-- where a place is another one of the same block, its number is another one
pub other_number : (t i n k : ℕ) → is_same_id (place t i n) (place t i k) ≡ false → k ≢ n
other_number t i n k isnt e = false_true (sym isnt ∙ (ap (λ x. x && ((i == i) && (n == k))) (eq_true t t refl) ∙ (ap (λ x. x && (n == k)) (eq_true i i refl) ∙ eq_true n k (sym e))))
  where
    false_true : false ≡ true → ⊥
    false_true h = cc

-- ---- all blocks from one

-- the lists and the rest of a block are those of another state
pub record SameBlock (u j : ℕ) (old new : ByteView) : Type 0 where
  pub allocation_bytes : (k : ℕ) → new.allocation_bytes (place u j k) ≡ old.allocation_bytes (place u j k)
  pub unallocated_bytes : (at : ℕ) → new.unallocated_bytes u j at ≡ old.unallocated_bytes u j at

abbrev pub OthersSame : (t i : ℕ) → ByteView → ByteView → Type 0
OthersSame t i old new = (u j : ℕ) → (u ≡ t → j ≡ i → ⊥) → SameBlock u j old new

lists_but : (t i n : ℕ) (old new : ByteView) → OthersSame t i old new → ((k : ℕ) → k ≢ n → new.allocation_bytes (place t i k) ≡ old.allocation_bytes (place t i k))
    → (q : AllocationId) → is_same_id (place t i n) q ≡ false → new.allocation_bytes q ≡ old.allocation_bytes q
lists_but t i n old new others lists q isnt =
    ⊎_elim
    (λ here.
    let q_is : place t i q.chunk_id ≡ q = same_as q t i here.0 here.1 in
    let ne = other_number t i n q.chunk_id (ap (is_same_id (place t i n)) q_is ∙ isnt) in
    subst (λ r. new.allocation_bytes r ≡ old.allocation_bytes r) q_is (lists q.chunk_id ne))
    (λ away. (others q.memory_type q.slot away).allocation_bytes q.chunk_id)
    (same_place q.memory_type t q.slot i)

rest_by : (t i : ℕ) (test : ℕ → Bool) (f : ℕ → Option ℕ) (old new : ByteView) → OthersSame t i old new →
    ((at : ℕ) → new.unallocated_bytes t i at ≡ (if test at then f at else old.unallocated_bytes t i at))
    → (u j at : ℕ) → new.unallocated_bytes u j at ≡ (if at_block t i u j && test at then f at else old.unallocated_bytes u j at)
rest_by t i test f old new others rest u j at =
    ⊎_elim
    (λ here.
    ap (λ v. new.unallocated_bytes v j at) here.0 ∙ ap (λ v. new.unallocated_bytes t v at) here.1 ∙ rest at
    ∙ ap (λ o. if test at then f at else o) (ap (λ v. old.unallocated_bytes v i at) (sym here.0) ∙ ap (λ v. old.unallocated_bytes u v at) (sym here.1))
    ∙ sym (ap (λ b. if b && test at then f at else old.unallocated_bytes u j at) (both_equal t i u j (sym here.0) (sym here.1))))
    (λ away. (others u j away).unallocated_bytes at ∙ sym (ap (λ b. if b && test at then f at else old.unallocated_bytes u j at) (not_both t i u j away)))
    (same_place u t j i)

pub takes_out : (mapped : Bool) (t i n o size : ℕ) (old new : ByteView) → OthersSame t i old new → old.allocation_bytes (place t i n) ≡ None
    → IsOutOf mapped (old.unallocated_bytes t i) o size (new.allocation_bytes (place t i n)) → ((k : ℕ) → k ≢ n → new.allocation_bytes (place t i k) ≡ old.allocation_bytes (place t i k))
    → ((at : ℕ) → new.unallocated_bytes t i at ≡ (if in_range o size at then None else old.unallocated_bytes t i at)) → SplitsRest mapped (place t i n) o size old new
takes_out mapped t i n o size old new others fresh list lists rest = record {
  fresh = fresh;
  list = list;
  others = lists_but t i n old new others lists;
  unallocated_bytes = rest_by t i (in_range o size) (λ _. None) old new others rest;
}

pub puts_back : (t i n o size : ℕ) (old new : ByteView) → OthersSame t i old new → new.allocation_bytes (place t i n) ≡ None
    → ((k : ℕ) → k ≢ n → new.allocation_bytes (place t i k) ≡ old.allocation_bytes (place t i k))
    → ((at : ℕ) → new.unallocated_bytes t i at ≡ (if in_range o size at then byte_at (old.allocation_bytes (place t i n)) (at - o) else old.unallocated_bytes t i at)) → JoinsRest (place t i n) o size
    old new
puts_back t i n o size old new others gone lists rest = record {
  gone = gone;
  others = lists_but t i n old new others lists;
  unallocated_bytes = rest_by t i (in_range o size) (λ at. byte_at (old.allocation_bytes (place t i n)) (at - o)) old new others rest;
}

-- ---- of the device's bytes and the slots

-- blocks that stay where they are with the same bytes
pub same_blocks : (held now : Held) (old new : Slots) (t i : ℕ) → ((u j : ℕ) → (u ≡ t → j ≡ i → ⊥) → block_at new u j ≡ block_at old u j)
    → ((u j : ℕ) (s : Slot DeviceMemory) → (u ≡ t → j ≡ i → ⊥) → block_at old u j ≡ Some s → bytes_of now s.handle.0 ≡ bytes_of held s.handle.0)
    → OthersSame t i (byte_view_of held old) (byte_view_of now new)
same_blocks held now old new t i stay bytes u j away = record {
  allocation_bytes = λ k. ap (λ o. list_in now o k) (stay u j away) ∙ same_list (block_at old u j) refl k;
  unallocated_bytes = λ at. ap (λ o. rest_in now o at) (stay u j away) ∙ same_rest (block_at old u j) refl at;
}
  where
    same_list : (o : Option (Slot DeviceMemory)) → block_at old u j ≡ o → (k : ℕ) → list_in now o k ≡ list_in held o k
    same_list None e k = refl
    same_list (Some s) e k = ap (λ b. piece_bytes b (piece_of_number (extents_of s.block) k)) (bytes u j s away e)

    same_rest : (o : Option (Slot DeviceMemory)) → block_at old u j ≡ o → (at : ℕ) → rest_in now o at ≡ rest_in held o at
    same_rest None e at = refl
    same_rest (Some s) e at = ap (λ b. left_of b (extents_of s.block) at) (bytes u j s away e)

module _ (held : Held) (old new : Slots) (t i : ℕ) (a b : Slot DeviceMemory) (at_old : block_at old t i ≡ Some a) (only : OnlyBlock old t i (Some b) new) (handles : b.handle ≡ a.handle)
    (mapped : Bool) (n o size : ℕ) (room : HasRoom mapped (bytes_of held a.handle.0) o size) where
  bytes_is : bytes_of held b.handle.0 ≡ bytes_of held a.handle.0
  bytes_is = ap (λ (m : DeviceMemory). bytes_of held m.0) handles

  list_old : (k : ℕ) → list_in held (block_at old t i) k ≡ piece_bytes (bytes_of held a.handle.0) (piece_of_number (extents_of a.block) k)
  list_old k = ap (λ s. list_in held s k) at_old

  list_new : (k : ℕ) → list_in held (block_at new t i) k ≡ piece_bytes (bytes_of held a.handle.0) (piece_of_number (extents_of b.block) k)
  list_new k = ap (λ s. list_in held s k) only.at ∙ ap (λ x. piece_bytes x (piece_of_number (extents_of b.block) k)) bytes_is

  rest_old : (at : ℕ) → rest_in held (block_at old t i) at ≡ left_of (bytes_of held a.handle.0) (extents_of a.block) at
  rest_old at = ap (λ s. rest_in held s at) at_old

  rest_new : (at : ℕ) → rest_in held (block_at new t i) at ≡ left_of (bytes_of held a.handle.0) (extents_of b.block) at
  rest_new at = ap (λ s. rest_in held s at) only.at ∙ ap (λ x. left_of x (extents_of b.block) at) bytes_is

  others : OthersSame t i (byte_view_of held old) (byte_view_of held new)
  others = same_blocks held held old new t i only.others (λ u j s away e. refl)

  -- a shared block serves: the device's bytes stay
  pub served_byte_view : OneMore (extents_of a.block) (extents_of b.block) n o size → SplitsRest mapped (place t i n) o size (byte_view_of held old) (byte_view_of held new)
  served_byte_view one =
      let bytes = bytes_of held a.handle.0 in
      let xs = extents_of a.block in
      let more = extents_of b.block in
      takes_out mapped t i n o size (byte_view_of held old) (byte_view_of held new) others
      (list_old n ∙ no_piece bytes xs more n o size one)
      (subst (IsOutOf mapped (λ at. rest_in held (block_at old t i) at) o size) (sym (list_new n))
      (taken_list mapped bytes (λ at. rest_in held (block_at old t i) at) xs more n o size one room rest_old))
      (λ k ne. list_new k ∙ other_pieces bytes xs more n o size one k ne ∙ sym (list_old k))
      (λ at. rest_new at ∙ left_with bytes xs more n o size one at ∙ ap (λ r. if in_range o size at then None else r) (sym (rest_old at)))

  -- a piece goes and its block stays
  pub released_byte_view : OneMore (extents_of b.block) (extents_of a.block) n o size → JoinsRest (place t i n) o size (byte_view_of held old) (byte_view_of held new)
  released_byte_view one =
      let bytes = bytes_of held a.handle.0 in
      let xs = extents_of b.block in
      let more = extents_of a.block in
      puts_back t i n o size (byte_view_of held old) (byte_view_of held new) others
      (list_new n ∙ no_piece bytes xs more n o size one)
      (λ k ne. list_new k ∙ sym (other_pieces bytes xs more n o size one k ne) ∙ sym (list_old k))
      (λ at. rest_new at ∙ put_back mapped bytes xs more n o size one room at
      ∙ (λ l. if in_range o size at then byte_at (sym (list_old n) l) (at - o) else sym (rest_old at) l))

-- ---- a block that is new, and one that goes

abbrev pub with_new : (t i : ℕ) → Option (List ℕ) → ByteView → ByteView
with_new t i bytes old = record { allocation_bytes = old.allocation_bytes; unallocated_bytes = λ u j at. if at_block t i u j then byte_at bytes at else old.unallocated_bytes u j at }

pub with_new_adds : (t i : ℕ) (bytes : Option (List ℕ)) (old : ByteView) → AddsBlock t i bytes old (with_new t i bytes old)
with_new_adds t i bytes old = record { allocation_bytes = λ q. refl; unallocated_bytes = λ u j at. refl }

module _ (held now : Held) (old new : Slots) (t i : ℕ) (b : Slot DeviceMemory) (none : block_at old t i ≡ None) (only : OnlyBlock old t i (Some b) new) (mapped : Bool) (n o size : ℕ)
    (room : HasRoom mapped (bytes_of now b.handle.0) o size)
    (stays : (u j : ℕ) (s : Slot DeviceMemory) → block_at old u j ≡ Some s → bytes_of now s.handle.0 ≡ bytes_of held s.handle.0) where
  -- a new block's piece is taken out of that block's bytes
  pub installed_byte_view : OneMore [] (extents_of b.block) n o size → SplitsRest mapped (place t i n) o size (with_new t i (bytes_of now b.handle.0) (byte_view_of held old)) (byte_view_of now new)
  installed_byte_view one =
      let bytes = bytes_of now b.handle.0 in
      let more = extents_of b.block in
      let mid = with_new t i bytes (byte_view_of held old) in
      let same = same_blocks held now old new t i only.others (λ u j s away e. stays u j s e) in
      let list_new : (k : ℕ) → list_in now (block_at new t i) k ≡ piece_bytes bytes (piece_of_number more k) = λ k. ap (λ s. list_in now s k) only.at in
      let list_mid : (k : ℕ) → mid.allocation_bytes (place t i k) ≡ None = λ k. ap (λ s. list_in held s k) none in
      let rest_mid : (at : ℕ) → mid.unallocated_bytes t i at ≡ byte_at bytes at = λ at. ap (λ c. if c then byte_at bytes at else rest_in held (block_at old t i) at) (both_equal t i t i refl refl) in
      takes_out mapped t i n o size mid (byte_view_of now new)
      (λ u j away. record {
        allocation_bytes = λ k. (same u j away).allocation_bytes k;
        unallocated_bytes = λ at. (same u j away).unallocated_bytes at ∙ sym (ap (λ c. if c then byte_at bytes at else rest_in held (block_at old u j) at) (not_both t i u j away));
      })
      (list_mid n)
      (subst (IsOutOf mapped (mid.unallocated_bytes t i) o size) (sym (list_new n)) (taken_list mapped bytes (mid.unallocated_bytes t i) [] more n o size one room rest_mid))
      (λ k ne. list_new k ∙ other_pieces bytes [] more n o size one k ne ∙ sym (list_mid k))
      (λ at. ap (λ s. rest_in now s at) only.at ∙ left_with bytes [] more n o size one at ∙ ap (λ r. if in_range o size at then None else r) (sym (rest_mid at)))

-- a piece's list went back into the rest
abbrev pub with_back : (p : AllocationId) (o size : ℕ) → ByteView → ByteView
with_back p o size old = record {
  allocation_bytes = λ q. if is_same_id p q then None else old.allocation_bytes q;
  unallocated_bytes = λ u j at. if lies_in p o size u j at then byte_at (old.allocation_bytes p) (at - o) else old.unallocated_bytes u j at;
}

place_itself : (p : AllocationId) → is_same_id p p ≡ true
place_itself p = ap (λ b. b && ((p.slot == p.slot) && (p.chunk_id == p.chunk_id))) (eq_true p.memory_type p.memory_type refl) ∙ ap (λ b. b && (p.chunk_id == p.chunk_id)) (eq_true p.slot p.slot refl) ∙
    eq_true p.chunk_id p.chunk_id refl

pub with_back_puts : (p : AllocationId) (o size : ℕ) (old : ByteView) → JoinsRest p o size old (with_back p o size old)
with_back_puts p o size old = record {
  gone = ap (λ b. if b then None else old.allocation_bytes p) (place_itself p);
  others = λ q isnt. ap (λ b. if b then None else old.allocation_bytes q) isnt;
  unallocated_bytes = λ u j at. refl;
}

module _ (held now : Held) (old new : Slots) (t i : ℕ) (a : Slot DeviceMemory) (at_old : block_at old t i ≡ Some a) (only : OnlyBlock old t i None new) (n o size : ℕ)
    (stays : (u j : ℕ) (s : Slot DeviceMemory) → (u ≡ t → j ≡ i → ⊥) → block_at old u j ≡ Some s → bytes_of now s.handle.0 ≡ bytes_of held s.handle.0) where
  -- the last piece of a block goes, and the block with it
  pub dropped_byte_view : OneMore [] (extents_of a.block) n o size → DropsBlock t i (with_back (place t i n) o size (byte_view_of held old)) (byte_view_of now new)
  dropped_byte_view one =
      let bytes = bytes_of held a.handle.0 in
      let more = extents_of a.block in
      let before = byte_view_of held old in
      let mid = with_back (place t i n) o size before in
      let same = same_blocks held now old new t i only.others stays in
      let list_old : (k : ℕ) → before.allocation_bytes (place t i k) ≡ piece_bytes bytes (piece_of_number more k) = λ k. ap (λ s. list_in held s k) at_old in
      let here_none : (k : ℕ) → mid.allocation_bytes (place t i k) ≡ None = λ k.
      ⊎_elim
      (λ is. ap (λ b. if b then None else before.allocation_bytes (place t i k)) is)
      (λ isnt. ap (λ b. if b then None else before.allocation_bytes (place t i k)) isnt ∙ list_old k ∙ other_pieces bytes [] more n o size one k (other_number t i n k isnt))
      (cases_Bool (is_same_id (place t i n) (place t i k))) in
      record {
        allocation_bytes = λ q.
            ⊎_elim
            (λ here.
            let q_is : place t i q.chunk_id ≡ q = same_as q t i here.0 here.1 in
            subst (λ r. list_in now (block_at new r.memory_type r.slot) r.chunk_id ≡ mid.allocation_bytes r) q_is (ap (λ s. list_in now s q.chunk_id) only.at ∙ sym (here_none q.chunk_id)))
            (λ away.
            let isnt : is_same_id (place t i n) q ≡ false = apart_place t i n q away in
            (same q.memory_type q.slot away).allocation_bytes q.chunk_id ∙ sym (ap (λ b. if b then None else before.allocation_bytes q) isnt))
            (same_place q.memory_type t q.slot i);
        unallocated_bytes = λ u j at.
            ⊎_elim
            (λ here.
            ap (λ v. rest_in now (block_at new v j) at) here.0 ∙ ap (λ v. rest_in now (block_at new t v) at) here.1 ∙ ap (λ s. rest_in now s at) only.at
            ∙ sym (ap (λ b. if b then None else mid.unallocated_bytes u j at) (both_equal t i u j (sym here.0) (sym here.1))))
            (λ away.
            (same u j away).unallocated_bytes at
            ∙ sym (ap (λ b. if b && in_range o size at then byte_at (before.allocation_bytes (place t i n)) (at - o) else before.unallocated_bytes u j at) (not_both t i u j away))
            ∙ sym (ap (λ b. if b then None else mid.unallocated_bytes u j at) (not_both t i u j away)))
            (same_place u t j i);
      }
    where
      apart_place : (t i n : ℕ) (q : AllocationId) → (q.memory_type ≡ t → q.slot ≡ i → ⊥) → is_same_id (place t i n) q ≡ false
      apart_place t i n q away =
          ⊎_elim
          (λ e. ap (λ b. b && ((i == q.slot) && (n == q.chunk_id))) (eq_true t q.memory_type e) ∙ ap (λ b. b && (n == q.chunk_id)) (eq_false i q.slot (λ f. away (sym e) (sym f))))
          (λ ne. ap (λ b. b && ((i == q.slot) && (n == q.chunk_id))) (eq_false t q.memory_type ne))
          (cases_eq t q.memory_type)
