-- What a memory type keeps by each call: the sums of its slots, and the soundness of their blocks.
use Rattle.std.proofs.Common.{◌≡◌, ℕ, ◌+◌, ◌-◌, ◌≤◌, Bool, true, false, cond, List, [], ◌∷◌, ◌++◌, length, refl, sym, ◌∙◌, ap, subst, arith, Option, Some, None, slice_set}
use Rattle.std.specs.Prelude.{IsTrue, nat_lt}
use Rattle.std.proofs.lemmas.Bool.{lt-ltb}
use Rattle.std.specs.Int.NonZero.{non_zero_u64_get}
use Rattle.gpu_block_pieces.specs.Changes.{Said}
use Rattle.gpu_block_pieces.specs.Request.{Request}
use Rattle.gpu_block.specs.Block.{Block, free_list, dedicated, extents_of, size_of, is_shared, TakesIn, RelabelsIn}
use Rattle.gpu_core.specs.TypeState.{Slot, slot_at, slots_sum, slot_size, shared_in, capacity_of, shared_count, KeepsOneEmptyAtMost}
use Rattle.gpu_core.specs.TypeTake.{PreparesPiece, new_slot, with_block}
use Rattle.gpu_core.specs.TypeRelease.{ReleasesPiece, RelabelsPiece, SlotRelabels}
use Rattle.gpu_core.specs.TypeInvariant.{AreKept}
use Rattle.gpu_core.specs.Slots.{AreSound, SlotIsSound}
use Rattle.gpu_core.specs.declared.piece.Piece.{Piece}
use Rattle.gpu_core.proofs.Slotted.{OnlyAt, sum-set, sound_after, at_below}
use Rattle.gpu_core.proofs.NewSlots.{IsNewSlot, empty_slot, the_end, is_new_slot, with_empty, with_end, put_only}
use Rattle.gpu_core.proofs.EmptyBlocks.{one_empty_after, prepared_empty, freed_empty, renamed_empty}

-- a take and a new name keep a block's form and size
pub takes_same : (old : Block) (r : Request) (o n : ℕ) (new : Block) → TakesIn old r o n new → (size_of new ≡ size_of old) × (is_shared new ≡ is_shared old)
takes_same (free_list old) r o n (free_list new) t = (t.same.0, refl)
takes_same (free_list old) r o n (dedicated new) t = absurd t
takes_same (dedicated old) r o n (free_list new) t = absurd t
takes_same (dedicated old) r o n (dedicated new) t = (ap (λ d. d.size) t.4, refl)

renames_same : (old : Block) (n : ℕ) (said : Said) (new : Block) → RelabelsIn old n said new → (size_of new ≡ size_of old) × (is_shared new ≡ is_shared old)
renames_same (free_list old) n said (free_list new) t = (t.same.0, refl)
renames_same (free_list old) n said (dedicated new) t = absurd t
renames_same (dedicated old) n said (free_list new) t = absurd t
renames_same (dedicated old) n said (dedicated new) t = (ap (λ d. d.size) t.2, refl)

-- a slot is replaced by one that counts the same
sum_same : {H : Type 0} (f : Option (Slot H) → ℕ) (slots : List (Option (Slot H))) (i : ℕ) (s : Slot H) (new : Option (Slot H)) → slot_at slots i ≡ Some s → f new ≡ f (Some s) → slots_sum f
    (slice_set slots i new) ≡ slots_sum f slots
sum_same f slots i s new at same =
    let e = sum-set f slots i new (at_below slots i s at) in
    let here : f (slot_at slots i) ≡ f (Some s) = ap f at in
    omega arith

pub prepared_kept : {H : Type 0} (g : ℕ) (slots : List (Option (Slot H))) (capacity shared : ℕ) (r : Request) (p : Piece H) (new : List (Option (Slot H))) → AreKept g slots capacity shared →
    AreSound g new → PreparesPiece slots r p new → AreKept g new capacity shared
prepared_kept {H = H} g slots capacity shared r p new kept sound t =
    let same = takes_same t.slot.block r p.offset (non_zero_u64_get p.chunk_id) t.after t.takes in
    let after : Slot H = record { handle = t.slot.handle; block = t.after } in
    record {
      pages = kept.pages;
      sound = sound;
      capacity_is = kept.capacity_is ∙ sym (ap capacity_of t.slots ∙ sum_same slot_size slots p.slot t.slot (Some after) t.at same.0);
      shared_is = kept.shared_is ∙ sym (ap shared_count t.slots ∙ sum_same shared_in slots p.slot t.slot (Some after) t.at (ap (λ b. cond b 1 0) same.1));
      empty = prepared_empty slots r p new kept.empty t;
    }

-- equal slots keep the same
pub same_kept : {H : Type 0} (g : ℕ) (slots : List (Option (Slot H))) (capacity shared : ℕ) (new : List (Option (Slot H))) → AreKept g slots capacity shared → new ≡ slots → AreKept g new capacity
    shared
same_kept g slots capacity shared new kept e = subst (λ xs. AreKept g xs capacity shared) (sym e) kept

pub freed_kept : {H : Type 0} (g : ℕ) (slots : List (Option (Slot H))) (capacity shared : ℕ) (p : Piece H) (went : Option H) (new : List (Option (Slot H))) (size more : ℕ) → AreKept g slots
    capacity shared → AreSound g new → ReleasesPiece (IsTrue (nat_lt 1 shared)) slots p went new → capacity_of new + size ≡ capacity_of slots → shared_count new + more ≡ shared_count slots →
    AreKept g new (capacity - size) (shared - more)
freed_kept g slots capacity shared p went new size more kept sound t c s =
    let cap = kept.capacity_is in
    let gen = kept.shared_is in
    record {
      pages = kept.pages;
      sound = sound;
      capacity_is = omega arith;
      shared_is = omega arith;
      empty = freed_empty g slots (IsTrue (nat_lt 1 shared)) p went new kept.sound kept.empty (λ two. lt-ltb 1 shared (omega arith)) t;
    }

renamed_slots : {H : Type 0} (g : ℕ) (slots : List (Option (Slot H))) (capacity shared i n : ℕ) (said : Said) (s : Option (Slot H)) (q : Option (Slot H)) (new : List (Option (Slot H))) → AreKept g
    slots capacity shared → AreSound g new → KeepsOneEmptyAtMost new → slot_at slots i ≡ s → SlotRelabels n said s q → new ≡ slice_set slots i q → AreKept g new capacity shared
renamed_slots g slots capacity shared i n said None q new kept sound empty at t e = absurd t
renamed_slots g slots capacity shared i n said (Some s) None new kept sound empty at t e = absurd t
renamed_slots g slots capacity shared i n said (Some s) (Some q) new kept sound empty at t e =
    let same = renames_same s.block n said q.block t.1 in
    record {
      pages = kept.pages;
      sound = sound;
      capacity_is = kept.capacity_is ∙ sym (ap capacity_of e ∙ sum_same slot_size slots i s (Some q) at same.0);
      shared_is = kept.shared_is ∙ sym (ap shared_count e ∙ sum_same shared_in slots i s (Some q) at (ap (λ b. cond b 1 0) same.1));
      empty = empty;
    }

pub renamed_kept : {H : Type 0} (g : ℕ) (slots : List (Option (Slot H))) (capacity shared : ℕ) (p : Piece H) (said : Said) (new : List (Option (Slot H))) → AreKept g slots capacity shared →
    AreSound g new → RelabelsPiece slots p said new → AreKept g new capacity shared
renamed_kept g slots capacity shared p said new kept sound t =
    renamed_slots g slots capacity shared p.slot (non_zero_u64_get p.chunk_id) said (slot_at slots p.slot) t.slot new kept sound (renamed_empty slots p said new kept.empty t) refl t.renames t.slots

-- ---- a new block

sum_end : {H : Type 0} (f : Option (Slot H) → ℕ) (slots : List (Option (Slot H))) (s : Option (Slot H)) → slots_sum f (slots ++ s ∷ []) ≡ slots_sum f slots + f s
sum_end f [] s = omega arith
sum_end f (x ∷ xs) s = let e = sum_end f xs s in omega arith

put_sum : {H : Type 0} (f : Option (Slot H) → ℕ) (slots : List (Option (Slot H))) (i : ℕ) (s : Slot H) → f None ≡ 0 → IsNewSlot slots i → slots_sum f (with_block slots i s) ≡ slots_sum f slots + f
    (Some s)
put_sum f slots i s none (empty_slot at) =
    let e = sum-set f slots i (Some s) at.below in
    let here : f (slot_at slots i) ≡ f None = ap f at.empty in
    let w = ap (slots_sum f) (with_empty slots i s at.below) in
    omega arith
put_sum f slots i s none (the_end at) = ap (slots_sum f) (with_end slots i s at) ∙ sum_end f slots (Some s)

pub installed_capacity : {H : Type 0} (slots : List (Option (Slot H))) (is_dedicated : Bool) (s : Slot H) → capacity_of (with_block slots (new_slot is_dedicated slots) s) ≡ capacity_of slots +
    size_of s.block
installed_capacity slots is_dedicated s = put_sum slot_size slots (new_slot is_dedicated slots) s refl (is_new_slot is_dedicated slots)

pub installed_kept : {H : Type 0} (g : ℕ) (slots : List (Option (Slot H))) (capacity shared : ℕ) (is_dedicated : Bool) (s : Slot H) (new : List (Option (Slot H))) (size more : ℕ) → AreKept g slots
    capacity shared → SlotIsSound g (Some s) → (extents_of s.block ≡ [] → ⊥) → new ≡ with_block slots (new_slot is_dedicated slots) s → size_of s.block ≡ size → shared_in (Some s) ≡ more → AreKept
    g new (capacity + size) (shared + more)
installed_kept g slots capacity shared is_dedicated s new size more kept here holds e sized counted =
    let at = is_new_slot is_dedicated slots in
    let i = new_slot is_dedicated slots in
    let c = put_sum slot_size slots i s refl at in
    let n = put_sum shared_in slots i s refl at in
    let cap = kept.capacity_is in
    let gen = kept.shared_is in
    let ec = ap capacity_of e in
    let en = ap shared_count e in
    let only : OnlyAt slots i (Some s) new = subst (OnlyAt slots i (Some s)) (sym e) (put_only slots i s at) in
    record {
      pages = kept.pages;
      sound = sound_after g slots i (Some s) new kept.sound only here;
      capacity_is = omega arith;
      shared_is = omega arith;
      empty = one_empty_after slots i (Some s) new kept.empty only (λ h. absurd (holds h));
    }

at_most_one : (b : Bool) → cond b 1 0 ≤ 1
at_most_one true = omega arith
at_most_one false = omega arith

-- there are no more shared blocks than slots
pub count_le : {H : Type 0} (slots : List (Option (Slot H))) → shared_count slots ≤ length slots
count_le [] = omega arith
count_le (None ∷ ss) = let b = count_le ss in omega arith
count_le (Some s ∷ ss) =
    let b = count_le ss in
    let one : shared_in (Some s) ≤ 1 = at_most_one (is_shared s.block) in
    omega arith
