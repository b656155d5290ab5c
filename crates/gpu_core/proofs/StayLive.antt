-- Which pieces stay live: all of them where one is given, all others where one goes.
use Rattle.std.proofs.Common.{◌≡◌, ◌≢◌, ◌∙◌, ℕ, ◌<◌, refl, sym, ap, subst, Bool, true, List, length, slice_set, Option, Some, None, Contains, IfSome, arith, ⊎_elim}
use Rattle.std.specs.Option.{option_to_list}
use Rattle.std.specs.Int.NonZero.{non_zero_u64_get}
use Rattle.gpu_block.specs.Block.{Block, free_list, dedicated, is_shared, TakesIn, ReleasesIn, HoldsPiece, IsSoundBlock}
use Rattle.gpu_block_pieces.specs.FreeList.{Extent}
use Rattle.gpu_block_pieces.specs.Request.{Request}
use Rattle.gpu_core.specs.Slots.{SlotIsSound, AreSound}
use Rattle.gpu_core.specs.TypeRelease.{SlotHolds, SlotReleases, ReleasesPiece}
use Rattle.gpu_core.specs.TypeState.{Slot, slot_at}
use Rattle.gpu_core.specs.TypeTake.{Pending, fresh_block, PreparesPiece, Installs}
use Rattle.gpu_core.specs.declared.piece.Piece.{Piece}
use Rattle.gpu_core.proofs.EmptyBlocks.{takes_holds, holds_some}
use Rattle.gpu_core.proofs.Found.{only_one}
use Rattle.gpu_core.proofs.Slotted.{set_only}
use Rattle.gpu_block_pieces.proofs.Live.{takes_keeps, takes_new_chunk_id, releases_keeps}
use Rattle.gpu_core.specs.Blocks.{Slots, slots_at, block_at}
use Rattle.gpu_core.specs.Live.{IsLiveIn}
use Rattle.gpu_core.proofs.Placed.{OnlyBlock, only_block, installs_only, prepares_only, some_below, same_place}

-- ---- one block

taken_keeps : (old : Block) (r : Request) (o n : ℕ) (new : Block) → is_shared old ≡ true → TakesIn old r o n new → (k off size : ℕ) → HoldsPiece old k off size → HoldsPiece new k off size
taken_keeps (free_list old) r o n (free_list new) shared t k off size h = (h.0, takes_keeps old r o n new t h.0 h.1, h.2, h.3, h.4)
taken_keeps (free_list old) r o n (dedicated new) shared t k off size h = absurd t
taken_keeps (dedicated old) r o n new shared t k off size h = cc

-- the number of a piece that is taken is no other live piece's
taken_number : (old : Block) (r : Request) (o n : ℕ) (new : Block) → is_shared old ≡ true → IsSoundBlock old → IsSoundBlock new → TakesIn old r o n new
    → (k off size : ℕ) → HoldsPiece old k off size → k ≡ n → ⊥
taken_number (free_list old) r o n (free_list new) shared before after t k off size h e = takes_new_chunk_id old r o n new before after t (h.0, h.1, h.2 ∙ e)
taken_number (free_list old) r o n (dedicated new) shared before after t k off size h e = t
taken_number (dedicated old) r o n new shared before after t k off size h e = cc

held_one : (o : Option Extent) (size : ℕ) → IfSome o (λ x. (x.start ≡ 0) × (x.offset ≡ 0) × (x.end ≡ size) × (x.chunk_id ≡ 1)) → (x : Extent) → Contains (option_to_list o) x → x.chunk_id ≡ 1
held_one None size whole x h = let l = h.1 in absurd (omega (arith, l))
held_one (Some y) size whole x h = ap (λ (z : Extent). z.chunk_id) (only_one (Some y) x y h (0, omega arith, refl)) ∙ whole.3

released_keeps : (old : Block) (n : ℕ) (new : Block) → IsSoundBlock old → ReleasesIn old n new → (k off size : ℕ) → k ≢ n → HoldsPiece old k off size → HoldsPiece new k off size
released_keeps (free_list old) n (free_list new) sound t k off size ne h = (h.0, releases_keeps old n new sound t h.0 h.1 (λ e. ne (sym h.2 ∙ e)), h.2, h.3, h.4)
released_keeps (free_list old) n (dedicated new) sound t k off size ne h = absurd t
released_keeps (dedicated old) n (free_list new) sound t k off size ne h = absurd t
released_keeps (dedicated old) n (dedicated new) sound t k off size ne h = absurd (ne (sym h.2 ∙ held_one old.piece old.size sound h.0 h.1 ∙ sym t.1))

pub sound_slot : {H : Type 0} (granularity : ℕ) (ss : Slots H) (t i : ℕ) (s : Slot H) → AreSound granularity (slots_at ss t) → block_at ss t i ≡ Some s → IsSoundBlock s.block
sound_slot granularity ss t i s sound at = (subst (SlotIsSound granularity) at (sound i)).1

-- ---- one block among all

module _ {H : Type 0} (eq : H → H → Bool) (old new : Slots H) (t i : ℕ) (s : Option (Slot H)) (only : OnlyBlock old t i s new) where
  -- a piece of another block stays, and one of this block where the change keeps it
  pub keeps_by : (u : ℕ) (p : Piece H) → (SlotHolds eq p (block_at old t i) → u ≡ t → p.slot ≡ i → SlotHolds eq p s) → IsLiveIn eq old u (Some p) → IsLiveIn eq new u (Some p)
  keeps_by u p here live =
      ⊎_elim
      (λ at.
      let live_here : SlotHolds eq p (block_at old t i) = subst (λ j. SlotHolds eq p (block_at old t j)) at.1 (subst (λ v. SlotHolds eq p (block_at old v p.slot)) at.0 live) in
      let there : SlotHolds eq p (block_at new t i) = subst (SlotHolds eq p) (sym only.at) (here live_here at.0 at.1) in
      subst (λ v. SlotHolds eq p (block_at new v p.slot)) (sym at.0) (subst (λ j. SlotHolds eq p (block_at new t j)) (sym at.1) there))
      (λ away. subst (SlotHolds eq p) (sym (only.others u p.slot away)) live)
      (same_place u t p.slot i)

-- a piece of a block that stands in its slot is live
pub live_at : {H : Type 0} (eq : H → H → Bool) (same : (h : H) → eq h h ≡ true) (ss : Slots H) (t : ℕ) (p : Piece H) (b : Slot H)
    → block_at ss t p.slot ≡ Some b → b.handle ≡ p.handle → HoldsPiece b.block (non_zero_u64_get p.chunk_id) p.offset p.size → IsLiveIn eq ss t (Some p)
live_at eq same ss t p b at number holds =
    subst (SlotHolds eq p) (sym at) (subst (λ n. eq b.handle n ≡ true) number (same b.handle), holds)

-- ---- a request

-- a piece that is allocated is live and none of those that were, which all stay live
pub record IsNewPiece {H : Type 0} (eq : H → H → Bool) (t : ℕ) (old new : Slots H) (p : Piece H) : Type 0 where
  pub keeps : (u : ℕ) (q : Piece H) → IsLiveIn eq old u (Some q) → IsLiveIn eq new u (Some q)
  pub live : IsLiveIn eq new t (Some p)
  pub other : (u : ℕ) (q : Piece H) → IsLiveIn eq old u (Some q) → u ≡ t → q.slot ≡ p.slot → non_zero_u64_get q.chunk_id ≢ non_zero_u64_get p.chunk_id

module _ {H : Type 0} (eq : H → H → Bool) (same : (h : H) → eq h h ≡ true) (granularity t : ℕ) (r : Request) (old : Slots H) (below : t < length old) (sound : AreSound granularity (slots_at old t)) where
  pub served_keeps : (p : Piece H) (taken : List (Option (Slot H))) → PreparesPiece (slots_at old t) r p taken → AreSound granularity (slots_at (slice_set old t taken) t)
      → IsNewPiece eq t old (slice_set old t taken) p
  served_keeps p taken s after =
      let new = slice_set old t taken in
      let b : Slot H = record s.slot { block = s.after } in
      let n = non_zero_u64_get p.chunk_id in
      let only = only_block old t p.slot (Some b) taken below (prepares_only (slots_at old t) r p taken s) in
      let holds_piece : HoldsPiece s.after n p.offset p.size = subst (HoldsPiece s.after n p.offset) (sym s.size) (takes_holds s.slot.block r p.offset n s.after s.takes) in
      let live = live_at eq same new t p b only.at (sym s.handle) holds_piece in
      let held : (z : Piece H) → SlotHolds eq z (block_at old t p.slot) → SlotHolds eq z (Some s.slot) = λ z h. subst (SlotHolds eq z) s.at h in
      record {
        keeps = λ u z was. keeps_by eq old new t p.slot (Some b) only u z
            (λ h type slot. ((held z h).0, taken_keeps s.slot.block r p.offset n s.after s.shared s.takes (non_zero_u64_get z.chunk_id) z.offset z.size (held z h).1)) was;
        live = live;
        other = λ u z was type slot number.
            let here : SlotHolds eq z (block_at old t p.slot) =
            subst (λ j. SlotHolds eq z (block_at old t j)) slot (subst (λ v. SlotHolds eq z (block_at old v z.slot)) type was) in
            taken_number s.slot.block r p.offset n s.after s.shared (sound_slot granularity old t p.slot s.slot sound s.at) (sound_slot granularity new t p.slot b after only.at) s.takes
            (non_zero_u64_get z.chunk_id) z.offset z.size (held z here).1 number;
      }

  pub installed_keeps : (own : Bool) (size : ℕ) (ready : Pending) (n : H) (p : Piece H) (x : List (Option (Slot H)))
      → TakesIn (fresh_block own size granularity) r ready.offset ready.chunk_id ready.block → ready.size ≡ r.size → Installs (slots_at old t) own ready n p x
      → IsNewPiece eq t old (slice_set old t x) p
  installed_keeps own size ready n p x takes sized made =
      let new = slice_set old t x in
      let b : Slot H = record { handle = n; block = ready.block } in
      let k = non_zero_u64_get p.chunk_id in
      let only_at = installs_only (slots_at old t) own ready n p x made in
      let only = only_block old t p.slot (Some b) x below only_at.1 in
      let none : block_at old t p.slot ≡ None = only_at.0 in
      let taken : HoldsPiece ready.block ready.chunk_id ready.offset r.size = takes_holds (fresh_block own size granularity) r ready.offset ready.chunk_id ready.block takes in
      let long : p.size ≡ r.size = made.piece.2 ∙ sized in
      let at_number : HoldsPiece ready.block k ready.offset r.size = subst (λ m. HoldsPiece ready.block m ready.offset r.size) (sym made.piece.1) taken in
      let at_offset : HoldsPiece ready.block k p.offset r.size = subst (λ o. HoldsPiece ready.block k o r.size) (sym made.piece.0) at_number in
      let holds_piece : HoldsPiece ready.block k p.offset p.size = subst (HoldsPiece ready.block k p.offset) (sym long) at_offset in
      let live = live_at eq same new t p b only.at (sym made.piece.3) holds_piece in
      let nothing : (z : Piece H) → SlotHolds eq z (block_at old t p.slot) → ⊥ = λ z h. subst (SlotHolds eq z) none h in
      record {
        keeps = λ u z was. keeps_by eq old new t p.slot (Some b) only u z (λ h type slot. absurd (nothing z h)) was;
        live = live;
        other = λ u z was type slot number.
            nothing z (subst (λ j. SlotHolds eq z (block_at old t j)) slot (subst (λ v. SlotHolds eq z (block_at old v z.slot)) type was));
      }

-- ---- a release

module _ {H : Type 0} (eq : H → H → Bool) (granularity t : ℕ) (old : Slots H) (below : t < length old) (sound : AreSound granularity (slots_at old t)) (p : Piece H) where
  abbrev n : ℕ
  n = non_zero_u64_get p.chunk_id

  left_by : (several : Type 0) (a b : Option (Slot H)) (went : Option H) → block_at old t p.slot ≡ a → SlotReleases several n a went b
      → (u : ℕ) (z : Piece H) → (u ≡ t → z.slot ≡ p.slot → non_zero_u64_get z.chunk_id ≡ n → ⊥) → IsLiveIn eq old u (Some z) → IsLiveIn eq (slice_set old t (slice_set (slots_at old t) p.slot b)) u
      (Some z)
  left_by several None b went at rel u z other live = absurd rel
  left_by several (Some a) (Some b) went at rel u z other live =
      let slots = slots_at old t in
      let new = slice_set old t (slice_set slots p.slot (Some b)) in
      let only = only_block old t p.slot (Some b) (slice_set slots p.slot (Some b)) below (set_only slots p.slot (Some b) (some_below slots p.slot a at)) in
      keeps_by eq old new t p.slot (Some b) only u z
      (λ h type slot.
      let here : SlotHolds eq z (Some a) = subst (SlotHolds eq z) at h in
      let kept = released_keeps a.block n b.block (sound_slot granularity old t p.slot a sound at) rel.2 (non_zero_u64_get z.chunk_id) z.offset z.size (λ e. other type slot e) here.1 in
      (subst (λ (m : H). eq m z.handle ≡ true) (sym rel.1) here.0, kept))
      live
  left_by several (Some a) None went at rel u z other live =
      let slots = slots_at old t in
      let new = slice_set old t (slice_set slots p.slot None) in
      let only = only_block old t p.slot None (slice_set slots p.slot None) below (set_only slots p.slot None (some_below slots p.slot a at)) in
      keeps_by eq old new t p.slot None only u z
      (λ h type slot.
      let here : SlotHolds eq z (Some a) = subst (SlotHolds eq z) at h in
      let left = released_keeps a.block n rel.1.0 (sound_slot granularity old t p.slot a sound at) rel.1.1 (non_zero_u64_get z.chunk_id) z.offset z.size (λ e. other type slot e) here.1 in
      holds_some rel.1.0 (non_zero_u64_get z.chunk_id) z.offset z.size left rel.1.2.0)
      live

  -- a release leaves every other live piece live
  pub released_keeps_others : (several : Type 0) (went : Option H) (left : List (Option (Slot H))) → ReleasesPiece several (slots_at old t) p went left
      → (u : ℕ) (z : Piece H) → (u ≡ t → z.slot ≡ p.slot → non_zero_u64_get z.chunk_id ≡ n → ⊥) → IsLiveIn eq old u (Some z) → IsLiveIn eq (slice_set old t left) u (Some z)
  released_keeps_others several went left r u z other live =
      subst (λ (x : List (Option (Slot H))). IsLiveIn eq (slice_set old t x) u (Some z)) (sym r.slots)
      (left_by several (slot_at (slots_at old t) p.slot) r.slot went refl r.releases u z other live)
