-- The blocks of a memory type that are without pieces: at most one is kept, and it is shared.
use Rattle.std.proofs.Common.{◌≡◌, ◌≢◌, ℕ, zero, suc, ◌+◌, ◌<◌, ◌≤◌, false, cond, List, [], ◌∷◌, map, refl, sym, ◌∙◌, ap, subst, inl, inr, arith, Option, Some, None, slice_set}
use Rattle.std.specs.Prelude.{Contains, IsSome}
use Rattle.std.specs.Option.{option_map, option_to_list}
use Rattle.std.specs.Int.NonZero.{non_zero_u64_get}
use Rattle.std.proofs.lemmas.Bool.{false≢true, cases_eq}
use Rattle.gpu_block_pieces.specs.Changes.{Said, relabel}
use Rattle.gpu_block_pieces.specs.FreeList.{Extent}
use Rattle.gpu_block.specs.Dedicated.{held_extents, whole_extent}
use Rattle.gpu_block_pieces.specs.Request.{Request}
use Rattle.gpu_block.specs.Block.{Block, free_list, dedicated, extents_of, is_shared, HoldsPiece, TakesIn, ReleasesIn, RelabelsIn, IsSoundBlock}
use Rattle.gpu_core.specs.TypeState.{Slot, slot_at, slots_sum, shared_in, shared_count, HasEmptyBlock, IsOneGap, HasOneGap, KeepsOneEmptyAtMost}
use Rattle.gpu_core.specs.TypeTake.{PreparesPiece}
use Rattle.gpu_core.specs.TypeRelease.{Goes, SlotReleases, ReleasesPiece, SlotRelabels, RelabelsPiece}
use Rattle.gpu_core.specs.Slots.{AreSound, SlotIsSound}
use Rattle.gpu_core.specs.declared.piece.Piece.{Piece}
use Rattle.gpu_block_pieces.proofs.Empty.{empty_gap, empty_only}
use Rattle.gpu_block_pieces.proofs.Live.{piece_held, piece_of}
use Rattle.gpu_block_pieces.proofs.Separation.{within_of}
use Rattle.gpu_core.proofs.Slotted.{OnlyAt, set_only, at_below}

-- ---- blocks that hold a piece

not_empty : {X : Type 0} (xs : List X) (x : X) → Contains xs x → xs ≡ [] → ⊥
not_empty xs x h e = let l = (subst (λ ys. Contains ys x) e h).1 in omega arith

pub holds_some : (b : Block) (n o size : ℕ) → HoldsPiece b n o size → extents_of b ≡ [] → ⊥
holds_some b n o size h e = not_empty (extents_of b) h.0 h.1 e

-- what a take puts into a block
pub takes_holds : (old : Block) (r : Request) (o n : ℕ) (new : Block) → TakesIn old r o n new → HoldsPiece new n o r.size
takes_holds (free_list old) r o n (free_list new) t = (piece_of old r o n new t, piece_held old r o n new t, refl, refl, refl)
takes_holds (free_list old) r o n (dedicated new) t = absurd t
takes_holds (dedicated old) r o n (free_list new) t = absurd t
takes_holds (dedicated old) r o n (dedicated new) t =
    (whole_extent r, subst (λ (xs : List Extent). Contains xs (whole_extent r)) (sym (ap held_extents t.4)) (0, omega arith, refl), sym t.3, sym t.2, (let e = t.2 in omega arith))

map_some : {X Y : Type 0} (f : X → Y) (xs : List X) → map f xs ≡ [] → xs ≡ []
map_some f [] e = refl
map_some f (x ∷ xs) e = absurd (cc)

named_some : (o : Option Extent) (said : Said) → IsSome o → option_to_list (option_map (relabel said) o) ≡ [] → ⊥
named_some None said some e = absurd (false≢true some)
named_some (Some x) said some e = absurd (cc)

renames_some : (old : Block) (n : ℕ) (said : Said) (new : Block) → RelabelsIn old n said new → extents_of new ≡ [] → ⊥
renames_some (free_list old) n said (free_list new) t e = not_empty old.extents t.held.0 t.held.1 (map_some _ old.extents (sym t.extents ∙ e))
renames_some (free_list old) n said (dedicated new) t e = t
renames_some (dedicated old) n said (free_list new) t e = t
renames_some (dedicated old) n said (dedicated new) t e = named_some old.piece said t.0 (sym (ap held_extents t.2) ∙ e)

-- ---- a block that is emptied

abbrev shared_number : Block → ℕ
shared_number b = cond (is_shared b) 1 0

-- an emptied free list is one gap
pub released_gap : (b : Block) (n : ℕ) (after : Block) → IsSoundBlock b → ReleasesIn b n after → extents_of after ≡ [] → (is_shared after ≡ false → ⊥) → IsOneGap after
released_gap (free_list b) n (free_list after) sound t e shared =
    let within = within_of b t.gone sound t.held in
    let low = within.0 in let high = within.1 in
    let size : after.size ≡ b.size = t.same.0 in
    let some : 0 < after.size = omega arith in
    (empty_gap after e some, λ s f gap. empty_only after s f e gap)
released_gap (free_list b) n (dedicated after) sound t e shared = absurd t
released_gap (dedicated b) n (free_list after) sound t e shared = absurd t
released_gap (dedicated b) n (dedicated after) sound t e shared = absurd (shared refl)

block_is_shared : (b : Block) → IsOneGap b → shared_number b ≡ 1
block_is_shared (free_list b) h = refl
block_is_shared (dedicated b) h = absurd h

gap_is_shared : {H : Type 0} (s : Option (Slot H)) → HasOneGap s → shared_in s ≡ 1
gap_is_shared None h = absurd h
gap_is_shared (Some s) h = block_is_shared s.block h

general_shared : (b : Block) → (is_shared b ≡ false → ⊥) → shared_number b ≡ 1
general_shared (free_list b) h = refl
general_shared (dedicated b) h = absurd (h refl)

pub released_form : (b : Block) (n : ℕ) (after : Block) → ReleasesIn b n after → is_shared after ≡ is_shared b
released_form (free_list b) n (free_list after) t = refl
released_form (free_list b) n (dedicated after) t = absurd t
released_form (dedicated b) n (free_list after) t = absurd t
released_form (dedicated b) n (dedicated after) t = refl

-- ---- sums over two slots

sum_above : {H : Type 0} (f : Option (Slot H) → ℕ) (slots : List (Option (Slot H))) (i : ℕ) → f None ≡ 0 → f (slot_at slots i) ≤ slots_sum f slots
sum_above f [] i none = omega arith
sum_above f (s ∷ ss) zero none = omega arith
sum_above f (s ∷ ss) (suc i) none = let b = sum_above f ss i none in omega arith

two_above : {H : Type 0} (f : Option (Slot H) → ℕ) (slots : List (Option (Slot H))) (i j : ℕ) → f None ≡ 0 → i ≢ j → f (slot_at slots i) + f (slot_at slots j) ≤ slots_sum f slots
two_above f [] i j none ne = omega arith
two_above f (s ∷ ss) zero zero none ne = absurd (ne refl)
two_above f (s ∷ ss) zero (suc j) none ne = let b = sum_above f ss j none in omega arith
two_above f (s ∷ ss) (suc i) zero none ne = let b = sum_above f ss i none in omega arith
two_above f (s ∷ ss) (suc i) (suc j) none ne = let b = two_above f ss i j none (λ e. ne (ap suc e)) in omega arith

-- ---- one slot is changed

pub one_empty_after : {H : Type 0} (old : List (Option (Slot H))) (i : ℕ) (s : Option (Slot H)) (new : List (Option (Slot H))) → KeepsOneEmptyAtMost old → OnlyAt old i s new →
    (HasEmptyBlock s → HasOneGap s × ((j : ℕ) → j ≢ i → HasEmptyBlock (slot_at old j) → ⊥)) → KeepsOneEmptyAtMost new
one_empty_after {H = H} old i s new kept only here =
    let at : HasEmptyBlock (slot_at new i) → HasEmptyBlock s = λ h. subst (λ (x : Option (Slot H)). HasEmptyBlock x) only.at h in
    let before : (j : ℕ) → j ≢ i → HasEmptyBlock (slot_at new j) → HasEmptyBlock (slot_at old j) = λ j ne h. subst (λ (x : Option (Slot H)). HasEmptyBlock x) (only.others j ne) h in
    record {
      one = λ j k hj hk.
          elim (cases_eq j i) [
            | inl ej ↦ elim (cases_eq k i) [
              | inl ek ↦ ej ∙ sym ek
              | inr nk ↦ absurd ((here (at (subst (λ n. HasEmptyBlock (slot_at new n)) ej hj))).1 k nk (before k nk hk))
            ]
            | inr nj ↦ elim (cases_eq k i) [
              | inl ek ↦ absurd ((here (at (subst (λ n. HasEmptyBlock (slot_at new n)) ek hk))).1 j nj (before j nj hj))
              | inr nk ↦ kept.one j k (before j nj hj) (before k nk hk)
            ]
          ];
      whole = λ j hj.
          elim (cases_eq j i) [
            | inl ej ↦ subst (λ (x : Option (Slot H)). HasOneGap x) (sym (ap (slot_at new) ej ∙ only.at)) (here (at (subst (λ n. HasEmptyBlock (slot_at new n)) ej hj))).0
            | inr nj ↦ subst (λ (x : Option (Slot H)). HasOneGap x) (sym (only.others j nj)) (kept.whole j (before j nj hj))
          ];
    }

-- the slot is replaced by one whose block has a piece, or by an empty one
pub one_empty_set : {H : Type 0} (slots : List (Option (Slot H))) (i : ℕ) (old : Slot H) (s : Option (Slot H)) (new : List (Option (Slot H))) → KeepsOneEmptyAtMost slots → slot_at slots i ≡ Some old
    → new ≡ slice_set slots i s → (HasEmptyBlock s → ⊥) → KeepsOneEmptyAtMost new
one_empty_set slots i old s new kept at e none =
    one_empty_after slots i s new kept (subst (OnlyAt slots i s) (sym e) (set_only slots i s (at_below slots i old at))) (λ h. absurd (none h))

pub prepared_empty : {H : Type 0} (slots : List (Option (Slot H))) (r : Request) (p : Piece H) (new : List (Option (Slot H))) → KeepsOneEmptyAtMost slots → PreparesPiece slots r p new →
    KeepsOneEmptyAtMost new
prepared_empty {H = H} slots r p new kept t =
    let after : Slot H = record { handle = t.slot.handle; block = t.after } in
    one_empty_set slots p.slot t.slot (Some after) new kept t.at t.slots
    (holds_some t.after (non_zero_u64_get p.chunk_id) p.offset r.size (takes_holds t.slot.block r p.offset (non_zero_u64_get p.chunk_id) t.after t.takes))

renamed_slot : {H : Type 0} (slots : List (Option (Slot H))) (i n : ℕ) (said : Said) (s q : Option (Slot H)) (new : List (Option (Slot H))) → KeepsOneEmptyAtMost slots → slot_at slots i ≡ s →
    SlotRelabels n said s q → new ≡ slice_set slots i q → KeepsOneEmptyAtMost new
renamed_slot slots i n said None q new kept at t e = absurd t
renamed_slot slots i n said (Some s) None new kept at t e = absurd t
renamed_slot slots i n said (Some s) (Some q) new kept at t e =
    one_empty_set slots i s (Some q) new kept at e (renames_some s.block n said q.block t.1)

pub renamed_empty : {H : Type 0} (slots : List (Option (Slot H))) (p : Piece H) (said : Said) (new : List (Option (Slot H))) → KeepsOneEmptyAtMost slots → RelabelsPiece slots p said new →
    KeepsOneEmptyAtMost new
renamed_empty slots p said new kept t =
    renamed_slot slots p.slot (non_zero_u64_get p.chunk_id) said (slot_at slots p.slot) t.slot new kept refl t.renames t.slots

-- an emptied block that stays is the only shared one
module _ {H : Type 0} (slots : List (Option (Slot H))) (i n : ℕ) (several : Type 0) (s q : Slot H) (kept : KeepsOneEmptyAtMost slots) (sound : IsSoundBlock s.block) (at : slot_at slots i ≡ Some s)
    (t : ReleasesIn s.block n q.block) (stays : Goes several q.block → ⊥) (counts : 2 ≤ shared_count slots → several) where
  stays_shared : extents_of q.block ≡ [] → is_shared q.block ≡ false → ⊥
  stays_shared e h = stays (e, inl h)

  others_hold : extents_of q.block ≡ [] → (j : ℕ) → j ≢ i → HasEmptyBlock (slot_at slots j) → ⊥
  others_hold e j ne h =
      let form = released_form s.block n q.block t in
      let one : shared_in (slot_at slots i) ≡ 1 = ap shared_in at ∙ general_shared s.block (λ f. stays_shared e (form ∙ f)) in
      let other : shared_in (slot_at slots j) ≡ 1 = gap_is_shared (slot_at slots j) (kept.whole j h) in
      let sum = two_above shared_in slots i j refl (λ k. ne (sym k)) in
      let two : 2 ≤ shared_count slots = omega arith in
      stays (e, inr (counts two))

  pub stays_gap : HasEmptyBlock (Some q) → HasOneGap (Some q) × ((j : ℕ) → j ≢ i → HasEmptyBlock (slot_at slots j) → ⊥)
  stays_gap e = (released_gap s.block n q.block sound t e (stays_shared e), others_hold e)

freed_slot : {H : Type 0} (g : ℕ) (slots : List (Option (Slot H))) (several : Type 0) (i n : ℕ) (s : Option (Slot H)) (went : Option H) (q : Option (Slot H)) (new : List (Option (Slot H))) →
    KeepsOneEmptyAtMost slots → SlotIsSound g s → (2 ≤ shared_count slots → several) → slot_at slots i ≡ s → SlotReleases several n s went q → new ≡ slice_set slots i q → KeepsOneEmptyAtMost new
freed_slot g slots several i n None went q new kept sound counts at t e = absurd t
freed_slot g slots several i n (Some s) went None new kept sound counts at t e = one_empty_set slots i s None new kept at e (λ h. h)
freed_slot g slots several i n (Some s) went (Some q) new kept sound counts at t e =
    one_empty_after slots i (Some q) new kept (subst (OnlyAt slots i (Some q)) (sym e) (set_only slots i (Some q) (at_below slots i s at)))
    (stays_gap slots i n several s q kept sound.1 at t.2 t.3 counts)

pub freed_empty : {H : Type 0} (g : ℕ) (slots : List (Option (Slot H))) (several : Type 0) (p : Piece H) (went : Option H) (new : List (Option (Slot H))) → AreSound g slots → KeepsOneEmptyAtMost
    slots → (2 ≤ shared_count slots → several) → ReleasesPiece several slots p went new → KeepsOneEmptyAtMost new
freed_empty g slots several p went new sound kept counts t =
    freed_slot g slots several p.slot (non_zero_u64_get p.chunk_id) (slot_at slots p.slot) went t.slot new kept (sound p.slot) counts refl t.releases t.slots
