-- A new name leaves every live piece live.
use Rattle.std.proofs.Common.{◌≡◌, ◌∙◌, refl, sym, ap, subst, ℕ, ◌<◌, Bool, true, false, if◌then◌else◌, List, [], ◌∷◌, map, length, slice_set, Option, Some, None, Ok, Err, Result, arith, ⊎_elim}
use Rattle.std.specs.Prelude.{All, Contains, ◌==◌}
use Rattle.std.specs.Option.{option_map, option_to_list}
use Rattle.std.specs.Int.NonZero.{non_zero_u64_get}
use Rattle.std.proofs.lemmas.Bool.{cases_eq}
use Rattle.std.proofs.lemmas.List.Elements.{All-nil, All-cons, All-weaker, All-contains}
use Rattle.gpu_block_pieces.specs.Changes as changes
use Rattle.gpu_block_pieces.specs.Changes.{Said, relabel, relabelled}
use Rattle.gpu_block_pieces.proofs.Live.{here, there}
use Rattle.gpu_block.specs.Block.{Block, free_list, dedicated, HoldsPiece, RelabelsIn}
use Rattle.gpu_block_pieces.specs.FreeList.{Extent}
use Rattle.gpu_core.specs.TypeRelease.{SlotHolds, SlotRelabels, IsLive as IsLivePiece}
use Rattle.gpu_core.specs.TypeState.{Slot, slot_at}
use Rattle.gpu_core.specs.declared.piece.Piece.{Piece}
use Rattle.gpu_core.proofs.Slotted.{set_only}
use Rattle.gpu_values.specs.Refusal.{Refusal}
use Rattle.gpu_core.specs.Blocks.{Slots, slots_at}
use Rattle.gpu_core.specs.Rename.{IsRelabelled}
use Rattle.gpu_core.proofs.Placed.{some_below}
use Rattle.gpu_core.proofs.Types.{slots_after}
use Rattle.gpu_pool.specs.Allocate.{Environment, NothingMet, NoHostMemory, Answered}
use Rattle.gpu_pool.specs.Live.{IsLive, StayLive}
use Rattle.gpu_pool.specs.Rename.{RenamesBy, Renames}
use Rattle.gpu_pool.specs.State.{State}
use Rattle.gpu_pool.proofs.Freeing.{type_below}

map_keeps : {A B : Type 0} (f : A → B) (xs : List A) → All (λ z. Contains (map f xs) (f z)) xs
map_keeps f [] = All-nil (λ z. Contains (map f []) (f z))
map_keeps f (y ∷ ys) =
    All-cons (λ z. Contains (map f (y ∷ ys)) (f z)) y ys (here (f y) (map f ys))
    (All-weaker (λ z. Contains (map f ys) (f z)) (λ z. Contains (map f (y ∷ ys)) (f z)) (λ z q. there (f y) (f z) (map f ys) q) ys (map_keeps f ys))

contains_map : {A B : Type 0} (f : A → B) (xs : List A) (x : A) → Contains xs x → Contains (map f xs) (f x)
contains_map f xs x h = All-contains (λ z. Contains (map f xs) (f z)) xs x (map_keeps f xs) h

-- an extent is as it was beside its name and word
abbrev IsAlike : Extent → Extent → Type 0
IsAlike x y = (y.chunk_id ≡ x.chunk_id) × (y.offset ≡ x.offset) × (y.end ≡ x.end)

alike : (b : Bool) (said : Said) (x : Extent) → IsAlike x (if b then relabel said x else x)
alike true (changes.named name) x = (refl, refl, refl)
alike true (changes.worded word) x = (refl, refl, refl)
alike false said x = (refl, refl, refl)

held_named : (said : Said) (o : Option Extent) (x : Extent) → Contains (option_to_list o) x → Contains (option_to_list (option_map (relabel said) o)) (relabel said x)
held_named said None x h = (let l = h.1 in absurd (omega (arith, l)))
held_named said (Some z) x h = contains_map (relabel said) (z ∷ []) x h

-- a new name or word leaves every piece of the block
named_holds : (old : Block) (n : ℕ) (said : Said) (new : Block) → RelabelsIn old n said new → (m o size : ℕ) → HoldsPiece old m o size → HoldsPiece new m o size
named_holds (free_list a) n said (free_list b) r m o size h =
    let x : Extent = h.0 in
    let same : IsAlike x (relabelled n said x) = alike (x.chunk_id == n) said x in (
      relabelled n said x,
      subst (λ (xs : List Extent). Contains xs (relabelled n said x)) (sym r.extents) (contains_map (relabelled n said) a.extents x h.1),
      same.0 ∙ h.2,
      same.1 ∙ h.3,
      same.2 ∙ h.4,
    )
named_holds (free_list a) n said (dedicated b) r m o size h = absurd r
named_holds (dedicated a) n said (free_list b) r m o size h = absurd r
named_holds (dedicated a) n said (dedicated b) r m o size h = (
  relabel said h.0,
  subst (λ b. Contains (option_to_list b.piece) (relabel said h.0)) (sym r.2) (held_named said a.piece h.0 h.1),
  (alike true said h.0).0 ∙ h.2,
  (alike true said h.0).1 ∙ h.3,
  (alike true said h.0).2 ∙ h.4,
)

module _ {H : Type 0} (eq : H → H → Bool) where
  slot_holds : (n : ℕ) (said : Said) (a b : Option (Slot H)) (p : Piece H) → SlotRelabels n said a b → SlotHolds eq p a → SlotHolds eq p b
  slot_holds n said None b p r live = absurd live
  slot_holds n said (Some a) None p r live = absurd r
  slot_holds n said (Some a) (Some b) p r live =
      (ap (λ (k : H). eq k p.handle) r.0 ∙ live.0, named_holds a.block n said b.block r.1 (non_zero_u64_get p.chunk_id) p.offset p.size live.1)

  -- of the slots of one memory type
  slots_hold : (slots : List (Option (Slot H))) (i n : ℕ) (said : Said) (b : Option (Slot H)) (p : Piece H) → i < length slots
      → SlotRelabels n said (slot_at slots i) b → IsLivePiece eq slots p → IsLivePiece eq (slice_set slots i b) p
  slots_hold slots i n said b p below r live =
      let only = set_only slots i b below in
      ⊎_elim
      (λ (here : p.slot ≡ i).
      subst (λ s. SlotHolds eq p s) (sym (ap (slot_at (slice_set slots i b)) here ∙ only.at))
      (slot_holds n said (slot_at slots i) b p r (subst (λ k. SlotHolds eq p (slot_at slots k)) here live)))
      (λ away. subst (λ s. SlotHolds eq p s) (sym (only.others p.slot away)) live)
      (cases_eq p.slot i)

  live_below : (s : Option (Slot H)) (slots : List (Option (Slot H))) (i : ℕ) (p : Piece H) → slot_at slots i ≡ s → SlotHolds eq p s → i < length slots
  live_below None slots i p at live = absurd live
  live_below (Some s) slots i p at live = some_below slots i s at

  pub named_stay : (t : ℕ) (p : Piece H) (said : Said) (old new : Slots H) → IsRelabelled eq t p said old new → StayLive eq old new
  named_stay t p said old new r u q live =
      let slots = slots_at old t in
      let below = live_below (slot_at slots p.slot) slots p.slot p refl r.live in
      subst (λ (ss : Slots H). IsLive eq ss u q) (sym r.slots)
      (⊎_elim
      (λ h.
      let at : IsLivePiece eq slots q = subst (λ k. IsLive eq old k q) h.0 live in
      subst (λ (ss : List (Option (Slot H))). IsLivePiece eq ss q) (sym (h.1 ∙ r.renames.slots))
      (slots_hold slots p.slot _ said r.renames.slot q below r.renames.renames at))
      (λ h. subst (λ (ss : List (Option (Slot H))). IsLivePiece eq ss q) (sym h.1) live)
      (slots_after old t r.left u (type_below eq old t p r.live)))

  module _ {S : Type 0} (t : ℕ) (p : Piece H) (name : List ℕ) (old new : State S H) where
    unchanged : new ≡ old → StayLive eq old.slots new.slots
    unchanged same u q live = subst (λ (s : State S H). IsLive eq s.slots u q) (sym same) live

    stay_by : (met : Environment H) (result : Result (Unit {0}) Refusal) → RenamesBy eq t p name old met result new → StayLive eq old.slots new.slots
    stay_by NothingMet (Ok _) r = named_stay t p (changes.named name) old.slots new.slots r.0
    stay_by NothingMet (Err e) r = unchanged r.1
    stay_by NoHostMemory (Ok _) r = absurd r
    stay_by NoHostMemory (Err e) r = unchanged r.2
    stay_by (Answered size answer) result r = absurd r

    -- what was live is live
    pub renamed_stay : (result : Result (Unit {0}) Refusal) → Renames eq t p name old result new → StayLive eq old.slots new.slots
    renamed_stay result r = stay_by r.0 result r.1
