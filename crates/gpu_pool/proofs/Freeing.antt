-- What a free leaves: what the source holds, and which pieces are live.
use Rattle.std.proofs.Common.{◌≡◌, refl, sym, ap, subst, ℕ, zero, suc, ◌<◌, Bool, List, [], ◌∷◌, length, slice_set, Option, Some, None, Ok, Err, Result, arith}
use Rattle.gpu_values.specs.Refusal.{Refusal}
use Rattle.gpu_core.specs.TypeRelease.{SlotReleases, ReleasesPiece}
use Rattle.gpu_core.specs.TypeState.{Slot, slot_at}
use Rattle.gpu_core.specs.declared.piece.Piece.{Piece}
use Rattle.gpu_core.proofs.Slotted.{set_only}
use Rattle.gpu_core.specs.Apart.{AreDistinct}
use Rattle.gpu_core.specs.Blocks.{Slots, slots_at}
use Rattle.gpu_core.proofs.Options.{none_some, some_same}
use Rattle.gpu_core.proofs.Placed.{only_block, some_below}
use Rattle.gpu_core.proofs.Sizes.{releases_size}
use Rattle.gpu_core.proofs.StayLive.{released_keeps_others}
use Rattle.gpu_pool.specs.Free.{GivesBackAny, GivesBackOf, PoolFrees}
use Rattle.gpu_pool.specs.Held.{HoldsJustBlocks}
use Rattle.gpu_pool.specs.Live.{IsLive}
use Rattle.gpu_pool.specs.Source.{Removes}
use Rattle.gpu_pool.specs.State.{State, kind_at, over, IsSoundAt}
use Rattle.gpu_pool.specs.declared.source.BlockSource.{Ghosts}
use Rattle.gpu_pool.proofs.Holding.{changed_holds, removed_holds}

-- a live piece's memory type is there
pub type_below : {H : Type 0} (eq : H → H → Bool) (ss : Slots H) (t : ℕ) (p : Piece H) → IsLive eq ss t p → t < length ss
type_below eq [] t p live = absurd live
type_below eq (x ∷ ss) zero p live = omega arith
type_below eq (x ∷ ss) (suc t) p live = let rest = type_below eq ss t p live in omega (arith, rest)

module _ {S H X : Type 0} (g : Ghosts S H X) (eq : H → H → Bool) (t : ℕ) (p : Piece H) where
  module _ (slots : Slots H) (below : t < length slots) (old new : S) where
    abbrev here : List (Option (Slot H))
    here = slots_at slots t

    slot_released : (several : Type 0) (n i : ℕ) (a b : Option (Slot H)) (went : Option H) → slot_at here i ≡ a → SlotReleases several n a went b → GivesBackAny (GivesBackOf g) old went new
        → HoldsJustBlocks g.number (g.held old) slots → HoldsJustBlocks g.number (g.held new) (slice_set slots t (slice_set here i b))
    slot_released several n i None b went at rel is h = absurd rel
    slot_released several n i (Some a) None None at rel is h = absurd (none_some a.handle rel.0)
    slot_released several n i (Some a) (Some b) (Some m) at rel is h = absurd (none_some m (sym rel.0))
    slot_released several n i (Some a) (Some b) None at rel is h =
        let after = slice_set slots t (slice_set here i (Some b)) in
        subst (λ s. HoldsJustBlocks g.number (g.held s) after) (sym is)
        (changed_holds g.number (g.held old) slots after t i a b at
        (only_block slots t i (Some b) (slice_set here i (Some b)) below (set_only here i (Some b) (some_below here i a at))) rel.1 (releases_size a.block n b.block rel.2) h)
    slot_released several n i (Some a) None (Some m) at rel is h =
        let gone : Removes (g.held old) (g.number a.handle) (g.held new) = subst (λ k. Removes (g.held old) (g.number k) (g.held new)) (some_same m a.handle rel.0) is.held in
        removed_holds g.number (g.held old) (g.held new) slots (slice_set slots t (slice_set here i None)) t i a at
        (only_block slots t i None (slice_set here i None) below (set_only here i None (some_below here i a at))) gone h

    released_holds : (several : Type 0) (went : Option H) (left : List (Option (Slot H))) → ReleasesPiece several here p went left → GivesBackAny (GivesBackOf g) old went new
        → HoldsJustBlocks g.number (g.held old) slots → HoldsJustBlocks g.number (g.held new) (slice_set slots t left)
    released_holds several went left r is h =
        subst (λ (x : List (Option (Slot H))). HoldsJustBlocks g.number (g.held new) (slice_set slots t x)) (sym r.slots)
        (slot_released several _ p.slot (slot_at here p.slot) r.slot went refl r.releases is h)

  kinds_after : (old : S) (went : Option H) (new : S) → GivesBackAny (GivesBackOf g) old went new → g.kinds new ≡ g.kinds old
  kinds_after old None new is = ap g.kinds is
  kinds_after old (Some handle) new is = is.constant

  abbrev Holds : State S H → Type 0
  Holds s = HoldsJustBlocks g.number (g.held s.source) s.slots

  pub frees_holds : (old : State S H) (answer : Result (Unit {0}) Refusal) (new : State S H) → PoolFrees (GivesBackOf g) eq t p old answer new → Holds old → Holds new
  frees_holds old (Err e) new f h = subst Holds (sym f.2) h
  frees_holds old (Ok u) new f h =
      let r = f.1.slots in
      subst (HoldsJustBlocks g.number (g.held new.source)) (sym r.slots)
      (released_holds old.slots (type_below eq old.slots t p f.0) old.source new.source _ f.1.went r.left r.releases f.1.source h)

  pub frees_kinds : (old : State S H) (answer : Result (Unit {0}) Refusal) (new : State S H) → PoolFrees (GivesBackOf g) eq t p old answer new → g.kinds new.source ≡ g.kinds old.source
  frees_kinds old (Err e) new f = ap (λ (s : State S H). g.kinds s.source) f.2
  frees_kinds old (Ok u) new f = kinds_after old.source f.1.went new.source f.1.source

-- every other live piece stays live
pub frees_keeps : {S H : Type 0} (gives_back : S → H → S → Type 0) (eq : H → H → Bool) (ks : List (Bool × ℕ)) (t : ℕ) (p : Piece H) (old : State S H) (answer : Result (Unit {0}) Refusal) (new : State S H)
    → IsSoundAt ks old.slots t → PoolFrees gives_back eq t p old answer new → (u : ℕ) (q : Piece H) → IsLive eq old.slots u q → AreDistinct u q t p → IsLive eq new.slots u q
frees_keeps {S} {H} gives_back eq ks t p old (Err e) new sound f u q live other = subst (λ (s : State S H). IsLive eq s.slots u q) (sym f.2) live
frees_keeps {S} {H} gives_back eq ks t p old (Ok _) new sound f u q live other =
    let r = f.1.slots in
    subst (λ (ss : Slots H). IsLive eq ss u q) (sym r.slots)
    (released_keeps_others eq (kind_at ks t).1 t old.slots (type_below eq old.slots t p f.0) sound p _ f.1.went r.left r.releases u q other live)

-- ---- over a model of the source

module _ {S T H : Type 0} (gives_back : S → H → S → Type 0) (seen : T → H → T → Type 0) (view : S → T) (eq : H → H → Bool) (t : ℕ) (p : Piece H) (old new : State S H)
    (each : (handle : H) → gives_back old.source handle new.source → seen (view old.source) handle (view new.source)) where
  back_over : (went : Option H) → GivesBackAny gives_back old.source went new.source → GivesBackAny seen (view old.source) went (view new.source)
  back_over None is = ap view is
  back_over (Some handle) is = each handle is

  pub frees_over : (answer : Result (Unit {0}) Refusal) → PoolFrees gives_back eq t p old answer new → PoolFrees seen eq t p (over view old) answer (over view new)
  frees_over (Ok u) f = (f.0, record { went = f.1.went; slots = f.1.slots; source = back_over f.1.went f.1.source; state = ap (over view) f.1.state })
  frees_over (Err e) f = (f.0, f.1, ap (over view) f.2)
