-- Which pieces stay live, and that the blocks of a pool are sound.
use Rattle.std.proofs.Common.{◌≡◌, ◌∙◌, sym, ap, subst, ℕ, ◌<◌, ◌%◌, Bool, true, List, Option, length, slice_set, Ok, Err, Result, IfOk}
use Rattle.std.proofs.lemmas.List.{length-map}
use Rattle.gpu_values.specs.Refusal.{Refusal}
use Rattle.gpu_values.specs.declared.error.AllocationError.{AllocationError}
use Rattle.gpu_core.specs.Slots.{AreSound}
use Rattle.gpu_core.specs.TypeState.{Slot}
use Rattle.gpu_core.specs.declared.piece.Piece.{Piece}
use Rattle.gpu_core.specs.Blocks.{Slots, slots_at}
use Rattle.gpu_core.specs.Types.{Types, slots_of, type_of, kinds, MemoryTypesInvariant}
use Rattle.gpu_core.proofs.Aligned.{takes_aligned}
use Rattle.gpu_core.proofs.StayLive.{IsNewPiece, served_keeps, installed_keeps}
use Rattle.gpu_core.proofs.Types.{type_sound}
use Rattle.gpu_pool.specs.Allocate.{RequestAt, Environment, NothingMet, NoHostMemory, Answered, PoolServes, PoolAllocates}
use Rattle.gpu_pool.specs.Live.{IsLive, StayLive, IsNewlyLive}
use Rattle.gpu_pool.specs.Source.{result_of}
use Rattle.gpu_pool.specs.State.{State, kind_at, IsSoundAt}
use Rattle.gpu_pool.proofs.TypeKinds.{kind_is}

-- the blocks of each memory type are sound with its pages
pub sound_at : {H : Type 0} (types : Types H) (ks : List (Bool × ℕ)) → kinds types ≡ ks → MemoryTypesInvariant types → (t : ℕ) → IsSoundAt ks (slots_of types) t
sound_at types ks same kept t =
    let pages : (type_of types t).granularity ≡ (kind_at ks t).1 = ap (λ (k : Bool × ℕ). k.1) (kind_is types t) ∙ ap (λ k. (kind_at k t).1) same in
    subst (λ n. AreSound n (slots_at (slots_of types) t)) pages (type_sound types kept t)

-- there are as many lists of slots as memory types
pub as_many : {H : Type 0} (types : Types H) (ks : List (Bool × ℕ)) → kinds types ≡ ks → length (slots_of types) ≡ length ks
as_many types ks same = length-map types (λ t. t.slots) ∙ sym (length-map types (λ t. (t.is_host, t.granularity))) ∙ ap length same

-- what a result makes of live pieces
pub record Owns {H : Type 0} (eq : H → H → Bool) (t : ℕ) (old new : Slots H) (result : Result (Piece H) AllocationError) : Type 0 where
  pub keeps : StayLive eq old new
  pub gives : IfOk result (λ p. IsNewlyLive eq old new t p)

module _ {S H X : Type 0} (ks : List (Bool × ℕ)) (asks : S → ℕ → ℕ → X → Result H Refusal → S → Type 0) (q : RequestAt X) (old : State S H) where
  abbrev t : ℕ
  t = q.memory_type

  abbrev granularity : ℕ
  granularity = (kind_at ks t).1

  module _ (eq : H → H → Bool) (same : (h : H) → eq h h ≡ true) (below : t < length old.slots) (sound : IsSoundAt ks old.slots t) (new : State S H) (sound_after : IsSoundAt ks new.slots t) where
    abbrev Owned : Result (Piece H) AllocationError → Type 0
    Owned result = Owns eq t old.slots new.slots result

    unchanged : (e : AllocationError) → new.slots ≡ old.slots → Owned (Err e)
    unchanged e is = record { keeps = λ u p live. subst (λ (ss : Slots H). IsLive eq ss u p) (sym is) live; gives = tt }

    -- a piece of these slots
    new_piece : (p : Piece H) (left : List (Option (Slot H))) → new.slots ≡ slice_set old.slots t left
        → (AreSound granularity (slots_at (slice_set old.slots t left) t) → IsNewPiece eq t old.slots (slice_set old.slots t left) p) → Owned (Ok p)
    new_piece p left is by =
        let k : IsNewPiece eq t old.slots new.slots p =
        subst (λ (ss : Slots H). IsNewPiece eq t old.slots ss p) (sym is) (by (subst (λ (ss : Slots H). AreSound granularity (slots_at ss t)) is sound_after)) in
        record { keeps = k.keeps; gives = (k.live, k.other) }

    owned : (met : Environment H) (result : Result (Piece H) AllocationError) → PoolServes ks asks q old met (result_of result) new → Owned result
    owned NothingMet (Ok p) a = new_piece p a.left (ap (λ (s : State S H). s.slots) a.state) (served_keeps eq same granularity t q.request old.slots below sound p a.left a.takes)
    owned NothingMet (Err e) a = unchanged e (ap (λ (s : State S H). s.slots) a.1)
    owned NoHostMemory (Ok p) a = absurd a
    owned NoHostMemory (Err e) a = unchanged e (ap (λ (s : State S H). s.slots) a.1)
    owned (Answered size (Ok handle)) (Ok p) a =
        let n = a.needs in
        new_piece p a.left (ap (λ (s : State S H). s.slots) a.state)
        (λ _. installed_keeps eq same granularity t q.request old.slots below sound n.is_dedicated size n.pending handle p a.left n.needs.takes n.needs.piece a.installs)
    owned (Answered size (Ok handle)) (Err e) a = absurd a
    owned (Answered size (Err why)) (Ok p) a = absurd a
    owned (Answered size (Err why)) (Err e) a = unchanged e (ap (λ (s : State S H). s.slots) a.0.state)

    pub allocates_owns : (result : Result (Piece H) AllocationError) → PoolAllocates ks asks q old (result_of result) new → Owned result
    allocates_owns result a = owned a.0 result a.1

  aligned : (met : Environment H) (result : Result (Piece H) AllocationError) (new : State S H) → PoolServes ks asks q old met (result_of result) new → IfOk result (λ p. p.offset % q.request.alignment ≡ 0)
  aligned met (Err e) new a = tt
  aligned NothingMet (Ok p) new a = takes_aligned _ q.request p.offset _ _ a.takes.takes
  aligned NoHostMemory (Ok p) new a = absurd a
  aligned (Answered size (Ok handle)) (Ok p) new a =
      subst (λ o. o % q.request.alignment ≡ 0) (sym a.installs.piece.0) (takes_aligned _ q.request a.needs.pending.offset _ _ a.needs.needs.takes)
  aligned (Answered size (Err why)) (Ok p) new a = absurd a

  -- a piece that is allocated begins at a multiple of the alignment that was asked for
  pub allocates_at : (result : Result (Piece H) AllocationError) (new : State S H) → PoolAllocates ks asks q old (result_of result) new → IfOk result (λ p. p.offset % q.request.alignment ≡ 0)
  allocates_at result new a = aligned a.0 result new a.1
