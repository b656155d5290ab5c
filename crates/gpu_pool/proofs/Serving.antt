-- What a request leaves: what else of the pool, what the source holds, and the same over a model of the source.
use Rattle.std.proofs.Common.{◌≡◌, ◌∙◌, refl, sym, ap, subst, ℕ, ◌<◌, Bool, true, false, List, length, slice_set, Option, Some, None, Ok, Err, Result}
use Rattle.gpu_block.specs.Block.{size_of}
use Rattle.gpu_values.specs.Refusal.{Refusal}
use Rattle.gpu_core.specs.TypeState.{Slot}
use Rattle.gpu_core.specs.TypeTake.{fresh_block}
use Rattle.gpu_core.specs.declared.piece.Piece.{Piece}
use Rattle.gpu_core.specs.Blocks.{slots_at}
use Rattle.gpu_core.proofs.Sizes.{takes_size}
use Rattle.gpu_core.proofs.Placed.{only_block, installs_only, prepares_only}
use Rattle.gpu_pool.specs.Allocate.{RequestAt, Environment, NothingMet, NoHostMemory, Answered, NeedsNewBlock, AsksOf, PoolServes}
use Rattle.gpu_pool.specs.Held.{held_as, HoldsJustBlocks}
use Rattle.gpu_pool.specs.Source.{Adds}
use Rattle.gpu_pool.specs.State.{State, kind_at, over}
use Rattle.gpu_pool.specs.declared.source.BlockSource.{Ghosts}
use Rattle.gpu_pool.proofs.Holding.{changed_holds, added_holds, same_holds}

fresh_size : (own : Bool) (size granularity : ℕ) → size_of (fresh_block own size granularity) ≡ size
fresh_size true size granularity = refl
fresh_size false size granularity = refl

-- ---- what else of the pool

module _ {S H X : Type 0} (kinds : List (Bool × ℕ)) (asks : S → ℕ → ℕ → X → Result H Refusal → S → Type 0) (q : RequestAt X) (old : State S H) where
  -- nothing else changes
  pub serves_constant : (met : Environment H) (answer : Result (Piece H) Refusal) (new : State S H) → PoolServes kinds asks q old met answer new → (new.sizes ≡ old.sizes) × (new.budgets ≡ old.budgets)
  serves_constant NothingMet (Ok p) new a = (ap (λ (s : State S H). s.sizes) a.state, ap (λ (s : State S H). s.budgets) a.state)
  serves_constant NothingMet (Err e) new a = (ap (λ (s : State S H). s.sizes) a.1, ap (λ (s : State S H). s.budgets) a.1)
  serves_constant NoHostMemory (Ok p) new a = absurd a
  serves_constant NoHostMemory (Err e) new a = (ap (λ (s : State S H). s.sizes) a.1, ap (λ (s : State S H). s.budgets) a.1)
  serves_constant (Answered size (Ok handle)) (Ok p) new a = (ap (λ (s : State S H). s.sizes) a.state, ap (λ (s : State S H). s.budgets) a.state)
  serves_constant (Answered size (Ok handle)) (Err e) new a = absurd a
  serves_constant (Answered size (Err why)) (Ok p) new a = absurd a
  serves_constant (Answered size (Err why)) (Err e) new a = (ap (λ (s : State S H). s.sizes) a.0.state, ap (λ (s : State S H). s.budgets) a.0.state)

  -- the source after what a request met with
  abbrev pub SourceAfter : Environment H → S → Type 0
  SourceAfter NothingMet new = new ≡ old.source
  SourceAfter NoHostMemory new = new ≡ old.source
  SourceAfter (Answered size answer) new = asks old.source q.memory_type size q.extra answer new

  pub serves_source : (met : Environment H) (answer : Result (Piece H) Refusal) (new : State S H) → PoolServes kinds asks q old met answer new → SourceAfter met new.source
  serves_source NothingMet (Ok p) new a = ap (λ (s : State S H). s.source) a.state
  serves_source NothingMet (Err e) new a = ap (λ (s : State S H). s.source) a.1
  serves_source NoHostMemory (Ok p) new a = absurd a
  serves_source NoHostMemory (Err e) new a = ap (λ (s : State S H). s.source) a.1
  serves_source (Answered size (Ok handle)) (Ok p) new a = a.question
  serves_source (Answered size (Ok handle)) (Err e) new a = absurd a
  serves_source (Answered size (Err why)) (Ok p) new a = absurd a
  serves_source (Answered size (Err why)) (Err e) new a = a.0.question

-- ---- over a model of the source

module _ {S T H X : Type 0} (kinds : List (Bool × ℕ)) (asks : S → ℕ → ℕ → X → Result H Refusal → S → Type 0) (seen : T → ℕ → ℕ → X → Result H Refusal → T → Type 0) (view : S → T) (q : RequestAt X)
    (old new : State S H) (each : (size : ℕ) (answer : Result H Refusal) → asks old.source q.memory_type size q.extra answer new.source
    → seen (view old.source) q.memory_type size q.extra answer (view new.source)) where
  abbrev needs_over : (size : ℕ) (why : Option Refusal) → NeedsNewBlock kinds asks q old size why → NeedsNewBlock kinds seen q (over view old) size why
  needs_over size why n = record { is_dedicated = n.is_dedicated; pending = n.pending; needs = n.needs; limits = n.limits }

  pub serves_over : (met : Environment H) (answer : Result (Piece H) Refusal) → PoolServes kinds asks q old met answer new → PoolServes kinds seen q (over view old) met answer (over view new)
  serves_over NothingMet (Ok p) a = record { shared = a.shared; left = a.left; takes = a.takes; state = ap (over view) a.state }
  serves_over NothingMet (Err e) a = ((a.0.0, needs_over a.0.0 (Some e) a.0.1), ap (over view) a.1)
  serves_over NoHostMemory (Ok p) a = absurd a
  serves_over NoHostMemory (Err e) a = (a.0, ap (over view) a.1)
  serves_over (Answered size (Ok handle)) (Ok p) a = record {
    needs = needs_over size None a.needs;
    question = each size (Ok handle) a.question;
    left = a.left;
    installs = a.installs;
    state = ap (over view) a.state;
  }
  serves_over (Answered size (Ok handle)) (Err e) a = absurd a
  serves_over (Answered size (Err why)) (Ok p) a = absurd a
  serves_over (Answered size (Err why)) (Err e) a =
      (record { needs = needs_over size None a.0.needs; question = each size (Err why) a.0.question; state = ap (over view) a.0.state }, a.1)

-- ---- what the source holds

module _ {S H X : Type 0} (g : Ghosts S H X) (kinds : List (Bool × ℕ)) (q : RequestAt X) (old : State S H) where
  abbrev u : ℕ
  u = q.memory_type

  abbrev Holds : State S H → Type 0
  Holds s = HoldsJustBlocks g.number (g.held s.source) s.slots

  same : (new : State S H) → new ≡ old → Holds old → Holds new
  same new is h = subst Holds (sym is) h

  pub allocates_holds : u < length old.slots → (met : Environment H) (answer : Result (Piece H) Refusal) (new : State S H) → PoolServes kinds (AsksOf g) q old met answer new → Holds old → Holds new
  allocates_holds below NothingMet (Ok p) new a h =
      let s = a.takes in
      let b : Slot H = record s.slot { block = s.after } in
      subst Holds (sym a.state)
      (changed_holds g.number (g.held old.source) old.slots (slice_set old.slots u a.left) u p.slot s.slot b s.at
      (only_block old.slots u p.slot (Some b) a.left below (prepares_only (slots_at old.slots u) q.request p a.left s)) refl (takes_size _ _ _ _ _ s.takes) h)
  allocates_holds below NothingMet (Err e) new a h = same new a.1 h
  allocates_holds below NoHostMemory (Ok p) new a h = absurd a
  allocates_holds below NoHostMemory (Err e) new a h = same new a.1 h
  allocates_holds below (Answered size (Ok handle)) (Ok p) new a h =
      let n = a.needs in
      let b : Slot H = record { handle = handle; block = n.pending.block } in
      let only = installs_only (slots_at old.slots u) n.is_dedicated n.pending handle p a.left a.installs in
      let sized : size_of n.pending.block ≡ size = takes_size _ _ _ _ _ n.needs.takes ∙ fresh_size n.is_dedicated size (kind_at kinds u).1 in
      let adds : Adds (g.held old.source) (g.number handle) (held_as u b) (g.held new.source) =
      subst (λ k. Adds (g.held old.source) (g.number handle) (record { memory_type = u; size = k }) (g.held new.source)) (sym sized) a.question.held in
      subst Holds (sym a.state)
      (added_holds g.number (g.held old.source) (g.held new.source) old.slots (slice_set old.slots u a.left) u p.slot b only.0
      (only_block old.slots u p.slot (Some b) a.left below only.1) adds h)
  allocates_holds below (Answered size (Ok handle)) (Err e) new a h = absurd a
  allocates_holds below (Answered size (Err why)) (Ok p) new a h = absurd a
  allocates_holds below (Answered size (Err why)) (Err e) new a h = same_holds g.number (g.held old.source) (g.held new.source) old.slots new.slots (ap (λ (s : State S H). s.slots) a.0.state) a.0.question.held h

  -- which memory types there are never changes
  pub allocates_kinds : (met : Environment H) (answer : Result (Piece H) Refusal) (new : State S H) → PoolServes kinds (AsksOf g) q old met answer new → g.kinds new.source ≡ g.kinds old.source
  allocates_kinds NothingMet (Ok p) new a = ap (λ (s : State S H). g.kinds s.source) a.state
  allocates_kinds NothingMet (Err e) new a = ap (λ (s : State S H). g.kinds s.source) a.1
  allocates_kinds NoHostMemory (Ok p) new a = absurd a
  allocates_kinds NoHostMemory (Err e) new a = ap (λ (s : State S H). g.kinds s.source) a.1
  allocates_kinds (Answered size (Ok handle)) (Ok p) new a = a.question.constant
  allocates_kinds (Answered size (Ok handle)) (Err e) new a = absurd a
  allocates_kinds (Answered size (Err why)) (Ok p) new a = absurd a
  allocates_kinds (Answered size (Err why)) (Err e) new a = a.0.question.constant
