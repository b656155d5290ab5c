-- What an allocation leaves of a pool: its invariant and its contract.
use Rattle.std.proofs.Common.{◌≡◌, ◌∙◌, sym, ap, subst, ℕ, ◌<◌, Bool, true, length, None, Result, arith}
use Rattle.gpu_values.specs.declared.error.AllocationError.{AllocationError}
use Rattle.gpu_pool.specs.Source.{result_of}
use Rattle.gpu_pool.specs.State.{IsSoundAt}
use Rattle.gpu_pool.proofs.Owning.{Owns, allocates_owns}
use Rattle.gpu_values.specs.Refusal.{Refusal}
use Rattle.gpu_core.specs.declared.piece.Piece.{Piece}
use Rattle.gpu_core.specs.declared.piece.Request.{Request}
use Rattle.gpu_pool.specs.State as pools
use Rattle.gpu_pool.specs.Allocate.{request_at, PoolAllocates, AsksOf}
use Rattle.gpu_pool.specs.Held.{HoldsJustBlocks}
use Rattle.gpu_pool.specs.declared.source.BlockSource.{Ghosts}
use Rattle.gpu_pool.proofs.Serving.{allocates_holds, allocates_kinds, serves_over}
use Rattle.gpu_pool.proofs.Agreeing.{Ends}
use Rattle.gpu_pool.specs.RequestState.{RequestState, pool_of}

-- what holds of a pool's fields between calls
abbrev pub PoolInvariant : {S H X : Type 0} → Ghosts S H X → S → RequestState H → Type 0
PoolInvariant B source requests = (requests.awaited ≡ None) × (requests.kinds ≡ B.kinds source) × HoldsJustBlocks B.number (B.held source) requests.slots

pub record Outcome {S H X : Type 0} (B : Ghosts S H X) (t : ℕ) (r : Request) (x : X) (old : pools.State S H) (answer : Result (Piece H) Refusal) (after : S) (new : RequestState H) : Type 0 where
  pub invariant : PoolInvariant B after new
  pub allocates : PoolAllocates (B.kinds old.source) B.asks (request_at t r x) old answer (pool_of after new)
  pub constant : B.kinds after ≡ B.kinds old.source

pub outcome : {S H X : Type 0} (B : Ghosts S H X) (t : ℕ) (r : Request) (x : X) (source : S) (requests : RequestState H) → PoolInvariant B source requests → length requests.slots ≡ length requests.kinds
    → (old : pools.State S H) → pool_of source requests ≡ old → t < length (B.kinds old.source) → (answer : Result (Piece H) Refusal) (after : S) (new : RequestState H)
    → Ends (AsksOf B) t r x source requests answer after new → Outcome B t r x old answer after new
outcome {S} {H} B t r x source requests inv many old view there answer after new e =
    let q = request_at t r x in
    let was : pools.State S H = pool_of source requests in
    let now : pools.State S H = pool_of after new in
    let within : t < length (B.kinds source) = subst (λ (s : pools.State S H). t < length (B.kinds s.source)) (sym view) there in
    let alike = ap length inv.1 in
    let below : t < length requests.slots = omega (arith, within, many, alike) in
    let a = e.allocates in
    let constant = allocates_kinds B requests.kinds q was a.0 answer now a.1 in
    let asked : PoolAllocates requests.kinds B.asks q was answer now = (a.0, serves_over requests.kinds (AsksOf B) B.asks (λ s. s) q was now (λ size given k. k.exactly) a.0 answer a.1) in
    let said : PoolAllocates (B.kinds source) B.asks q was answer now = subst (λ ks. PoolAllocates ks B.asks q was answer now) inv.1 asked in
    record {
      invariant = (e.closed.awaited, e.closed.kinds ∙ inv.1 ∙ sym constant, allocates_holds B requests.kinds q was below a.0 answer now a.1 inv.2);
      allocates = subst (λ (s : pools.State S H). PoolAllocates (B.kinds s.source) B.asks q s answer now) view said;
      constant = subst (λ (s : pools.State S H). B.kinds after ≡ B.kinds s.source) view constant;
    }

-- what an allocation makes of live pieces, of pools whose blocks are sound
pub owned : {S H X : Type 0} (B : Ghosts S H X) (eq : H → H → Bool) → ((h : H) → eq h h ≡ true) → (t : ℕ) (r : Request) (x : X) (source after : S) (was now : RequestState H)
    → PoolInvariant B source was → PoolInvariant B after now → length was.slots ≡ length was.kinds → ((u : ℕ) → IsSoundAt was.kinds was.slots u) → ((u : ℕ) → IsSoundAt now.kinds now.slots u)
    → (old new : pools.State S H) → pool_of source was ≡ old → pool_of after now ≡ new → (result : Result (Piece H) AllocationError)
    → t < length (B.kinds old.source) → PoolAllocates (B.kinds old.source) B.asks (request_at t r x) old (result_of result) new → B.kinds new.source ≡ B.kinds old.source → Owns eq t old.slots new.slots result
owned {S} {H} B eq same t r x source after was now inv kept many sound sound_after old new view view_after result =
    let Goal : pools.State S H → pools.State S H → Type 0 = λ o n. t < length (B.kinds o.source) → PoolAllocates (B.kinds o.source) B.asks (request_at t r x) o (result_of result) n → B.kinds n.source ≡ B.kinds o.source
    → Owns eq t o.slots n.slots result in
    let base : Goal (pool_of source was) (pool_of after now) = λ there a constant.
    let alike = ap length inv.1 in
    let below : t < length was.slots = omega (arith, there, many, alike) in
    allocates_owns (B.kinds source) B.asks (request_at t r x) (pool_of source was) eq same below (subst (λ ks. IsSoundAt ks was.slots t) inv.1 (sound t)) (pool_of after now)
    (subst (λ ks. IsSoundAt ks now.slots t) (kept.1 ∙ constant) (sound_after t)) result a in
    subst (λ (o : pools.State S H). Goal o new) view (subst (λ (n : pools.State S H). Goal (pool_of source was) n) view_after base)
