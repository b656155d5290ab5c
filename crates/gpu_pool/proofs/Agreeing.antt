-- Whoever begins a request, asks any source the question, and tells the answer, has allocated from that source: once for every API.
use Rattle.std.proofs.Common.{◌≡◌, ◌∙◌, refl, ap, subst, ⊎_elim, ℕ, Some, None, Ok, Err, Result}
use Rattle.gpu_values.specs.Refusal.{Refusal, refusal_of}
use Rattle.gpu_values.specs.declared.error.AllocationError.{AllocationError}
use Rattle.gpu_core.specs.declared.piece.Piece.{Piece}
use Rattle.gpu_core.specs.declared.piece.Request.{Request}
use Rattle.gpu_pool.specs.State as pools
use Rattle.gpu_pool.specs.Allocate.{RequestAt, request_at, NothingMet, NoHostMemory, Answered, NeedsNewBlock, PoolAllocates}
use Rattle.gpu_pool.specs.Source.{result_of}
use Rattle.gpu_pool.specs.Begin.{NoneAsked, Asks, BeginsIn, Begins, Grants, GrantsIn, Declines, DeclinesIn}
use Rattle.gpu_pool.specs.RequestState.{RequestState, pool_of}
use Rattle.gpu_pool.specs.declared.requests.Begun.{Begun}
use Rattle.gpu_pool.specs.declared.requests.Begun.TheVariants as begun
use Rattle.gpu_pool.specs.declared.requests.Question.{Question}

-- what else there is never changes, and no question is left open
pub record IsClosed {H : Type 0} (old new : RequestState H) : Type 0 where
  pub awaited : new.awaited ≡ None
  pub kinds : new.kinds ≡ old.kinds

module _ {S H X : Type 0} (asks : S → ℕ → ℕ → X → Result H Refusal → S → Type 0) (t : ℕ) (r : Request) (x : X) (source : S) (old : RequestState H) where
  abbrev begun_at : RequestAt (Unit {0})
  begun_at = request_at t r tt

  -- the answer of an allocation from the source, and that nothing is left open
  pub record Ends (answer : Result (Piece H) Refusal) (after : S) (new : RequestState H) : Type 0 where
    pub allocates : PoolAllocates old.kinds asks (request_at t r x) (pool_of source old) answer (pool_of after new)
    pub closed : IsClosed old new

  module _ (shut : old.awaited ≡ None) where
    begun_closed : (result : Result (Begun H) AllocationError) (new : RequestState H) → Begins begun_at old result new → BeginsIn begun_at None old result new
    begun_closed result new h = subst (λ o. BeginsIn begun_at o old result new) shut h

    pub piece : (p : Piece H) (new : RequestState H) → Begins begun_at old (Ok (begun.Piece p)) new → Ends (Ok p) source new
    piece p new b =
        let h = begun_closed (Ok (begun.Piece p)) new b in
        let s = h.0 in
        record {
          allocates = (
            NothingMet,
            record {
              shared = s.shared;
              left = s.left;
              takes = s.takes;
              state = ap (λ (k : pools.State (Unit {0}) H). pools.over (λ u. source) k) s.state;
            },
          );
          closed = record { awaited = ap (λ (k : RequestState H). k.awaited) h.1 ∙ shut; kinds = ap (λ (k : RequestState H). k.kinds) h.1 };
        }

    pub refused : (e : AllocationError) (new : RequestState H) → Begins begun_at old (Err e) new → Ends (Err (refusal_of e)) source new
    refused e new b =
        let h = begun_closed (Err e) new b in
        let same : pool_of source new ≡ pool_of source old = ap (λ (k : RequestState H). pool_of source k) h.1 in
        record {
          allocates = ⊎_elim
              (λ starved. (NoHostMemory, (starved, same)))
              (λ (much : (size : ℕ) × NeedsNewBlock old.kinds NoneAsked begun_at (pool_of tt old) size (Some (refusal_of e))).
              let n = much.1 in
              (NothingMet, ((much.0, record { is_dedicated = n.is_dedicated; pending = n.pending; needs = n.needs; limits = n.limits }), same)))
              h.0;
          closed = record { awaited = ap (λ (k : RequestState H). k.awaited) h.1 ∙ shut; kinds = ap (λ (k : RequestState H). k.kinds) h.1 };
        }

    module _ (question : Question) (mid : RequestState H) (b : Begins begun_at old (Ok (begun.Question question)) mid) (after : S) where
      abbrev a : Asks begun_at old question mid
      a = begun_closed (Ok (begun.Question question)) mid b

      asked_is : (answer : Result H Refusal) → asks source question.memory_type question.size x answer after → asks source t a.need.size x answer after
      asked_is answer k = subst (λ (u : Question). asks source u.memory_type u.size x answer after) a.question_is k

      abbrev needs : NeedsNewBlock old.kinds asks (request_at t r x) (pool_of source old) a.need.size None
      needs = record { is_dedicated = a.need.dedicated; pending = a.need.room; needs = a.needs; limits = a.limits }

      granted_in : (handle : H) (result : Result (Piece H) AllocationError) (new : RequestState H) → asks source question.memory_type question.size x (Ok handle) after
          → GrantsIn (Some (record { memory_type = t; need = a.need })) (record old { awaited = Some (record { memory_type = t; need = a.need }) }) handle result new → Ends (result_of result) after new
      granted_in handle (Err e) new k g = absurd g
      granted_in handle (Ok p) new k g =
          let st = g.state in
          let ss = g.installs.slots in
          record {
            allocates = (
              Answered a.need.size (Ok handle),
              record {
                needs = needs;
                question = asked_is (Ok handle) k;
                left = g.installs.left;
                installs = g.installs.installs;
                state = λ i. record { source = after; sizes = (st i).sizes; slots = ss i; budgets = (st i).budgets };
              },
            );
            closed = record { awaited = ap (λ (k : RequestState H). k.awaited) st; kinds = ap (λ (k : RequestState H). k.kinds) st };
          }

      pub granted : (handle : H) (result : Result (Piece H) AllocationError) (new : RequestState H) → asks source question.memory_type question.size x (Ok handle) after
          → Grants mid handle result new → Ends (result_of result) after new
      granted handle result new k g = granted_in handle result new k (subst (λ (m : RequestState H). GrantsIn m.awaited m handle result new) a.state g)

      declined_in : (e : Refusal) (result : Result (Unit {0}) AllocationError) (new : RequestState H) → asks source question.memory_type question.size x (Err e) after
          → DeclinesIn (Some (record { memory_type = t; need = a.need })) (record old { awaited = Some (record { memory_type = t; need = a.need }) }) result new → Ends (Err e) after new
      declined_in e (Err f) new k g = absurd g
      declined_in e (Ok u) new k g =
          record {
            allocates = (
              Answered a.need.size (Err e),
              (
                record {
                  needs = needs;
                  question = asked_is (Err e) k;
                  state = ap (λ (k : RequestState H). pool_of after k) g;
                },
                refl,
              ),
            );
            closed = record { awaited = ap (λ (k : RequestState H). k.awaited) g; kinds = ap (λ (k : RequestState H). k.kinds) g };
          }

      pub declined : (e : Refusal) (result : Result (Unit {0}) AllocationError) (new : RequestState H) → asks source question.memory_type question.size x (Err e) after
          → Declines mid result new → Ends (Err e) after new
      declined e result new k g = declined_in e result new k (subst (λ (m : RequestState H). DeclinesIn m.awaited m result new) a.state g)
