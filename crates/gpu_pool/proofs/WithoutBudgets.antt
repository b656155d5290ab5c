-- A call that meets no budget is the same step where there are no budgets.
use Rattle.std.proofs.Common.{◌≡◌, ◌∙◌, sym, ap, subst, ℕ, Bool, List, Option, Some, None, Ok, Err, Result}
use Rattle.gpu_values.specs.Refusal.{Refusal}
use Rattle.gpu_block_pieces.specs.Request.{Request}
use Rattle.gpu_core.specs.TypeState.{TypeState, capacity_of}
use Rattle.gpu_core.specs.TypeTake.{has_dedicated_block, NeedsBlock}
use Rattle.gpu_core.specs.declared.piece.Piece.{Piece}
use Rattle.gpu_core.specs.Blocks.{slots_at, total_capacity}
use Rattle.gpu_core.specs.Budgets.{budget_at, block_refusal}
use Rattle.gpu_pool.specs.Allocate.{RequestAt, Environment, NothingMet, NoHostMemory, Answered, type_asked, NeedsNewBlock, PoolServes}
use Rattle.gpu_pool.specs.Free.{PoolFrees}
use Rattle.gpu_pool.specs.Move.{ProposesBy}
use Rattle.gpu_pool.specs.Rename.{RenamesBy}
use Rattle.gpu_pool.specs.Reply.{Reply}
use Rattle.gpu_pool.specs.State.{State, kind_at, without_budgets}
use Rattle.gpu_pool.specs.Step.{Call, Allocate, Free, Rename, ProposeMove, SetBudget, Budget, Capacity, Handles, Report, LeakTexts, Step, MeetsNoBudget}

module _ {S H X : Type 0} (kinds : List (Bool × ℕ)) (asks : S → ℕ → ℕ → X → Result H Refusal → S → Type 0) (q : RequestAt X) (old : State S H) (none : budget_at old.budgets q.memory_type ≡ None) where
  abbrev plain : State S H
  plain = without_budgets old

  -- the memory type, without its budget
  type_plain : type_asked kinds asks q old ≡ type_asked kinds asks q plain
  type_plain i = record {
    is_host = (kind_at kinds q.memory_type).0;
    granularity = (kind_at kinds q.memory_type).1;
    slots = slots_at old.slots q.memory_type;
    room = 0;
    budget = none i;
  }

  abbrev needs_plain : (size : ℕ) (why : Option Refusal) → NeedsNewBlock kinds asks q old size why → NeedsNewBlock kinds asks q plain size why
  needs_plain size why n = record {
    is_dedicated = n.is_dedicated;
    pending = n.pending;
    needs = subst (λ (k : TypeState H). NeedsBlock k old.sizes q.requested_dedicated q.request size n.is_dedicated n.pending) type_plain n.needs;
    limits = (λ i. block_refusal (total_capacity old.slots) (sym none i) (capacity_of (slots_at old.slots q.memory_type)) size) ∙ n.limits;
  }

  pub serves_plain : (met : Environment H) (answer : Result (Piece H) Refusal) (new : State S H) → PoolServes kinds asks q old met answer new → PoolServes kinds asks q plain met answer (without_budgets new)
  serves_plain NothingMet (Ok p) new a = record {
    shared = sym (ap (λ (k : TypeState H). has_dedicated_block k old.sizes q.requested_dedicated q.request.size) type_plain) ∙ a.shared;
    left = a.left;
    takes = a.takes;
    state = ap without_budgets a.state;
  }
  serves_plain NothingMet (Err e) new a = ((a.0.0, needs_plain a.0.0 (Some e) a.0.1), ap without_budgets a.1)
  serves_plain NoHostMemory (Ok p) new a = absurd a
  serves_plain NoHostMemory (Err e) new a = (a.0, ap without_budgets a.1)
  serves_plain (Answered size (Ok handle)) (Ok p) new a = record {
    needs = needs_plain size None a.needs;
    question = a.question;
    left = a.left;
    installs = a.installs;
    state = ap without_budgets a.state;
  }
  serves_plain (Answered size (Ok handle)) (Err e) new a = absurd a
  serves_plain (Answered size (Err why)) (Ok p) new a = absurd a
  serves_plain (Answered size (Err why)) (Err e) new a = (record { needs = needs_plain size None a.0.needs; question = a.0.question; state = ap without_budgets a.0.state }, a.1)

pub frees_plain : {S H : Type 0} (gives_back : S → H → S → Type 0) (eq : H → H → Bool) (t : ℕ) (p : Piece H) (old : State S H) (answer : Result (Unit {0}) Refusal) (new : State S H)
    → PoolFrees gives_back eq t p old answer new → PoolFrees gives_back eq t p (without_budgets old) answer (without_budgets new)
frees_plain gives_back eq t p old (Ok u) new f = (f.0, record { went = f.1.went; slots = f.1.slots; source = f.1.source; state = ap without_budgets f.1.state })
frees_plain gives_back eq t p old (Err e) new f = (f.0, f.1, ap without_budgets f.2)

renames_plain : {S H : Type 0} (eq : H → H → Bool) (t : ℕ) (p : Piece H) (name : List ℕ) (old : State S H) (met : Environment H) (answer : Result (Unit {0}) Refusal) (new : State S H)
    → RenamesBy eq t p name old met answer new → RenamesBy eq t p name (without_budgets old) met answer (without_budgets new)
renames_plain eq t p name old NothingMet (Ok u) new r = (r.0, ap without_budgets r.1)
renames_plain eq t p name old NothingMet (Err e) new r = (record { dead = r.0.dead; other = r.0.other; cause = r.0.cause }, ap without_budgets r.1)
renames_plain eq t p name old NoHostMemory (Ok u) new r = absurd r
renames_plain eq t p name old NoHostMemory (Err e) new r = (r.0, r.1, ap without_budgets r.2)
renames_plain eq t p name old (Answered size answer) result new r = absurd r

pub proposes_plain : {S H : Type 0} (eq : H → H → Bool) (t : ℕ) (p : Piece H) (r : Request) (old : State S H) (met : Environment H) (answer : Result (Option (Piece H)) Refusal) (new : State S H)
    → ProposesBy eq t p r old met answer new → ProposesBy eq t p r (without_budgets old) met answer (without_budgets new)
proposes_plain eq t p r old NothingMet (Ok (Some to)) new a = (a.0, ap without_budgets a.1)
proposes_plain eq t p r old NothingMet (Ok None) new a = (a.0, ap without_budgets a.1)
proposes_plain eq t p r old NothingMet (Err e) new a = absurd a
proposes_plain eq t p r old NoHostMemory (Ok o) new a = absurd a
proposes_plain eq t p r old NoHostMemory (Err e) new a = (a.0, ap without_budgets a.1)
proposes_plain eq t p r old (Answered size answer) result new a = absurd a

pub step_plain : {S H X : Type 0} (asks : S → ℕ → ℕ → X → Result H Refusal → S → Type 0) (gives_back : S → H → S → Type 0) (eq : H → H → Bool) (kinds : List (Bool × ℕ)) (call : Call H X)
    (met : Environment H) (reply : Reply H) (old new : State S H) → MeetsNoBudget call old.budgets → Step kinds asks gives_back eq old call met reply new
    → Step kinds asks gives_back eq (without_budgets old) call met reply (without_budgets new)
step_plain asks gives_back eq kinds (Allocate q) met reply old new none a = (a.0, a.1, serves_plain kinds asks q old none met a.0 new a.2)
step_plain asks gives_back eq kinds (Free t p) met reply old new none a = (a.0, a.1, a.2, frees_plain gives_back eq t p old a.1 new a.3)
step_plain asks gives_back eq kinds (Rename t p name) met reply old new none a = (a.0, a.1, renames_plain eq t p name old met a.0 new a.2)
step_plain asks gives_back eq kinds (ProposeMove t p r) met reply old new none a = (a.0, a.1, proposes_plain eq t p r old met a.0 new a.2)
step_plain asks gives_back eq kinds (SetBudget t budget) met reply old new none a = absurd none
step_plain asks gives_back eq kinds (Budget t) met reply old new none a = absurd none
step_plain asks gives_back eq kinds Capacity met reply old new none a = (a.0, a.1, ap without_budgets a.2)
step_plain asks gives_back eq kinds Handles met reply old new none a = (a.0, a.1, ap without_budgets a.2)
step_plain asks gives_back eq kinds Report met reply old new none a = (a.0, a.1, a.2, ap without_budgets a.3)
step_plain asks gives_back eq kinds LeakTexts met reply old new none a = (a.0, a.1, a.2, ap without_budgets a.3)
