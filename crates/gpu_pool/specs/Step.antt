-- A pool as a model: what each call returns and leaves, by what it met with.
use Rattle.std.specs.Prelude.{◌≡◌, ℕ, Bool, List, map, Option, Some, None, Result, Ok, Err}
use Rattle.gpu_block_pieces.specs.Leak.{leak_text}
use Rattle.gpu_block_pieces.specs.Request.{Request}
use Rattle.gpu_values.specs.Refusal.{Refusal, host_out_of_memory}
use Rattle.gpu_values.specs.Report as reports
use Rattle.gpu_core.specs.declared.piece.Piece.{Piece}
use Rattle.gpu_core.specs.Blocks.{total_capacity}
use Rattle.gpu_core.specs.Budgets.{Budgets, budget_at, SetsBudget}
use Rattle.gpu_core.specs.Leaks.{all_leaks}
use Rattle.gpu_core.specs.Reports.{whole_report}
use Rattle.gpu_pool.specs.Allocate.{RequestAt, Environment, NothingMet, NoHostMemory, Answered, PoolServes}
use Rattle.gpu_pool.specs.Free.{PoolFrees}
use Rattle.gpu_pool.specs.Handles.{all_handles}
use Rattle.gpu_pool.specs.Move.{ProposesBy}
use Rattle.gpu_pool.specs.Rename.{RenamesBy}
use Rattle.gpu_pool.specs.Reply as replies
use Rattle.gpu_pool.specs.Reply.{Reply, allocated_as, proposed_as, reply_of_done, reported_as, leaked_as}
use Rattle.gpu_pool.specs.State.{State}

-- a call of a pool
pub data Call (H X : Type 0) : Type 0 where
  Allocate : (request : RequestAt X) → Call H X
  Free : (t : ℕ) (piece : Piece H) → Call H X
  Rename : (t : ℕ) (piece : Piece H) (name : List ℕ) → Call H X
  ProposeMove : (t : ℕ) (piece : Piece H) (request : Request) → Call H X
  SetBudget : (t : ℕ) (budget : Option ℕ) → Call H X
  Budget : (t : ℕ) → Call H X
  Capacity : Call H X
  Handles : Call H X
  Report : Call H X
  LeakTexts : Call H X

-- the refusal in an answer, if it is one
abbrev pub refusal_in : {A : Type 0} → Result A Refusal → Option Refusal
refusal_in (Ok a) = None
refusal_in (Err e) = Some e

-- what a call makes for its caller: a host without memory refuses it
abbrev pub Makes : {H A : Type 0} → A → Environment H → Result A Refusal → Type 0
Makes made NothingMet (Ok a) = a ≡ made
Makes made NothingMet (Err e) = ⊥
Makes made NoHostMemory (Ok a) = ⊥
Makes made NoHostMemory (Err e) = e ≡ host_out_of_memory
Makes made (Answered size answer) result = ⊥

-- a budget of a memory type is set, or there is no such type; nothing else changes
pub record SetsBudgetOf {S H : Type 0} (t : ℕ) (budget : Option ℕ) (old : State S H) (answer : Result (Unit {0}) Refusal) (new : State S H) : Type 0 where
  pub budgets : SetsBudget t budget old.budgets (refusal_in answer) new.budgets
  pub state : new ≡ record old { budgets = new.budgets }

-- kinds, asks and gives_back are the source's; eq compares handles
module _ {S H X : Type 0} (kinds : List (Bool × ℕ)) (asks : S → ℕ → ℕ → X → Result H Refusal → S → Type 0) (gives_back : S → H → S → Type 0) (eq : H → H → Bool) where
  -- from old, the call may return this reply and leave new, where it met with this
  abbrev pub Step : State S H → Call H X → Environment H → Reply H → State S H → Type 0
  Step old (Allocate q) met reply new = (answer : Result (Piece H) Refusal) × (reply ≡ allocated_as q.memory_type answer) × PoolServes kinds asks q old met answer new
  Step old (Free t p) met reply new = (met ≡ NothingMet) × (answer : Result (Unit {0}) Refusal) × (reply ≡ reply_of_done answer) × PoolFrees gives_back eq t p old answer new
  Step old (Rename t p name) met reply new = (answer : Result (Unit {0}) Refusal) × (reply ≡ reply_of_done answer) × RenamesBy eq t p name old met answer new
  Step old (ProposeMove t p r) met reply new = (answer : Result (Option (Piece H)) Refusal) × (reply ≡ proposed_as t answer) × ProposesBy eq t p r old met answer new
  Step old (SetBudget t budget) met reply new = (met ≡ NothingMet) × (answer : Result (Unit {0}) Refusal) × (reply ≡ reply_of_done answer) × SetsBudgetOf t budget old answer new
  Step old (Budget t) met reply new = (met ≡ NothingMet) × (reply ≡ replies.Budget (budget_at old.budgets t)) × (new ≡ old)
  Step old Capacity met reply new = (met ≡ NothingMet) × (reply ≡ replies.Capacity (total_capacity old.slots)) × (new ≡ old)
  Step old Handles met reply new = (met ≡ NothingMet) × (reply ≡ replies.Handles (all_handles old.slots)) × (new ≡ old)
  Step old Report met reply new = (answer : Result reports.Report Refusal) × (reply ≡ reported_as answer) × Makes (whole_report old.slots) met answer × (new ≡ old)
  Step old LeakTexts met reply new = (answer : Result (List (List ℕ)) Refusal) × (reply ≡ leaked_as answer) × Makes (map leak_text (all_leaks old.slots)) met answer × (new ≡ old)

-- a state, a question and its answer decide what is left of the source
abbrev pub AskDecides : {S H X : Type 0} → (S → ℕ → ℕ → X → Result H Refusal → S → Type 0) → Type 0
AskDecides {S} {H} {X} asks = (old a b : S) (t size : ℕ) (extra : X) (answer : Result H Refusal) → asks old t size extra answer a → asks old t size extra answer b → a ≡ b

-- a state and a block that goes back decide what is left of the source
abbrev pub GiveBackDecides : {S H : Type 0} → (S → H → S → Type 0) → Type 0
GiveBackDecides {S} {H} gives_back = (old a b : S) (handle : H) → gives_back old handle a → gives_back old handle b → a ≡ b

-- the call isn't about budgets, and asks no memory type that has one
abbrev pub MeetsNoBudget : {H X : Type 0} → Call H X → Budgets → Type 0
MeetsNoBudget (Allocate q) budgets = budget_at budgets q.memory_type ≡ None
MeetsNoBudget (SetBudget t budget) budgets = ⊥
MeetsNoBudget (Budget t) budgets = ⊥
MeetsNoBudget call budgets = Unit {0}
