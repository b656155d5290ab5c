-- The model isn't loose, and budgets that aren't asked decide nothing.
use Rattle.std.proofs.Common.{◌≡◌, ◌∙◌, refl, sym, ap, subst, ℕ, zero, suc, Bool, true, false, None}
use Rattle.gpu_core.specs.Slots.{AreSound}
use Rattle.gpu_device.specs.declared.metal.types.MTLHeap.{MTLHeap}
use Rattle.gpu_core.specs.Blocks.{slots_at, BlocksWellFormed}
use Rattle.gpu_core.specs.Budgets.{budget_at}
use Rattle.gpu_core.proofs.Options.{some_same}
use Rattle.gpu_metal.specs.MemoryKinds.{heap_descriptor, IsFirstServing}
use Rattle.gpu_metal.specs.Setup.{kinds_of_device}
use Rattle.gpu_metal.specs.declared.describe.AllocationCreateDesc.{AllocationCreateDesc}
use Rattle.gpu_metal.proofs.FirstServing.{one_first}
use Rattle.gpu_pool.specs.Allocate.{Environment}
use Rattle.gpu_pool.specs.Reply.{Reply}
use Rattle.gpu_pool.specs.State.{kind_at, IsSoundAt, without_budgets}
use Rattle.gpu_pool.specs.Step as pools
use Rattle.gpu_pool.specs.Step.{AskDecides, GiveBackDecides}
use Rattle.gpu_pool.proofs.OneStep as pool
use Rattle.gpu_pool.proofs.WithoutBudgets as plain
use Rattle.gpu_metal.specs.Allocate.{is_valid, request_in}
use Rattle.gpu_metal.specs.Blocks.{Slots, is_same_heap}
use Rattle.gpu_pool.specs.Allocation.{piece_of}
use Rattle.gpu_metal.specs.Describe.{request_of}
use Rattle.gpu_metal.specs.Live.{Allocation}
use Rattle.gpu_metal.specs.Source.{heap_in}
use Rattle.gpu_metal.specs.State.{Model}
use Rattle.gpu_metal.specs.Step.{Call, Allocate, Free, ProposeMove, Commit, SetBudget, Budget, Capacity, LiveHeaps, Report, with_question, SeesQuestion, SeesHeapFreed, PoolStep, AllocateStep, is_again, MoveStep, Step, MeetsNoBudget}

question_decides : AskDecides SeesQuestion
question_decides old a b t size extra answer x y =
    let here = some_same x.location y.location (sym x.at ∙ y.at) in
    x.state ∙ (λ i. with_question old (heap_descriptor (here i)) size (heap_in answer)) ∙ sym y.state

given_decides : GiveBackDecides SeesHeapFreed
given_decides old a b heap x y = x ∙ sym y

-- all memory types have pages of 1
page_at : (t : ℕ) → 1 ≡ (kind_at kinds_of_device t).1
page_at zero = refl
page_at (suc zero) = refl
page_at (suc (suc zero)) = refl
page_at (suc (suc (suc t))) = refl

pub sound_at : (slots : Slots) → BlocksWellFormed 1 slots → (t : ℕ) → IsSoundAt kinds_of_device slots t
sound_at slots sound t = subst (λ n. AreSound n (slots_at slots t)) (page_at t) (sound t)

pub well_formed : (slots : Slots) → ((t : ℕ) → IsSoundAt kinds_of_device slots t) → BlocksWellFormed 1 slots
well_formed slots sound t = subst (λ n. AreSound n (slots_at slots t)) (sym (page_at t)) (sound t)

-- ---- one step

pool_once : (call : pools.Call MTLHeap (Unit {0})) (met : Environment MTLHeap) (x y : Reply MTLHeap) (old new next : Model) → BlocksWellFormed 1 old.slots → PoolStep old call met x new
    → PoolStep old call met y next → (x ≡ y) × (new ≡ next)
pool_once call met x y old new next sound a b =
    pool.step_once SeesQuestion SeesHeapFreed is_same_heap question_decides given_decides kinds_of_device call met x y old new next (sound_at old.slots sound) a b

allocate_once : (d : AllocationCreateDesc) (valid : Bool) (met : Environment MTLHeap) (x y : Reply MTLHeap) (old new next : Model) → BlocksWellFormed 1 old.slots
    → AllocateStep d valid met x old new → AllocateStep d valid met y old next → (x ≡ y) × (new ≡ next)
allocate_once d false met x y old new next sound a b = (a.1 ∙ sym b.1, a.2 ∙ sym b.2)
allocate_once d true met x y old new next sound a b =
    let types : a.0 ≡ b.0 = one_first d.location a.0 b.0 a.1 b.1 in
    let other = subst (λ t. PoolStep old (pools.Allocate (request_in t d)) met y next) (sym types) b.2 in
    pool_once (pools.Allocate (request_in a.0 d)) met x y old new next sound a.2 other

move_once : (w : Allocation) (d : AllocationCreateDesc) (again : Bool) (met : Environment MTLHeap) (x y : Reply MTLHeap) (old new next : Model) → BlocksWellFormed 1 old.slots
    → MoveStep w d again met x old new → MoveStep w d again met y old next → (x ≡ y) × (new ≡ next)
move_once w d false met x y old new next sound a b = (a.1 ∙ sym b.1, a.2 ∙ sym b.2)
move_once w d true met x y old new next sound a b = pool_once (pools.ProposeMove w.memory_type_index (piece_of w) (request_of d)) met x y old new next sound a b

pub step_once : (call : Call) (met : Environment MTLHeap) (x y : Reply MTLHeap) (old new next : Model) → BlocksWellFormed 1 old.slots → Step call met x old new → Step call met y old next
    → (x ≡ y) × (new ≡ next)
step_once (Allocate d) met x y old new next sound a b = allocate_once d (is_valid d) met x y old new next sound a b
step_once (Free w) met x y old new next sound a b = pool_once (pools.Free w.memory_type_index (piece_of w)) met x y old new next sound a b
step_once (ProposeMove w d) met x y old new next sound a b = move_once w d (is_again w.size d) met x y old new next sound a b
step_once Commit met x y old new next sound a b = (a.1.0 ∙ sym b.1.0, a.1.1 ∙ sym b.1.1)
step_once (SetBudget t budget) met x y old new next sound a b = pool_once (pools.SetBudget t budget) met x y old new next sound a b
step_once (Budget t) met x y old new next sound a b = pool_once (pools.Budget t) met x y old new next sound a b
step_once Capacity met x y old new next sound a b = pool_once pools.Capacity met x y old new next sound a b
step_once LiveHeaps met x y old new next sound a b = pool_once pools.Handles met x y old new next sound a b
step_once Report met x y old new next sound a b = pool_once pools.Report met x y old new next sound a b

-- ---- without budgets

pool_plain : (call : pools.Call MTLHeap (Unit {0})) (met : Environment MTLHeap) (x : Reply MTLHeap) (old new : Model) → pools.MeetsNoBudget call old.budgets → PoolStep old call met x new
    → PoolStep (without_budgets old) call met x (without_budgets new)
pool_plain call met x old new none a = plain.step_plain SeesQuestion SeesHeapFreed is_same_heap kinds_of_device call met x old new none a

allocate_plain : (d : AllocationCreateDesc) (valid : Bool) (met : Environment MTLHeap) (x : Reply MTLHeap) (old new : Model) → ((t : ℕ) → IsFirstServing d.location t → budget_at old.budgets t ≡ None)
    → AllocateStep d valid met x old new → AllocateStep d valid met x (without_budgets old) (without_budgets new)
allocate_plain d false met x old new none a = (a.0, a.1, ap without_budgets a.2)
allocate_plain d true met x old new none a = (a.0, a.1, pool_plain (pools.Allocate (request_in a.0 d)) met x old new (none a.0 a.1) a.2)

move_plain : (w : Allocation) (d : AllocationCreateDesc) (again : Bool) (met : Environment MTLHeap) (x : Reply MTLHeap) (old new : Model) → MoveStep w d again met x old new
    → MoveStep w d again met x (without_budgets old) (without_budgets new)
move_plain w d false met x old new a = (a.0, a.1, ap without_budgets a.2)
move_plain w d true met x old new a = pool_plain (pools.ProposeMove w.memory_type_index (piece_of w) (request_of d)) met x old new tt a

pub step_plain : (call : Call) (met : Environment MTLHeap) (x : Reply MTLHeap) (old new : Model) → MeetsNoBudget call old.budgets → Step call met x old new
    → Step call met x (without_budgets old) (without_budgets new)
step_plain (Allocate d) met x old new none a = allocate_plain d (is_valid d) met x old new none a
step_plain (Free w) met x old new none a = pool_plain (pools.Free w.memory_type_index (piece_of w)) met x old new tt a
step_plain (ProposeMove w d) met x old new none a = move_plain w d (is_again w.size d) met x old new a
step_plain Commit met x old new none a = (a.0, (a.1.0, ap without_budgets a.1.1))
step_plain (SetBudget t budget) met x old new none a = absurd none
step_plain (Budget t) met x old new none a = absurd none
step_plain Capacity met x old new none a = pool_plain pools.Capacity met x old new tt a
step_plain LiveHeaps met x old new none a = pool_plain pools.Handles met x old new tt a
step_plain Report met x old new none a = pool_plain pools.Report met x old new tt a
