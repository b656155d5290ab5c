-- No call but that which sets one changes a budget.
use Rattle.std.proofs.Common.{◌≡◌, ◌∙◌, ap, ℕ, List, Bool, true, false, Option, Some, None, Ok, Err, Result}
use Rattle.gpu_values.specs.Refusal.{Refusal}
use Rattle.gpu_core.specs.declared.piece.Piece.{Piece}
use Rattle.gpu_device.specs.declared.vulkan.types.DeviceMemory.{DeviceMemory}
use Rattle.gpu_vulkan.specs.Allocate.{is_valid}
use Rattle.gpu_vulkan.specs.Budgets.{SetsNoBudget}
use Rattle.gpu_vulkan.specs.Describe.{request_of}
use Rattle.gpu_vulkan.specs.Live.{is_same_memory, piece_of}
use Rattle.gpu_vulkan.specs.Reply.{Reply}
use Rattle.gpu_vulkan.specs.Step.{ModelState, Call, Allocate, Free, Write, Rename, ProposeMove, Report, Leaks, Read, Capacity, SetBudget, Budget, CallEnvironment, Step, AllocateStep}
use Rattle.gpu_vulkan.specs.Step.{FoundStep, Follows, FreeStep, RenameStep, Place, is_again, Proposes, MoveStep, host_met, pool_in, next_by}
use Rattle.gpu_vulkan.specs.Attempt.{AttemptEnvironment, Answer}
use Rattle.gpu_vulkan.specs.Setup.{Setup}
use Rattle.gpu_vulkan.specs.declared.allocation.Allocation.{Allocation}
use Rattle.gpu_vulkan.specs.declared.describe.AllocationCreateDesc.{AllocationCreateDesc}
use Rattle.gpu_pool.specs.State.{State}
use Rattle.gpu_pool.proofs.Moving.{others}

abbrev budgets_of : ModelState → List (Option ℕ)
budgets_of s = s.budgets

followed : (setup : Setup) (d : AllocationCreateDesc) (u : Option ℕ) (o : AttemptEnvironment) (t : ℕ) (first : Answer) (mid : ModelState) (x : Reply) (new : ModelState)
    → Follows setup d u o t first mid x new → new.budgets ≡ mid.budgets
followed setup d None o t first mid x new a = ap budgets_of a.2
followed setup d (Some u) o t first mid x new a = a.1.budgets

found : (setup : Setup) (d : AllocationCreateDesc) (t : Option ℕ) (o : CallEnvironment) (x : Reply) (old new : ModelState) → FoundStep setup d t o x old new → new.budgets ≡ old.budgets
found setup d None o x old new a = ap budgets_of a.same
found setup d (Some t) o x old new a = followed setup d (next_by setup d a.answer) o.second t a.answer a.mid x new a.follows ∙ a.attempt.budgets

allocated : (setup : Setup) (d : AllocationCreateDesc) (valid : Bool) (o : CallEnvironment) (x : Reply) (old new : ModelState) → AllocateStep setup d valid o x old new → new.budgets ≡ old.budgets
allocated setup d false o x old new a = ap budgets_of a.same
allocated setup d true o x old new a = found setup d _ o x old new a

freed : (setup : Setup) (t : ℕ) (p : Option (Piece DeviceMemory)) (x : Result (Unit {0}) Refusal) (old new : ModelState) → FreeStep setup t p x old new → new.budgets ≡ old.budgets
freed setup t None (Ok u) old new a = ap budgets_of a
freed setup t None (Err r) old new a = absurd a
freed setup t (Some p) (Ok u) old new a = ap (λ (s : State (Unit {0}) DeviceMemory). s.budgets) a.frees.state
freed setup t (Some p) (Err r) old new a = ap budgets_of a.2

renamed : (setup : Setup) (t : ℕ) (p : Option (Piece DeviceMemory)) (name : List ℕ) (host : Bool) (x : Result (Unit {0}) Refusal) (old new : ModelState) → RenameStep setup t p name host x old new
    → new.budgets ≡ old.budgets
renamed setup t None name host x old new a = ap budgets_of a.1
renamed setup t (Some p) name true (Ok u) old new a = ap (λ (s : State (Unit {0}) DeviceMemory). s.budgets) a.0.1
renamed setup t (Some p) name true (Err r) old new a = ap (λ (s : State (Unit {0}) DeviceMemory). s.budgets) a.0.1
renamed setup t (Some p) name false (Ok u) old new a = absurd a.0
renamed setup t (Some p) name false (Err r) old new a = ap (λ (s : State (Unit {0}) DeviceMemory). s.budgets) a.0.2

placed : (setup : Setup) (t : ℕ) (p : Option (Piece DeviceMemory)) (d : AllocationCreateDesc) (host : Bool) (answer : Place) (old new : ModelState)
    → Proposes t p d host (pool_in setup old) answer (pool_in setup new) → new.budgets ≡ old.budgets
placed setup t None d host answer old new a = ap (λ (s : State (Unit {0}) DeviceMemory). s.budgets) a.2
placed setup t (Some p) d host answer old new a =
    ap (λ (s : State (Unit {0}) DeviceMemory). s.budgets) (others is_same_memory t p (request_of d) (pool_in setup old) (pool_in setup new) answer (host_met host, a))

moved : (setup : Setup) (w : Allocation) (d : AllocationCreateDesc) (again : Bool) (o : CallEnvironment) (x : Reply) (old new : ModelState) → MoveStep setup w d again o x old new
    → new.budgets ≡ old.budgets
moved setup w d false o x old new a = ap budgets_of a.same
moved setup w d true o x old new a = placed setup w.memory_type_index (piece_of w) d o.first.host a.1 old new a.3.proposes

-- no call but that which sets one changes a budget
pub keeps_budgets : (setup : Setup) (call : Call) (o : CallEnvironment) (x : Reply) (old new : ModelState) → SetsNoBudget call → Step setup call o x old new → new.budgets ≡ old.budgets
keeps_budgets setup (Allocate d) o x old new h a = allocated setup d (is_valid d) o x old new a
keeps_budgets setup (Free f) o x old new h a = freed setup f.memory_type_index (piece_of f) a.1 old new a.3
keeps_budgets setup (Rename f name) o x old new h a = renamed setup f.memory_type_index (piece_of f) name o.first.host a.1 old new a.3
keeps_budgets setup (ProposeMove w d) o x old new h a = moved setup w d (is_again w.size d) o x old new a
keeps_budgets setup (Write w ws) o x old new h a = a.2.budgets
keeps_budgets setup (Read r) o x old new h a = ap budgets_of a.4
keeps_budgets setup Capacity o x old new h a = ap budgets_of a.2
keeps_budgets setup Report o x old new h a = ap budgets_of a.4
keeps_budgets setup Leaks o x old new h a = ap budgets_of a.4
keeps_budgets setup (SetBudget t budget) o x old new h a = absurd h
keeps_budgets setup (Budget t) o x old new h a = ap budgets_of a.2
