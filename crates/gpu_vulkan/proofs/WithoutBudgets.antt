-- A call that meets no budget is the same step where there are no budgets.
use Rattle.std.proofs.Common.{◌≡◌, ◌∙◌, refl, ap, ⊎_elim, inl, inr, ℕ, List, [], Bool, true, false, Option, Some, None, Ok, Err, Result}
use Rattle.std.specs.Prelude.{if◌then◌else◌, ◌&&◌, not}
use Rattle.gpu_values.specs.Refusal.{Refusal}
use Rattle.gpu_core.specs.declared.piece.Piece.{Piece}
use Rattle.gpu_device.specs.declared.vulkan.types.DeviceMemory.{DeviceMemory}
use Rattle.gpu_pool.proofs.WithoutBudgets.{serves_plain, proposes_plain}
use Rattle.gpu_core.specs.Budgets.{Budgets, budget_at}
use Rattle.gpu_vulkan.specs.Blocks.{Slots}
use Rattle.gpu_vulkan.specs.Attempt.{AttemptEnvironment, Answer, request_in, unseen, AnyQuestion}
use Rattle.gpu_vulkan.specs.Choice.{required, first_type, best_type}
use Rattle.gpu_vulkan.specs.Describe.{request_of}
use Rattle.gpu_vulkan.specs.Setup.{Setup}
use Rattle.gpu_vulkan.specs.Types.{kinds_of_device}
use Rattle.gpu_vulkan.specs.declared.describe.AllocationCreateDesc.{AllocationCreateDesc}
use Rattle.gpu_vulkan.specs.declared.allocation.Allocation.{Allocation}
use Rattle.gpu_vulkan.specs.Allocate.{Attempts, IsTooLarge, IsWithinHeap, is_valid, is_for_upload, is_short}
use Rattle.gpu_vulkan.specs.Budgets.{MayAsk, MeetsNoBudget, without_budgets}
use Rattle.gpu_vulkan.specs.Live.{is_same_memory, piece_of}
use Rattle.gpu_vulkan.specs.Reply.{Reply}
use Rattle.gpu_vulkan.specs.Step.{ModelState, Call, Allocate, Free, Write, Rename, ProposeMove, Report, Leaks, Read, Capacity, SetBudget, Budget, CallEnvironment}
use Rattle.gpu_vulkan.specs.Step.{Step, AttemptStep, AllocateStep, FoundStep, Follows, FreeStep, host_met, pool_in, KeepsTheRest, RenameStep, Place, is_again, Proposes, MoveStep, IsRead, next_by}
use Rattle.gpu_pool.specs.State as pools
use Rattle.gpu_core.proofs.Options.{none_some}

module _ (setup : Setup) (d : AllocationCreateDesc) where
  attempts_plain : (budgets : Budgets) (old : Slots) (t : ℕ) (o : AttemptEnvironment) (answer : Answer) (new : Slots) → budget_at budgets t ≡ None
      → Attempts setup budgets old t d o answer new → Attempts setup [] old t d o answer new
  attempts_plain budgets old t o answer new none a =
      ⊎_elim
      (λ (large : IsTooLarge setup old t d o answer new). inl large)
      (λ (within : IsWithinHeap setup budgets old t d o answer new).
      let k = within.allocates in
      inr (record {
        below = within.below;
        allocates = record {
          met = k.met;
          is_met = k.is_met;
          serves = serves_plain (kinds_of_device setup.properties) AnyQuestion (request_in t d) (unseen setup budgets old) none k.met answer (unseen setup budgets new) k.serves;
        };
        asked_for = within.asked_for;
      }))
      a

  attempt_plain : (t : ℕ) (o : AttemptEnvironment) (answer : Answer) (old new : ModelState) → budget_at old.budgets t ≡ None
      → AttemptStep setup t d o answer old new → AttemptStep setup t d o answer (without_budgets old) (without_budgets new)
  attempt_plain t o answer old new none a = record { slots = attempts_plain old.budgets old.slots t o answer new.slots none a.slots; budgets = refl; bytes = a.bytes; recorded = a.recorded }

  chosen : (b : Bool) (o : Option ℕ) (u : ℕ) → (if b then o else None) ≡ Some u → (b ≡ true) × (o ≡ Some u)
  chosen true o u is = (refl, is)
  chosen false o u is = absurd (none_some u is)

  both : (a b : Bool) → a && b ≡ true → a ≡ true
  both true b is = refl
  both false b is = is

  -- the memory type that is asked second is one that an upload may ask
  next_asked : (answer : Answer) (u : ℕ) → next_by setup d answer ≡ Some u → MayAsk setup d u
  next_asked (Ok p) u is = absurd (none_some u is)
  next_asked (Err r) u is =
      let c = chosen (is_for_upload d.location && not (is_short r)) (first_type setup.properties.types d.requirements.memory_type_bits (required d.location)) u is in
      inr (both (is_for_upload d.location) (not (is_short r)) c.0, c.1)

  follows_plain : (u : Option ℕ) (o : AttemptEnvironment) (t : ℕ) (first : Answer) (mid : ModelState) (x : Reply) (new : ModelState)
      → ((v : ℕ) → u ≡ Some v → budget_at mid.budgets v ≡ None) → Follows setup d u o t first mid x new → Follows setup d u o t first (without_budgets mid) x (without_budgets new)
  follows_plain None o t first mid x new none a = (a.0, a.1, ap without_budgets a.2)
  follows_plain (Some u) o t first mid x new none a = (a.0, attempt_plain u o a.0 mid new (none u refl) a.1, a.2)

  found_plain : (t : Option ℕ) (o : CallEnvironment) (x : Reply) (old new : ModelState) → best_type setup.properties.types d.requirements.memory_type_bits d.location ≡ t
      → ((v : ℕ) → MayAsk setup d v → budget_at old.budgets v ≡ None) → FoundStep setup d t o x old new → FoundStep setup d t o x (without_budgets old) (without_budgets new)
  found_plain None o x old new is none a = record { met = a.met; reply_is = a.reply_is; same = ap without_budgets a.same }
  found_plain (Some t) o x old new is none a = record {
    answer = a.answer;
    mid = without_budgets a.mid;
    attempt = attempt_plain t o.first a.answer old a.mid (none t (inl is)) a.attempt;
    follows = follows_plain (next_by setup d a.answer) o.second t a.answer a.mid x new
        (λ v next. ap (λ z. budget_at z v) a.attempt.budgets ∙ none v (next_asked a.answer v next)) a.follows;
  }

  allocate_plain : (valid : Bool) (o : CallEnvironment) (x : Reply) (old new : ModelState) → ((v : ℕ) → MayAsk setup d v → budget_at old.budgets v ≡ None)
      → AllocateStep setup d valid o x old new → AllocateStep setup d valid o x (without_budgets old) (without_budgets new)
  allocate_plain false o x old new none a = record { met = a.met; reply_is = a.reply_is; same = ap without_budgets a.same }
  allocate_plain true o x old new none a = found_plain _ o x old new refl none a

free_plain : (setup : Setup) (t : ℕ) (p : Option (Piece DeviceMemory)) (x : Result (Unit {0}) Refusal) (old new : ModelState) → FreeStep setup t p x old new
    → FreeStep setup t p x (without_budgets old) (without_budgets new)
free_plain setup t None (Ok u) old new a = ap without_budgets a
free_plain setup t None (Err r) old new a = absurd a
free_plain setup t (Some p) (Ok u) old new a =
    let f = a.frees in
    record { live = a.live; frees = record { went = f.went; slots = f.slots; source = f.source; state = ap pools.without_budgets f.state }; mid = a.mid; back = a.back; drops = a.drops; recorded = a.recorded }
free_plain setup t (Some p) (Err r) old new a = (a.0, a.1, ap without_budgets a.2)

kept_plain : (old new : ModelState) → KeepsTheRest old new → KeepsTheRest (without_budgets old) (without_budgets new)
kept_plain old new a = record { byte_view = a.byte_view; history = a.history }

rename_plain : (setup : Setup) (t : ℕ) (p : Option (Piece DeviceMemory)) (name : List ℕ) (host : Bool) (x : Result (Unit {0}) Refusal) (old new : ModelState) → RenameStep setup t p name host x old new
    → RenameStep setup t p name host x (without_budgets old) (without_budgets new)
rename_plain setup t None name host x old new a = (a.0, ap without_budgets a.1)
rename_plain setup t (Some p) name true (Ok u) old new a = ((a.0.0, ap pools.without_budgets a.0.1), kept_plain old new a.1)
rename_plain setup t (Some p) name true (Err r) old new a = ((record { dead = a.0.0.dead; other = a.0.0.other; cause = a.0.0.cause }, ap pools.without_budgets a.0.1), kept_plain old new a.1)
rename_plain setup t (Some p) name false (Ok u) old new a = absurd a.0
rename_plain setup t (Some p) name false (Err r) old new a = ((a.0.0, a.0.1, ap pools.without_budgets a.0.2), kept_plain old new a.1)

place_plain : (setup : Setup) (t : ℕ) (p : Option (Piece DeviceMemory)) (d : AllocationCreateDesc) (host : Bool) (answer : Place) (old new : ModelState)
    → Proposes t p d host (pool_in setup old) answer (pool_in setup new) → Proposes t p d host (pool_in setup (without_budgets old)) answer (pool_in setup (without_budgets new))
place_plain setup t None d host answer old new a = (a.0, a.1, ap pools.without_budgets a.2)
place_plain setup t (Some p) d host answer old new a = proposes_plain is_same_memory t p (request_of d) (pool_in setup old) (host_met host) answer (pool_in setup new) a

move_plain : (setup : Setup) (w : Allocation) (d : AllocationCreateDesc) (again : Bool) (o : CallEnvironment) (x : Reply) (old new : ModelState) → MoveStep setup w d again o x old new
    → MoveStep setup w d again o x (without_budgets old) (without_budgets new)
move_plain setup w d false o x old new a = record { met = a.met; reply_is = a.reply_is; same = ap without_budgets a.same }
move_plain setup w d true o x old new a = (
  a.0,
  a.1,
  a.2,
  record { proposes = place_plain setup w.memory_type_index (piece_of w) d o.first.host a.1 old new a.3.proposes; bytes = a.3.bytes; recorded = a.3.recorded },
)

read_plain : (setup : Setup) (r : Allocation) (bytes : Option (List ℕ)) (s : ModelState) → IsRead setup r s bytes → IsRead setup r (without_budgets s) bytes
read_plain setup r None s is = is
read_plain setup r (Some xs) s is = is

pub step_plain : (setup : Setup) (call : Call) (o : CallEnvironment) (x : Reply) (old new : ModelState) → MeetsNoBudget setup call old.budgets → Step setup call o x old new
    → Step setup call o x (without_budgets old) (without_budgets new)
step_plain setup (Allocate d) o x old new none a = allocate_plain setup d (is_valid d) o x old new none a
step_plain setup (Free f) o x old new none a = (a.0, a.1, a.2, free_plain setup f.memory_type_index (piece_of f) a.1 old new a.3)
step_plain setup (Rename f name) o x old new none a = (a.0, a.1, a.2, rename_plain setup f.memory_type_index (piece_of f) name o.first.host a.1 old new a.3)
step_plain setup (ProposeMove w d) o x old new none a = move_plain setup w d (is_again w.size d) o x old new a
step_plain setup (Write w ws) o x old new none a = (a.0, a.1, record { live = a.2.live; slots = a.2.slots; budgets = refl; history = a.2.history; writes = a.2.writes })
step_plain setup (Read r) o x old new none a = (a.0, a.1, a.2, read_plain setup r a.1 old a.3, ap without_budgets a.4)
step_plain setup Capacity o x old new none a = (a.0, a.1, ap without_budgets a.2)
step_plain setup Report o x old new none a = (a.0, a.1, a.2, a.3, ap without_budgets a.4)
step_plain setup Leaks o x old new none a = (a.0, a.1, a.2, a.3, ap without_budgets a.4)
step_plain setup (SetBudget t budget) o x old new none a = absurd none
step_plain setup (Budget t) o x old new none a = absurd none
