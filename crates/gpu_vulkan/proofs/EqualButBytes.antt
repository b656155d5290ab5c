-- Calls that differ at most in bytes get the same reply but for bytes, and leave the same blocks.
use Rattle.std.proofs.Common.{map, ◌≡◌, ◌∙◌, ℕ, ◌<◌, length, Ok, Err, Result, refl, sym, ap, subst, Bool, true, false, List, [], Option, Some, None, IsTrue, arith, ⊎_elim}
use Rattle.std.specs.Prelude.{◌&&◌, not, if◌then◌else◌}
use Rattle.gpu_values.specs.Refusal.{Refusal}
use Rattle.gpu_block_pieces.specs.Leak.{leak_text}
use Rattle.gpu_core.specs.TypeRelease.{has_others, ReleasesPiece}
use Rattle.gpu_core.specs.declared.piece.Piece.{Piece}
use Rattle.gpu_core.proofs.OneOutcome.{released_once}
use Rattle.gpu_device.specs.declared.vulkan.event.Event.{Event}
use Rattle.gpu_device.specs.declared.vulkan.types.DeviceMemory.{DeviceMemory}
use Rattle.gpu_device.specs.declared.vulkan.types.MemoryAllocateInfo.{MemoryAllocateInfo}
use Rattle.gpu_core.specs.Budgets.{Budgets, budget_at}
use Rattle.gpu_vulkan.proofs.KeptBudgets.{keeps_budgets}
use Rattle.gpu_vulkan.proofs.OneStep.{allocates_once, mid_sound, SameBlocks, unchanged, free_alike, rename_alike, rename_rest, place_alike, set_alike}
use Rattle.gpu_pool.specs.Move.{ProposesBy}
use Rattle.gpu_pool.specs.State as pools
use Rattle.gpu_pool.specs.Step.{Makes}
use Rattle.gpu_pool.proofs.OneStep.{makes_once}
use Rattle.gpu_vulkan.specs.Allocate.{Attempts, IsTooLarge, IsWithinHeap, is_valid, is_for_upload, is_short}
use Rattle.gpu_vulkan.specs.EqualButBytes.{EqualButBytesAnswer, EqualButBytesAsked, EqualButBytesAttemptEnvironment, EqualButBytesCallEnvironment, EqualButBytesDescription, EqualButBytesCall}
use Rattle.gpu_vulkan.specs.EqualButBytes.{EqualButBytesReply}
use Rattle.gpu_core.proofs.Options.{none_some, some_same}
use Rattle.gpu_device.specs.declared.vulkan.types.AllocationScheme.{AllocationScheme}
use Rattle.gpu_pool.specs.Allocate.{RequestAt, Environment, NothingMet, NoHostMemory, Answered, PoolServes}
use Rattle.gpu_vulkan.specs.Source.{IsResult}
use Rattle.gpu_vulkan.proofs.Following.{next_below, best_below}
use Rattle.gpu_vulkan.specs.Attempt.{AttemptEnvironment, Asked, Answer, IsMet, request_in, unseen, AnyQuestion, AttemptAllocates}
use Rattle.gpu_vulkan.specs.BlockAnswer.{BlockAnswer, Declined, Granted, Mapped, NotMapped, answer_number, answer_refusal, question_recorded}
use Rattle.gpu_vulkan.specs.Types.{is_mapped, kinds_of_device}
use Rattle.gpu_vulkan.specs.Blocks.{Slots}
use Rattle.gpu_core.specs.Blocks.{slots_at, total_capacity, BlocksWellFormed}
use Rattle.gpu_vulkan.specs.Choice.{first_type, required, best_type}
use Rattle.gpu_vulkan.specs.Describe.{requests_dedicated, kind_of, request_of}
use Rattle.gpu_vulkan.specs.Live.{is_same_memory, piece_of, IsMapped}
use Rattle.gpu_core.specs.Leaks.{all_leaks}
use Rattle.gpu_core.specs.Reports.{whole_report}
use Rattle.gpu_vulkan.specs.Setup.{Setup}
use Rattle.gpu_vulkan.specs.Reply as replies
use Rattle.gpu_vulkan.specs.Reply.{Reply, Allocated, Error, SecondPlace, Done, Bytes, done_with, placed_with, report_with, leaks_with}
use Rattle.gpu_vulkan.specs.Step.{ModelState, Call, Allocate, Free, Write, Rename, ProposeMove, Report, Leaks, Read, Capacity, SetBudget, Budget}
use Rattle.gpu_vulkan.specs.Step.{CallEnvironment, AttemptStep, reply_of, next_by, Follows, ServeStep, RefuseStep, FoundStep, AllocateStep, asked_recorded, went_recorded, FreeStep, host_met, pool_in, RenameStep, Place, is_again, Proposes, MoveStep, IsRead, Step}
use Rattle.gpu_vulkan.specs.declared.allocation.Allocation.{Allocation}
use Rattle.gpu_vulkan.specs.declared.describe.AllocationCreateDesc.{AllocationCreateDesc}

-- ---- descriptions that ask for the same

same_request : (d e : AllocationCreateDesc) → EqualButBytesDescription d e → request_of d ≡ request_of e
same_request d e a = λ i. record { size = (a.requirements i).size; alignment = (a.requirements i).alignment; kind = kind_of (a.linear i); name = a.name i }

next_alike : (setup : Setup) (d e : AllocationCreateDesc) (answer : Answer) → EqualButBytesDescription d e → next_by setup d answer ≡ next_by setup e answer
next_alike setup d e (Ok p) a = refl
next_alike setup d e (Err r) a =
    λ i. if is_for_upload (a.location i) && not (is_short r) then first_type setup.properties.types (a.requirements i).memory_type_bits (required (a.location i)) else None

-- ---- answers that differ in bytes alone

number_alike : (a b : BlockAnswer) → EqualButBytesAnswer a b → answer_number a ≡ answer_number b
number_alike (Mapped n xs) (Mapped m ys) same = ap Some same
number_alike (Mapped n xs) (Declined code) same = ap answer_number same
number_alike (Mapped n xs) (Granted m) same = ap answer_number same
number_alike (Mapped n xs) (NotMapped number code) same = ap answer_number same
number_alike (Declined code) b same = ap answer_number same
number_alike (Granted n) b same = ap answer_number same
number_alike (NotMapped number code) b same = ap answer_number same

refusal_alike : (a b : BlockAnswer) → EqualButBytesAnswer a b → answer_refusal a ≡ answer_refusal b
refusal_alike (Mapped n xs) (Mapped m ys) same = refl
refusal_alike (Mapped n xs) (Declined code) same = ap answer_refusal same
refusal_alike (Mapped n xs) (Granted m) same = ap answer_refusal same
refusal_alike (Mapped n xs) (NotMapped number code) same = ap answer_refusal same
refusal_alike (Declined code) b same = ap answer_refusal same
refusal_alike (Granted n) b same = ap answer_refusal same
refusal_alike (NotMapped number code) b same = ap answer_refusal same

result_alike : (r : Result DeviceMemory Refusal) (a b : BlockAnswer) → EqualButBytesAnswer a b → IsResult r b → IsResult r a
result_alike (Ok memory) a b same is = number_alike a b same ∙ is
result_alike (Err e) a b same is = refusal_alike a b same ∙ is

recorded_alike : (info : MemoryAllocateInfo) (a b : BlockAnswer) (before : List Event) → EqualButBytesAnswer a b → question_recorded info a before ≡ question_recorded info b before
recorded_alike info (Mapped n xs) (Mapped m ys) before same = ap (λ k. question_recorded info (Mapped k []) before) same
recorded_alike info (Mapped n xs) (Declined code) before same = ap (λ a. question_recorded info a before) same
recorded_alike info (Mapped n xs) (Granted m) before same = ap (λ a. question_recorded info a before) same
recorded_alike info (Mapped n xs) (NotMapped number code) before same = ap (λ a. question_recorded info a before) same
recorded_alike info (Declined code) b before same = ap (λ a. question_recorded info a before) same
recorded_alike info (Granted n) b before same = ap (λ a. question_recorded info a before) same
recorded_alike info (NotMapped number code) b before same = ap (λ a. question_recorded info a before) same

asked_alike : (o p : Option Asked) (before other : List Event) → EqualButBytesAsked o p → before ≡ other → asked_recorded o before ≡ asked_recorded p other
asked_alike None None before other same e = e
asked_alike None (Some b) before other same e = absurd same
asked_alike (Some a) None before other same e = absurd same
asked_alike (Some a) (Some b) before other same e =
    let info = same.0 in
    (λ i. question_recorded (info i) a.answer (e i)) ∙ recorded_alike b.info a.answer b.answer other same.1

none_alike : (o p : Option Asked) → EqualButBytesAsked o p → p ≡ None → o ≡ None
none_alike None p same is = refl
none_alike (Some a) None same is = absurd same
none_alike (Some a) (Some b) same is = absurd (none_some b (sym is))

-- what was asked otherwise, and how it was answered
record AskedAs (o : Option Asked) (size : ℕ) (r : Result DeviceMemory Refusal) : Type 0 where
  pub asked : Asked
  pub is : o ≡ Some asked
  pub sized : asked.info.size ≡ size
  pub result : IsResult r asked.answer

some_alike : (o p : Option Asked) (b : Asked) (size : ℕ) (r : Result DeviceMemory Refusal) → EqualButBytesAsked o p → p ≡ Some b → b.info.size ≡ size → IsResult r b.answer → AskedAs o size r
some_alike None None b size r same is sized result = absurd (none_some b is)
some_alike None (Some c) b size r same is sized result = absurd same
some_alike (Some a) None b size r same is sized result = absurd same
some_alike (Some a) (Some c) b size r same is sized result =
    let one : c ≡ b = some_same c b is in
    record {
      asked = a;
      is = refl;
      sized = ap (λ (i : MemoryAllocateInfo). i.size) same.0 ∙ ap (λ (k : Asked). k.info.size) one ∙ sized;
      result = result_alike r a.answer c.answer same.1 (subst (λ (k : Asked). IsResult r k.answer) (sym one) result);
    }

met_alike : (o p : AttemptEnvironment) (met : Environment DeviceMemory) → EqualButBytesAttemptEnvironment o p → IsMet p met → IsMet o met
met_alike o p NothingMet same is = (same.host ∙ is.0, none_alike o.asked p.asked same.asked is.1)
met_alike o p NoHostMemory same is = (same.host ∙ is.0, none_alike o.asked p.asked same.asked is.1)
met_alike o p (Answered size r) same is =
    let b = is.1 in
    let a = some_alike o.asked p.asked b.0 size r same.asked b.1 b.2 b.3 in
    (same.host ∙ is.0, (a.asked, a.is, a.sized, a.result))

-- ---- an attempt

-- from two histories that are the same come two that are
abbrev SameHistory : (old new twin next : ModelState) → Type 0
SameHistory old new twin next = old.history ≡ twin.history → new.history ≡ next.history

abbrev history_in : ModelState → List Event
history_in s = s.history

-- where nothing changes on either side
unchanged_history : (old new twin next : ModelState) → new ≡ old → next ≡ twin → SameHistory old new twin next
unchanged_history old new twin next a b e = ap history_in a ∙ e ∙ sym (ap history_in b)

module _ (setup : Setup) (d e : AllocationCreateDesc) (same : EqualButBytesDescription d e) where
  same_size : d.requirements.size ≡ e.requirements.size
  same_size = ap (λ r. r.size) same.requirements

  same_request_in : (t : ℕ) → request_in t d ≡ request_in t e
  same_request_in t =
      let requests = same_request d e same in
      λ j. record { memory_type = t; requested_dedicated = requests_dedicated (same.scheme j); request = requests j; extra = same.scheme j }

  within_alike : (budgets : Budgets) (old : Slots) (t : ℕ) (o p : AttemptEnvironment) (x y : Answer) (new next : Slots) → t < length setup.properties.types
      → BlocksWellFormed setup.properties.granularity old → EqualButBytesAttemptEnvironment o p
      → IsWithinHeap setup budgets old t d o x new → IsWithinHeap setup budgets old t e p y next → (x ≡ y) × (new ≡ next)
  within_alike budgets old t o p x y new next there sound met a b =
      let k = b.allocates in
      let kinds = kinds_of_device setup.properties in
      let other : AttemptAllocates setup budgets old t d o y next = record {
        met = k.met;
        is_met = met_alike o p k.met met k.is_met;
        serves = subst (λ (q : RequestAt AllocationScheme). PoolServes kinds AnyQuestion q (unseen setup budgets old) k.met y (unseen setup budgets next)) (sym (same_request_in t)) k.serves;
      } in
      allocates_once setup budgets old t d there sound o x y new next a.allocates other

  attempts_alike : (budgets : Budgets) (old : Slots) (t : ℕ) (o p : AttemptEnvironment) (x y : Answer) (new next : Slots) → t < length setup.properties.types
      → BlocksWellFormed setup.properties.granularity old → EqualButBytesAttemptEnvironment o p
      → Attempts setup budgets old t d o x new → Attempts setup budgets old t e p y next → (x ≡ y) × (new ≡ next)
  attempts_alike budgets old t o p x y new next there sound met a b =
      ⊎_elim
      (λ (la : IsTooLarge setup old t d o x new).
      ⊎_elim
      (λ (lb : IsTooLarge setup old t e p y next). (la.answer_is ∙ sym lb.answer_is, la.same ∙ sym lb.same))
      (λ (pb : IsWithinHeap setup budgets old t e p y next). let above = la.above in let below = pb.below in absurd (omega (arith, above, below, same_size)))
      b)
      (λ (pa : IsWithinHeap setup budgets old t d o x new).
      ⊎_elim
      (λ (lb : IsTooLarge setup old t e p y next). let above = lb.above in let below = pa.below in absurd (omega (arith, above, below, same_size)))
      (λ (pb : IsWithinHeap setup budgets old t e p y next). within_alike budgets old t o p x y new next there sound met pa pb)
      b)
      a

  -- the same from two states with the same blocks and budgets
  attempt_alike : (t : ℕ) (o p : AttemptEnvironment) (x y : Answer) (old new twin next : ModelState) → t < length setup.properties.types → BlocksWellFormed setup.properties.granularity old.slots → old.slots ≡ twin.slots → old.budgets ≡
      twin.budgets → EqualButBytesAttemptEnvironment o p
      → AttemptStep setup t d o x old new → AttemptStep setup t e p y twin next → (x ≡ y) × (new.slots ≡ next.slots) × SameHistory old new twin next
  attempt_alike t o p x y old new twin next there sound slots budgets met a b =
      let other = subst (λ z. Attempts setup z old.slots t e p y next.slots) (sym budgets) (subst (λ z. Attempts setup twin.budgets z t e p y next.slots) (sym slots) b.slots) in
      let both = attempts_alike old.budgets old.slots t o p x y new.slots next.slots there sound met a.slots other in
      (both.0, both.1, λ h. a.recorded ∙ asked_alike o.asked p.asked old.history twin.history met.asked h ∙ sym b.recorded)

  follows_alike : (u : Option ℕ) (o p : AttemptEnvironment) (t : ℕ) (first : Answer) (mid twin : ModelState) (x y : Reply) (new next : ModelState) →
      ((v : ℕ) → u ≡ Some v → (v < length setup.properties.types) × BlocksWellFormed setup.properties.granularity mid.slots)
      → mid.slots ≡ twin.slots → mid.budgets ≡ twin.budgets → EqualButBytesAttemptEnvironment o p → Follows setup d u o t first mid x new → Follows setup e u p t first twin y next → (x ≡ y) ×
      (new.slots ≡ next.slots) × SameHistory mid new twin next
  follows_alike None o p t first mid twin x y new next sound slots budgets met a b = (a.1 ∙ sym b.1, ap (λ s. s.slots) a.2 ∙ slots ∙ sym (ap (λ s. s.slots) b.2), unchanged_history mid new twin next a.2 b.2)
  follows_alike (Some u) o p t first mid twin x y new next sound slots budgets met a b =
      let once = attempt_alike u o p a.0 b.0 mid new twin next (sound u refl).0 (sound u refl).1 slots budgets met a.1 b.1 in
      (a.2 ∙ ap (reply_of u) once.0 ∙ sym b.2, once.1, once.2)

  serve_alike : (t : ℕ) (o p : CallEnvironment) (x y : Reply) (old new twin next : ModelState) → t < length setup.properties.types → BlocksWellFormed setup.properties.granularity old.slots → old.slots ≡ twin.slots → old.budgets ≡
      twin.budgets → EqualButBytesCallEnvironment o p
      → ServeStep setup t d o x old new → ServeStep setup t e p y twin next → (x ≡ y) × (new.slots ≡ next.slots) × SameHistory old new twin next
  serve_alike t o p x y old new twin next there sound slots budgets met a b =
      let first = attempt_alike t o.first p.first a.answer b.answer old a.mid twin b.mid there sound slots budgets met.first a.attempt b.attempt in
      let answers = first.0 in
      let named : Follows setup e (next_by setup e a.answer) p.second t a.answer b.mid y next =
      subst (λ w. Follows setup e (next_by setup e w) p.second t w b.mid y next) (sym answers) b.follows in
      let other : Follows setup e (next_by setup d a.answer) p.second t a.answer b.mid y next =
      subst (λ u. Follows setup e u p.second t a.answer b.mid y next) (sym (next_alike setup d e a.answer same)) named in
      let second = follows_alike (next_by setup d a.answer) o.second p.second t a.answer a.mid b.mid x y new next
      (λ v is. (next_below setup d a.answer v is, mid_sound setup t v d o.first a.answer old a.mid sound a.attempt is)) first.1
      (a.attempt.budgets ∙ budgets ∙ sym b.attempt.budgets) met.second a.follows other in
      (second.0, second.1, λ h. second.2 (first.2 h))

  refuse_alike : (r : Refusal) (o p : CallEnvironment) (x y : Reply) (old new twin next : ModelState) → old.slots ≡ twin.slots → RefuseStep r o x old new → RefuseStep r p y twin next → (x ≡ y) ×
      (new.slots ≡ next.slots) × SameHistory old new twin next
  refuse_alike r o p x y old new twin next slots a b =
      (a.reply_is ∙ sym b.reply_is, ap (λ s. s.slots) a.same ∙ slots ∙ sym (ap (λ s. s.slots) b.same), unchanged_history old new twin next a.same b.same)

  found_alike : (t : Option ℕ) (o p : CallEnvironment) (x y : Reply) (old new twin next : ModelState) → ((v : ℕ) → t ≡ Some v → v < length setup.properties.types) → BlocksWellFormed setup.properties.granularity old.slots → old.slots ≡ twin.slots → old.budgets
      ≡ twin.budgets → EqualButBytesCallEnvironment o p
      → FoundStep setup d t o x old new → FoundStep setup e t p y twin next → (x ≡ y) × (new.slots ≡ next.slots) × SameHistory old new twin next
  found_alike None o p x y old new twin next there sound slots budgets met a b = refuse_alike _ o p x y old new twin next slots a b
  found_alike (Some t) o p x y old new twin next there sound slots budgets met a b = serve_alike t o p x y old new twin next (there t refl) sound slots budgets met a b

  allocate_alike : (valid : Bool) (o p : CallEnvironment) (x y : Reply) (old new twin next : ModelState) → BlocksWellFormed setup.properties.granularity old.slots → old.slots ≡ twin.slots →
      old.budgets ≡ twin.budgets → EqualButBytesCallEnvironment o p
      → AllocateStep setup d valid o x old new → AllocateStep setup e valid p y twin next → (x ≡ y) × (new.slots ≡ next.slots) × SameHistory old new twin next
  allocate_alike false o p x y old new twin next sound slots budgets met a b = refuse_alike _ o p x y old new twin next slots a b
  allocate_alike true o p x y old new twin next sound slots budgets met a b =
      let types : best_type setup.properties.types d.requirements.memory_type_bits d.location ≡ best_type setup.properties.types e.requirements.memory_type_bits e.location =
      λ i. best_type setup.properties.types (same.requirements i).memory_type_bits (same.location i) in
      found_alike _ o p x y old new twin next (λ v is. best_below setup d v is) sound slots budgets met a (subst (λ t. FoundStep setup e t p y twin next) (sym types) b)

  valid_alike : is_valid d ≡ is_valid e
  valid_alike = ap (λ r. is_valid (record d { requirements = r })) same.requirements

-- ---- a second place

again_alike : (size : ℕ) (d e : AllocationCreateDesc) → EqualButBytesDescription d e → is_again size d ≡ is_again size e
again_alike size d e same = λ i. is_again size (record d { requirements = same.requirements i; allocation_scheme = same.scheme i })

same_proposes : (t : ℕ) (q : Option (Piece DeviceMemory)) (d e : AllocationCreateDesc) → EqualButBytesDescription d e → (host : Bool) (answer : Place) (old new : pools.State (Unit {0}) DeviceMemory)
    → Proposes t q e host old answer new → Proposes t q d host old answer new
same_proposes t None d e same host answer old new a = a
same_proposes t (Some q) d e same host answer old new a = subst (λ r. ProposesBy is_same_memory t q r old (host_met host) answer new) (sym (same_request d e same)) a

-- ---- bytes

read_alike : (setup : Setup) (a : Allocation) (s t : ModelState) (x y : Option (List ℕ)) → s.slots ≡ t.slots → IsRead setup a s x → IsRead setup a t y → EqualButBytesReply (Bytes x) (Bytes y)
read_alike setup a s t None None slots h k = refl
read_alike setup a s t None (Some ys) slots h k = absurd (h (subst (λ z. IsMapped setup.properties z a) (sym slots) k.0))
read_alike setup a s t (Some xs) None slots h k = absurd (k (subst (λ z. IsMapped setup.properties z a) slots h.0))
read_alike setup a s t (Some xs) (Some ys) slots h k = tt

bytes_alike : (x y : Reply) (xs ys : Option (List ℕ)) → x ≡ Bytes xs → y ≡ Bytes ys → EqualButBytesReply (Bytes xs) (Bytes ys) → EqualButBytesReply x y
bytes_alike x y xs ys e f h = subst (λ z. EqualButBytesReply z y) (sym e) (subst (λ z. EqualButBytesReply (Bytes xs) z) (sym f) h)

-- the same reply is alike
same_alike : (x y : Reply) → x ≡ y → EqualButBytesReply x y
same_alike (Bytes (Some xs)) (Bytes (Some ys)) e = tt
same_alike (Bytes (Some xs)) (Bytes None) e = e
same_alike (Bytes (Some xs)) (Allocated t p) e = e
same_alike (Bytes (Some xs)) (Error r) e = e
same_alike (Bytes (Some xs)) (SecondPlace t p) e = e
same_alike (Bytes (Some xs)) Done e = e
same_alike (Bytes (Some xs)) (replies.Capacity n) e = e
same_alike (Bytes (Some xs)) (replies.Report r) e = e
same_alike (Bytes (Some xs)) (replies.Leaks ts) e = e
same_alike (Bytes (Some xs)) (replies.Budget n) e = e
same_alike (Bytes None) y e = e
same_alike (Allocated t p) y e = e
same_alike (Error r) y e = e
same_alike (SecondPlace t p) y e = e
same_alike Done y e = e
same_alike (replies.Capacity n) y e = e
same_alike (replies.Report r) y e = e
same_alike (replies.Leaks ts) y e = e
same_alike (replies.Budget n) y e = e

-- the block that goes is the same
free_history : (setup : Setup) (t : ℕ) (p : Option (Piece DeviceMemory)) (x : Result (Unit {0}) Refusal) (old new twin next : ModelState) → BlocksWellFormed setup.properties.granularity old.slots
    → old.slots ≡ twin.slots → FreeStep setup t p x old new → FreeStep setup t p x twin next → SameHistory old new twin next
free_history setup t None (Ok u) old new twin next sound slots a b = unchanged_history old new twin next a b
free_history setup t None (Err r) old new twin next sound slots a b = absurd a
free_history setup t (Some p) (Err r) old new twin next sound slots a b = unchanged_history old new twin next a.2 b.2
free_history setup t (Some p) (Ok u) old new twin next sound slots a b =
    let r = a.frees.slots in
    let s = b.frees.slots in
    let there = subst (λ (ss : Slots). ReleasesPiece (IsTrue (has_others (slots_at ss t))) (slots_at ss t) p b.frees.went s.left) (sym slots) s.releases in
    let went = (released_once setup.properties.granularity (IsTrue (has_others (slots_at old.slots t))) (slots_at old.slots t) p a.frees.went b.frees.went r.left s.left (sound t) r.releases there).0 in
    λ h. a.recorded ∙ (λ i. went_recorded (is_mapped setup.properties t) (went i) (h i)) ∙ sym b.recorded

-- ---- any call

module _ (setup : Setup) (o p : CallEnvironment) (x y : Reply) (old new twin next : ModelState) (sound : BlocksWellFormed setup.properties.granularity old.slots) (slots : old.slots ≡ twin.slots)
    (budgets : old.budgets ≡ twin.budgets) (met : EqualButBytesCallEnvironment o p) where
  abbrev Alike : Type 0
  Alike = EqualButBytesReply x y × SameBlocks new next × SameHistory old new twin next

  unchanged_both : new ≡ old → next ≡ twin → SameBlocks new next × SameHistory old new twin next
  unchanged_both a b = (unchanged setup old new twin next sound (slots, budgets) a b, unchanged_history old new twin next a b)

  allocated : (d e : AllocationCreateDesc) → EqualButBytesDescription d e → Step setup (Allocate d) o x old new → Step setup (Allocate e) p y twin next → Alike
  allocated d e same a b =
      let once = allocate_alike setup d e same (is_valid d) o p x y old new twin next sound slots budgets met a
      (subst (λ v. AllocateStep setup e v p y twin next) (sym (valid_alike setup d e same)) b) in
      (same_alike x y once.0, (once.1, keeps_budgets setup (Allocate d) o x old new tt a ∙ budgets ∙ sym (keeps_budgets setup (Allocate e) p y twin next tt b)), once.2)

  written : (w v : Allocation) (ws vs : List ℕ) → Step setup (Write w ws) o x old new → Step setup (Write v vs) p y twin next → Alike
  written w v ws vs a b = (same_alike x y (a.1 ∙ sym b.1), (a.2.slots ∙ slots ∙ sym b.2.slots, a.2.budgets ∙ budgets ∙ sym b.2.budgets), λ h. a.2.history ∙ h ∙ sym b.2.history)

  -- what is made of the same blocks for callers of hosts alike
  made : {A : Type 0} (of : Slots → A) (u v : Result A Refusal) → Makes (of old.slots) (host_met o.first.host) u → Makes (of twin.slots) (host_met p.first.host) v → u ≡ v
  made {A} of u v a b =
      let host = met.first.host in
      makes_once (of old.slots) (host_met o.first.host) u v a
      (subst (λ h. Makes (of old.slots) (host_met h) v) (sym host) (subst (λ (ss : Slots). Makes (of ss) (host_met p.first.host) v) (sym slots) b))

  -- a second place
  moved : (w : Allocation) (d e : AllocationCreateDesc) → EqualButBytesDescription d e → (again : Bool) → MoveStep setup w d again o x old new → MoveStep setup w e again p y twin next → Alike
  moved w d e same false a b = let both = unchanged_both a.same b.same in (same_alike x y (a.reply_is ∙ sym b.reply_is), both.0, both.1)
  moved w d e same true a b =
      let t = w.memory_type_index in
      let hosts = subst (λ h. Proposes t (piece_of w) e h (pool_in setup twin) b.1 (pool_in setup next)) (sym met.first.host) b.3.proposes in
      let other = same_proposes t (piece_of w) d e same o.first.host b.1 (pool_in setup twin) (pool_in setup next) hosts in
      let once = place_alike setup old new twin next sound (slots, budgets) t (piece_of w) d o.first.host a.1 b.1 a.3.proposes other in
      (same_alike x y (a.2 ∙ ap (placed_with t) once.0 ∙ sym b.2), once.1, λ h. a.3.recorded ∙ h ∙ sym b.3.recorded)

  proposed : (w v : Allocation) (d e : AllocationCreateDesc) → w ≡ v → EqualButBytesDescription d e → Step setup (ProposeMove w d) o x old new → Step setup (ProposeMove v e) p y twin next → Alike
  proposed w v d e one same a b =
      moved w d e same (is_again w.size d) a
      (subst (λ z. MoveStep setup w e z p y twin next) (sym (again_alike w.size d e same)) (subst (λ u. MoveStep setup u e (is_again u.size e) p y twin next) (sym one) b))

  -- the same call
  same_call : (call : Call) → Step setup call o x old new → Step setup call p y twin next → Alike
  same_call (Allocate d) a b = allocated d d (record { requirements = refl; location = refl; linear = refl; scheme = refl; name = refl }) a b
  same_call (Write w ws) a b = written w w ws ws a b
  same_call (Free f) a b =
      let t = f.memory_type_index in
      let once = free_alike setup old new twin next sound (slots, budgets) t (piece_of f) a.1 b.1 a.3 b.3 in
      let other = subst (λ z. FreeStep setup t (piece_of f) z twin next) (sym once.0) b.3 in
      (same_alike x y (a.2 ∙ ap done_with once.0 ∙ sym b.2), once.1, free_history setup t (piece_of f) a.1 old new twin next sound slots a.3 other)
  same_call (Rename f name) a b =
      let t = f.memory_type_index in
      let other = subst (λ h. RenameStep setup t (piece_of f) name h b.1 twin next) (sym met.first.host) b.3 in
      let once = rename_alike setup old new twin next sound (slots, budgets) t (piece_of f) name o.first.host a.1 b.1 a.3 other in
      let here = rename_rest setup t (piece_of f) name o.first.host a.1 old new a.3 in
      let there = rename_rest setup t (piece_of f) name o.first.host b.1 twin next other in
      (same_alike x y (a.2 ∙ ap done_with once.0 ∙ sym b.2), once.1, λ h. here.history ∙ h ∙ sym there.history)
  same_call (ProposeMove w d) a b = proposed w w d d refl (record { requirements = refl; location = refl; linear = refl; scheme = refl; name = refl }) a b
  same_call (Read r) a b =
      let both = unchanged_both a.4 b.4 in
      (bytes_alike x y a.1 b.1 a.2 b.2 (read_alike setup r old twin a.1 b.1 slots a.3 b.3), both.0, both.1)
  same_call Capacity a b =
      let both = unchanged_both a.2 b.2 in
      (same_alike x y (a.1 ∙ ap (λ z. replies.Capacity (total_capacity z)) slots ∙ sym b.1), both.0, both.1)
  same_call (SetBudget t budget) a b =
      let once = set_alike setup old new twin next sound (slots, budgets) t budget a.1 b.1 a.3 b.3 in
      (same_alike x y (a.2 ∙ ap done_with once.0 ∙ sym b.2), once.1, λ h. a.4.history ∙ h ∙ sym b.4.history)
  same_call (Budget t) a b =
      let both = unchanged_both a.2 b.2 in
      (same_alike x y (a.1 ∙ ap (λ z. replies.Budget (budget_at z t)) budgets ∙ sym b.1), both.0, both.1)
  same_call Report a b =
      let once = made (λ ss. whole_report ss) a.1 b.1 a.3 b.3 in
      let both = unchanged_both a.4 b.4 in
      (same_alike x y (a.2 ∙ ap report_with once ∙ sym b.2), both.0, both.1)
  same_call Leaks a b =
      let once = made (λ ss. map leak_text (all_leaks ss)) a.1 b.1 a.3 b.3 in
      let both = unchanged_both a.4 b.4 in
      (same_alike x y (a.2 ∙ ap leaks_with once ∙ sym b.2), both.0, both.1)

  to_same : (call other : Call) → call ≡ other → Step setup call o x old new → Step setup other p y twin next → Alike
  to_same call other e a b = same_call call a (subst (λ c. Step setup c p y twin next) (sym e) b)

  pub step_alike : (call other : Call) → EqualButBytesCall call other → Step setup call o x old new → Step setup other p y twin next → Alike
  step_alike (Allocate d) (Allocate e) same a b = allocated d e same a b
  step_alike (Write w ws) (Write v vs) same a b = written w v ws vs a b
  step_alike (Allocate d) (Free f) same a b = to_same (Allocate d) (Free f) same a b
  step_alike (Allocate d) (Rename f name) same a b = to_same (Allocate d) (Rename f name) same a b
  step_alike (Allocate d) (ProposeMove w e) same a b = to_same (Allocate d) (ProposeMove w e) same a b
  step_alike (Allocate d) (Write w ws) same a b = to_same (Allocate d) (Write w ws) same a b
  step_alike (Allocate d) (Read r) same a b = to_same (Allocate d) (Read r) same a b
  step_alike (Allocate d) Capacity same a b = to_same (Allocate d) Capacity same a b
  step_alike (Allocate d) Report same a b = to_same (Allocate d) Report same a b
  step_alike (Allocate d) Leaks same a b = to_same (Allocate d) Leaks same a b
  step_alike (Allocate d) (SetBudget t budget) same a b = to_same (Allocate d) (SetBudget t budget) same a b
  step_alike (Allocate d) (Budget t) same a b = to_same (Allocate d) (Budget t) same a b
  step_alike (Write w ws) (Allocate d) same a b = to_same (Write w ws) (Allocate d) same a b
  step_alike (Write w ws) (Free f) same a b = to_same (Write w ws) (Free f) same a b
  step_alike (Write w ws) (Rename f name) same a b = to_same (Write w ws) (Rename f name) same a b
  step_alike (Write w ws) (ProposeMove v d) same a b = to_same (Write w ws) (ProposeMove v d) same a b
  step_alike (Write w ws) (Read r) same a b = to_same (Write w ws) (Read r) same a b
  step_alike (Write w ws) Capacity same a b = to_same (Write w ws) Capacity same a b
  step_alike (Write w ws) Report same a b = to_same (Write w ws) Report same a b
  step_alike (Write w ws) Leaks same a b = to_same (Write w ws) Leaks same a b
  step_alike (Write w ws) (SetBudget t budget) same a b = to_same (Write w ws) (SetBudget t budget) same a b
  step_alike (Write w ws) (Budget t) same a b = to_same (Write w ws) (Budget t) same a b
  step_alike (ProposeMove w d) (ProposeMove v e) same a b = proposed w v d e same.0 same.1 a b
  step_alike (ProposeMove w d) (Allocate e) same a b = to_same (ProposeMove w d) (Allocate e) same a b
  step_alike (ProposeMove w d) (Free f) same a b = to_same (ProposeMove w d) (Free f) same a b
  step_alike (ProposeMove w d) (Rename f name) same a b = to_same (ProposeMove w d) (Rename f name) same a b
  step_alike (ProposeMove w d) (Write v ws) same a b = to_same (ProposeMove w d) (Write v ws) same a b
  step_alike (ProposeMove w d) (Read r) same a b = to_same (ProposeMove w d) (Read r) same a b
  step_alike (ProposeMove w d) Capacity same a b = to_same (ProposeMove w d) Capacity same a b
  step_alike (ProposeMove w d) Report same a b = to_same (ProposeMove w d) Report same a b
  step_alike (ProposeMove w d) Leaks same a b = to_same (ProposeMove w d) Leaks same a b
  step_alike (ProposeMove w d) (SetBudget t budget) same a b = to_same (ProposeMove w d) (SetBudget t budget) same a b
  step_alike (ProposeMove w d) (Budget t) same a b = to_same (ProposeMove w d) (Budget t) same a b
  step_alike (Free f) other same a b = to_same (Free f) other same a b
  step_alike (Rename f name) other same a b = to_same (Rename f name) other same a b
  step_alike (Read r) other same a b = to_same (Read r) other same a b
  step_alike Capacity other same a b = to_same Capacity other same a b
  step_alike Report other same a b = to_same Report other same a b
  step_alike Leaks other same a b = to_same Leaks other same a b
  step_alike (SetBudget t budget) other same a b = to_same (SetBudget t budget) other same a b
  step_alike (Budget t) other same a b = to_same (Budget t) other same a b
