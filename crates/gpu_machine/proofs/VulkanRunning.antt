-- Requests that a device answers, from their beginning to their end, as allocations.
use Rattle.std.proofs.Common.{◌≡◌, ◌∙◌, ◌⊎◌, refl, sym, ap, subst, inl, inr, ⊎_elim, ℕ, ℤ, zero, suc, Bool, true, false, List, Option, Some, None, Ok, Err, Result, arith, ◌≤◌}
use Rattle.std.specs.Prelude.{IsOk, length, slice_get}
use Rattle.std.proofs.lemmas.Bool.{cases_lt}
use Rattle.std.proofs.lemmas.List.{get_or_past}
use Rattle.gpu_device.specs.declared.vulkan.types.MemoryTypeInfo.{MemoryTypeInfo}
use Rattle.gpu_values.specs.Refusal.{Refusal, refusal_of, refusal_in, out_of_memory, failed_to_map, no_compatible_memory_type_found, invalid_allocation_create_desc, invalid_allocator_create_desc}
use Rattle.gpu_values.specs.Refusal.{internal, barrier_layout_needs_device10, castable_formats_requires_enhanced_barriers, castable_formats_requires_at_least_device12, host_out_of_memory, budget_exceeded}
use Rattle.gpu_values.specs.declared.error.AllocationError.{AllocationError}
use Rattle.gpu_values.specs.declared.error.AllocationError.TheVariants as errors
use Rattle.gpu_values.specs.declared.error.Fault.{Fault}
use Rattle.gpu_core.specs.declared.piece.Piece.{Piece}
use Rattle.gpu_core.specs.declared.piece.Request.{Request}
use Rattle.gpu_device.specs.declared.vulkan.device.VulkanDevice.{Ghosts}
use Rattle.gpu_device.specs.declared.vulkan.types.DeviceMemory.{DeviceMemory}
use Rattle.gpu_core.specs.Budgets.{Budgets}
use Rattle.gpu_core.proofs.Options.{none_some, some_same}
use Rattle.gpu_pool.specs.Begin as pools
use Rattle.gpu_pool.specs.RequestState.{RequestState, pool_of, with_sizes}
use Rattle.gpu_pool.specs.declared.requests.Awaited.{Awaited}
use Rattle.gpu_pool.specs.declared.requests.Question as pool_questions
use Rattle.gpu_pool.proofs.Agreeing as agreeing
use Rattle.gpu_vulkan.specs.Allocate as allocating
use Rattle.gpu_vulkan.specs.Allocate.{IsAttempt, IsRequestServed, IsFollowed, IsFound, AllocatesBy, AllocatorAllocates, next_type, is_valid}
use Rattle.gpu_vulkan.specs.BlockAnswer as device_answers
use Rattle.gpu_vulkan.specs.BlockAnswer.{BlockAnswer, Declined, Granted, Mapped, NotMapped, answer_number, answer_refusal, memory_refusal, map_refusal, memory_of}
use Rattle.gpu_vulkan.specs.Blocks.{Slots}
use Rattle.gpu_vulkan.specs.Describe.{kind_of, requests_dedicated}
use Rattle.gpu_vulkan.specs.Live.{IsAllocated}
use Rattle.gpu_vulkan.specs.Setup.{Setup}
use Rattle.gpu_vulkan.specs.Source.{SourceState, AsksBlock, IsResult, question}
use Rattle.gpu_vulkan.specs.Types.{is_mapped, heap_size, kinds_of_device}
use Rattle.gpu_vulkan.specs.declared.allocation.Allocation.{Allocation}
use Rattle.gpu_vulkan.specs.declared.describe.AllocationCreateDesc.{AllocationCreateDesc}
use Rattle.gpu_vulkan.proofs.Attempts.{attempted}
use Rattle.gpu_machine.specs.VulkanBegin.{request_in, IsTooLarge, IsWithinHeap, Tries, Follows, IsDenied, MakesAttempts, BeginsAt, BeginsBy, BeginsIn, Begins, GrantsIn, DeclinesIn, Receives, closed, next_for, asking_of, Shrinks}
use Rattle.gpu_machine.specs.VulkanAttempt.{AttemptsWhole, IsAboveLimit, begun_in, is_forbidden}
use Rattle.gpu_machine.specs.VulkanAttempt.Attempts.{tries_whole, tries_left}
use Rattle.gpu_machine.specs.VulkanDescription.{description_of}
use Rattle.gpu_machine.specs.VulkanHeapLimit.{Limits, HasNoLimits, limit_at, held_in, is_above, passes_of}
use Rattle.gpu_machine.specs.VulkanRun.{State, Allocated, Progress, HearsGrant, Hears, IsAnswered, Finishes, Runs, Returns}
use Rattle.gpu_machine.specs.VulkanState.{IsOver, AsksAsAllocator, IsRefused}
use Rattle.gpu_machine.specs.declared.vulkan.answer.Question.{Question}
use Rattle.gpu_machine.specs.declared.vulkan.answer.Progress.TheVariants as progress
use Rattle.gpu_machine.specs.declared.vulkan.asking.Asking.{Asking}

-- ---- an error for each refusal

abbrev fault : List ℕ → Option ℤ → Fault
fault text code = record { text = record { ref_ptr = (0, 0); now = text }; code = code }

abbrev error_of : Refusal → AllocationError
error_of out_of_memory = errors.OutOfMemory
error_of (failed_to_map text code) = errors.FailedToMap (fault text code)
error_of no_compatible_memory_type_found = errors.NoCompatibleMemoryTypeFound
error_of invalid_allocation_create_desc = errors.InvalidAllocationCreateDesc
error_of (invalid_allocator_create_desc text code) = errors.InvalidAllocatorCreateDesc (fault text code)
error_of (internal text code) = errors.Internal (fault text code)
error_of barrier_layout_needs_device10 = errors.BarrierLayoutNeedsDevice10
error_of castable_formats_requires_enhanced_barriers = errors.CastableFormatsRequiresEnhancedBarriers
error_of castable_formats_requires_at_least_device12 = errors.CastableFormatsRequiresAtLeastDevice12
error_of host_out_of_memory = errors.HostOutOfMemory
error_of budget_exceeded = errors.BudgetExceeded

error_is : (r : Refusal) → refusal_of (error_of r) ≡ r
error_is out_of_memory = refl
error_is (failed_to_map text code) = refl
error_is no_compatible_memory_type_found = refl
error_is invalid_allocation_create_desc = refl
error_is (invalid_allocator_create_desc text code) = refl
error_is (internal text code) = refl
error_is barrier_layout_needs_device10 = refl
error_is castable_formats_requires_enhanced_barriers = refl
error_is castable_formats_requires_at_least_device12 = refl
error_is host_out_of_memory = refl
error_is budget_exceeded = refl

no_limit_at : (limits : Limits) (heap : ℕ) → HasNoLimits limits → limit_at limits heap ≡ None
no_limit_at limits heap none = ⊎_elim (λ below. none heap None below) (λ past. get_or_past limits heap None past) (cases_lt heap (length limits))

none_passes : (info : Option MemoryTypeInfo) (infos : List MemoryTypeInfo) (limits : Limits) (slots : Slots) (size : ℕ) → HasNoLimits limits → passes_of info infos limits slots size ≡ true → ⊥
none_passes None infos limits slots size none h = absurd (grind (arith, h))
none_passes (Some info) infos limits slots size none h =
    absurd (grind (arith, subst (λ (o : Option ℕ). is_above (held_in infos info.heap_index slots) o size ≡ true) (no_limit_at limits info.heap_index none) h))

module _ {D : Type 0} (g : Ghosts D) (setup : Setup) (budgets : Budgets) (limits : Limits) (none : HasNoLimits limits) (d : AllocationCreateDesc) where
  -- the blocks, where none is awaited
  abbrev idle : Slots → RequestState DeviceMemory
  idle slots = record { kinds = kinds_of_device setup.properties; sizes = setup.sizes; slots = slots; budgets = budgets; awaited = None }

  -- the machine with these blocks, where no question is open
  abbrev at : Slots → State
  at slots = record { setup = setup; limits = limits; most_blocks = None; smaller_blocks = false; requests = idle slots; asking = None }

  abbrev Outcome : Type 0
  Outcome = Result Allocation AllocationError

  abbrev Attempted : (slots : Slots) (t : ℕ) (device : D) → Outcome → Slots → D → Type 0
  Attempted slots t device result new after = IsAttempt g setup budgets t d slots device result new after

  -- an attempt that ends as the machine told
  record Ends (slots : Slots) (t : ℕ) (device : D) (told : Result Allocated AllocationError) (new : State) (after : D) : Type 0 where
    attempted : (result : Outcome) → Returns setup d told result → Attempted slots t device result new.requests.slots after
    same : new ≡ at new.requests.slots

  -- an attempt that is refused
  abbrev Fails : (slots : Slots) (t : ℕ) (device : D) → Refusal → D → Type 0
  Fails slots t device r after = (f : AllocationError) → refusal_of f ≡ r → Attempted slots t device (Err f) slots after

  returns_piece : (P : Outcome → Type 0) (a : Allocated) → ((allocation : Allocation) → IsAllocated setup a.memory_type d a.piece allocation → P (Ok allocation)) → (result : Outcome)
      → Returns setup d (Ok a) result → P result
  returns_piece P a h (Ok allocation) is = h allocation is
  returns_piece P a h (Err f) is = absurd is

  returns_error : (P : Outcome → Type 0) (e : AllocationError) → ((f : AllocationError) → refusal_of f ≡ refusal_of e → P (Err f)) → (result : Outcome) → Returns setup d (Err e) result → P result
  returns_error P e h (Ok allocation) is = absurd is
  returns_error P e h (Err f) is = h f is

  -- ---- the device as a source of blocks

  abbrev source : D → SourceState D
  source device = record { device = device; first = device; setup = setup }

  abbrev source_after : (device after : D) → SourceState D
  source_after device after = record { device = after; first = device; setup = setup }

  -- what a memory type is asked
  abbrev asked : Request
  asked = record { size = d.requirements.size; alignment = d.requirements.alignment; kind = kind_of d.linear; dedicated = requests_dedicated d.allocation_scheme; name = d.name }

  -- a pool's answer is an attempt's
  of_pool : (slots : Slots) (t : ℕ) (device after : D) (answer : Result (Piece DeviceMemory) Refusal) (result : Outcome) (new : RequestState DeviceMemory)
      → agreeing.Ends (AsksBlock g) t asked d.allocation_scheme (source device) (idle slots) answer (source_after device after) new → d.requirements.size ≤ heap_size setup.properties t
      → allocating.Answers setup t d result answer → Attempted slots t device result new.slots after
  of_pool slots t device after answer result new ends below answers =
      attempted g t d (pool_of (source device) (idle slots)) (pool_of (source_after device after) new) asked refl refl answer result ends.allocates below answers

  -- ---- attempts without a question

  -- requests whose sizes are the setup's
  resized : (r : RequestState DeviceMemory) → r.sizes ≡ setup.sizes → with_sizes setup.sizes r ≡ r
  resized r is = λ i. record r { sizes = sym is i }

  begins_plain : (is_second : Bool) (slots : Slots) (t : ℕ) (result : Result Progress AllocationError) (new : State) → IsWithinHeap (at slots) t d is_second result new
      → pools.Begins (request_in t d) (idle slots) (begun_in result) new.requests
  begins_plain is_second slots t result new h =
      subst (λ (r : RequestState DeviceMemory). pools.Begins (request_in t d) (idle slots) (begun_in result) r) (resized new.requests h.sizes_stay) h.begins

  refused_in : (r : Refusal) (slots : Slots) (result : Result Progress AllocationError) (new : State) → IsRefused r (at slots) result new → (e : AllocationError) × (result ≡ Err e) × (refusal_of e ≡ r)
  refused_in r slots (Ok x) new h = absurd (none_some r h.0)
  refused_in r slots (Err e) new h = (e, refl, some_same _ _ h.0)

  taken : (is_second : Bool) (slots : Slots) (t : ℕ) (device : D) (a : Allocated) (new : State) → IsWithinHeap (at slots) t d is_second (Ok (progress.Piece a)) new → Ends slots t device (Ok a) new device
  taken is_second slots t device a new h =
      let begins = begins_plain is_second slots t (Ok (progress.Piece a)) new h in
      let ends = agreeing.piece (AsksBlock g) t asked d.allocation_scheme (source device) (idle slots) refl a.piece new.requests begins in
      let same : new.requests ≡ idle new.requests.slots = begins.1 in
      record {
        attempted = returns_piece (λ result. Attempted slots t device result new.requests.slots device) a
            (λ allocation of_it.
            of_pool slots t device device (Ok a.piece) (Ok allocation) new.requests ends h.below
            (subst (λ (n : ℕ). IsAllocated setup n d a.piece allocation) h.tells.0 of_it));
        same = h.state ∙ (λ i. record { setup = setup; limits = limits; most_blocks = None; smaller_blocks = false; requests = same i; asking = None });
      }

  -- no block is above a limit where there is none
  never_forbidden : (t : ℕ) (slots : Slots) (size : ℕ) → is_forbidden (at slots) t size ≡ true → ⊥
  never_forbidden t slots size passes = none_passes (slice_get setup.properties.types t) setup.properties.types limits slots size none passes

  -- an attempt that is refused without a question
  record WasDenied (slots : Slots) (t : ℕ) (device : D) (e : AllocationError) (new : State) : Type 0 where
    fails : Fails slots t device (refusal_of e) device
    same : new ≡ at slots

  denied_large : (slots : Slots) (t : ℕ) (device : D) (e : AllocationError) (new : State) → IsTooLarge (at slots) t d (Err e) new → WasDenied slots t device e new
  denied_large slots t device e new h = record {
    fails = λ f is. record {
      environment = record { host = false; asked = None };
      answer = Err out_of_memory;
      attempts = inl (record { above = h.above; asked = refl; answer_is = refl; same = refl });
      asked = refl;
      answers = is ∙ some_same _ _ h.refused.0;
    };
    same = h.refused.1;
  }

  denied_within : (is_second : Bool) (slots : Slots) (t : ℕ) (device : D) (e : AllocationError) (new : State) → IsWithinHeap (at slots) t d is_second (Err e) new → WasDenied slots t device e new
  denied_within is_second slots t device e new h =
      let begins = begins_plain is_second slots t (Err e) new h in
      let ends = agreeing.refused (AsksBlock g) t asked d.allocation_scheme (source device) (idle slots) refl e new.requests begins in
      let same : new.requests ≡ idle slots = begins.1 in
      record {
        fails = λ f is.
            subst (λ (ss : Slots). Attempted slots t device (Err f) ss device) (ap (λ (r : RequestState DeviceMemory). r.slots) same)
            (of_pool slots t device device (Err (refusal_of e)) (Err f) new.requests ends h.below is);
        same = h.state ∙ (λ i. record { setup = setup; limits = limits; most_blocks = None; smaller_blocks = false; requests = same i; asking = None });
      }

  only : (is_second : Bool) (slots : Slots) (t : ℕ) (result : Result Progress AllocationError) (new : State) → Tries (at slots) t d is_second result new
      → AttemptsWhole (at slots) t (description_of d) (asking_of d is_second) result new
  only is_second slots t result new (tries_whole unlike whole) = whole
  only is_second slots t result new (tries_left cause smaller bounded whole again) = absurd (grind (arith, smaller))

  denied : (is_second : Bool) (slots : Slots) (t : ℕ) (device : D) (e : AllocationError) (new : State) → Tries (at slots) t d is_second (Err e) new → WasDenied slots t device e new
  denied is_second slots t device e new h =
      ⊎_elim (λ (large : IsTooLarge (at slots) t d (Err e) new). denied_large slots t device e new large)
      (λ rest. ⊎_elim (λ (above : IsAboveLimit setup.sizes (at slots) t (description_of d) (Err e) new). absurd (never_forbidden t slots above.question.size above.passes))
      (λ (within : IsWithinHeap (at slots) t d is_second (Err e) new). denied_within is_second slots t device e new within)
      rest)
      (only is_second slots t (Err e) new h)

  -- an attempt that isn't refused is within its heap
  within_if : (is_second : Bool) (slots : Slots) (t : ℕ) (p : Progress) (new : State) → Tries (at slots) t d is_second (Ok p) new → IsWithinHeap (at slots) t d is_second (Ok p) new
  within_if is_second slots t p new h =
      ⊎_elim (λ (large : IsTooLarge (at slots) t d (Ok p) new). absurd (none_some _ large.refused.0))
      (λ rest. ⊎_elim (λ (above : IsAboveLimit setup.sizes (at slots) t (description_of d) (Ok p) new). absurd (none_some _ above.refused.0)) (λ (within : IsWithinHeap (at slots) t d is_second (Ok p) new). within) rest)
      (only is_second slots t (Ok p) new h)

  -- ---- attempts with a question

  -- the question was answered by memory
  record WasGranted (slots : Slots) (t : ℕ) (device : D) (heard : Result Progress AllocationError) (next : State) (between : D) : Type 0 where
    piece : Allocated
    is : heard ≡ Ok (progress.Piece piece)
    ends : Ends slots t device (Ok piece) next between

  -- the question was answered by a refusal
  record WasDeclined (is_second : Bool) (slots : Slots) (t : ℕ) (device : D) (heard : Result Progress AllocationError) (next : State) (between : D) : Type 0 where
    why : Refusal
    fails : Fails slots t device why between
    follows : Follows (at slots) d (next_for setup is_second d why) why heard next

  module _ (is_second : Bool) (slots : Slots) (t : ℕ) (q : Question) (mid : State) (w : IsWithinHeap (at slots) t d is_second (Ok (progress.Question q)) mid) (device between : D) (heard : Result Progress AllocationError)
      (next : State) where
    abbrev asks : pools.Asks (request_in t d) (idle slots) q.block mid.requests
    asks = begins_plain is_second slots t (Ok (progress.Question q)) mid w

    abbrev awaited : Awaited
    awaited = record { memory_type = t; need = asks.need }

    abbrev kept : Asking
    kept = asking_of d is_second

    waiting : mid.requests ≡ record (idle slots) { awaited = Some awaited }
    waiting = asks.state

    setup_is : mid.setup ≡ setup
    setup_is = ap (λ (s : State). s.setup) w.state

    limits_are : mid.limits ≡ limits
    limits_are = ap (λ (s : State). s.limits) w.state

    most_is : mid.most_blocks ≡ None
    most_is = ap (λ (s : State). s.most_blocks) w.state

    shrinks_not : mid.smaller_blocks ≡ false
    shrinks_not = ap (λ (s : State). s.smaller_blocks) w.state

    abbrev Answers : BlockAnswer → Type 0
    Answers answer = device_answers.Asks g device (question mid.setup q.block.memory_type q.block.size d.allocation_scheme) q.mapped answer between

    type_is : q.block.memory_type ≡ t
    type_is = ap (λ (b : pool_questions.Question). b.memory_type) asks.question_is

    -- the device's answer as a source's
    as_source : (answer : BlockAnswer) (result : Result DeviceMemory Refusal) → IsResult result answer → Answers answer
        → AsksBlock g (source device) q.block.memory_type q.block.size d.allocation_scheme result (source_after device between)
    as_source answer result is a = record {
      answer = answer;
      is_result = is;
      asks =
          subst (λ (s : Setup). device_answers.Asks g device (question s q.block.memory_type q.block.size d.allocation_scheme) (is_mapped setup.properties q.block.memory_type) answer between) setup_is
          (subst (λ (m : Bool). device_answers.Asks g device (question mid.setup q.block.memory_type q.block.size d.allocation_scheme) m answer between)
          (w.tells ∙ ap (λ (n : ℕ). is_mapped setup.properties n) (sym type_is)) a);
      state = refl;
    }

    abbrev IsAnswered_ : Type 0
    IsAnswered_ = WasGranted slots t device heard next between ⊎ WasDeclined is_second slots t device heard next between

    -- memory that was granted
    put_in : (number : ℕ) (answer : BlockAnswer) (given : Allocated) → answer_number answer ≡ Some number → Answers answer → Receives awaited mid (memory_of number) given next → Ends slots t device (Ok given) next between
    put_in number answer given is a r =
        let received : pools.Grants mid.requests (memory_of number) (Ok given.piece) next.requests =
        subst (λ (o : Option Awaited). pools.GrantsIn o mid.requests (memory_of number) (Ok given.piece) next.requests)
        (sym (ap (λ (s : RequestState DeviceMemory). s.awaited) waiting)) r.receives in
        let ends = agreeing.granted (AsksBlock g) t asked d.allocation_scheme (source device) (idle slots) refl q.block mid.requests asks (source_after device between) (memory_of number)
        (Ok given.piece) next.requests (as_source answer (Ok (memory_of number)) is a) received in
        let mid_setup = setup_is in
        let mid_limits = limits_are in
        let mid_most = most_is in
        let mid_shrinks = shrinks_not in
        let left : next.requests ≡ idle next.requests.slots = r.receives.state ∙ ap (λ (s : RequestState DeviceMemory). record s { slots = next.requests.slots; awaited = None }) waiting in
        record {
          attempted = returns_piece (λ result. Attempted slots t device result next.requests.slots between) given
              (λ allocation of_it.
              of_pool slots t device between (Ok given.piece) (Ok allocation) next.requests ends w.below
              (subst (λ (n : ℕ). IsAllocated setup n d given.piece allocation) r.memory_type of_it));
          same = r.state ∙ (λ i. record { setup = mid_setup i; limits = mid_limits i; most_blocks = mid_most i; smaller_blocks = mid_shrinks i; requests = left i; asking = None });
        }

    hears_grant : (number : ℕ) (answer : BlockAnswer) → answer_number answer ≡ Some number → Answers answer → HearsGrant mid number heard next → WasGranted slots t device heard next between
    hears_grant number answer is a h = record {
      piece = h.piece;
      is = h.is;
      ends = put_in number answer h.piece is a
          (subst (λ (o : Option Awaited). GrantsIn o mid (memory_of number) (Ok h.piece) next) (ap (λ (s : RequestState DeviceMemory). s.awaited) waiting) h.grants);
    }

    -- memory that was refused
    hears_refusal : (why : Refusal) (answer : BlockAnswer) → answer_refusal answer ≡ Some why → Answers answer → DeclinesIn mid.requests.awaited mid why heard next
        → WasDeclined is_second slots t device heard next between
    hears_refusal why answer is a h =
        let goes = subst (λ (o : Option Awaited). DeclinesIn o mid why heard next) (ap (λ (s : RequestState DeviceMemory). s.awaited) waiting) h in
        let emptied : record mid.requests { awaited = None } ≡ idle slots = ap (λ (s : RequestState DeviceMemory). record s { awaited = None }) waiting in
        let over : pools.Declines mid.requests (Ok tt) (record mid.requests { awaited = None }) =
        subst (λ (o : Option Awaited). pools.DeclinesIn o mid.requests (Ok tt) (record mid.requests { awaited = None })) (sym (ap (λ (s : RequestState DeviceMemory). s.awaited) waiting)) refl in
        let ends = agreeing.declined (AsksBlock g) t asked d.allocation_scheme (source device) (idle slots) refl q.block mid.requests asks (source_after device between) why (Ok tt)
        (record mid.requests { awaited = None }) (as_source answer (Err why) is a) over in
        let back : closed mid ≡ at slots = λ i. record { setup = setup_is i; limits = limits_are i; most_blocks = most_is i; smaller_blocks = shrinks_not i; requests = emptied i; asking = None } in
        let same_kept : kept ≡ goes.0 = some_same _ _ (sym (ap (λ (s : State). s.asking) w.state) ∙ goes.1.kept) in
        let described : description_of d ≡ goes.0.description = ap (λ (r : Asking). r.description) same_kept in
        let block = pools.question_of awaited in
        let smaller_blocks : Shrinks kept block (closed mid) d why heard next = subst (λ (r : Asking). Shrinks r block (closed mid) d why heard next) (sym same_kept) (goes.1.follows d described) in
        record {
          why = why;
          fails = λ f told.
              subst (λ (ss : Slots). Attempted slots t device (Err f) ss between) (ap (λ (s : RequestState DeviceMemory). s.slots) emptied)
              (of_pool slots t device between (Err why) (Err f) (record mid.requests { awaited = None }) ends w.below told);
          follows = subst (λ (s : State). Shrinks kept block s d why heard next) back smaller_blocks;
        }

    answered_by : (answer : BlockAnswer) → Answers answer → Hears mid answer heard next → IsAnswered_
    answered_by (Declined code) a h = inr (hears_refusal (memory_refusal code) (Declined code) refl a h)
    answered_by (Granted number) a h = inl (hears_grant number (Granted number) refl a h)
    answered_by (Mapped number bytes) a h = inl (hears_grant number (Mapped number bytes) refl a h)
    answered_by (NotMapped number code) a h = inr (hears_refusal (map_refusal code) (NotMapped number code) refl a h)

  answered : (is_second : Bool) (slots : Slots) (t : ℕ) (q : Question) (mid : State) (device between : D) (heard : Result Progress AllocationError) (next : State)
      → IsWithinHeap (at slots) t d is_second (Ok (progress.Question q)) mid → IsAnswered g d mid device q heard next between
      → WasGranted slots t device heard next between ⊎ WasDeclined is_second slots t device heard next between
  answered is_second slots t q mid device between heard next w a = answered_by is_second slots t q mid w device between heard next a.answer a.asks a.hears

  -- ---- the end of a request

  ends_as : (slots : Slots) (t : ℕ) (first device : D) (told also : Result Allocated AllocationError) (new mid : State) (after : D) → Ends slots t first told mid device → also ≡ told → new ≡ mid
      → after ≡ device → Ends slots t first also new after
  ends_as slots t first device told also new mid after h a b c =
      subst (λ (x : Result Allocated AllocationError). Ends slots t first x new after) (sym a)
      (subst (λ (s : State). Ends slots t first told s after) (sym b) (subst (λ (y : D). Ends slots t first told mid y) (sym c) h))

  fails_as : (slots : Slots) (t : ℕ) (first device : D) (r : Refusal) (e : AllocationError) → Fails slots t first r device → refusal_of e ≡ r → Ends slots t first (Err e) (at slots) device
  fails_as slots t first device r e h is =
      record { attempted = returns_error (λ result. Attempted slots t first result slots device) e (λ f same. h f (same ∙ is)); same = refl }

  module _ (slots : Slots) (t : ℕ) (first : D) where
    -- after the answer to the second attempt's question nothing is asked
    end_second : (n : ℕ) (heard : Result Progress AllocationError) (next : State) (between : D) (told : Result Allocated AllocationError) (new : State) (after : D)
        → WasGranted slots t first heard next between ⊎ WasDeclined true slots t first heard next between → Finishes g d n next between heard told new after → Ends slots t first told new after
    end_second n heard next between told new after h fin =
        ⊎_elim
        (λ (w : WasGranted slots t first heard next between).
        let end : Finishes g d n next between (Ok (progress.Piece w.piece)) told new after = subst (λ (x : Result Progress AllocationError). Finishes g d n next between x told new after) w.is fin in
        ends_as slots t first between (Ok w.piece) told new next after w.ends end.0 end.1 end.2)
        (λ (w : WasDeclined true slots t first heard next between).
        let e = refused_in w.why slots heard next w.follows in
        let end : Finishes g d n next between (Err e.0) told new after = subst (λ (x : Result Progress AllocationError). Finishes g d n next between x told new after) e.1 fin in
        ends_as slots t first between (Err e.0) told new (at slots) after (fails_as slots t first between w.why e.0 w.fails e.2) end.0 (end.1 ∙ w.follows.1) end.2)
        h

    -- the second attempt
    second : (n : ℕ) (heard : Result Progress AllocationError) (mid : State) (told : Result Allocated AllocationError) (new : State) (after : D) → Tries (at slots) t d true heard mid
        → Finishes g d n mid first heard told new after → Ends slots t first told new after
    second n (Err e) mid told new after h fin =
        let w = denied true slots t first e mid h in
        ends_as slots t first first (Err e) told new (at slots) after (fails_as slots t first first (refusal_of e) e w.fails refl) fin.0 (fin.1 ∙ w.same) fin.2
    second n (Ok (progress.Piece a)) mid told new after h fin =
        ends_as slots t first first (Ok a) told new mid after (taken true slots t first a mid (within_if true slots t (progress.Piece a) mid h)) fin.0 fin.1 fin.2
    second zero (Ok (progress.Question q)) mid told new after h fin = absurd fin
    second (suc n) (Ok (progress.Question q)) mid told new after h fin =
        end_second n fin.0 fin.1 fin.2 told new after (answered true slots t q mid first fin.2 fin.0 fin.1 (within_if true slots t (progress.Question q) mid h) fin.3) fin.4

  -- what the law says
  record Done (t : ℕ) (slots : Slots) (device : D) (told : Result Allocated AllocationError) (new : State) (after : D) : Type 0 where
    served : (result : Outcome) → Returns setup d told result → IsRequestServed g setup budgets t d slots device result new.requests.slots after
    same : new ≡ at new.requests.slots

  -- the first attempt's piece counts
  first_ends : (t : ℕ) (slots : Slots) (device : D) (a : Allocated) (told : Result Allocated AllocationError) (new : State) (after : D) → told ≡ Ok a → Ends slots t device told new after
      → Done t slots device told new after
  first_ends t slots device a told new after is h = record {
    served = λ result returns.
        returns_piece (λ result. Attempted slots t device result new.requests.slots after → IsRequestServed g setup budgets t d slots device result new.requests.slots after) a
        (λ allocation of_it attempt. record { first = Ok allocation; mid = new.requests.slots; between = after; attempt = attempt; followed = (refl, refl, refl) })
        result (subst (λ (x : Result Allocated AllocationError). Returns setup d x result) is returns) (h.attempted result returns);
    same = h.same;
  }

  -- the first attempt is refused
  first_fails_by : (t : ℕ) (slots : Slots) (device between : D) (r : Refusal) (o : Option ℕ) (n : ℕ) (heard : Result Progress AllocationError) (mid : State) (told : Result Allocated AllocationError)
      (new : State) (after : D) → next_type setup d r ≡ o → Fails slots t device r between → Follows (at slots) d o r heard mid → Finishes g d n mid between heard told new after
      → Done t slots device told new after
  first_fails_by t slots device between r None n heard mid told new after is fails follows fin =
      let e = refused_in r slots heard mid follows in
      let end : Finishes g d n mid between (Err e.0) told new after = subst (λ (x : Result Progress AllocationError). Finishes g d n mid between x told new after) e.1 fin in
      let ends = ends_as slots t device between (Err e.0) told new (at slots) after (fails_as slots t device between r e.0 fails e.2) end.0 (end.1 ∙ follows.1) end.2 in
      record {
        served = λ result returns.
            returns_error (λ result. Attempted slots t device result new.requests.slots after → IsRequestServed g setup budgets t d slots device result new.requests.slots after) e.0
            (λ f same attempt. record {
              first = Err f;
              mid = new.requests.slots;
              between = after;
              attempt = attempt;
              followed = subst (λ (u : Option ℕ). IsFollowed g setup budgets d u new.requests.slots after (Err f) (Err f) new.requests.slots after) (sym (ap (next_type setup d) (same ∙ e.2) ∙ is)) (refl, refl, refl);
            })
            result (subst (λ (x : Result Allocated AllocationError). Returns setup d x result) end.0 returns) (ends.attempted result returns);
        same = ends.same;
      }
  first_fails_by t slots device between r (Some u) n heard mid told new after is fails follows fin =
      let ends = second slots u between n heard mid told new after follows fin in
      record {
        served = λ result returns. record {
          first = Err (error_of r);
          mid = slots;
          between = between;
          attempt = fails (error_of r) (error_is r);
          followed = subst (λ (o : Option ℕ). IsFollowed g setup budgets d o slots between (Err (error_of r)) result new.requests.slots after) (sym (ap (next_type setup d) (error_is r) ∙ is))
              (ends.attempted result returns);
        };
        same = ends.same;
      }

  -- after the answer to the first attempt's question
  first_answered : (t : ℕ) (slots : Slots) (device : D) (n : ℕ) (heard : Result Progress AllocationError) (next : State) (between : D) (told : Result Allocated AllocationError) (new : State) (after : D)
      → WasGranted slots t device heard next between ⊎ WasDeclined false slots t device heard next between → Finishes g d n next between heard told new after → Done t slots device told new after
  first_answered t slots device n heard next between told new after h fin =
      ⊎_elim
      (λ (w : WasGranted slots t device heard next between).
      let end : Finishes g d n next between (Ok (progress.Piece w.piece)) told new after = subst (λ (x : Result Progress AllocationError). Finishes g d n next between x told new after) w.is fin in
      first_ends t slots device w.piece told new after end.0 (ends_as slots t device between (Ok w.piece) told new next after w.ends end.0 end.1 end.2))
      (λ (w : WasDeclined false slots t device heard next between). first_fails_by t slots device between w.why (next_type setup d w.why) n heard next told new after refl w.fails w.follows fin)
      h

  -- the attempts that begin at the t-th memory type
  done_by : (t : ℕ) (slots : Slots) (device : D) (n : ℕ) (first : Result Progress AllocationError) (mid : State) (told : Result Allocated AllocationError) (new : State) (after : D)
      → Tries (at slots) t d false first mid → IsOk first → Finishes g d n mid device first told new after → Done t slots device told new after
  done_by t slots device n (Err e) mid told new after h ok fin = absurd (grind (arith, ok))
  done_by t slots device n (Ok (progress.Piece a)) mid told new after h ok fin =
      first_ends t slots device a told new after fin.0 (ends_as slots t device device (Ok a) told new mid after (taken false slots t device a mid (within_if false slots t (progress.Piece a) mid h)) fin.0 fin.1 fin.2)
  done_by t slots device zero (Ok (progress.Question q)) mid told new after h ok fin = absurd fin
  done_by t slots device (suc n) (Ok (progress.Question q)) mid told new after h ok fin =
      first_answered t slots device n fin.0 fin.1 fin.2 told new after (answered false slots t q mid device fin.2 fin.0 fin.1 (within_if false slots t (progress.Question q) mid h) fin.3) fin.4

  done : (t : ℕ) (slots : Slots) (device : D) (n : ℕ) (first : Result Progress AllocationError) (mid : State) (told : Result Allocated AllocationError) (new : State) (after : D)
      → MakesAttempts (at slots) t d first mid → Finishes g d n mid device first told new after → Done t slots device told new after
  done t slots device n first mid told new after h fin =
      ⊎_elim (λ (s : IsOk first × Tries (at slots) t d false first mid). done_by t slots device n first mid told new after s.1 s.0 fin)
      (λ (s : IsDenied (at slots) t d first mid).
      first_fails_by t slots device device (refusal_of s.cause) (next_type setup d (refusal_of s.cause)) n first mid told new after refl (denied false slots t device s.cause (at slots) s.tries).fails s.follows
      fin)
      h

  -- ---- a request

  abbrev Law : (slots : Slots) (device : D) (result : Outcome) (new : State) (after : D) → (Slots → D → Outcome → Slots → D → Type 0) → Type 0
  Law slots device result new after P = P slots device result new.requests.slots after × (new ≡ at new.requests.slots)

  refused : (r : Refusal) (slots : Slots) (device : D) (n : ℕ) (first : Result Progress AllocationError) (mid : State) (told : Result Allocated AllocationError) (result : Outcome) (new : State) (after : D)
      → IsRefused r (at slots) first mid → Finishes g d n mid device first told new after → Returns setup d told result → Law slots device result new after (allocating.IsRefused r)
  refused r slots device n first mid told result new after h fin returns =
      let e = refused_in r slots first mid h in
      let end : Finishes g d n mid device (Err e.0) told new after = subst (λ (x : Result Progress AllocationError). Finishes g d n mid device x told new after) e.1 fin in
      let back : new ≡ at slots = end.1 ∙ h.1 in
      let blocks : new.requests.slots ≡ slots = ap (λ (s : State). s.requests.slots) back in (
        record {
          cause = returns_error (λ result. refusal_in result ≡ Some r) e.0 (λ f same. ap Some (same ∙ e.2)) result (subst (λ (x : Result Allocated AllocationError). Returns setup d x result) end.0 returns);
          slots = blocks;
          device_is = end.2;
        },
        back ∙ ap at (sym blocks),
      )

  found : (o : Option ℕ) (slots : Slots) (device : D) (n : ℕ) (first : Result Progress AllocationError) (mid : State) (told : Result Allocated AllocationError) (result : Outcome) (new : State) (after : D)
      → BeginsAt o (at slots) d first mid → Finishes g d n mid device first told new after → Returns setup d told result → Law slots device result new after (IsFound g setup budgets d o)
  found None slots device n first mid told result new after h fin returns = refused no_compatible_memory_type_found slots device n first mid told result new after h fin returns
  found (Some t) slots device n first mid told result new after h fin returns =
      let all = done t slots device n first mid told new after h fin in
      (all.served result returns, all.same)

  valid : (b : Bool) (slots : Slots) (device : D) (n : ℕ) (first : Result Progress AllocationError) (mid : State) (told : Result Allocated AllocationError) (result : Outcome) (new : State) (after : D)
      → BeginsBy b (at slots) d first mid → Finishes g d n mid device first told new after → Returns setup d told result → Law slots device result new after (AllocatesBy g setup budgets d b)
  valid false slots device n first mid told result new after h fin returns = refused invalid_allocation_create_desc slots device n first mid told result new after h fin returns
  valid true slots device n first mid told result new after h fin returns = found _ slots device n first mid told result new after h fin returns

-- a machine where no question is open
module _ {D : Type 0} (g : Ghosts D) (d : AllocationCreateDesc) (old : State) (over : IsOver old.setup old.requests) (plain : AsksAsAllocator old) (shut : old.requests.awaited ≡ None) (free : old.asking ≡ None) where
  abbrev same_at : State
  same_at = at g old.setup old.requests.budgets old.limits plain.heaps d old.requests.slots

  is_idle : old ≡ same_at
  is_idle = λ i. record {
    setup = old.setup;
    limits = old.limits;
    most_blocks = plain.blocks i;
    smaller_blocks = plain.sizes i;
    requests = record { kinds = over.kinds i; sizes = over.sizes i; slots = old.requests.slots; budgets = old.requests.budgets; awaited = shut i };
    asking = free i;
  }

  begun : (first : Result Progress AllocationError) (mid : State) → Begins old d first mid → BeginsBy (is_valid d) same_at d first mid
  begun first mid begins = subst (λ (s : State). BeginsBy (is_valid d) s d first mid) is_idle (subst (λ (o : Option Awaited). BeginsIn o old d first mid) shut begins)

  -- a request over a device is an allocation
  pub allocates : (n : ℕ) (new : State) (device after : D) (told : Result Allocated AllocationError) (result : Result Allocation AllocationError) → Runs g d n old device told new after → Returns old.setup d told result
      → AllocatorAllocates g old.setup old.requests.budgets d old.requests.slots device result new.requests.slots after × (new ≡ record old { requests = record old.requests { slots = new.requests.slots } })
  allocates n new device after told result runs returns =
      let all = valid g old.setup old.requests.budgets old.limits plain.heaps d (is_valid d) old.requests.slots device n runs.first runs.mid told result new after (begun runs.first runs.mid runs.begins) runs.finishes returns in
      (all.0, all.1 ∙ ap (λ (s : State). record s { requests = record s.requests { slots = new.requests.slots } }) (sym is_idle))
