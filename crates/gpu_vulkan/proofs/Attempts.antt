-- What a request of a pool over a device is of an attempt.
use Rattle.std.proofs.Common.{◌≡◌, ◌∙◌, refl, ap, subst, inl, inr, ⊎_elim, ℕ, ◌<◌, ◌≤◌, Bool, List, true, false, Option, Some, None, Ok, Err, Result}
use Rattle.gpu_values.specs.Refusal.{Refusal, out_of_memory, host_out_of_memory}
use Rattle.gpu_values.specs.declared.error.AllocationError.{AllocationError}
use Rattle.gpu_values.specs.declared.error.AllocationError.TheVariants.{OutOfMemory, HostOutOfMemory}
use Rattle.gpu_core.specs.TypeTake.{asked}
use Rattle.gpu_core.specs.declared.piece.Request.{Request}
use Rattle.gpu_device.specs.declared.vulkan.device.VulkanDevice.{Ghosts}
use Rattle.gpu_device.specs.declared.vulkan.types.AllocationScheme.{AllocationScheme}
use Rattle.gpu_device.specs.declared.vulkan.types.DeviceMemory.{DeviceMemory}
use Rattle.gpu_core.specs.Budgets.{Budgets}
use Rattle.gpu_core.proofs.Options.{none_some}
use Rattle.gpu_vulkan.specs.Describe.{requests_dedicated, request_of}
use Rattle.gpu_vulkan.specs.Setup.{Setup}
use Rattle.gpu_vulkan.specs.Types.{heap_size, is_mapped, kinds_of_device}
use Rattle.gpu_vulkan.specs.declared.describe.AllocationCreateDesc.{AllocationCreateDesc}
use Rattle.gpu_pool.specs.Allocate as pools
use Rattle.gpu_pool.specs.Allocate.{Environment, NothingMet, NoHostMemory, Answered, PoolServes}
use Rattle.gpu_pool.specs.State as states
use Rattle.gpu_pool.specs.State.{over}
use Rattle.gpu_pool.proofs.Serving.{serves_over, serves_constant, SourceAfter, serves_source}
use Rattle.gpu_vulkan.specs.Allocate.{Attempts, IsTooLarge, IsWithinHeap, Answers, IsAttempt}
use Rattle.gpu_vulkan.specs.Attempt.{AttemptEnvironment, Asked, Answer, request_in, unseen, AnyQuestion, IsMet, IsAskedFor, IsAfter}
use Rattle.gpu_vulkan.specs.Blocks.{Slots}
use Rattle.gpu_vulkan.specs.BlockAnswer.{BlockAnswer, Declined, Granted, Mapped, NotMapped, Asks, answer_refusal}
use Rattle.gpu_vulkan.specs.Source.{SourceState, AsksBlock, question}
use Rattle.gpu_vulkan.specs.State.{Pool, setup_of, IsConstant}
use Rattle.gpu_vulkan.specs.declared.allocation.Allocation.{Allocation}

-- ---- refusals before the pool is asked

module _ {D : Type 0} (g : Ghosts D) (setup : Setup) (budgets : Budgets) (i : ℕ) (d : AllocationCreateDesc) (device : D) (ss : Slots) where
  -- a request above its heap
  pub too_large : heap_size setup.properties i < d.requirements.size → IsAttempt g setup budgets i d ss device (Err OutOfMemory) ss device
  too_large above = record {
    environment = record { host = false; asked = None };
    answer = Err out_of_memory;
    attempts = inl (record { above = above; asked = refl; answer_is = refl; same = refl });
    asked = refl;
    answers = refl;
  }

  -- host memory for the name was refused
  pub short : d.requirements.size ≤ heap_size setup.properties i → IsAttempt g setup budgets i d ss device (Err HostOutOfMemory) ss device
  short below = record {
    environment = record { host = false; asked = None };
    answer = Err host_out_of_memory;
    attempts = inr (record { below = below; allocates = record { met = NoHostMemory; is_met = (refl, refl); serves = (refl, refl) }; asked_for = tt });
    asked = refl;
    answers = refl;
  }

pub nothing_changed : {D : Type 0} (p : Pool D) → IsConstant p p
nothing_changed p = record { first = refl; setup = refl; budgets = refl }

pub constant_both : {D : Type 0} (old mid new : Pool D) → IsConstant old mid → IsConstant mid new → IsConstant old new
constant_both old mid new a b = record { first = b.first ∙ a.first; setup = b.setup ∙ a.setup; budgets = b.budgets ∙ a.budgets }

-- ---- a request of the pool

module _ {D : Type 0} (g : Ghosts D) (i : ℕ) (d : AllocationCreateDesc) (old new : Pool D) (r : Request) (asks : asked r ≡ request_of d) (own : r.dedicated ≡ requests_dedicated d.allocation_scheme) where
  abbrev setup : Setup
  setup = setup_of old

  abbrev kinds : List (Bool × ℕ)
  kinds = kinds_of_device setup.properties

  abbrev q : pools.RequestAt AllocationScheme
  q = pools.request_at i r d.allocation_scheme

  abbrev Served : Environment DeviceMemory → Answer → Type 0
  Served met answer = PoolServes kinds (AsksBlock g) q old met answer new

  request_is : q ≡ request_in i d
  request_is j = record { memory_type = i; requested_dedicated = own j; request = asks j; extra = d.allocation_scheme }

  source_constant : (met : Environment DeviceMemory) → SourceAfter kinds (AsksBlock g) q old met new.source → (new.source.first ≡ old.source.first) × (new.source.setup ≡ old.source.setup)
  source_constant NothingMet same = (ap (λ (s : SourceState D). s.first) same, ap (λ (s : SourceState D). s.setup) same)
  source_constant NoHostMemory same = (ap (λ (s : SourceState D). s.first) same, ap (λ (s : SourceState D). s.setup) same)
  source_constant (Answered size block) a = (ap (λ (s : SourceState D). s.first) a.state, ap (λ (s : SourceState D). s.setup) a.state)

  pub constant : (answer : Answer) → pools.PoolAllocates kinds (AsksBlock g) q old answer new → IsConstant old new
  constant answer a =
      let same = serves_constant kinds (AsksBlock g) q old a.0 answer new a.1 in
      let source = source_constant a.0 (serves_source kinds (AsksBlock g) q old a.0 answer new a.1) in
      let setups = source.1 in
      let sizes = same.0 in
      record { first = source.0; setup = λ i. record (setups i) { sizes = sizes i }; budgets = same.1 }

  -- the same, where nothing is seen of the source
  unseen_serves : (met : Environment DeviceMemory) (answer : Answer) → Served met answer
      → PoolServes kinds AnyQuestion (request_in i d) (unseen setup old.budgets old.slots) met answer (unseen setup old.budgets new.slots)
  unseen_serves met answer serves =
      let same = serves_constant kinds (AsksBlock g) q old met answer new serves in
      let hide : SourceState D → Unit {0} = λ s. tt in
      let before : over hide old ≡ unseen setup old.budgets old.slots = refl in
      let after : over hide new ≡ unseen setup old.budgets new.slots = λ j. record { source = tt; sizes = same.0 j; slots = new.slots; budgets = same.1 j } in
      let here : PoolServes kinds AnyQuestion q (over hide old) met answer (over hide new) = serves_over kinds (AsksBlock g) AnyQuestion hide q old new (λ size result k. tt) met answer serves in
      subst (λ (k : pools.RequestAt AllocationScheme). PoolServes kinds AnyQuestion k (unseen setup old.budgets old.slots) met answer (unseen setup old.budgets new.slots)) request_is
      (subst (λ (s : states.State (Unit {0}) DeviceMemory). PoolServes kinds AnyQuestion q (unseen setup old.budgets old.slots) met answer s) after
      (subst (λ (s : states.State (Unit {0}) DeviceMemory). PoolServes kinds AnyQuestion q s met answer (over hide new)) before here))

  -- the pool's answer, with what the device was asked
  answered : (o : AttemptEnvironment) (met : Environment DeviceMemory) (answer : Answer) (result : Result Allocation AllocationError) → IsMet o met → IsAskedFor setup i d o.asked
      → IsAfter g old.source.device (is_mapped setup.properties i) o.asked new.source.device → Served met answer → d.requirements.size ≤ heap_size setup.properties i
      → Answers setup i d result answer → IsAttempt g setup old.budgets i d old.slots old.source.device result new.slots new.source.device
  answered o met answer result is_met asked_for after serves below answers = record {
    environment = o;
    answer = answer;
    attempts = inr (record { below = below; allocates = record { met = met; is_met = is_met; serves = unseen_serves met answer serves }; asked_for = asked_for });
    asked = after;
    answers = answers;
  }

  attempted_by : (met : Environment DeviceMemory) (answer : Answer) (result : Result Allocation AllocationError) → SourceAfter kinds (AsksBlock g) q old met new.source → Served met answer
      → d.requirements.size ≤ heap_size setup.properties i → Answers setup i d result answer
      → IsAttempt g setup old.budgets i d old.slots old.source.device result new.slots new.source.device
  attempted_by NothingMet answer result same = answered (record { host = true; asked = None }) NothingMet answer result (refl, refl) tt (ap (λ (s : SourceState D). s.device) same)
  attempted_by NoHostMemory answer result same = answered (record { host = false; asked = None }) NoHostMemory answer result (refl, refl) tt (ap (λ (s : SourceState D). s.device) same)
  attempted_by (Answered size block) answer result a =
      let o : Asked = record { info = question setup i size d.allocation_scheme; answer = a.answer } in
      answered (record { host = true; asked = Some o }) (Answered size block) answer result (refl, (o, refl, refl, a.is_result)) (refl, a.asks.fits) a.asks

  pub attempted : (answer : Answer) (result : Result Allocation AllocationError) → pools.PoolAllocates kinds (AsksBlock g) q old answer new → d.requirements.size ≤ heap_size setup.properties i
      → Answers setup i d result answer → IsAttempt g setup old.budgets i d old.slots old.source.device result new.slots new.source.device
  attempted answer result a = attempted_by a.0 answer result (serves_source kinds (AsksBlock g) q old a.0 answer new a.1) a.1

-- a second attempt begins with the same setup and budgets
pub begun_alike : {D : Type 0} (g : Ghosts D) (i : ℕ) (d : AllocationCreateDesc) (setup also : Setup) (budgets others : Budgets) (old : Slots) (device : D) (result : Result Allocation AllocationError) (new : Slots)
    (after : D) → also ≡ setup → others ≡ budgets → IsAttempt g also others i d old device result new after → IsAttempt g setup budgets i d old device result new after
begun_alike g i d here also budgets others old device result new after same alike a =
    subst (λ (s : Setup). IsAttempt g s budgets i d old device result new after) same (subst (λ (b : Budgets). IsAttempt g also b i d old device result new after) alike a)

-- ---- what a refusal leaves

-- a refused request leaves the slots
served_same : (setup : Setup) (budgets : Budgets) (old : Slots) (t : ℕ) (d : AllocationCreateDesc) (met : Environment DeviceMemory) (r : Refusal) (new : Slots)
    → PoolServes (kinds_of_device setup.properties) AnyQuestion (request_in t d) (unseen setup budgets old) met (Err r) (unseen setup budgets new) → new ≡ old
served_same here budgets old t d NothingMet r new a = ap (λ (s : states.State (Unit {0}) DeviceMemory). s.slots) a.1
served_same here budgets old t d NoHostMemory r new a = ap (λ (s : states.State (Unit {0}) DeviceMemory). s.slots) a.1
served_same here budgets old t d (Answered size (Ok memory)) r new a = absurd a
served_same here budgets old t d (Answered size (Err why)) r new a = ap (λ (s : states.State (Unit {0}) DeviceMemory). s.slots) a.0.state

pub refused_same : (setup : Setup) (budgets : Budgets) (old : Slots) (t : ℕ) (d : AllocationCreateDesc) (o : AttemptEnvironment) (r : Refusal) (new : Slots)
    → Attempts setup budgets old t d o (Err r) new → new ≡ old
refused_same here budgets old t d o r new a =
    ⊎_elim
    (λ (large : IsTooLarge here old t d o (Err r) new). large.same)
    (λ (within : IsWithinHeap here budgets old t d o (Err r) new). served_same here budgets old t d within.allocates.met r new within.allocates.serves)
    a

module _ {D : Type 0} (g : Ghosts D) (mapped : Bool) (device after : D) where
  -- a refused question leaves what is held
  pub refused_held : (a : Asked) (why : Refusal) → answer_refusal a.answer ≡ Some why → Asks g device a.info mapped a.answer after → g.held after ≡ g.held device
  refused_held a why is asks = by a.answer is asks
    where
      by : (b : BlockAnswer) → answer_refusal b ≡ Some why → Asks g device a.info mapped b after → g.held after ≡ g.held device
      by (Declined code) is asks = asks.held
      by (NotMapped number code) is asks = asks.held
      by (Granted number) is asks = absurd (none_some why is)
      by (Mapped number bytes) is asks = absurd (none_some why is)

  pub unasked_held : (o : Option Asked) → o ≡ None → IsAfter g device mapped o after → g.held after ≡ g.held device
  unasked_held o none is = let same : after ≡ device = subst (λ o. IsAfter g device mapped o after) none is in ap g.held same

  module _ (setup : Setup) (budgets : Budgets) (old : Slots) (t : ℕ) (d : AllocationCreateDesc) (o : AttemptEnvironment) (r : Refusal) (new : Slots) where
    served_held : (met : Environment DeviceMemory) → IsMet o met
        → PoolServes (kinds_of_device setup.properties) AnyQuestion (request_in t d) (unseen setup budgets old) met (Err r) (unseen setup budgets new) → IsAfter g device mapped o.asked after
        → g.held after ≡ g.held device
    served_held NothingMet is serves asked = unasked_held o.asked is.1 asked
    served_held NoHostMemory is serves asked = unasked_held o.asked is.1 asked
    served_held (Answered size (Ok memory)) is serves asked = absurd serves
    served_held (Answered size (Err why)) is serves asked =
        let a = is.1 in
        refused_held a.0 why a.3 (subst (λ o. IsAfter g device mapped o after) a.1 asked)

    -- a refused attempt leaves what is held
    pub attempt_held : Attempts setup budgets old t d o (Err r) new → IsAfter g device mapped o.asked after → g.held after ≡ g.held device
    attempt_held a asked =
        ⊎_elim
        (λ (large : IsTooLarge setup old t d o (Err r) new). unasked_held o.asked large.asked asked)
        (λ (within : IsWithinHeap setup budgets old t d o (Err r) new). served_held within.allocates.met within.allocates.is_met within.allocates.serves asked)
        a
