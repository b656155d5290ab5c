-- What no call changes of a source: what it was at first, its tier, its device's interface and properties.
use Rattle.std.proofs.Common.{◌≡◌, ◌∙◌, refl, sym, ap, subst, ℕ, List, [], ◌∷◌, true, false, Option, Some, None, Ok, Err, Result}
use Rattle.gpu_values.specs.Refusal.{Refusal}
use Rattle.gpu_device.specs.declared.d3d12.event.ResourcePlace.{ResourcePlace}
use Rattle.gpu_device.specs.declared.d3d12.device.D3D12Device.{Ghosts}
use Rattle.gpu_device.specs.declared.d3d12.types.ID3D12Heap.{ID3D12Heap}
use Rattle.gpu_core.specs.declared.piece.Piece.{Piece}
use Rattle.gpu_d3d12.specs.DeviceVersion.{device_of, with_device}
use Rattle.gpu_d3d12.specs.ResourceAnswer.{ResourceAnswer}
use Rattle.gpu_d3d12.specs.Setup.{kinds_of_device}
use Rattle.gpu_d3d12.specs.declared.describe.AllocationCreateDesc.{AllocationCreateDesc}
use Rattle.gpu_d3d12.specs.declared.question.ResourceCreateDesc.{ResourceCreateDesc}
use Rattle.gpu_d3d12.specs.declared.question.CreateCall.{CreateCall}
use Rattle.gpu_values.specs.declared.error.AllocationError.{AllocationError}
use Rattle.gpu_pool.specs.Allocate as environments
use Rattle.gpu_pool.specs.Allocate.{NothingMet, NoHostMemory, Answered, PoolServes}
use Rattle.gpu_pool.specs.Free.{GivesBackAny, GivesBackAll, PoolFrees}
use Rattle.gpu_pool.proofs.Serving.{SourceAfter, serves_source, serves_constant}
use Rattle.gpu_d3d12.specs.Allocate.{request_in, AllocatesBy}
use Rattle.gpu_d3d12.specs.Blocks.{is_same_heap}
use Rattle.gpu_d3d12.specs.Source.{SourceState, with_source_device, AsksBlock, GivesHeapBack, MakesResource, ReleasesResource}
use Rattle.gpu_d3d12.specs.State as states
use Rattle.gpu_d3d12.specs.State.{Basis, source_basis, interface_of}
use Rattle.gpu_d3d12.specs.Live.{Allocation}
use Rattle.gpu_d3d12.proofs.Versions.{same_device, with_twice, same_interface}

module _ {D : Type 0} (g : Ghosts D) where
  -- the device and the journal alone changed, and not the device's properties
  pub record Stays (old new : SourceState D) : Type 0 where
    pub state : new ≡ record (with_source_device old (device_of new.device)) { journal = new.journal }
    pub constant : g.properties (device_of new.device) ≡ g.properties (device_of old.device)

  pub stays : (s : SourceState D) → Stays s s
  stays s = record { state = λ i. record s { device = same_device s.device i }; constant = refl }

  pub stays_same : (old new : SourceState D) → new ≡ old → Stays old new
  stays_same old new is = subst (λ (s : SourceState D). Stays old s) (sym is) (stays old)

  pub then_stays : (a b c : SourceState D) → Stays a b → Stays b c → Stays a c
  then_stays a b c x y = record {
    state =
        y.state ∙ ap (λ (s : SourceState D). record (with_source_device s (device_of c.device)) { journal = c.journal }) x.state
        ∙ (λ i. record a { device = with_twice a.device (device_of b.device) (device_of c.device) i; journal = c.journal });
    constant = y.constant ∙ x.constant;
  }

  pub same_first : (old new : SourceState D) → Stays old new → new.first ≡ old.first
  same_first old new x = ap (λ (s : SourceState D). s.first) x.state

  pub same_tier : (old new : SourceState D) → Stays old new → new.tier ≡ old.tier
  same_tier old new x = ap (λ (s : SourceState D). s.tier) x.state

  pub same_version : (old new : SourceState D) → Stays old new → new.device ≡ with_device old.device (device_of new.device)
  same_version old new x = ap (λ (s : SourceState D). s.device) x.state

  pub same_basis : (old new : SourceState D) → Stays old new → source_basis g new ≡ source_basis g old
  same_basis old new x =
      let tiers = same_tier old new x in
      let interfaces = ap interface_of (same_version old new x) ∙ same_interface old.device (device_of new.device) in
      λ i. record { tier = tiers i; interface = interfaces i; properties = x.constant i }

  -- a state with its own journal
  noted : (old new x : SourceState D) → new ≡ x → record x { journal = old.journal } ≡ with_source_device old (device_of new.device)
      → new ≡ record (with_source_device old (device_of new.device)) { journal = new.journal }
  noted old new x is rest =
      let journals = ap (λ (s : SourceState D). s.journal) is in
      is ∙ (λ i. record (rest i) { journal = sym journals i })

  -- ---- by each call

  pub asked_stays : (old : SourceState D) (t size : ℕ) (answer : Result ID3D12Heap Refusal) (new : SourceState D) → AsksBlock g old t size tt answer new → Stays old new
  asked_stays old t size answer new a = record { state = noted old new (with_source_device old (device_of new.device)) a.state refl; constant = a.asks.constant }

  pub given_stays : (old : SourceState D) (heap : ID3D12Heap) (new : SourceState D) → GivesHeapBack g old heap new → Stays old new
  given_stays old heap new a = record { state = noted old new (with_source_device old (device_of new.device)) a.state refl; constant = a.gives.constant }

  pub made_stays : (d : ResourceCreateDesc) (old : SourceState D) (question : CreateCall) (place : ResourcePlace) (entry : _) (answer : ResourceAnswer) (new : SourceState D)
      → MakesResource g d old question place entry answer new → Stays old new
  made_stays d old question place entry answer new a = record { state = noted old new _ a.state refl; constant = a.asks.constant }

  pub released_stays : (old : SourceState D) (number : ℕ) (new : SourceState D) → ReleasesResource g old number new → Stays old new
  released_stays old number new a = record { state = noted old new _ a.state refl; constant = a.releases.asks_nothing.constant }

  pub back_stays : (old : SourceState D) (went : Option ID3D12Heap) (new : SourceState D) → GivesBackAny (GivesHeapBack g) old went new → Stays old new
  back_stays old None new is = stays_same old new is
  back_stays old (Some heap) new is = given_stays old heap new is

  pub back_journal : (old : SourceState D) (went : Option ID3D12Heap) (new : SourceState D) → GivesBackAny (GivesHeapBack g) old went new → new.journal ≡ old.journal
  back_journal old None new is = ap (λ (s : SourceState D). s.journal) is
  back_journal old (Some heap) new is = ap (λ (s : SourceState D). s.journal) is.state

  pub all_back_journal : (old : SourceState D) (heaps : List ID3D12Heap) (new : SourceState D) → GivesBackAll (GivesHeapBack g) old heaps new → new.journal ≡ old.journal
  all_back_journal old [] new is = ap (λ (s : SourceState D). s.journal) is
  all_back_journal old (heap ∷ heaps) new is = all_back_journal is.0 heaps new is.2 ∙ ap (λ (s : SourceState D). s.journal) is.1.state

  pub frees_journal : (t : ℕ) (p : Piece ID3D12Heap) (old : states.Pool D) (answer : Result (Unit {0}) Refusal) (new : states.Pool D) → PoolFrees (GivesHeapBack g) is_same_heap t p old answer new
      → new.source.journal ≡ old.source.journal
  frees_journal t p old (Ok u) new f = back_journal old.source f.1.went new.source f.1.source
  frees_journal t p old (Err e) new f = ap (λ (s : states.Pool D). s.source.journal) f.2

  pub all_back_stays : (old : SourceState D) (heaps : _) (new : SourceState D) → GivesBackAll (GivesHeapBack g) old heaps new → Stays old new
  all_back_stays old [] new is = stays_same old new is
  all_back_stays old (heap ∷ heaps) new is = then_stays old is.0 new (given_stays old heap is.0 is.1) (all_back_stays is.0 heaps new is.2)

  pub frees_stays : (t : ℕ) (p : Piece ID3D12Heap) (old : states.Pool D) (answer : Result (Unit {0}) Refusal) (new : states.Pool D) → PoolFrees (GivesHeapBack g) is_same_heap t p old answer new → Stays old.source new.source
  frees_stays t p old (Ok u) new f = back_stays old.source f.1.went new.source f.1.source
  frees_stays t p old (Err e) new f = stays_same old.source new.source (ap (λ (s : states.Pool D). s.source) f.2)

  -- ---- an allocation

  -- nothing else changes
  pub record Keeps (old new : states.Pool D) : Type 0 where
    pub source : Stays old.source new.source
    pub journal : new.source.journal ≡ old.source.journal
    pub sizes : new.sizes ≡ old.sizes
    pub budgets : new.budgets ≡ old.budgets

  pub keeps_same : (old new : states.Pool D) → new ≡ old → Keeps old new
  keeps_same old new is = record {
    source = stays_same old.source new.source (ap (λ (s : states.Pool D). s.source) is);
    journal = ap (λ (s : states.Pool D). s.source.journal) is;
    sizes = ap (λ (s : states.Pool D). s.sizes) is;
    budgets = ap (λ (s : states.Pool D). s.budgets) is;
  }

  source_journal : (kinds : _) (q : environments.RequestAt (Unit {0})) (old : states.Pool D) (met : environments.Environment ID3D12Heap) (new : SourceState D)
      → SourceAfter kinds (AsksBlock g) q old met new → new.journal ≡ old.source.journal
  source_journal kinds q old NothingMet new is = ap (λ (s : SourceState D). s.journal) is
  source_journal kinds q old NoHostMemory new is = ap (λ (s : SourceState D). s.journal) is
  source_journal kinds q old (Answered size answer) new is = ap (λ (s : SourceState D). s.journal) is.state

  source_stays : (kinds : _) (q : environments.RequestAt (Unit {0})) (old : states.Pool D) (met : environments.Environment ID3D12Heap) (new : SourceState D)
      → SourceAfter kinds (AsksBlock g) q old met new → Stays old.source new
  source_stays kinds q old NothingMet new is = stays_same old.source new is
  source_stays kinds q old NoHostMemory new is = stays_same old.source new is
  source_stays kinds q old (Answered size answer) new is = asked_stays old.source q.memory_type size answer new is

  pub serves_keeps : (kinds : _) (q : environments.RequestAt (Unit {0})) (old : states.Pool D) (met : environments.Environment ID3D12Heap) (answer : Result (Piece ID3D12Heap) Refusal) (new : states.Pool D)
      → PoolServes kinds (AsksBlock g) q old met answer new → Keeps old new
  serves_keeps kinds q old met answer new s =
      let same = serves_constant kinds (AsksBlock g) q old met answer new s in
      record { source = source_stays kinds q old met new.source (serves_source kinds (AsksBlock g) q old met answer new s); journal = source_journal kinds q old met new.source (serves_source kinds (AsksBlock g) q old met answer new s); sizes = same.0; budgets = same.1 }

  pub allocates_keeps : (d : AllocationCreateDesc) (valid : _) (old : states.Pool D) (result : Result Allocation AllocationError) (new : states.Pool D) → AllocatesBy g d valid old result new → Keeps old new
  allocates_keeps d false old result new a = keeps_same old new a.1
  allocates_keeps d true old result new a = serves_keeps (kinds_of_device old.source.tier) (request_in a.memory_type d) old a.allocates.0 a.answer new a.allocates.1
