-- The model isn't loose: a state, a call and what it met with decide the reply and the next state.
use Rattle.std.specs.Prelude.{codes}
use Rattle.std.specs.Ordering.{int_eq}
use Rattle.std.proofs.lemmas.Bool.Decides.{Decides-int_eq}
use Rattle.std.proofs.Common.{◌≡◌, ◌∙◌, refl, sym, ap, subst, ℤ, pos, neg_ℤ, cond, ℕ, zero, suc, Bool, true, false, List, [], ◌∷◌, map, slice_set, Option, Some, None, Ok, Err, Result}
use Rattle.std.specs.List.{remove}
use Rattle.gpu_values.specs.Refusal.{Refusal, out_of_memory, internal}
use Rattle.gpu_core.specs.Slots.{AreSound}
use Rattle.gpu_core.specs.declared.piece.Piece.{Piece}
use Rattle.gpu_device.specs.declared.d3d12.event.ResourcePlace.TheVariants.{Own}
use Rattle.gpu_device.specs.declared.d3d12.event.ResourcePlace.{ResourcePlace}
use Rattle.gpu_device.specs.D3D12 as entries
use Rattle.gpu_device.specs.D3D12.{Entry}
use Rattle.gpu_device.specs.declared.d3d12.event.Event.TheVariants.{AskedHeap}
use Rattle.gpu_device.specs.declared.d3d12.types.HeapFlags.{HeapFlags}
use Rattle.gpu_device.specs.declared.d3d12.types.HeapProperties.{HeapProperties}
use Rattle.gpu_device.specs.declared.d3d12.types.ID3D12Heap.{ID3D12Heap}
use Rattle.gpu_device.specs.declared.d3d12.types.ResourceHeapTier.{ResourceHeapTier}
use Rattle.gpu_core.specs.Blocks.{slots_at, BlocksWellFormed}
use Rattle.gpu_core.proofs.Options.{none_some, some_same}
use Rattle.gpu_d3d12.specs.HeapAnswer.{HeapAnswer, Granted, Declined, Null, null_refusal, told_answer}
use Rattle.gpu_d3d12.specs.Heaps.{heap_desc, is_host}
use Rattle.gpu_d3d12.specs.MemoryKinds.{memory_kinds}
use Rattle.gpu_d3d12.specs.Question.{resource_question}
use Rattle.gpu_d3d12.specs.ResourceAnswer.{ResourceAnswer, placed_texts}
use Rattle.gpu_d3d12.specs.Setup.{kinds_of_device}
use Rattle.gpu_d3d12.specs.declared.describe.AllocationCreateDesc.{AllocationCreateDesc}
use Rattle.gpu_d3d12.specs.declared.memory_kind.MemoryKind.{MemoryKind}
use Rattle.gpu_d3d12.specs.declared.question.ResourceCreateDesc.{ResourceCreateDesc}
use Rattle.gpu_d3d12.specs.declared.question.CreateCall.{CreateCall}
use Rattle.gpu_d3d12.specs.declared.question.ResourceType.{ResourceType}
use Rattle.gpu_d3d12.specs.declared.question.ResourceType.TheVariants as resource_types
use Rattle.gpu_d3d12.proofs.FirstServing.{one_first}
use Rattle.gpu_pool.specs.Allocate as environments
use Rattle.gpu_pool.specs.Allocate.{NothingMet, NoHostMemory}
use Rattle.gpu_pool.specs.Free.{PoolFrees}
use Rattle.gpu_pool.specs.Reply as replies
use Rattle.gpu_pool.specs.State as pools
use Rattle.gpu_pool.specs.State.{IsSoundAt, kind_at}
use Rattle.gpu_pool.specs.Step as calls
use Rattle.gpu_pool.specs.Step.{AskDecides, GiveBackDecides}
use Rattle.gpu_pool.proofs.OneStep as pool
use Rattle.gpu_d3d12.specs.Allocate.{is_valid, request_in}
use Rattle.gpu_d3d12.specs.Blocks.{Slots, is_same_heap}
use Rattle.gpu_d3d12.specs.Describe.{request_of}
use Rattle.gpu_d3d12.specs.Source.{heap_result}
use Rattle.gpu_d3d12.specs.Committed.{Commits, CommitsBy, IsAfterResource, fits, records_at, number_or_refusal}
use Rattle.gpu_pool.specs.Allocation.{piece_of}
use Rattle.gpu_d3d12.specs.Live.{Allocation}
use Rattle.gpu_d3d12.specs.Reply.{Reply, Pool, made_reply}
use Rattle.gpu_d3d12.specs.Resource.{piece_desc, record_of}
use Rattle.gpu_d3d12.specs.State.{Basis, Seen, Model}
use Rattle.gpu_d3d12.specs.Step.{Call, Allocate, Free, Rename, ProposeMove, Capacity, Report, Leaks, CreateResource, FreeResource, Statistics, SetBudget, Budget, Environment, host_met, info_of, size_made, allocated_reply}
use Rattle.gpu_d3d12.specs.Step.{SeesQuestion, SeesHeapFreed, SeesMade, SeesReleased, AllocatesBy, Commit, EndsBy, PlacesThen, Place, MakesBy, CreatesBy, FreesPlaced, FreesCommitted, FreesResource, OfPool, IsPoolCall, ProposesBy, is_again, Step}
use Rattle.gpu_d3d12.specs.declared.committed_record.CommittedRecord.{CommittedRecord}
use Rattle.gpu_d3d12.specs.declared.resource.Resource.{Resource}

abbrev Pools : Type 0
Pools = pools.State Seen ID3D12Heap

-- ---- what a heap's answer becomes tells the answer

abbrev heap_in : Result ID3D12Heap Refusal → ℕ
heap_in (Ok heap) = heap.0
heap_in (Err e) = 0

abbrev heap_err : Refusal → Result ID3D12Heap Refusal
heap_err e = Err e

err_same : (e f : Refusal) → heap_err e ≡ heap_err f → e ≡ f
err_same e f same = cc

abbrev want_of_memory : ℤ
want_of_memory = neg_ℤ (pos 2147024882)

abbrev code_by : Bool → ℤ → Refusal
code_by b code = cond b out_of_memory (internal (codes "ID3D12Device::CreateHeap failed") (Some code))

one_code : (c d : ℤ) (b e : Bool) → int_eq c want_of_memory ≡ b → int_eq d want_of_memory ≡ e → code_by b c ≡ code_by e d → c ≡ d
one_code c d true true is also same = (Decides-int_eq c want_of_memory).0 is ∙ sym ((Decides-int_eq d want_of_memory).0 also)
one_code c d true false is also same = cc
one_code c d false true is also same = cc
one_code c d false false is also same = cc

no_code : (c : ℤ) (b : Bool) → code_by b c ≡ null_refusal → ⊥
no_code c true same = cc
no_code c false same = cc

one_answer : (a b : HeapAnswer) → heap_result a ≡ heap_result b → a ≡ b
one_answer (Granted n) (Granted m) same = ap Granted (ap heap_in same)
one_answer (Granted n) (Declined d) same = cc
one_answer (Granted n) Null same = cc
one_answer (Declined c) (Granted m) same = cc
one_answer (Declined c) (Declined d) same = ap Declined (one_code c d (int_eq c want_of_memory) (int_eq d want_of_memory) refl refl (err_same _ _ same))
one_answer (Declined c) Null same = absurd (no_code c (int_eq c want_of_memory) (err_same _ _ same))
one_answer Null (Granted m) same = cc
one_answer Null (Declined d) same = absurd (no_code d (int_eq d want_of_memory) (sym (err_same _ _ same)))
one_answer Null Null same = refl

question_decides : (tier : ResourceHeapTier) → AskDecides (SeesQuestion tier)
question_decides tier old a b t size extra answer x y =
    let here = some_same x.kind y.kind (sym x.at ∙ y.at) in
    let answers = one_answer x.heap_answer y.heap_answer (sym x.answered ∙ y.answered) in
    x.state ∙ (λ i. record old { history = AskedHeap (heap_desc (here i) size) (told_answer (answers i)) ∷ old.history }) ∙ sym y.state

given_decides : GiveBackDecides SeesHeapFreed
given_decides old a b heap x y = x ∙ sym y

-- all memory types have pages of 1
page_at : (kinds : List MemoryKind) (t : ℕ) → 1 ≡ (kind_at (map (λ k. (is_host k, 1)) kinds) t).1
page_at [] t = refl
page_at (k ∷ kinds) zero = refl
page_at (k ∷ kinds) (suc t) = page_at kinds t

pub sound_at : (tier : ResourceHeapTier) (slots : Slots) → BlocksWellFormed 1 slots → (t : ℕ) → IsSoundAt (kinds_of_device tier) slots t
sound_at tier slots sound t = subst (λ n. AreSound n (slots_at slots t)) (page_at (memory_kinds tier) t) (sound t)

pub well_formed : (tier : ResourceHeapTier) (slots : Slots) → ((t : ℕ) → IsSoundAt (kinds_of_device tier) slots t) → BlocksWellFormed 1 slots
well_formed tier slots sound t = subst (λ n. AreSound n (slots_at slots t)) (sym (page_at (memory_kinds tier) t)) (sound t)

module _ (basis : Basis) where
  abbrev kinds : List (Bool × ℕ)
  kinds = kinds_of_device basis.tier

  abbrev Sound : Pools → Type 0
  Sound s = (t : ℕ) → IsSoundAt kinds s.slots t

  -- ---- the pool

  abbrev IsCall : calls.Call ID3D12Heap (Unit {0}) → environments.Environment ID3D12Heap → replies.Reply ID3D12Heap → (old new : Pools) → Type 0
  IsCall call met reply old new = IsPoolCall (SeesQuestion basis.tier) SeesHeapFreed SeesMade SeesReleased basis call met reply old new

  call_once : (call : calls.Call ID3D12Heap (Unit {0})) (met : environments.Environment ID3D12Heap) (x y : replies.Reply ID3D12Heap) (old new next : Pools) → Sound old → IsCall call met x old new
      → IsCall call met y old next → (x ≡ y) × (new ≡ next)
  call_once call met x y old new next sound a b = pool.step_once (SeesQuestion basis.tier) SeesHeapFreed is_same_heap (question_decides basis.tier) given_decides kinds call met x y old new next sound a b

  abbrev StepAllocates : AllocationCreateDesc → Bool → environments.Environment ID3D12Heap → replies.Reply ID3D12Heap → (old new : Pools) → Type 0
  StepAllocates d valid met reply old new = AllocatesBy (SeesQuestion basis.tier) SeesHeapFreed SeesMade SeesReleased basis d valid met reply old new

  allocate_once : (d : AllocationCreateDesc) (valid : Bool) (met : environments.Environment ID3D12Heap) (x y : replies.Reply ID3D12Heap) (old new next : Pools) → Sound old
      → StepAllocates d valid met x old new → StepAllocates d valid met y old next → (x ≡ y) × (new ≡ next)
  allocate_once d false met x y old new next sound a b = (a.1 ∙ sym b.1, a.2 ∙ sym b.2)
  allocate_once d true met x y old new next sound a b =
      let types : a.0 ≡ b.0 = one_first d.location d.resource_category (memory_kinds basis.tier) a.0 b.0 a.1 b.1 in
      let other = subst (λ t. IsCall (calls.Allocate (request_in t d)) met y old next) (sym types) b.2 in
      call_once (calls.Allocate (request_in a.0 d)) met x y old new next sound a.2 other

  abbrev Proposes : Allocation → AllocationCreateDesc → Bool → environments.Environment ID3D12Heap → replies.Reply ID3D12Heap → (old new : Pools) → Type 0
  Proposes w d again met reply old new = ProposesBy (SeesQuestion basis.tier) SeesHeapFreed SeesMade SeesReleased basis w d again met reply old new

  propose_once : (w : Allocation) (d : AllocationCreateDesc) (again : Bool) (met : environments.Environment ID3D12Heap) (x y : replies.Reply ID3D12Heap) (old new next : Pools) → Sound old
      → Proposes w d again met x old new → Proposes w d again met y old next → (x ≡ y) × (new ≡ next)
  propose_once w d false met x y old new next sound a b = (a.1 ∙ sym b.1, a.2 ∙ sym b.2)
  propose_once w d true met x y old new next sound a b = call_once (calls.ProposeMove w.memory_type_index (piece_of w) (request_of d)) met x y old new next sound a b

  frees_once : (t : ℕ) (p : Piece ID3D12Heap) (old : Pools) → Sound old → (x y : Result (Unit {0}) Refusal) (new next : Pools) → PoolFrees SeesHeapFreed is_same_heap t p old x new
      → PoolFrees SeesHeapFreed is_same_heap t p old y next → (x ≡ y) × (new ≡ next)
  frees_once t p old sound x y new next a b = pool.frees_once kinds SeesHeapFreed given_decides is_same_heap t p old (sound t) x y new next a b

  of_pool_once : (P : environments.Environment ID3D12Heap → replies.Reply ID3D12Heap → (old new : Pools) → Type 0) (met : Environment) (x y : Reply) (old new next : Model)
      → ((r s : replies.Reply ID3D12Heap) → P met.pool r old.pool new.pool → P met.pool s old.pool next.pool → (r ≡ s) × (new.pool ≡ next.pool))
      → OfPool (SeesQuestion basis.tier) SeesHeapFreed SeesMade SeesReleased basis P met x old new → OfPool (SeesQuestion basis.tier) SeesHeapFreed SeesMade SeesReleased basis P met y old next → (x ≡ y) × (new ≡ next)
  of_pool_once P met x y old new next once a b =
      let k = once a.1 b.1 a.3 b.3 in
      let pools = k.1 in
      let records = a.4 ∙ sym b.4 in
      (a.2 ∙ ap Pool k.0 ∙ sym b.2, λ i. record { pool = pools i; committed = records i })

  -- ---- a committed resource

  after_once : (d : ResourceCreateDesc) (question : CreateCall) (place : ResourcePlace) (entry : Entry) (o : Option ResourceAnswer) (old a b : Seen)
      → IsAfterResource (λ s answer t. SeesMade d s question place entry answer t) old o a → IsAfterResource (λ s answer t. SeesMade d s question place entry answer t) old o b → a ≡ b
  after_once d question place entry None old a b x y = x ∙ sym y
  after_once d question place entry (Some answer) old a b x y = x ∙ sym y

  abbrev nothing : environments.Environment ID3D12Heap
  nothing = NothingMet

  abbrev starved : environments.Environment ID3D12Heap
  starved = NoHostMemory

  met_apart : nothing ≡ starved → ⊥
  met_apart e = cc

  host_same : (x y : Bool) → host_met x ≡ host_met y → x ≡ y
  host_same true true e = refl
  host_same false false e = refl
  host_same true false e = absurd (met_apart e)
  host_same false true e = absurd (met_apart (sym e))

  commits_by_once : (fits host : Bool) (old : List CommittedRecord) (size : ℕ) (o : Option ResourceAnswer) (x y : Result ℕ Refusal) (new next : List CommittedRecord)
      → CommitsBy fits host old size o x new → CommitsBy fits host old size o y next → (x ≡ y) × (new ≡ next)
  commits_by_once false host old size o x y new next a b = (a.2 ∙ sym b.2, a.3 ∙ sym b.3)
  commits_by_once true false old size o x y new next a b = (a.1 ∙ sym b.1, a.2 ∙ sym b.2)
  commits_by_once true true old size None x y new next a b = absurd a
  commits_by_once true true old size (Some answer) x y new next a b = (a.0 ∙ sym b.0, a.1 ∙ sym b.1)

  commit_once : (d : ResourceCreateDesc) (question : CreateCall) (own : HeapProperties × HeapFlags) (met : Environment) (x y : Reply) (old new next : Model)
      → Commit (SeesQuestion basis.tier) SeesHeapFreed SeesMade SeesReleased basis d question own met x old new
      → Commit (SeesQuestion basis.tier) SeesHeapFreed SeesMade SeesReleased basis d question own met y old next → (x ≡ y) × (new ≡ next)
  commit_once d question own met x y old new next a b =
      let size = (info_of basis d).size_in_bytes in
      let types = one_first d.memory_location d.resource_category (memory_kinds basis.tier) a.memory_type b.memory_type a.first b.first in
      let hosts = host_same a.host b.host (sym a.no_heap ∙ b.no_heap) in
      let other : Commits a.host (records_at old.committed a.memory_type) size met.resource b.number b.left =
      subst (λ h. Commits h (records_at old.committed a.memory_type) size met.resource b.number b.left) (sym hosts)
      (subst (λ t. Commits b.host (records_at old.committed t) size met.resource b.number b.left) (sym types) b.commits) in
      let once = commits_by_once (fits (records_at old.committed a.memory_type) size) a.host (records_at old.committed a.memory_type) size met.resource a.number b.number a.left b.left a.commits other in
      let numbers = once.0 in
      let lists = once.1 in
      let sources = after_once d question (Own own.0 own.1) (entries.Committed (size_made basis question d)) met.resource old.pool.source new.pool.source next.pool.source a.asked b.asked in
      let pools = a.pool ∙ (λ i. record (old.pool) { source = sources i }) ∙ sym b.pool in
      let records = a.committed ∙ (λ i. slice_set old.committed (types i) (lists i)) ∙ sym b.committed in
      (a.reply_is ∙ (λ i. made_reply (types i) None size (numbers i)) ∙ sym b.reply_is, λ i. record { pool = pools i; committed = records i })

  -- ---- a placed resource

  abbrev of_piece : (t : ℕ) → Piece ID3D12Heap → replies.Reply ID3D12Heap
  of_piece t p = replies.Allocated t p

  abbrev of_error : Refusal → replies.Reply ID3D12Heap
  of_error r = replies.Error r

  type_same : (t u : ℕ) (p q : Piece ID3D12Heap) → of_piece t p ≡ of_piece u q → t ≡ u
  type_same t u p q e = cc

  piece_same : (t u : ℕ) (p q : Piece ID3D12Heap) → of_piece t p ≡ of_piece u q → p ≡ q
  piece_same t u p q e = cc

  piece_error : (t : ℕ) (p : Piece ID3D12Heap) (r : Refusal) → of_piece t p ≡ of_error r → ⊥
  piece_error t p r e = cc

  refusal_same : (r s : Refusal) → of_error r ≡ of_error s → r ≡ s
  refusal_same r s e = cc

  replied : (o p : Result (ℕ × Piece ID3D12Heap) Refusal) → allocated_reply o ≡ allocated_reply p → o ≡ p
  replied (Ok x) (Ok y) e = (
      let types = type_same x.0 y.0 x.1 y.1 e in
      let pieces = piece_same x.0 y.0 x.1 y.1 e in
      λ i. Ok (types i, pieces i))
  replied (Ok x) (Err r) e = absurd (piece_error x.0 x.1 r e)
  replied (Err r) (Ok x) e = absurd (piece_error x.0 x.1 r (sym e))
  replied (Err r) (Err s) e = ap Err (refusal_same r s e)

  ends_once : (t : ℕ) (p : Piece ID3D12Heap) (r : Result ℕ Refusal) (old new next : Pools) → Sound old → EndsBy (SeesQuestion basis.tier) SeesHeapFreed SeesMade SeesReleased basis t p r old new
      → EndsBy (SeesQuestion basis.tier) SeesHeapFreed SeesMade SeesReleased basis t p r old next → new ≡ next
  ends_once t p (Ok number) old new next sound a b = a ∙ sym b
  ends_once t p (Err refusal) old new next sound a b = (frees_once t p old sound (Ok tt) (Ok tt) new next a b).1

  places_once : (d : ResourceCreateDesc) (question : CreateCall) (allocated : Result (ℕ × Piece ID3D12Heap) Refusal) (o : Option ResourceAnswer) (x y : Reply) (old new next : Pools)
      → PlacesThen (SeesQuestion basis.tier) SeesHeapFreed SeesMade SeesReleased basis d question allocated o x old new
      → PlacesThen (SeesQuestion basis.tier) SeesHeapFreed SeesMade SeesReleased basis d question allocated o y old next → (x ≡ y) × (new ≡ next)
  places_once d question (Ok p) (Some answer) x y old new next a b =
      let same = a.asked ∙ sym b.asked in
      let r = number_or_refusal placed_texts answer in
      let other : EndsBy (SeesQuestion basis.tier) SeesHeapFreed SeesMade SeesReleased basis p.0 p.1 r (record old { source = a.between }) next =
      subst (λ s. EndsBy (SeesQuestion basis.tier) SeesHeapFreed SeesMade SeesReleased basis p.0 p.1 r (record old { source = s }) next) (sym same) b.ends in
      (a.reply_is ∙ sym b.reply_is, ends_once p.0 p.1 r (record old { source = a.between }) new next a.sound a.ends other)
  places_once d question (Ok p) None x y old new next a b = absurd a
  places_once d question (Err refusal) (Some answer) x y old new next a b = absurd a
  places_once d question (Err refusal) None x y old new next a b = (a.0 ∙ sym b.0, a.1 ∙ sym b.1)

  place_once : (d : ResourceCreateDesc) (question : CreateCall) (met : Environment) (x y : Reply) (old new next : Pools) → Sound old
      → Place (SeesQuestion basis.tier) SeesHeapFreed SeesMade SeesReleased basis d question met x old new
      → Place (SeesQuestion basis.tier) SeesHeapFreed SeesMade SeesReleased basis d question met y old next → (x ≡ y) × (new ≡ next)
  place_once d question met x y old new next sound a b =
      let once = allocate_once (piece_desc d (info_of basis d)) (is_valid (piece_desc d (info_of basis d))) met.pool (allocated_reply a.allocated) (allocated_reply b.allocated) old a.mid b.mid sound a.allocates b.allocates in
      let pieces = replied a.allocated b.allocated once.0 in
      let other : PlacesThen (SeesQuestion basis.tier) SeesHeapFreed SeesMade SeesReleased basis d question a.allocated met.resource y a.mid next =
      subst (λ o. PlacesThen (SeesQuestion basis.tier) SeesHeapFreed SeesMade SeesReleased basis d question o met.resource y a.mid next) (sym pieces)
      (subst (λ s. PlacesThen (SeesQuestion basis.tier) SeesHeapFreed SeesMade SeesReleased basis d question b.allocated met.resource y s next) (sym once.1) b.places) in
      places_once d question a.allocated met.resource x y a.mid new next a.places other

  makes_once : (d : ResourceCreateDesc) (question : CreateCall) (type : ResourceType) (met : Environment) (x y : Reply) (old new next : Model) → Sound old.pool
      → MakesBy (SeesQuestion basis.tier) SeesHeapFreed SeesMade SeesReleased basis d question type met x old new
      → MakesBy (SeesQuestion basis.tier) SeesHeapFreed SeesMade SeesReleased basis d question type met y old next → (x ≡ y) × (new ≡ next)
  makes_once d question (resource_types.Committed properties flags) met x y old new next sound a b = commit_once d question (properties.now, flags) met x y old new next a b
  makes_once d question resource_types.Placed met x y old new next sound a b =
      let once = place_once d question met x y old.pool new.pool next.pool sound a.0 b.0 in
      let pools = once.1 in
      let records = a.1 ∙ sym b.1 in
      (once.0, λ i. record { pool = pools i; committed = records i })

  creates_once : (d : ResourceCreateDesc) (q : Result CreateCall Refusal) (met : Environment) (x y : Reply) (old new next : Model) → Sound old.pool
      → CreatesBy (SeesQuestion basis.tier) SeesHeapFreed SeesMade SeesReleased basis d q met x old new
      → CreatesBy (SeesQuestion basis.tier) SeesHeapFreed SeesMade SeesReleased basis d q met y old next → (x ≡ y) × (new ≡ next)
  creates_once d (Err refusal) met x y old new next sound a b = (a.1 ∙ sym b.1, a.2 ∙ sym b.2)
  creates_once d (Ok question) met x y old new next sound a b = makes_once d question d.resource_type.now met x y old new next sound a b

  -- ---- a resource that is given back

  placed_back_once : (a : Allocation) (number : ℕ) (old : Pools) → Sound old → (x y : Result (Unit {0}) Refusal) (new next : Pools)
      → FreesPlaced (SeesQuestion basis.tier) SeesHeapFreed SeesMade SeesReleased basis a number old x new
      → FreesPlaced (SeesQuestion basis.tier) SeesHeapFreed SeesMade SeesReleased basis a number old y next → (x ≡ y) × (new ≡ next)
  placed_back_once a number old sound (Ok u) (Ok v) new next f g =
      let same = f.1 ∙ sym g.1 in
      let t = a.memory_type_index in
      let other : PoolFrees SeesHeapFreed is_same_heap t (piece_of a) (record old { source = f.0 }) (Ok v) next = subst (λ s. PoolFrees SeesHeapFreed is_same_heap t (piece_of a) (record old { source = s }) (Ok v) next) (sym same) g.2 in
      frees_once t (piece_of a) (record old { source = f.0 }) sound (Ok u) (Ok v) new next f.2 other
  placed_back_once a number old sound (Ok u) (Err e) new next f g = absurd (g.0 f.2.0)
  placed_back_once a number old sound (Err e) (Ok u) new next f g = absurd (f.0 g.2.0)
  placed_back_once a number old sound (Err e) (Err r) new next f g = frees_once a.memory_type_index (piece_of a) old sound (Err e) (Err r) new next f g

  committed_back_once : (t : ℕ) (r : CommittedRecord) (old : Model) (x y : Result (Unit {0}) Refusal) (new next : Model)
      → FreesCommitted (SeesQuestion basis.tier) SeesHeapFreed SeesMade SeesReleased basis t r old x new
      → FreesCommitted (SeesQuestion basis.tier) SeesHeapFreed SeesMade SeesReleased basis t r old y next → (x ≡ y) × (new ≡ next)
  committed_back_once t r old (Ok u) (Ok v) new next f g =
      let places = some_same f.0.place g.0.place (sym f.0.stands ∙ g.0.stands) in
      let records = f.0.records ∙ (λ i. slice_set old.committed t (remove (records_at old.committed t) (places i))) ∙ sym g.0.records in
      let sources = f.1 ∙ sym g.1 in
      let pools = f.2 ∙ (λ i. record (old.pool) { source = sources i }) ∙ sym g.2 in
      (refl, λ i. record { pool = pools i; committed = records i })
  committed_back_once t r old (Ok u) (Err e) new next f g = absurd (none_some f.0.place (sym g.0 ∙ f.0.stands))
  committed_back_once t r old (Err e) (Ok u) new next f g = absurd (none_some g.0.place (sym f.0 ∙ g.0.stands))
  committed_back_once t r old (Err e) (Err s) new next f g = (ap Err (f.1 ∙ sym g.1), f.2 ∙ sym g.2)

  back_once : (o : Option Allocation) (r : Resource) (old : Model) → Sound old.pool → (x y : Result (Unit {0}) Refusal) (new next : Model)
      → FreesResource (SeesQuestion basis.tier) SeesHeapFreed SeesMade SeesReleased basis o r old x new
      → FreesResource (SeesQuestion basis.tier) SeesHeapFreed SeesMade SeesReleased basis o r old y next → (x ≡ y) × (new ≡ next)
  back_once (Some a) r old sound x y new next f g =
      let once = placed_back_once a r.resource.0 old.pool sound x y new.pool next.pool f.0 g.0 in
      let pools = once.1 in
      let records = f.1 ∙ sym g.1 in
      (once.0, λ i. record { pool = pools i; committed = records i })
  back_once None r old sound x y new next f g = committed_back_once r.memory_type_index (record_of r) old x y new next f g

  -- ---- any call

  called_once : (call : calls.Call ID3D12Heap (Unit {0})) (met : Environment) (x y : Reply) (old new next : Model) → Sound old.pool
      → OfPool (SeesQuestion basis.tier) SeesHeapFreed SeesMade SeesReleased basis (IsCall call) met x old new → OfPool (SeesQuestion basis.tier) SeesHeapFreed SeesMade SeesReleased basis (IsCall call) met y old next
      → (x ≡ y) × (new ≡ next)
  called_once call met x y old new next sound a b =
      of_pool_once (IsCall call) met x y old new next (λ r s p q. call_once call met.pool r s old.pool new.pool next.pool sound p q) a b

  once : (call : Call) (met : Environment) (x y : Reply) (old new next : Model) → Sound old.pool → Step basis call met x old new → Step basis call met y old next → (x ≡ y) × (new ≡ next)
  once (Allocate d) met x y old new next sound a b =
      of_pool_once (StepAllocates d (is_valid d)) met x y old new next (λ r s p q. allocate_once d (is_valid d) met.pool r s old.pool new.pool next.pool sound p q) a b
  once (Free w) met x y old new next sound a b = called_once (calls.Free w.memory_type_index (piece_of w)) met x y old new next sound a b
  once (Rename w name) met x y old new next sound a b = called_once (calls.Rename w.memory_type_index (piece_of w) name) met x y old new next sound a b
  once (ProposeMove w d) met x y old new next sound a b =
      of_pool_once (Proposes w d (is_again w.size d)) met x y old new next (λ r s p q. propose_once w d (is_again w.size d) met.pool r s old.pool new.pool next.pool sound p q) a b
  once Capacity met x y old new next sound a b = called_once calls.Capacity met x y old new next sound a b
  once Report met x y old new next sound a b = called_once calls.Report met x y old new next sound a b
  once Leaks met x y old new next sound a b = called_once calls.LeakTexts met x y old new next sound a b
  once (SetBudget t budget) met x y old new next sound a b = called_once (calls.SetBudget t budget) met x y old new next sound a b
  once (Budget t) met x y old new next sound a b = called_once (calls.Budget t) met x y old new next sound a b
  once (CreateResource d) met x y old new next sound a b = creates_once d (resource_question basis.interface d.initial_state_or_layout d.castable_formats.now) met x y old new next sound a b
  once (FreeResource r) met x y old new next sound a b =
      let k = back_once r.allocation r old sound a.1 b.1 new next a.3 b.3 in
      (a.2 ∙ ap (λ answer. Pool (replies.reply_of_done answer)) k.0 ∙ sym b.2, k.1)
  once (Statistics t) met x y old new next sound a b = (a.1 ∙ sym b.1, a.2 ∙ sym b.2)

pub step_once : (basis : Basis) (call : Call) (met : Environment) (x y : Reply) (old new next : Model) → BlocksWellFormed 1 old.pool.slots → Step basis call met x old new → Step basis call met y old next
    → (x ≡ y) × (new ≡ next)
step_once basis call met x y old new next sound a b = once basis call met x y old new next (sound_at basis.tier old.pool.slots sound) a b
