-- The model isn't loose: a state, a call and what it meets with decide the reply and the next state.
use Rattle.std.proofs.Common.{◌≡◌, ◌∙◌, ℕ, zero, suc, ◌<◌, length, Ok, Err, Result, refl, sym, ap, subst, Bool, true, false, List, [], ◌∷◌, slice_get, Option, Some, None, arith, ⊎_elim, IsTrue}
use Rattle.std.proofs.lemmas.Bool.{cases_Bool, cases_lt, eqb-true}
use Rattle.std.proofs.lemmas.Option.{slice_get_past}
use Rattle.std.specs.Prelude.{◌&&◌, ◌==◌}
use Rattle.gpu_values.specs.Refusal.{Refusal}
use Rattle.gpu_core.specs.TypeRelease.{has_others}
use Rattle.gpu_core.specs.declared.piece.Piece.{Piece}
use Rattle.gpu_core.proofs.OneOutcome.{released_once}
use Rattle.gpu_core.specs.Slots.{AreSound}
use Rattle.std.proofs.lemmas.Bool.{false≢true}
use Rattle.gpu_device.specs.declared.vulkan.types.DeviceMemory.{DeviceMemory}
use Rattle.gpu_core.specs.Budgets.{Budgets}
use Rattle.gpu_vulkan.specs.Allocate.{Attempts, IsTooLarge, IsWithinHeap, is_valid}
use Rattle.gpu_vulkan.specs.Attempt.{AttemptEnvironment, Asked, Answer, IsMet, request_in, unseen, AnyQuestion, AnyBlockBack}
use Rattle.gpu_vulkan.specs.Types.{is_mapped, kinds_of_device}
use Rattle.gpu_core.proofs.Options.{none_some, some_same}
use Rattle.gpu_pool.specs.Allocate.{Environment, NothingMet, NoHostMemory, Answered, PoolServes}
use Rattle.gpu_pool.specs.State as states
use Rattle.gpu_pool.specs.State.{kind_at, IsSoundAt}
use Rattle.gpu_pool.specs.Step.{AskDecides, GiveBackDecides, SetsBudgetOf}
use Rattle.gpu_pool.specs.Free.{PoolFrees}
use Rattle.gpu_pool.specs.Move.{ProposesBy}
use Rattle.gpu_pool.specs.Rename.{RenamesBy}
use Rattle.gpu_pool.proofs.OneStep.{serves_once, frees_once, renames_once, proposes_once, sets_once, makes_once}
use Rattle.gpu_vulkan.specs.Attempt.{AttemptAllocates}
use Rattle.gpu_vulkan.specs.BlockAnswer.{BlockAnswer, Declined, Granted, Mapped, NotMapped}
use Rattle.gpu_vulkan.specs.Source.{IsResult}
use Rattle.gpu_vulkan.specs.Blocks.{Slots}
use Rattle.gpu_vulkan.specs.Describe.{request_of}
use Rattle.gpu_core.specs.Blocks.{slots_at, BlocksWellFormed}
use Rattle.gpu_vulkan.specs.ByteView.{AllocationId, is_same_id, ByteView, IsOutOf, SplitsRest, JoinsRest, AddsBlock, Writes}
use Rattle.gpu_vulkan.specs.Live.{is_same_memory}
use Rattle.gpu_vulkan.specs.Live.{piece_of}
use Rattle.gpu_vulkan.specs.Setup.{Setup}
use Rattle.gpu_vulkan.specs.Reply.{Reply, Bytes, done_with, placed_with, report_with, leaks_with}
use Rattle.gpu_vulkan.specs.Step.{ModelState, Call, Allocate, Free, Write, Rename, ProposeMove, Report, Leaks, Read, Capacity, SetBudget, Budget}
use Rattle.gpu_vulkan.specs.Step.{CallEnvironment, BytesAfter, AttemptStep, reply_of, next_by, Follows, ServeStep, RefuseStep, FoundStep, AllocateStep, pool_in, MayDrop, FreedStep, FreeStep, host_met, KeepsTheRest, went_recorded, RenameStep, Place, is_again, Proposes, BytesPlaced, MoveStep, IsRead, Step, id_in, id_of}
use Rattle.gpu_vulkan.specs.declared.allocation.Allocation.{Allocation}
use Rattle.gpu_vulkan.specs.declared.describe.AllocationCreateDesc.{AllocationCreateDesc}
use Rattle.gpu_vulkan.proofs.Attempts.{refused_same}
use Rattle.gpu_vulkan.proofs.Following.{next_below, best_below}
use Rattle.gpu_vulkan.proofs.Leaving.{sound_told}
use Rattle.gpu_vulkan.proofs.Steps.{none_next}

-- ---- an attempt

block_once : (a : BlockAnswer) (x y : Result DeviceMemory Refusal) → IsResult x a → IsResult y a → x ≡ y
block_once a (Ok m) (Ok k) is also = let same : m.0 ≡ k.0 = some_same m.0 k.0 (sym is ∙ also) in λ i. Ok (record { 0 = same i })
block_once a (Err e) (Err r) is also = ap Err (some_same e r (sym is ∙ also))
block_once (Declined code) (Ok m) (Err e) is also = absurd (none_some m.0 is)
block_once (NotMapped number code) (Ok m) (Err e) is also = absurd (none_some m.0 is)
block_once (Granted n) (Ok m) (Err e) is also = absurd (none_some e also)
block_once (Mapped n bytes) (Ok m) (Err e) is also = absurd (none_some e also)
block_once (Declined code) (Err e) (Ok m) is also = absurd (none_some m.0 also)
block_once (NotMapped number code) (Err e) (Ok m) is also = absurd (none_some m.0 also)
block_once (Granted n) (Err e) (Ok m) is also = absurd (none_some e is)
block_once (Mapped n bytes) (Err e) (Ok m) is also = absurd (none_some e is)

starved_or_not : {A : Type 0} (o : AttemptEnvironment) → o.host ≡ true → o.host ≡ false → A
starved_or_not o is also = absurd (false≢true (sym also ∙ is))

asked_or_not : {A : Type 0} (o : AttemptEnvironment) (a : Asked) → o.asked ≡ None → o.asked ≡ Some a → A
asked_or_not o a is also = absurd (none_some a (sym is ∙ also))

-- an attempt met with one thing
met_once : (o : AttemptEnvironment) (x y : Environment DeviceMemory) → IsMet o x → IsMet o y → x ≡ y
met_once o NothingMet NothingMet is also = refl
met_once o NothingMet NoHostMemory is also = starved_or_not o is.0 also.0
met_once o NothingMet (Answered size r) is also = asked_or_not o also.1.0 is.1 also.1.1
met_once o NoHostMemory NothingMet is also = starved_or_not o also.0 is.0
met_once o NoHostMemory NoHostMemory is also = refl
met_once o NoHostMemory (Answered size r) is also = starved_or_not o also.0 is.0
met_once o (Answered size r) NothingMet is also = asked_or_not o is.1.0 also.1 is.1.1
met_once o (Answered size r) NoHostMemory is also = starved_or_not o is.0 also.0
met_once o (Answered size r) (Answered other s) is also =
    let a = is.1 in
    let b = also.1 in
    let same : a.0 ≡ b.0 = some_same a.0 b.0 (sym a.1 ∙ b.1) in
    let sizes : size ≡ other = sym a.2 ∙ ap (λ (k : Asked). k.info.size) same ∙ b.2 in
    let results = block_once b.0.answer r s (subst (λ (k : Asked). IsResult r k.answer) same a.3) b.3 in
    λ i. Answered (sizes i) (results i)

unseen_decides : AskDecides AnyQuestion
unseen_decides old a b t size extra answer x y = refl

module _ (setup : Setup) (budgets : Budgets) (old : Slots) (t : ℕ) (d : AllocationCreateDesc) (below : t < length setup.properties.types) (sound : BlocksWellFormed setup.properties.granularity old) where
  pub allocates_once : (o : AttemptEnvironment) (x y : Answer) (new next : Slots) → AttemptAllocates setup budgets old t d o x new → AttemptAllocates setup budgets old t d o y next → (x ≡ y) × (new ≡ next)
  allocates_once o x y new next a b =
      let kinds = kinds_of_device setup.properties in
      let q = request_in t d in
      let start = unseen setup budgets old in
      let other : PoolServes kinds AnyQuestion q start a.met y (unseen setup budgets next) =
      subst (λ (m : Environment DeviceMemory). PoolServes kinds AnyQuestion q start m y (unseen setup budgets next)) (met_once o b.met a.met b.is_met a.is_met) b.serves in
      let once = serves_once kinds AnyQuestion unseen_decides q start (sound_told setup.properties t below old sound) a.met x y (unseen setup budgets new) (unseen setup budgets next) a.serves other in
      (once.0, ap (λ (s : states.State (Unit {0}) DeviceMemory). s.slots) once.1)

  attempts_once : (o : AttemptEnvironment) (x y : Answer) (new next : Slots) → Attempts setup budgets old t d o x new → Attempts setup budgets old t d o y next → (x ≡ y) × (new ≡ next)
  attempts_once o x y new next a b =
      ⊎_elim
      (λ (la : IsTooLarge setup old t d o x new).
      ⊎_elim
      (λ (lb : IsTooLarge setup old t d o y next). (la.answer_is ∙ sym lb.answer_is, la.same ∙ sym lb.same))
      (λ (wb : IsWithinHeap setup budgets old t d o y next). let above = la.above in let below = wb.below in absurd (omega (arith, above, below)))
      b)
      (λ (wa : IsWithinHeap setup budgets old t d o x new).
      ⊎_elim
      (λ (lb : IsTooLarge setup old t d o y next). let above = lb.above in let below = wa.below in absurd (omega (arith, above, below)))
      (λ (wb : IsWithinHeap setup budgets old t d o y next). allocates_once o x y new next wa.allocates wb.allocates)
      b)
      a

-- ---- bytes

ext_get : (xs ys : List ℕ) → ((i : ℕ) → slice_get xs i ≡ slice_get ys i) → xs ≡ ys
ext_get [] [] h = refl
ext_get [] (y ∷ ys) h = let e = h 0 in cc
ext_get (x ∷ xs) [] h = let e = h 0 in cc
ext_get (x ∷ xs) (y ∷ ys) h = let e = h 0 in let tails : xs ≡ ys = ext_get xs ys (λ i. h (suc i)) in cc

out_once : (mapped : Bool) (rest : ℕ → Option ℕ) (start size : ℕ) (a b : Option (List ℕ)) → IsOutOf mapped rest start size a → IsOutOf mapped rest start size b → a ≡ b
out_once false rest start size a b x y = x ∙ sym y
out_once true rest start size None b x y = absurd x
out_once true rest start size (Some xs) None x y = absurd y
out_once true rest start size (Some xs) (Some ys) x y =
    ap Some (ext_get xs ys (λ i.
    ⊎_elim
    (λ lt. x.1 i lt ∙ sym (y.1 i lt))
    (λ ge. slice_get_past xs i (let l = x.0 in omega (arith, l, ge)) ∙ sym (slice_get_past ys i (let l = y.0 in omega (arith, l, ge))))
    (cases_lt i size)))

pub byte_views_alike : (a b : ByteView) → ((q : AllocationId) → a.allocation_bytes q ≡ b.allocation_bytes q) → ((t i at : ℕ) → a.unallocated_bytes t i at ≡ b.unallocated_bytes t i at) → a ≡ b
byte_views_alike a b lists rest = λ l. record { allocation_bytes = λ q. lists q l; unallocated_bytes = λ t i at. rest t i at l }

both_true : (a b : Bool) → (a && b) ≡ true → (a ≡ true) × (b ≡ true)
both_true true true e = (refl, refl)
both_true true false e = cc
both_true false b e = cc

place_same : (p q : AllocationId) → is_same_id p q ≡ true → p ≡ q
place_same p q e =
    let a = both_true (p.memory_type == q.memory_type) ((p.slot == q.slot) && (p.chunk_id == q.chunk_id)) e in
    let b = both_true (p.slot == q.slot) (p.chunk_id == q.chunk_id) a.1 in
    let types = eqb-true p.memory_type q.memory_type a.0 in
    let slots = eqb-true p.slot q.slot b.0 in
    let numbers = eqb-true p.chunk_id q.chunk_id b.1 in
    λ i. record { memory_type = types i; slot = slots i; chunk_id = numbers i }

lists_alike : (p : AllocationId) (old new next : ByteView) → new.allocation_bytes p ≡ next.allocation_bytes p →
    ((q : AllocationId) → is_same_id p q ≡ false → new.allocation_bytes q ≡ old.allocation_bytes q) → ((q : AllocationId) → is_same_id p q ≡ false → next.allocation_bytes q ≡ old.allocation_bytes q)
    → (q : AllocationId) → new.allocation_bytes q ≡ next.allocation_bytes q
lists_alike p old new next here a b q =
    ⊎_elim
    (λ is. subst (λ r. new.allocation_bytes r ≡ next.allocation_bytes r) (place_same p q is) here)
    (λ isnt. a q isnt ∙ sym (b q isnt))
    (cases_Bool (is_same_id p q))

takes_out_once : (mapped : Bool) (p : AllocationId) (start size : ℕ) (old new next : ByteView) → SplitsRest mapped p start size old new → SplitsRest mapped p start size old next → new ≡ next
takes_out_once mapped p start size old new next a b =
    byte_views_alike new next
    (lists_alike p old new next (out_once mapped (old.unallocated_bytes p.memory_type p.slot) start size (new.allocation_bytes p) (next.allocation_bytes p) a.list b.list) a.others b.others)
    (λ t i at. a.unallocated_bytes t i at ∙ sym (b.unallocated_bytes t i at))

puts_back_once : (p : AllocationId) (start size : ℕ) (old new next : ByteView) → JoinsRest p start size old new → JoinsRest p start size old next → new ≡ next
puts_back_once p start size old new next a b =
    byte_views_alike new next (lists_alike p old new next (a.gone ∙ sym b.gone) a.others b.others) (λ t i at. a.unallocated_bytes t i at ∙ sym (b.unallocated_bytes t i at))

adds_once : (t i : ℕ) (bytes : Option (List ℕ)) (old new next : ByteView) → AddsBlock t i bytes old new → AddsBlock t i bytes old next → new ≡ next
adds_once t i bytes old new next a b = byte_views_alike new next (λ q. a.allocation_bytes q ∙ sym (b.allocation_bytes q)) (λ u j at. a.unallocated_bytes u j at ∙ sym (b.unallocated_bytes u j at))

drops_once : (t i : ℕ) (went : Option DeviceMemory) (old new next : ByteView) → MayDrop t i went old new → MayDrop t i went old next → new ≡ next
drops_once t i None old new next a b = a ∙ sym b
drops_once t i (Some m) old new next a b = byte_views_alike new next (λ q. a.allocation_bytes q ∙ sym (b.allocation_bytes q)) (λ u j at. a.unallocated_bytes u j at ∙ sym (b.unallocated_bytes u j at))

bytes_once : (mapped : Bool) (t : ℕ) (o : Option Asked) (answer : Answer) (old new next : ByteView) → BytesAfter mapped t o answer old new → BytesAfter mapped t o answer old next → new ≡ next
bytes_once mapped t None (Err r) old new next a b = a ∙ sym b
bytes_once mapped t (Some asked) (Err r) old new next a b = a ∙ sym b
bytes_once mapped t None (Ok p) old new next a b = takes_out_once mapped (id_in t p) p.offset p.size old new next a b
bytes_once mapped t (Some asked) (Ok p) old new next a b =
    let mids = adds_once t p.slot _ old a.0 b.0 a.1 b.1 in
    takes_out_once mapped (id_in t p) p.offset p.size a.0 new next a.2 (subst (λ m. SplitsRest mapped (id_in t p) p.offset p.size m next) (sym mids) b.2)

states_alike : (a b : ModelState) → a.slots ≡ b.slots → a.budgets ≡ b.budgets → a.byte_view ≡ b.byte_view → a.history ≡ b.history → a ≡ b
states_alike a b slots budgets byte_view history = λ i. record { slots = slots i; budgets = budgets i; byte_view = byte_view i; history = history i }

attempt_once : (setup : Setup) (t : ℕ) (d : AllocationCreateDesc) (o : AttemptEnvironment) (x y : Answer) (old new next : ModelState) → t < length setup.properties.types
    → BlocksWellFormed setup.properties.granularity old.slots → AttemptStep setup t d o x old new → AttemptStep setup t d o y old next → (x ≡ y) × (new ≡ next)
attempt_once setup t d o x y old new next below sound a b =
    let once = attempts_once setup old.budgets old.slots t d below sound o x y new.slots next.slots a.slots b.slots in
    let other : BytesAfter (is_mapped setup.properties t) t o.asked x old.byte_view next.byte_view = subst (λ w. BytesAfter (is_mapped setup.properties t) t o.asked w old.byte_view next.byte_view)
    (sym once.0) b.bytes in (
      once.0,
      states_alike new next once.1 (a.budgets ∙ sym b.budgets) (bytes_once (is_mapped setup.properties t) t o.asked x old.byte_view new.byte_view next.byte_view a.bytes other)
          (a.recorded ∙ sym b.recorded),
    )

-- ---- an allocation

follows_once : (setup : Setup) (d : AllocationCreateDesc) (u : Option ℕ) (o : AttemptEnvironment) (t : ℕ) (first : Answer) (mid : ModelState) (x y : Reply) (new next : ModelState)
    → ((v : ℕ) → u ≡ Some v → (v < length setup.properties.types) × BlocksWellFormed setup.properties.granularity mid.slots) → Follows setup d u o t first mid x new → Follows setup d u o t first mid y next → (x ≡ y) × (new ≡ next)
follows_once setup d None o t first mid x y new next sound a b = (a.1 ∙ sym b.1, a.2 ∙ sym b.2)
follows_once setup d (Some u) o t first mid x y new next sound a b =
    let once = attempt_once setup u d o a.0 b.0 mid new next (sound u refl).0 (sound u refl).1 a.1 b.1 in
    (a.2 ∙ ap (reply_of u) once.0 ∙ sym b.2, once.1)

pub mid_sound : (setup : Setup) (t u : ℕ) (d : AllocationCreateDesc) (o : AttemptEnvironment) (answer : Answer) (old mid : ModelState) → BlocksWellFormed setup.properties.granularity old.slots →
    AttemptStep setup t d o answer old mid
    → next_by setup d answer ≡ Some u → BlocksWellFormed setup.properties.granularity mid.slots
mid_sound setup t u d o (Ok p) old mid sound a is = absurd (none_next setup d u p is)
mid_sound setup t u d o (Err r) old mid sound a is = subst (BlocksWellFormed setup.properties.granularity) (sym (refused_same setup old.budgets old.slots t d o r mid.slots a.slots)) sound

serve_once : (setup : Setup) (t : ℕ) (d : AllocationCreateDesc) (o : CallEnvironment) (x y : Reply) (old new next : ModelState) → t < length setup.properties.types
    → BlocksWellFormed setup.properties.granularity old.slots → ServeStep setup t d o x old new → ServeStep setup t d o y old next → (x ≡ y) × (new ≡ next)
serve_once setup t d o x y old new next below sound a b =
    let first = attempt_once setup t d o.first a.answer b.answer old a.mid b.mid below sound a.attempt b.attempt in
    let answers = first.0 in
    let mids = first.1 in
    let other : Follows setup d (next_by setup d a.answer) o.second t a.answer a.mid y next =
    subst (λ m. Follows setup d (next_by setup d a.answer) o.second t a.answer m y next) (sym mids)
    (subst (λ w. Follows setup d (next_by setup d w) o.second t w b.mid y next) (sym answers) b.follows) in
    follows_once setup d (next_by setup d a.answer) o.second t a.answer a.mid x y new next (λ v is. (next_below setup d a.answer v is, mid_sound setup t v d o.first a.answer old a.mid sound a.attempt is)) a.follows other

refuse_once : (r : Refusal) (o : CallEnvironment) (x y : Reply) (old new next : ModelState) → RefuseStep r o x old new → RefuseStep r o y old next → (x ≡ y) × (new ≡ next)
refuse_once r o x y old new next a b = (a.reply_is ∙ sym b.reply_is, a.same ∙ sym b.same)

found_once : (setup : Setup) (d : AllocationCreateDesc) (t : Option ℕ) (o : CallEnvironment) (x y : Reply) (old new next : ModelState) → ((v : ℕ) → t ≡ Some v → v < length setup.properties.types)
    → BlocksWellFormed setup.properties.granularity old.slots → FoundStep setup d t o x old new → FoundStep setup d t o y old next → (x ≡ y) × (new ≡ next)
found_once setup d None o x y old new next below sound a b = refuse_once _ o x y old new next a b
found_once setup d (Some t) o x y old new next below sound a b = serve_once setup t d o x y old new next (below t refl) sound a b

allocate_once : (setup : Setup) (d : AllocationCreateDesc) (valid : Bool) (o : CallEnvironment) (x y : Reply) (old new next : ModelState) → BlocksWellFormed setup.properties.granularity old.slots
    → AllocateStep setup d valid o x old new → AllocateStep setup d valid o y old next → (x ≡ y) × (new ≡ next)
allocate_once setup d false o x y old new next sound a b = refuse_once _ o x y old new next a b
allocate_once setup d true o x y old new next sound a b = found_once setup d _ o x y old new next (λ v is. best_below setup d v is) sound a b

-- ---- the same blocks and budgets

abbrev pub SameBlocks : (a b : ModelState) → Type 0
SameBlocks a b = (a.slots ≡ b.slots) × (a.budgets ≡ b.budgets)

-- memory types of which the t-th has this page size
paged : (n t : ℕ) → (kinds : List (Bool × ℕ)) × (kind_at kinds t ≡ (false, n))
paged n zero = ((false, n) ∷ [], refl)
paged n (suc t) = let rest = paged n t in ((false, 1) ∷ rest.0, rest.1)

back_decides : GiveBackDecides AnyBlockBack
back_decides old a b memory x y = refl

-- from two states with the same blocks and budgets a pool does the same
module _ (setup : Setup) (old new twin next : ModelState) (sound : BlocksWellFormed setup.properties.granularity old.slots) (same : SameBlocks old twin) where
  abbrev Pool : Type 0
  Pool = states.State (Unit {0}) DeviceMemory

  abbrev pool : ModelState → Pool
  pool s = pool_in setup s

  start : pool twin ≡ pool old
  start = let slots = sym same.0 in let budgets = sym same.1 in λ i. unseen setup (budgets i) (slots i)

  ends : pool new ≡ pool next → SameBlocks new next
  ends e = (ap (λ (s : Pool). s.slots) e, ap (λ (s : Pool). s.budgets) e)

  pub unchanged : new ≡ old → next ≡ twin → SameBlocks new next
  unchanged a b = (
    ap (λ (s : ModelState). s.slots) a ∙ same.0 ∙ sym (ap (λ (s : ModelState). s.slots) b),
    ap (λ (s : ModelState). s.budgets) a ∙ same.1 ∙ sym (ap (λ (s : ModelState). s.budgets) b),
  )

  abbrev kinds_for : (t : ℕ) → List (Bool × ℕ)
  kinds_for t = (paged setup.properties.granularity t).0

  sound_for : (t : ℕ) → IsSoundAt (kinds_for t) old.slots t
  sound_for t = subst (λ (k : Bool × ℕ). AreSound k.1 (slots_at old.slots t)) (sym (paged setup.properties.granularity t).1) (sound t)

  frees_in : (t : ℕ) (p : Piece DeviceMemory) (x : Result (Unit {0}) Refusal) (s e : ModelState) → FreeStep setup t (Some p) x s e → PoolFrees AnyBlockBack is_same_memory t p (pool s) x (pool e)
  frees_in t p (Ok u) s e f = (f.live, f.frees)
  frees_in t p (Err r) s e f = (f.0, f.1, ap pool f.2)

  pub free_alike : (t : ℕ) (p : Option (Piece DeviceMemory)) (x y : Result (Unit {0}) Refusal) → FreeStep setup t p x old new → FreeStep setup t p y twin next → (x ≡ y) × SameBlocks new next
  free_alike t None (Ok u) (Ok v) a b = (refl, unchanged a b)
  free_alike t None (Ok u) (Err r) a b = absurd b
  free_alike t None (Err r) y a b = absurd a
  free_alike t (Some p) x y a b =
      let once = frees_once (kinds_for t) AnyBlockBack back_decides is_same_memory t p (pool old) (sound_for t) x y (pool new) (pool next) (frees_in t p x old new a)
      (subst (λ (s : Pool). PoolFrees AnyBlockBack is_same_memory t p s y (pool next)) start (frees_in t p y twin next b)) in
      (once.0, ends once.1)

  pub rename_alike : (t : ℕ) (p : Option (Piece DeviceMemory)) (name : List ℕ) (host : Bool) (x y : Result (Unit {0}) Refusal) → RenameStep setup t p name host x old new
      → RenameStep setup t p name host y twin next → (x ≡ y) × SameBlocks new next
  rename_alike t None name host x y a b = (makes_once tt (host_met host) x y a.0 b.0, unchanged a.1 b.1)
  rename_alike t (Some p) name host x y a b =
      let once = renames_once (kinds_for t) is_same_memory t p name (pool old) (sound_for t) (host_met host) x y (pool new) (pool next) a.0
      (subst (λ (s : Pool). RenamesBy is_same_memory t p name s (host_met host) y (pool next)) start b.0) in
      (once.0, ends once.1)

  pub place_alike : (t : ℕ) (p : Option (Piece DeviceMemory)) (d : AllocationCreateDesc) (host : Bool) (x y : Place) → Proposes t p d host (pool old) x (pool new) → Proposes t p d host (pool twin) y (pool next)
      → (x ≡ y) × SameBlocks new next
  place_alike t None d host x y a b = (a.1 ∙ sym b.1, ends (a.2 ∙ sym start ∙ sym b.2))
  place_alike t (Some p) d host x y a b =
      let once = proposes_once (kinds_for t) is_same_memory t p (request_of d) (pool old) (sound_for t) (host_met host) x y (pool new) (pool next) a
      (subst (λ (s : Pool). ProposesBy is_same_memory t p (request_of d) s (host_met host) y (pool next)) start b) in
      (once.0, ends once.1)

  pub set_alike : (t : ℕ) (budget : Option ℕ) (x y : Result (Unit {0}) Refusal) → SetsBudgetOf t budget (pool old) x (pool new) → SetsBudgetOf t budget (pool twin) y (pool next)
      → (x ≡ y) × SameBlocks new next
  set_alike t budget x y a b =
      let once = sets_once t budget (pool old) x y (pool new) (pool next) a (subst (λ (s : Pool). SetsBudgetOf t budget s y (pool next)) start b) in
      (once.0, ends once.1)

-- ---- bytes of a call

abbrev bytes_in : ModelState → ByteView
bytes_in s = s.byte_view

-- two ends have the same bytes and the same history
record SameRest (a b : ModelState) : Type 0 where
  pub byte_view : a.byte_view ≡ b.byte_view
  pub history : a.history ≡ b.history

both : (a b : ModelState) → a ≡ b → SameRest a b
both a b same = record { byte_view = ap bytes_in same; history = ap (λ (s : ModelState). s.history) same }

kept_both : (old a b : ModelState) → KeepsTheRest old a → KeepsTheRest old b → SameRest a b
kept_both old a b x y = record { byte_view = x.byte_view ∙ sym y.byte_view; history = x.history ∙ sym y.history }

freed_rest : (setup : Setup) (t : ℕ) (p : Piece DeviceMemory) (old new next : ModelState) → BlocksWellFormed setup.properties.granularity old.slots → FreedStep setup t p old new
    → FreedStep setup t p old next → SameRest new next
freed_rest setup t p old new next sound a b =
    let r = a.frees.slots in
    let s = b.frees.slots in
    let once = released_once setup.properties.granularity (IsTrue (has_others (slots_at old.slots t))) (slots_at old.slots t) p a.frees.went b.frees.went r.left s.left (sound t) r.releases s.releases in
    let mids = puts_back_once (id_in t p) p.offset p.size old.byte_view a.mid b.mid a.back b.back in
    let went = once.0 in
    let other : MayDrop t p.slot a.frees.went a.mid next.byte_view = subst (λ m. MayDrop t p.slot a.frees.went m next.byte_view) (sym mids)
    (subst (λ w. MayDrop t p.slot w b.mid next.byte_view) (sym went) b.drops) in
    record {
      byte_view = drops_once t p.slot a.frees.went a.mid new.byte_view next.byte_view a.drops other;
      history = a.recorded ∙ ap (λ w. went_recorded (is_mapped setup.properties t) w old.history) went ∙ sym b.recorded;
    }

free_rest : (setup : Setup) (t : ℕ) (p : Option (Piece DeviceMemory)) (x : Result (Unit {0}) Refusal) (old new next : ModelState) → BlocksWellFormed setup.properties.granularity old.slots
    → FreeStep setup t p x old new → FreeStep setup t p x old next → SameRest new next
free_rest setup t None (Ok u) old new next sound a b = both new next (a ∙ sym b)
free_rest setup t None (Err r) old new next sound a b = absurd a
free_rest setup t (Some p) (Ok u) old new next sound a b = freed_rest setup t p old new next sound a b
free_rest setup t (Some p) (Err r) old new next sound a b = both new next (a.2 ∙ sym b.2)

pub rename_rest : (setup : Setup) (t : ℕ) (p : Option (Piece DeviceMemory)) (name : List ℕ) (host : Bool) (x : Result (Unit {0}) Refusal) (old new : ModelState)
    → RenameStep setup t p name host x old new → KeepsTheRest old new
rename_rest setup t None name host x old new a = record { byte_view = ap bytes_in a.1; history = ap (λ (s : ModelState). s.history) a.1 }
rename_rest setup t (Some p) name host x old new a = a.1

writes_once : (p : AllocationId) (ws : List ℕ) (old new next : ByteView) → Writes p ws old new → Writes p ws old next → new ≡ next
writes_once p ws old new next a b = byte_views_alike new next (lists_alike p old new next (a.list ∙ sym b.list) a.others b.others)
    (λ t i at. a.unallocated_bytes t i at ∙ sym (b.unallocated_bytes t i at))

read_once : (setup : Setup) (a : Allocation) (s : ModelState) (x y : Option (List ℕ)) → IsRead setup a s x → IsRead setup a s y → x ≡ y
read_once setup a s None None h k = refl
read_once setup a s None (Some ys) h k = absurd (h k.0)
read_once setup a s (Some xs) None h k = absurd (k h.0)
read_once setup a s (Some xs) (Some ys) h k = sym h.1 ∙ k.1

placed_once : (mapped : Bool) (t : ℕ) (answer : Place) (old new next : ByteView) → BytesPlaced mapped t answer old new → BytesPlaced mapped t answer old next → new ≡ next
placed_once mapped t (Ok (Some p)) old new next a b = takes_out_once mapped (id_in t p) p.offset p.size old new next a b
placed_once mapped t (Ok None) old new next a b = a ∙ sym b
placed_once mapped t (Err r) old new next a b = a ∙ sym b

move_once : (setup : Setup) (w : Allocation) (d : AllocationCreateDesc) (again : Bool) (o : CallEnvironment) (x y : Reply) (old new next : ModelState) → BlocksWellFormed setup.properties.granularity old.slots
    → MoveStep setup w d again o x old new → MoveStep setup w d again o y old next → (x ≡ y) × (new ≡ next)
move_once setup w d false o x y old new next sound a b = refuse_once _ o x y old new next a b
move_once setup w d true o x y old new next sound a b =
    let t = w.memory_type_index in
    let mapped = is_mapped setup.properties t in
    let once = place_alike setup old new old next sound (refl, refl) t (piece_of w) d o.first.host a.1 b.1 a.3.proposes b.3.proposes in
    let other : BytesPlaced mapped t a.1 old.byte_view next.byte_view = subst (λ z. BytesPlaced mapped t z old.byte_view next.byte_view) (sym once.0) b.3.bytes in (
      a.2 ∙ ap (placed_with t) once.0 ∙ sym b.2,
      states_alike new next once.1.0 once.1.1 (placed_once mapped t a.1 old.byte_view new.byte_view next.byte_view a.3.bytes other) (a.3.recorded ∙ sym b.3.recorded),
    )

-- ---- any call

pub step_once : (setup : Setup) (call : Call) (o : CallEnvironment) (x y : Reply) (old new next : ModelState) → BlocksWellFormed setup.properties.granularity old.slots
    → Step setup call o x old new → Step setup call o y old next → (x ≡ y) × (new ≡ next)
step_once setup (Allocate d) o x y old new next sound a b = allocate_once setup d (is_valid d) o x y old new next sound a b
step_once setup (Free f) o x y old new next sound a b =
    let t = f.memory_type_index in
    let p = piece_of f in
    let once = free_alike setup old new old next sound (refl, refl) t p a.1 b.1 a.3 b.3 in
    let rest = free_rest setup t p a.1 old new next sound a.3 (subst (λ z. FreeStep setup t p z old next) (sym once.0) b.3) in
    (a.2 ∙ ap done_with once.0 ∙ sym b.2, states_alike new next once.1.0 once.1.1 rest.byte_view rest.history)
step_once setup (Rename f name) o x y old new next sound a b =
    let t = f.memory_type_index in
    let p = piece_of f in
    let host = o.first.host in
    let once = rename_alike setup old new old next sound (refl, refl) t p name host a.1 b.1 a.3 b.3 in
    let rest = kept_both old new next (rename_rest setup t p name host a.1 old new a.3) (rename_rest setup t p name host b.1 old next b.3) in
    (a.2 ∙ ap done_with once.0 ∙ sym b.2, states_alike new next once.1.0 once.1.1 rest.byte_view rest.history)
step_once setup (ProposeMove w d) o x y old new next sound a b = move_once setup w d (is_again w.size d) o x y old new next sound a b
step_once setup (Write w ws) o x y old new next sound a b =
    let p = a.2 in
    let q = b.2 in (
      a.1 ∙ sym b.1,
      states_alike new next (p.slots ∙ sym q.slots) (p.budgets ∙ sym q.budgets) (writes_once (id_of w) ws old.byte_view new.byte_view next.byte_view p.writes q.writes)
          (p.history ∙ sym q.history),
    )
step_once setup (Read r) o x y old new next sound a b = (a.2 ∙ ap Bytes (read_once setup r old a.1 b.1 a.3 b.3) ∙ sym b.2, a.4 ∙ sym b.4)
step_once setup Capacity o x y old new next sound a b = (a.1 ∙ sym b.1, a.2 ∙ sym b.2)
step_once setup Report o x y old new next sound a b = (a.2 ∙ ap report_with (makes_once _ (host_met o.first.host) a.1 b.1 a.3 b.3) ∙ sym b.2, a.4 ∙ sym b.4)
step_once setup Leaks o x y old new next sound a b = (a.2 ∙ ap leaks_with (makes_once _ (host_met o.first.host) a.1 b.1 a.3 b.3) ∙ sym b.2, a.4 ∙ sym b.4)
step_once setup (SetBudget t budget) o x y old new next sound a b =
    let once = set_alike setup old new old next sound (refl, refl) t budget a.1 b.1 a.3 b.3 in
    (a.2 ∙ ap done_with once.0 ∙ sym b.2, states_alike new next once.1.0 once.1.1 (a.4.byte_view ∙ sym b.4.byte_view) (a.4.history ∙ sym b.4.history))
step_once setup (Budget t) o x y old new next sound a b = (a.1 ∙ sym b.1, a.2 ∙ sym b.2)
