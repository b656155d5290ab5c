-- The model isn't loose: a state, a call and what it met with decide the reply and the next state.
use Rattle.std.proofs.Common.{◌≡◌, ◌∙◌, refl, sym, ap, subst, ℕ, Bool, List, slice_set, Option, Some, None, Ok, Err, Result, IsTrue, arith}
use Rattle.gpu_values.specs.Refusal.{Refusal}
use Rattle.gpu_block_pieces.specs.Changes as changes
use Rattle.gpu_core.specs.TypeRelease.{has_others}
use Rattle.gpu_block_pieces.specs.Request.{Request}
use Rattle.gpu_core.specs.TypeState.{TypeState, Slot, slot_at, capacity_of}
use Rattle.gpu_core.specs.TypeTake.{Installs}
use Rattle.gpu_core.specs.declared.piece.Piece.{Piece}
use Rattle.gpu_core.proofs.Moving.{one_proposal, proposal_or_none}
use Rattle.gpu_core.proofs.OneOutcome.{prepared_once, needed_once, serves_or_needs, installed_once, released_once, refusal_once, renamed_once, name_refusal_once}
use Rattle.gpu_core.specs.Blocks.{slots_at, total_capacity}
use Rattle.gpu_core.specs.Budgets.{SetsBudget, budget_at, block_refusal}
use Rattle.gpu_core.proofs.Options.{some_same}
use Rattle.gpu_pool.specs.Allocate.{RequestAt, Environment, NothingMet, NoHostMemory, Answered, type_asked, with_slots, NeedsNewBlock, PoolServes}
use Rattle.gpu_pool.specs.Free.{GivesBackAny, PoolFrees}
use Rattle.gpu_pool.specs.Move.{ProposesBy}
use Rattle.gpu_pool.specs.Rename.{RenamesBy}
use Rattle.gpu_pool.specs.Reply.{Reply, allocated_as, proposed_as, reply_of_done, reported_as, leaked_as}
use Rattle.gpu_pool.specs.State.{State, kind_at, IsSoundAt}
use Rattle.gpu_pool.specs.Step.{Call, Allocate, Free, Rename, ProposeMove, SetBudget, Budget, Capacity, Handles, Report, LeakTexts, refusal_in, Makes, SetsBudgetOf, Step, AskDecides, GiveBackDecides}

alike : {S H : Type 0} (a b : State S H) → a.source ≡ b.source → a.sizes ≡ b.sizes → a.slots ≡ b.slots → a.budgets ≡ b.budgets → a ≡ b
alike a b source sizes slots budgets = λ i. record { source = source i; sizes = sizes i; slots = slots i; budgets = budgets i }

-- ---- an allocation

module _ {S H X : Type 0} (kinds : List (Bool × ℕ)) (asks : S → ℕ → ℕ → X → Result H Refusal → S → Type 0) (decides : AskDecides asks) (q : RequestAt X) (old : State S H) where
  abbrev here : TypeState H
  here = type_asked kinds asks q old

  needs_once : (size other : ℕ) (x y : Option Refusal) (a : NeedsNewBlock kinds asks q old size x) (b : NeedsNewBlock kinds asks q old other y)
      → (size ≡ other) × (a.is_dedicated ≡ b.is_dedicated) × (a.pending ≡ b.pending)
  needs_once size other x y a b = needed_once here old.sizes q.requested_dedicated q.request size other a.is_dedicated b.is_dedicated a.pending b.pending a.needs b.needs

  abbrev limits : (size : ℕ) → Option Refusal
  limits size = block_refusal (total_capacity old.slots) (budget_at old.budgets q.memory_type) (capacity_of (slots_at old.slots q.memory_type)) size

  -- one answer and one next state
  pub serves_once : IsSoundAt kinds old.slots q.memory_type → (met : Environment H) (x y : Result (Piece H) Refusal) (new next : State S H) → PoolServes kinds asks q old met x new
      → PoolServes kinds asks q old met y next → (x ≡ y) × (new ≡ next)
  serves_once sound NothingMet (Ok p) (Ok r) new next a b =
      let once = prepared_once (kind_at kinds q.memory_type).1 (slots_at old.slots q.memory_type) q.request p r a.left b.left sound a.takes b.takes in
      (ap Ok once.0, a.state ∙ ap (with_slots kinds asks q old) once.1 ∙ sym b.state)
  serves_once sound NothingMet (Ok p) (Err e) new next a b =
      let n = b.0.1 in
      absurd (serves_or_needs here old.sizes q.requested_dedicated q.request p a.left b.0.0 n.is_dedicated n.pending a.shared a.takes n.needs)
  serves_once sound NothingMet (Err e) (Ok r) new next a b =
      let n = a.0.1 in
      absurd (serves_or_needs here old.sizes q.requested_dedicated q.request r b.left a.0.0 n.is_dedicated n.pending b.shared b.takes n.needs)
  serves_once sound NothingMet (Err e) (Err r) new next a b =
      let sizes = (needs_once a.0.0 b.0.0 (Some e) (Some r) a.0.1 b.0.1).0 in
      (ap Err (some_same e r (sym a.0.1.limits ∙ ap limits sizes ∙ b.0.1.limits)), a.1 ∙ sym b.1)
  serves_once sound NoHostMemory (Ok p) y new next a b = absurd a
  serves_once sound NoHostMemory (Err e) (Ok r) new next a b = absurd b
  serves_once sound NoHostMemory (Err e) (Err r) new next a b = (ap Err (a.0 ∙ sym b.0), a.1 ∙ sym b.1)
  serves_once sound (Answered size (Ok handle)) (Ok p) (Ok r) new next a b =
      let slots = slots_at old.slots q.memory_type in
      let needs = needs_once size size None None a.needs b.needs in
      let other : Installs slots a.needs.is_dedicated a.needs.pending handle r b.left =
      subst (λ k. Installs slots k a.needs.pending handle r b.left) (sym needs.1) (subst (λ k. Installs slots b.needs.is_dedicated k handle r b.left) (sym needs.2) b.installs) in
      let once = installed_once slots a.needs.is_dedicated a.needs.pending handle p r a.left b.left a.installs other in
      let lists = once.1 in
      let sources = decides old.source new.source next.source q.memory_type size q.extra (Ok handle) a.question b.question in
      (ap Ok once.0, a.state ∙ (λ i. record (with_slots kinds asks q old (lists i)) { source = sources i }) ∙ sym b.state)
  serves_once sound (Answered size (Ok handle)) (Ok p) (Err r) new next a b = absurd b
  serves_once sound (Answered size (Ok handle)) (Err e) y new next a b = absurd a
  serves_once sound (Answered size (Err why)) (Ok p) y new next a b = absurd a
  serves_once sound (Answered size (Err why)) (Err e) (Ok r) new next a b = absurd b
  serves_once sound (Answered size (Err why)) (Err e) (Err r) new next a b =
      let sources = decides old.source new.source next.source q.memory_type size q.extra (Err why) a.0.question b.0.question in
      (ap Err (a.1 ∙ sym b.1), a.0.state ∙ (λ i. record old { source = sources i }) ∙ sym b.0.state)

-- ---- a free

module _ {S H : Type 0} (kinds : List (Bool × ℕ)) (gives_back : S → H → S → Type 0) (decides : GiveBackDecides gives_back) (eq : H → H → Bool) (t : ℕ) (p : Piece H) (old : State S H)
    (sound : IsSoundAt kinds old.slots t) where
  back_once : (went : Option H) (a b : S) → GivesBackAny gives_back old.source went a → GivesBackAny gives_back old.source went b → a ≡ b
  back_once None a b x y = x ∙ sym y
  back_once (Some handle) a b x y = decides old.source a b handle x y

  pub frees_once : (x y : Result (Unit {0}) Refusal) (new next : State S H) → PoolFrees gives_back eq t p old x new → PoolFrees gives_back eq t p old y next → (x ≡ y) × (new ≡ next)
  frees_once (Ok u) (Ok v) new next a b =
      let r = a.1.slots in
      let s = b.1.slots in
      let once = released_once (kind_at kinds t).1 (IsTrue (has_others (slots_at old.slots t))) (slots_at old.slots t) p a.1.went b.1.went r.left s.left sound r.releases s.releases in
      let here : GivesBackAny gives_back old.source b.1.went new.source = subst (λ w. GivesBackAny gives_back old.source w new.source) once.0 a.1.source in (
        refl,
        alike new next (back_once b.1.went new.source next.source here b.1.source)
            (ap (λ (k : State S H). k.sizes) a.1.state ∙ sym (ap (λ (k : State S H). k.sizes) b.1.state))
            (r.slots ∙ (ap (slice_set old.slots t) once.1 ∙ sym s.slots))
            (ap (λ (k : State S H). k.budgets) a.1.state ∙ sym (ap (λ (k : State S H). k.budgets) b.1.state)),
      )
  frees_once (Ok u) (Err e) new next a b = absurd (b.0 a.0)
  frees_once (Err e) (Ok u) new next a b = absurd (a.0 b.0)
  frees_once (Err e) (Err r) new next a b = (ap Err (refusal_once eq (kind_at kinds t).1 p (slot_at (slots_at old.slots t) p.slot) e r (sound p.slot) a.1 b.1), a.2 ∙ sym b.2)

-- ---- a rename

module _ {S H : Type 0} (kinds : List (Bool × ℕ)) (eq : H → H → Bool) (t : ℕ) (p : Piece H) (name : List ℕ) (old : State S H) (sound : IsSoundAt kinds old.slots t) where
  pub renames_once : (met : Environment H) (x y : Result (Unit {0}) Refusal) (new next : State S H) → RenamesBy eq t p name old met x new → RenamesBy eq t p name old met y next → (x ≡ y) × (new ≡ next)
  renames_once NothingMet (Ok u) (Ok v) new next a b =
      let r = a.0 in
      let s = b.0 in
      let lists = renamed_once (slots_at old.slots t) p (changes.named name) r.left s.left r.renames s.renames in
      let slots : new.slots ≡ next.slots = r.slots ∙ (ap (slice_set old.slots t) lists ∙ sym s.slots) in
      (refl, a.1 ∙ (λ i. record old { slots = slots i }) ∙ sym b.1)
  renames_once NothingMet (Ok u) (Err e) new next a b = absurd (b.0.dead a.0.live)
  renames_once NothingMet (Err e) (Ok u) new next a b = absurd (a.0.dead b.0.live)
  renames_once NothingMet (Err e) (Err r) new next a b =
      (ap Err (name_refusal_once eq (kind_at kinds t).1 p (slot_at (slots_at old.slots t) p.slot) e r (sound p.slot) a.0.other b.0.other a.0.cause b.0.cause), a.1 ∙ sym b.1)
  renames_once NoHostMemory (Ok u) y new next a b = absurd a
  renames_once NoHostMemory (Err e) (Ok u) new next a b = absurd b
  renames_once NoHostMemory (Err e) (Err r) new next a b = (ap Err (a.1 ∙ sym b.1), a.2 ∙ sym b.2)
  renames_once (Answered size answer) x y new next a b = absurd a

-- ---- a proposal

module _ {S H : Type 0} (kinds : List (Bool × ℕ)) (eq : H → H → Bool) (t : ℕ) (p : Piece H) (r : Request) (old : State S H) (sound : IsSoundAt kinds old.slots t) where
  abbrev there : List (Option (Slot H))
  there = slots_at old.slots t

  pub proposes_once : (met : Environment H) (x y : Result (Option (Piece H)) Refusal) (new next : State S H) → ProposesBy eq t p r old met x new → ProposesBy eq t p r old met y next → (x ≡ y) × (new ≡ next)
  proposes_once NothingMet (Ok (Some to)) (Ok (Some other)) new next a b =
      let q = a.0.proposes in
      let s = b.0.proposes in
      let once = one_proposal (kind_at kinds t).1 there q.left s.left r p to other sound q.proposes s.proposes in
      let slots : new.slots ≡ next.slots = q.slots ∙ (ap (slice_set old.slots t) once.1 ∙ sym s.slots) in
      (ap (λ (k : Piece H). Ok (Some k)) once.0, a.1 ∙ (λ i. record old { slots = slots i }) ∙ sym b.1)
  proposes_once NothingMet (Ok (Some to)) (Ok None) new next a b = absurd (proposal_or_none there a.0.proposes.left r p to a.0.proposes.proposes (b.0 a.0.live))
  proposes_once NothingMet (Ok None) (Ok (Some to)) new next a b = absurd (proposal_or_none there b.0.proposes.left r p to b.0.proposes.proposes (a.0 b.0.live))
  proposes_once NothingMet (Ok None) (Ok None) new next a b = (refl, a.1 ∙ sym b.1)
  proposes_once NothingMet (Ok o) (Err e) new next a b = absurd b
  proposes_once NothingMet (Err e) y new next a b = absurd a
  proposes_once NoHostMemory (Ok o) y new next a b = absurd a
  proposes_once NoHostMemory (Err e) (Ok o) new next a b = absurd b
  proposes_once NoHostMemory (Err e) (Err f) new next a b = (ap Err (a.0 ∙ sym b.0), a.1 ∙ sym b.1)
  proposes_once (Answered size answer) x y new next a b = absurd a

-- ---- budgets

sets_by : {S H : Type 0} (t : ℕ) (budget : Option ℕ) (old : State S H) (x y : Result (Unit {0}) Refusal) (new next : State S H) → SetsBudget t budget old.budgets (refusal_in x) new.budgets
    → SetsBudget t budget old.budgets (refusal_in y) next.budgets → (x ≡ y) × (new.budgets ≡ next.budgets)
sets_by t budget old (Ok u) (Ok v) new next a b = (refl, a.1 ∙ sym b.1)
sets_by t budget old (Ok u) (Err e) new next a b = let below = a.0 in let past = b.0 in absurd (omega (arith, below, past))
sets_by t budget old (Err e) (Ok u) new next a b = let below = b.0 in let past = a.0 in absurd (omega (arith, below, past))
sets_by t budget old (Err e) (Err r) new next a b = (ap Err (a.1 ∙ sym b.1), a.2 ∙ sym b.2)

pub sets_once : {S H : Type 0} (t : ℕ) (budget : Option ℕ) (old : State S H) (x y : Result (Unit {0}) Refusal) (new next : State S H) → SetsBudgetOf t budget old x new → SetsBudgetOf t budget old y next
    → (x ≡ y) × (new ≡ next)
sets_once t budget old x y new next a b =
    let once = sets_by t budget old x y new next a.budgets b.budgets in
    let both = once.1 in
    (once.0, a.state ∙ (λ i. record old { budgets = both i }) ∙ sym b.state)

-- ---- what is made for the caller

pub makes_once : {H A : Type 0} (made : A) (met : Environment H) (x y : Result A Refusal) → Makes made met x → Makes made met y → x ≡ y
makes_once made NothingMet (Ok a) (Ok b) x y = ap Ok (x ∙ sym y)
makes_once made NothingMet (Ok a) (Err e) x y = absurd y
makes_once made NothingMet (Err e) y a b = absurd a
makes_once made NoHostMemory (Ok a) y x b = absurd x
makes_once made NoHostMemory (Err e) (Ok a) x y = absurd y
makes_once made NoHostMemory (Err e) (Err r) x y = ap Err (x ∙ sym y)
makes_once made (Answered size answer) x y a b = absurd a

-- ---- any call

pub step_once : {S H X : Type 0} (asks : S → ℕ → ℕ → X → Result H Refusal → S → Type 0) (gives_back : S → H → S → Type 0) (eq : H → H → Bool) → AskDecides asks → GiveBackDecides gives_back
    → (kinds : List (Bool × ℕ)) (call : Call H X) (met : Environment H) (x y : Reply H) (old new next : State S H) → ((t : ℕ) → IsSoundAt kinds old.slots t)
    → Step kinds asks gives_back eq old call met x new → Step kinds asks gives_back eq old call met y next → (x ≡ y) × (new ≡ next)
step_once asks gives_back eq ask back kinds (Allocate q) met x y old new next sound a b =
    let once = serves_once kinds asks ask q old (sound q.memory_type) met a.0 b.0 new next a.2 b.2 in
    (a.1 ∙ ap (allocated_as q.memory_type) once.0 ∙ sym b.1, once.1)
step_once asks gives_back eq ask back kinds (Free t p) met x y old new next sound a b =
    let once = frees_once kinds gives_back back eq t p old (sound t) a.1 b.1 new next a.3 b.3 in
    (a.2 ∙ ap reply_of_done once.0 ∙ sym b.2, once.1)
step_once asks gives_back eq ask back kinds (Rename t p name) met x y old new next sound a b =
    let once = renames_once kinds eq t p name old (sound t) met a.0 b.0 new next a.2 b.2 in
    (a.1 ∙ ap reply_of_done once.0 ∙ sym b.1, once.1)
step_once asks gives_back eq ask back kinds (ProposeMove t p r) met x y old new next sound a b =
    let once = proposes_once kinds eq t p r old (sound t) met a.0 b.0 new next a.2 b.2 in
    (a.1 ∙ ap (proposed_as t) once.0 ∙ sym b.1, once.1)
step_once asks gives_back eq ask back kinds (SetBudget t budget) met x y old new next sound a b =
    let once = sets_once t budget old a.1 b.1 new next a.3 b.3 in
    (a.2 ∙ ap reply_of_done once.0 ∙ sym b.2, once.1)
step_once asks gives_back eq ask back kinds (Budget t) met x y old new next sound a b = (a.1 ∙ sym b.1, a.2 ∙ sym b.2)
step_once asks gives_back eq ask back kinds Capacity met x y old new next sound a b = (a.1 ∙ sym b.1, a.2 ∙ sym b.2)
step_once asks gives_back eq ask back kinds Handles met x y old new next sound a b = (a.1 ∙ sym b.1, a.2 ∙ sym b.2)
step_once asks gives_back eq ask back kinds Report met x y old new next sound a b = (a.1 ∙ ap reported_as (makes_once _ met a.0 b.0 a.2 b.2) ∙ sym b.1, a.3 ∙ sym b.3)
step_once asks gives_back eq ask back kinds LeakTexts met x y old new next sound a b = (a.1 ∙ ap leaked_as (makes_once _ met a.0 b.0 a.2 b.2) ∙ sym b.1, a.3 ∙ sym b.3)
