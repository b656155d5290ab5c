-- What a request leads to: a piece, a refusal, or a question; and what the answers to it do.
use Rattle.std.specs.Prelude.{◌≡◌, ◌⊎◌, ℕ, ◌%◌, Bool, Option, Some, None, Result, Ok, Err}
use Rattle.gpu_values.specs.Refusal.{Refusal, refusal_of, host_out_of_memory}
use Rattle.gpu_values.specs.declared.error.AllocationError.{AllocationError}
use Rattle.gpu_core.specs.declared.need.NeedBlock.{NeedBlock}
use Rattle.gpu_core.specs.declared.piece.Piece.{Piece}
use Rattle.gpu_core.specs.TypeState.{capacity_of}
use Rattle.gpu_core.specs.TypeTake.{NeedsBlock}
use Rattle.gpu_core.specs.Blocks.{Slots, slots_at, total_capacity}
use Rattle.gpu_core.specs.Budgets.{budget_at, block_refusal}
use Rattle.gpu_core.specs.Requests.{InstallsAt}
use Rattle.gpu_pool.specs.Allocate.{RequestAt, type_asked, NeedsNewBlock, AllocatesShared}
use Rattle.gpu_pool.specs.Live.{IsNewlyLive}
use Rattle.gpu_pool.specs.RequestState.{RequestState, pool_of, IsRefused, answer_awaited, no_answer_awaited}
use Rattle.gpu_pool.specs.declared.requests.Awaited.{Awaited}
use Rattle.gpu_pool.specs.declared.requests.Begun.{Begun}
use Rattle.gpu_pool.specs.declared.requests.Begun.TheVariants as begun
use Rattle.gpu_pool.specs.declared.requests.Question.{Question}

-- no source is asked here
abbrev pub NoneAsked : {H : Type 0} → Unit {0} → ℕ → ℕ → Unit {0} → Result H Refusal → Unit {0} → Type 0
NoneAsked old t size extra answer new = Unit {0}

-- what the source is asked for an awaited block
abbrev pub question_of : Awaited → Question
question_of a = record { memory_type = a.memory_type; size = a.need.size; dedicated = a.need.dedicated }

module _ {H : Type 0} (q : RequestAt (Unit {0})) where
  -- the question for a new block that the request needs and its limits allow is open; nothing else changes
  pub record Asks (old : RequestState H) (question : Question) (new : RequestState H) : Type 0 where
    pub need : NeedBlock
    pub needs : NeedsBlock (type_asked old.kinds NoneAsked q (pool_of tt old)) old.sizes q.requested_dedicated q.request need.size need.dedicated need.room
    pub limits : block_refusal (total_capacity old.slots) (budget_at old.budgets q.memory_type) (capacity_of (slots_at old.slots q.memory_type)) need.size ≡ None
    pub question_is : question ≡ record { memory_type = q.memory_type; size = need.size; dedicated = need.dedicated }
    pub state : new ≡ record old { awaited = Some (record { memory_type = q.memory_type; need = need }) }

  -- why no question is asked, and there is no piece: lack of host memory, or limits of the block that the request needs
  abbrev pub Denies : RequestState H → Refusal → Type 0
  Denies old refusal = (refusal ≡ host_out_of_memory) ⊎ ((size : ℕ) × NeedsNewBlock old.kinds NoneAsked q (pool_of tt old) size (Some refusal))

  abbrev pub BeginsIn : Option Awaited → RequestState H → Result (Begun H) AllocationError → RequestState H → Type 0
  BeginsIn (Some _) old result new = IsRefused answer_awaited old result new
  BeginsIn None old (Ok (begun.Piece p)) new = AllocatesShared old.kinds NoneAsked q (pool_of tt old) p (pool_of tt new) × (new ≡ record old { slots = new.slots })
  BeginsIn None old (Ok (begun.Question question)) new = Asks old question new
  BeginsIn None old (Err e) new = Denies old (refusal_of e) × (new ≡ old)

  -- a request is begun where no question is open
  abbrev pub Begins : RequestState H → Result (Begun H) AllocationError → RequestState H → Type 0
  Begins old result new = BeginsIn old.awaited old result new

module _ {H : Type 0} where
  -- the block that was awaited stands in its slot with the piece in it
  pub record Receives (a : Awaited) (old : RequestState H) (handle : H) (p : Piece H) (new : RequestState H) : Type 0 where
    pub installs : InstallsAt a.memory_type old.slots a.need.dedicated a.need.room handle p new.slots
    pub state : new ≡ record old { slots = new.slots; awaited = None }

  abbrev pub GrantsIn : Option Awaited → RequestState H → H → Result (Piece H) AllocationError → RequestState H → Type 0
  GrantsIn None old handle result new = IsRefused no_answer_awaited old result new
  GrantsIn (Some a) old handle (Ok p) new = Receives a old handle p new
  GrantsIn (Some a) old handle (Err e) new = ⊥

  -- the block that was asked for is there
  abbrev pub Grants : RequestState H → H → Result (Piece H) AllocationError → RequestState H → Type 0
  Grants old handle result new = GrantsIn old.awaited old handle result new

  abbrev pub DeclinesIn : Option Awaited → RequestState H → Result (Unit {0}) AllocationError → RequestState H → Type 0
  DeclinesIn None old result new = IsRefused no_answer_awaited old result new
  DeclinesIn (Some a) old (Ok _) new = new ≡ record old { awaited = None }
  DeclinesIn (Some a) old (Err e) new = ⊥

  -- the block that was asked for isn't there
  abbrev pub Declines : RequestState H → Result (Unit {0}) AllocationError → RequestState H → Type 0
  Declines old result new = DeclinesIn old.awaited old result new

-- ---- what requests make of live pieces

module _ {H : Type 0} (eq : H → H → Bool) where
  -- the piece is live, and none that was live before; it begins at a multiple of the alignment
  abbrev pub Gives : (t alignment : ℕ) → (old new : Slots H) → Result (Begun H) AllocationError → Type 0
  Gives t alignment old new (Ok (begun.Piece p)) = IsNewlyLive eq old new t p × (p.offset % alignment ≡ 0)
  Gives t alignment old new (Ok (begun.Question question)) = Unit {0}
  Gives t alignment old new (Err e) = Unit {0}

  -- the piece in the block that was awaited is live, and none that was live before; it begins where its block does
  abbrev pub GivesAwaited : Option Awaited → (old new : Slots H) → Result (Piece H) AllocationError → Type 0
  GivesAwaited None old new result = Unit {0}
  GivesAwaited (Some a) old new (Ok p) = IsNewlyLive eq old new a.memory_type p × (p.offset ≡ 0)
  GivesAwaited (Some a) old new (Err e) = Unit {0}
