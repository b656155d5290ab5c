-- Moves: a live piece gets a second place, its owner copies it, and then one of the two places is freed.
use Rattle.std.specs.Prelude.{◌≡◌, ℕ, ◌%◌, Bool, Option, Some, None, Result, Ok, Err}
use Rattle.gpu_values.specs.Refusal.{Refusal, refusal_of, host_out_of_memory}
use Rattle.gpu_values.specs.declared.error.AllocationError.{AllocationError}
use Rattle.gpu_block_pieces.specs.Request.{Request}
use Rattle.gpu_core.specs.declared.piece.Piece.{Piece}
use Rattle.gpu_core.specs.Blocks.{Slots, slots_at}
use Rattle.gpu_core.specs.Moves.{NoneAhead, ProposesMoveAt}
use Rattle.gpu_pool.specs.Allocate.{Environment, NothingMet, NoHostMemory, Answered}
use Rattle.gpu_pool.specs.Live.{IsLive, IsNewlyLive}
use Rattle.gpu_pool.specs.RequestState.{RequestState, IsRefused, answer_awaited}
use Rattle.gpu_pool.specs.State.{State}
use Rattle.gpu_pool.specs.declared.requests.Awaited.{Awaited}

-- t and from: the piece and its memory type; r: the request that it was made for
module _ {H : Type 0} (eq : H → H → Bool) (t : ℕ) (from : Piece H) (r : Request) where
  -- the piece is live and has a second place, in a block that is there
  pub record GivesSecondPlace (old : Slots H) (to : Piece H) (new : Slots H) : Type 0 where
    pub live : IsLive eq old t from
    pub proposes : ProposesMoveAt t old r from to new

  -- a live piece has no place ahead
  abbrev pub Stays : Slots H → Type 0
  Stays slots = IsLive eq slots t from → NoneAhead (slots_at slots t) r from.slot

  -- ---- of requests

  abbrev pub ProposesIn : Option Awaited → RequestState H → Result (Option (Piece H)) AllocationError → RequestState H → Type 0
  ProposesIn (Some _) old result new = IsRefused answer_awaited old result new
  ProposesIn None old (Ok (Some to)) new = GivesSecondPlace old.slots to new.slots × (new ≡ record old { slots = new.slots })
  ProposesIn None old (Ok None) new = Stays old.slots × (new ≡ old)
  ProposesIn None old (Err e) new = (refusal_of e ≡ host_out_of_memory) × (new ≡ old)

  -- a second place is looked for where no question is open
  abbrev pub ProposesIdle : RequestState H → Result (Option (Piece H)) AllocationError → RequestState H → Type 0
  ProposesIdle old result new = ProposesIn old.awaited old result new

  -- ---- of a pool

  -- what a proposal is answered and what that leaves, by what it met with: no source is asked
  abbrev pub ProposesBy : {S : Type 0} → State S H → Environment H → Result (Option (Piece H)) Refusal → State S H → Type 0
  ProposesBy old NothingMet (Ok (Some to)) new = GivesSecondPlace old.slots to new.slots × (new ≡ record old { slots = new.slots })
  ProposesBy old NothingMet (Ok None) new = Stays old.slots × (new ≡ old)
  ProposesBy old NothingMet (Err e) new = ⊥
  ProposesBy old NoHostMemory (Ok o) new = ⊥
  ProposesBy old NoHostMemory (Err e) new = (e ≡ host_out_of_memory) × (new ≡ old)
  ProposesBy old (Answered size answer) result new = ⊥

  -- a proposal is answered so, whatever it met with
  abbrev pub Proposes : {S : Type 0} → State S H → Result (Option (Piece H)) Refusal → State S H → Type 0
  Proposes old answer new = (met : Environment H) × ProposesBy old met answer new

-- the second place is live, and none that was live before; it begins at a multiple of the alignment, and has this size
abbrev pub GivesPlace : {H : Type 0} → (H → H → Bool) → (t alignment size : ℕ) → (old new : Slots H) → Result (Option (Piece H)) AllocationError → Type 0
GivesPlace eq t alignment size old new (Ok (Some to)) = IsNewlyLive eq old new t to × (to.offset % alignment ≡ 0) × (to.size ≡ size)
GivesPlace eq t alignment size old new (Ok None) = Unit {0}
GivesPlace eq t alignment size old new (Err e) = Unit {0}
