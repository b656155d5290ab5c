-- What a request is answered, by what it met with, and what that leaves.
use Rattle.std.specs.Prelude.{◌≡◌, ℕ, Bool, false, List, Option, Some, None, Result, Ok, Err}
use Rattle.std.specs.List.{slice_set}
use Rattle.gpu_values.specs.Refusal.{Refusal, host_out_of_memory}
use Rattle.gpu_block_pieces.specs.Request.{Request}
use Rattle.gpu_core.specs.TypeState.{TypeState, Slot, capacity_of}
use Rattle.gpu_core.specs.TypeTake.{asked, Pending, has_dedicated_block, PreparesPiece, NeedsBlock, Installs}
use Rattle.gpu_core.specs.declared.piece.Piece.{Piece}
use Rattle.gpu_core.specs.declared.piece.Request as type_requests
use Rattle.gpu_core.specs.Blocks.{slots_at, total_capacity}
use Rattle.gpu_core.specs.Budgets.{budget_at, block_refusal}
use Rattle.gpu_pool.specs.Source.{HoldsAfter}
use Rattle.gpu_pool.specs.State.{State, kind_at}
use Rattle.gpu_pool.specs.declared.source.BlockSource.{Ghosts}

-- a request at a memory type: whether it wishes a dedicated block, and what a question for a block says beside memory type and size
pub record RequestAt (X : Type 0) : Type 0 where
  pub memory_type : ℕ
  pub requested_dedicated : Bool
  pub request : Request
  pub extra : X

-- the request of a call
abbrev pub request_at : {X : Type 0} → (t : ℕ) → type_requests.Request → X → RequestAt X
request_at t r extra = record { memory_type = t; requested_dedicated = r.dedicated; request = asked r; extra = extra }

-- what a call met with: nothing, a host without memory, or its source's answer to the question for a block of this size
pub data Environment (H : Type 0) : Type 0 where
  NothingMet : Environment H
  NoHostMemory : Environment H
  Answered : (size : ℕ) (answer : Result H Refusal) → Environment H

-- kinds: of each memory type, whether its blocks are of the host's sizes, and its page size; asks: a question to the source, and its answer
module _ {S H X : Type 0} (kinds : List (Bool × ℕ)) (asks : S → ℕ → ℕ → X → Result H Refusal → S → Type 0) (q : RequestAt X) where
  -- the memory type that is asked
  abbrev pub type_asked : State S H → TypeState H
  type_asked s = record {
    is_host = (kind_at kinds q.memory_type).0;
    granularity = (kind_at kinds q.memory_type).1;
    slots = slots_at s.slots q.memory_type;
    room = 0;
    budget = budget_at s.budgets q.memory_type;
  }

  -- the same pool with these slots in the memory type
  abbrev pub with_slots : State S H → List (Option (Slot H)) → State S H
  with_slots s slots = record s { slots = slice_set s.slots q.memory_type slots }

  -- the piece lies in a shared block that has a place for it
  pub record AllocatesShared (old : State S H) (p : Piece H) (new : State S H) : Type 0 where
    pub shared : has_dedicated_block (type_asked old) old.sizes q.requested_dedicated q.request.size ≡ false
    pub left : List (Option (Slot H))
    pub takes : PreparesPiece (slots_at old.slots q.memory_type) q.request p left
    pub state : new ≡ with_slots old left

  -- it needs a new block of this size; its limits refuse that (64 bits, then the budget), or don't
  pub record NeedsNewBlock (old : State S H) (size : ℕ) (refusal : Option Refusal) : Type 0 where
    pub is_dedicated : Bool
    pub pending : Pending
    pub needs : NeedsBlock (type_asked old) old.sizes q.requested_dedicated q.request size is_dedicated pending
    pub limits : block_refusal (total_capacity old.slots) (budget_at old.budgets q.memory_type) (capacity_of (slots_at old.slots q.memory_type)) size ≡ refusal

  -- the source granted the new block, which stands in its slot, with the piece at its start
  pub record AllocatesNew (old : State S H) (size : ℕ) (handle : H) (p : Piece H) (new : State S H) : Type 0 where
    pub needs : NeedsNewBlock old size None
    pub question : asks old.source q.memory_type size q.extra (Ok handle) new.source
    pub left : List (Option (Slot H))
    pub installs : Installs (slots_at old.slots q.memory_type) needs.is_dedicated needs.pending handle p left
    pub state : new ≡ record (with_slots old left) { source = new.source }

  -- the source refused the new block, and nothing else changes
  pub record IsDeclined (old : State S H) (size : ℕ) (why : Refusal) (new : State S H) : Type 0 where
    pub needs : NeedsNewBlock old size None
    pub question : asks old.source q.memory_type size q.extra (Err why) new.source
    pub state : new ≡ record old { source = new.source }

  -- what a request is answered and what that leaves, by what it met with
  abbrev pub PoolServes : State S H → Environment H → Result (Piece H) Refusal → State S H → Type 0
  PoolServes old NothingMet (Ok p) new = AllocatesShared old p new
  PoolServes old NothingMet (Err e) new = ((size : ℕ) × NeedsNewBlock old size (Some e)) × (new ≡ old)
  PoolServes old NoHostMemory (Ok p) new = ⊥
  PoolServes old NoHostMemory (Err e) new = (e ≡ host_out_of_memory) × (new ≡ old)
  PoolServes old (Answered size (Ok handle)) (Ok p) new = AllocatesNew old size handle p new
  PoolServes old (Answered size (Ok handle)) (Err e) new = ⊥
  PoolServes old (Answered size (Err why)) (Ok p) new = ⊥
  PoolServes old (Answered size (Err why)) (Err e) new = IsDeclined old size why new × (e ≡ why)

  -- a request is answered so, whatever it met with
  abbrev pub PoolAllocates : State S H → Result (Piece H) Refusal → State S H → Type 0
  PoolAllocates old answer new = (met : Environment H) × PoolServes old met answer new

-- a question in the words of the source's own API, and as a pool sees it
pub record AsksOf {S H X : Type 0} (g : Ghosts S H X) (old : S) (t size : ℕ) (extra : X) (answer : Result H Refusal) (new : S) : Type 0 where
  pub exactly : g.asks old t size extra answer new
  pub held : HoldsAfter g.number (g.held old) (record { memory_type = t; size = size }) answer (g.held new)
  pub constant : g.kinds new ≡ g.kinds old
