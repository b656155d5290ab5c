-- What callers see of memory types, and of the block that is awaited.
use Rattle.std.specs.Prelude.{◌≡◌, ℕ, ◌+◌, ◌^◌, ◌<◌, Bool, List, length, Option, Some, None, Result, codes}
use Rattle.gpu_values.specs.Refusal.{Refusal, refusal_in, internal}
use Rattle.gpu_values.specs.Sizes.{Sizes}
use Rattle.gpu_values.specs.declared.error.AllocationError.{AllocationError}
use Rattle.gpu_block.specs.Block.{TakesIn}
use Rattle.gpu_block_pieces.specs.Request.{Request}
use Rattle.gpu_core.specs.TypePrepare.{CanInstall}
use Rattle.gpu_core.specs.TypeTake.{fresh_block}
use Rattle.gpu_core.specs.declared.need.NeedBlock.{NeedBlock}
use Rattle.gpu_core.specs.Blocks.{Slots, total_capacity}
use Rattle.gpu_core.specs.Budgets.{Budgets, budgets}
use Rattle.gpu_core.specs.Types.{Types, slots_of, type_of, kinds}
use Rattle.gpu_pool.specs.State as pools
use Rattle.gpu_pool.specs.declared.requests.Awaited.{Awaited}

-- of each memory type whether its blocks are of the host's sizes, and its page size; how large shared blocks are; the live blocks; the
-- budgets; and the block that is awaited
pub record RequestState (H : Type 0) : Type 0 where
  pub kinds : List (Bool × ℕ)
  pub sizes : Sizes
  pub slots : Slots H
  pub budgets : Budgets
  pub awaited : Option Awaited

abbrev pub requests_of : {H : Type 0} → Sizes → Types H → Option Awaited → RequestState H
requests_of sizes types awaited = record { kinds = kinds types; sizes = sizes; slots = slots_of types; budgets = budgets types; awaited = awaited }

-- the same with other sizes of shared blocks
abbrev pub with_sizes : {H : Type 0} → Sizes → RequestState H → RequestState H
with_sizes sizes s = record s { sizes = sizes }

-- the same as a pool over a source
abbrev pub pool_of : {S H : Type 0} → S → RequestState H → pools.State S H
pool_of source s = record { source = source; sizes = s.sizes; slots = s.slots; budgets = s.budgets }

-- the block is a new one with a request's piece at its start
pub record HoldsRequest (granularity : ℕ) (need : NeedBlock) : Type 0 where
  pub request : Request
  pub takes : TakesIn (fresh_block need.dedicated need.size granularity) request need.room.offset need.room.chunk_id need.room.block
  pub size : need.room.size ≡ request.size
  pub begins : need.room.offset ≡ 0

-- a block can be put in where one is awaited
abbrev pub CanAnswer : {H : Type 0} → Types H → Option Awaited → Type 0
CanAnswer types None = Unit {0}
CanAnswer types (Some a) =
    (a.memory_type < length types) × CanInstall (type_of types a.memory_type) a.need.size a.need.dedicated a.need.room
    × (total_capacity (slots_of types) + a.need.size < 2 ^ 64) × HoldsRequest (type_of types a.memory_type).granularity a.need

-- ---- calls out of turn

abbrev pub answer_awaited : Refusal
answer_awaited = internal (codes "An answer is awaited.") None

abbrev pub no_answer_awaited : Refusal
no_answer_awaited = internal (codes "No answer is awaited.") None

-- the call is refused for this cause, and nothing changes
abbrev pub IsRefused : {H A : Type 0} → Refusal → RequestState H → Result A AllocationError → RequestState H → Type 0
IsRefused refusal old result new = (refusal_in result ≡ Some refusal) × (new ≡ old)
