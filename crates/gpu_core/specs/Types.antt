-- The memory types as the code keeps them.
use Rattle.std.specs.Prelude.{ℕ, ◌^◌, ◌<◌, Bool, false, List, [], map, All, None}
use Rattle.std.specs.List.{slice_index_or}
use Rattle.gpu_core.specs.TypeState.{TypeState, KeepsOneEmptyAtMost}
use Rattle.gpu_core.specs.Slots.{AreSound}
use Rattle.gpu_core.specs.Blocks.{Slots, total_capacity}

abbrev pub Types : (H : Type 0) → Type 0
Types H = List (TypeState H)

abbrev pub slots_of : {H : Type 0} → Types H → Slots H
slots_of types = map (λ t. t.slots) types

-- of each type, whether its blocks are of the host's sizes, and its page size
abbrev pub kinds : {H : Type 0} → Types H → List (Bool × ℕ)
kinds types = map (λ t. (t.is_host, t.granularity)) types

-- a memory type without blocks
abbrev pub no_type : {H : Type 0} → TypeState H
no_type = record { is_host = false; granularity = 1; slots = []; room = 0; budget = None }

-- the t-th memory type
abbrev pub type_of : {H : Type 0} → Types H → (t : ℕ) → TypeState H
type_of types t = slice_index_or types t no_type

-- the blocks of each memory type are well formed, at most one of them is without pieces, and the sum of their sizes has 64 bits
pub record MemoryTypesInvariant {H : Type 0} (types : Types H) : Type 0 where
  pub well_formed : All (λ t. AreSound t.granularity t.slots) types
  pub empty : All (λ t. KeepsOneEmptyAtMost t.slots) types
  pub sum : total_capacity (slots_of types) < 2 ^ 64
