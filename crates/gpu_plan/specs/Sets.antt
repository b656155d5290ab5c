-- Which resources share an allocation.
use Rattle.std.specs.Prelude.{ℕ, zero, suc, ◌==◌, ◌&&◌, Bool, not, if◌then◌else◌, List, [], ◌∷◌}
use Rattle.std.specs.Int.RustNames.{bit_and}
use Rattle.gpu_plan.specs.declared.sets.MemoryNeeds.{MemoryNeeds}

-- neither is dedicated, and some memory type serves both
abbrev pub may_join : (r set : MemoryNeeds) → Bool
may_join r set = not r.dedicated && (not set.dedicated && not (bit_and r.memory_type_bits set.memory_type_bits == 0))

-- the memory types that serve the set and the resource
abbrev pub narrowed : (set r : MemoryNeeds) → MemoryNeeds
narrowed set r = record set { memory_type_bits = bit_and set.memory_type_bits r.memory_type_bits }

-- the first set that the resource may join, or the one behind the last
abbrev pub set_for : MemoryNeeds → List MemoryNeeds → ℕ
set_for r [] = zero
set_for r (set ∷ sets) = if may_join r set then zero else suc (set_for r sets)

-- the sets once the resource has joined it
abbrev pub joined : MemoryNeeds → List MemoryNeeds → List MemoryNeeds
joined r [] = r ∷ []
joined r (set ∷ sets) = if may_join r set then narrowed set r ∷ sets else set ∷ joined r sets

-- the set of each resource, one after another, where these sets are there already
abbrev pub sets_of : (sets : List MemoryNeeds) → List MemoryNeeds → List ℕ
sets_of sets [] = []
sets_of sets (r ∷ more) = set_for r sets ∷ sets_of (joined r sets) more
