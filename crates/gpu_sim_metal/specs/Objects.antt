-- What a simulated device holds, and the room that its sets have.
use Rattle.std.specs.Prelude.{ℕ, ◌≤◌, Bool, true, false, List, Option, Some, None}
use Rattle.gpu_device.specs.Metal.{Entry, Held}
use Rattle.gpu_device.specs.Metal as device
use Rattle.gpu_sim_base.specs.Numbers.{item_at, held_in}
use Rattle.gpu_sim_metal.specs.declared.objects.Object.{Object}
use Rattle.gpu_sim_metal.specs.declared.objects.Object.TheVariants.{Heap, Set}
use Rattle.gpu_sim_metal.specs.declared.residency_set.ResidencySet.{ResidencySet}

-- an object, in the words of the trait's contracts
abbrev pub entry_of : Object → Entry
entry_of (Heap desc size) = device.Heap desc size
entry_of (Set set) = device.Set set.members.items set.committed.items

abbrev pub held_by : List (Option Object) → Held
held_by slots = held_in entry_of slots

-- the slot is a heap's
abbrev pub is_heap : Option Object → Bool
is_heap None = false
is_heap (Some (Heap desc size)) = true
is_heap (Some (Set set)) = false

-- the set of a slot
abbrev pub set_in : Option Object → Option ResidencySet
set_in None = None
set_in (Some (Heap desc size)) = None
set_in (Some (Set set)) = Some set

-- the room of a slot's set; where it has none, whatever is asked for
abbrev pub room_of : ℕ → Option Object → ℕ
room_of count None = count
room_of count (Some (Heap desc size)) = count
room_of count (Some (Set set)) = set.room

-- a set in the slot has room for this many numbers
abbrev pub HasRoom : ℕ → Option Object → Type 0
HasRoom count slot = count ≤ room_of count slot

-- each set has room for this many numbers
abbrev pub AllHaveRoom : ℕ → List (Option Object) → Type 0
AllHaveRoom count slots = (number : ℕ) → HasRoom count (item_at slots number)
