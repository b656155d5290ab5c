-- The memories of a simulated device, by number: memory 1 is in the first slot.
use Rattle.std.specs.Prelude.{ℕ, zero, suc, List, [], ◌∷◌, length, slice_index_or}
use Rattle.std.specs.Borrow.{Lends, MutBor, Fml, Array, u8}
use Rattle.std.specs.FinMap.{empty, insert}
use Rattle.std.specs.Vec.{with_item}
use Rattle.gpu_device.specs.Held as device
use Rattle.gpu_sim.specs.declared.memory.Slot.{Slot}
use Rattle.gpu_sim.specs.declared.memory.Slot.TheVariants.{Free, Held}
use Rattle.gpu_sim.specs.declared.memories.Memories.{Memories}
use Rattle.gpu_sim.specs.contracts.memories.Memories.{the_row}
use Rattle.gpu_sim.specs.Memory.{entry_of, write_slot}

-- the memories in the slots, where the first slot has this number
abbrev pub held_from : ℕ → List Slot → device.Held
held_from number [] = empty
held_from number (Free ∷ slots) = held_from (suc number) slots
held_from number (Held m ∷ slots) = insert (held_from (suc number) slots) number (entry_of m)

abbrev pub held_in : Memories → device.Held
held_in m = held_from 1 m.slots.items

-- how many numbers were given out
abbrev pub issued : Memories → ℕ
issued m = length m.slots.items

-- the slot of a number
abbrev pub slot_at : List Slot → ℕ → Slot
slot_at slots zero = Free
slot_at slots (suc i) = slice_index_or slots i Free

abbrev pub with_slot : Memories → ℕ → Slot → Memories
with_slot m i x = record m { slots = with_item m.slots i x }

-- the same after a write into one memory
abbrev pub written_memories : Memories → ℕ → ℕ → List ℕ → Memories
written_memories m zero start ws = m
written_memories m (suc i) start ws = with_slot m i (write_slot (slice_index_or m.slots.items i Free) start ws)

abbrev pub lends_memories : MutBor Memories → ℕ → ℕ → MutBor (List ℕ) → Fml
lends_memories m number start r = Lends the_row (Array u8 0) m r (written_memories m.now number start)
