-- One memory of a simulated device: what it holds, and what it ends as once a slice of its bytes that was lent has ended.
use Rattle.std.specs.Prelude.{ℕ, Bool, true, false, List, length, Option, Some, None}
use Rattle.std.specs.Borrow.{Lends, MutBor, Fml, Array, u8}
use Rattle.std.specs.Global.{Vec}
use Rattle.std.specs.Vec.{with_items_from}
use Rattle.gpu_device.specs.Held.{Entry}
use Rattle.gpu_sim.specs.declared.memory.Contents.{Contents}
use Rattle.gpu_sim.specs.declared.memory.Contents.TheVariants.{Unmapped, Mapped}
use Rattle.gpu_sim.specs.contracts.memory.Contents as contents
use Rattle.gpu_sim.specs.declared.memory.Memory.{Memory}
use Rattle.gpu_sim.specs.contracts.memory.Memory as memory
use Rattle.gpu_sim.specs.declared.memory.Slot.{Slot}
use Rattle.gpu_sim.specs.declared.memory.Slot.TheVariants.{Free, Held}
use Rattle.gpu_sim.specs.contracts.memory.Slot as slot

-- ---- what is there

abbrev pub contents_size : Contents → ℕ
contents_size (Unmapped size) = size
contents_size (Mapped v) = length v.items

abbrev pub contents_bytes : Contents → Option (List ℕ)
contents_bytes (Unmapped size) = None
contents_bytes (Mapped v) = Some v.items

abbrev pub entry_of : Memory → Entry
entry_of m = record { size = contents_size m.contents; memory_type_index = m.memory_type_index; bytes = contents_bytes m.contents }

abbrev pub slot_entry : Slot → Option Entry
slot_entry Free = None
slot_entry (Held m) = Some (entry_of m)

abbrev pub slot_size : Slot → ℕ
slot_size Free = 0
slot_size (Held m) = contents_size m.contents

abbrev pub slot_bytes : Slot → Option (List ℕ)
slot_bytes Free = None
slot_bytes (Held m) = contents_bytes m.contents

abbrev pub is_held : Slot → Bool
is_held Free = false
is_held (Held m) = true

-- ---- what the calls make of it

abbrev pub mapped_slot : Slot → Vec ℕ → Slot
mapped_slot Free v = Free
mapped_slot (Held m) v = Held (record m { contents = Mapped v })

abbrev pub unmapped_slot : Slot → Slot
unmapped_slot Free = Free
unmapped_slot (Held m) = Held (record m { contents = Unmapped (contents_size m.contents) })

-- ---- what a write leaves

abbrev pub write_contents : Contents → ℕ → List ℕ → Contents
write_contents (Unmapped size) start ws = Unmapped size
write_contents (Mapped v) start ws = Mapped (with_items_from v start ws)

abbrev pub write_memory : Memory → ℕ → List ℕ → Memory
write_memory m start ws = record m { contents = write_contents m.contents start ws }

abbrev pub write_slot : Slot → ℕ → List ℕ → Slot
write_slot Free start ws = Free
write_slot (Held m) start ws = Held (write_memory m start ws)

abbrev pub lends_contents : MutBor Contents → ℕ → MutBor (List ℕ) → Fml
lends_contents c start r = Lends contents.the_row (Array u8 0) c r (write_contents c.now start)

abbrev pub lends_memory : MutBor Memory → ℕ → MutBor (List ℕ) → Fml
lends_memory m start r = Lends memory.the_row (Array u8 0) m r (write_memory m.now start)

abbrev pub lends_slot : MutBor Slot → ℕ → MutBor (List ℕ) → Fml
lends_slot s start r = Lends slot.the_row (Array u8 0) s r (write_slot s.now start)
