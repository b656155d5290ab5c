use Rattle.std.proofs.Common.{arith}
use Rattle.std.proofs.lemmas.List.{length-map}
use Rattle.gpu_block_chunks.specs.FreeSlots.{chunk_in, slots_of}
use Rattle.gpu_block_chunks.proofs.SlotRows.{length-slots}
use Rattle.gpu_block_chunks.proofs.chain.slots.Slots.room.Goals as goal

pub overflow_sub-result : goal.overflow_sub-result
overflow_sub-result c =
    let total = c.self.invariant.sound.total in
    let named = c.self.invariant.named in
    let long = length-slots c.self.inside.cells.items c.self.inside.labels.items named in
    omega arith

pub returns-clause-free : goal.returns-clause-free
returns-clause-free c =
    let i = c.self.inside in
    let counted = c.self.invariant.sound.counted in
    let total = c.self.invariant.sound.total in
    let named = c.self.invariant.named in
    let long = length-slots i.cells.items i.labels.items named in
    let mapped = length-map (slots_of i.cells.items i.labels.items) chunk_in in
    let cells = c.capacity.ensures.fits in
    let labels = c.capacity-2.ensures.fits in
    rw (← c.self.view_is) (omega arith)
