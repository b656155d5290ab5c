use Rattle.std.proofs.Common.{arith}
use Rattle.gpu_block_chunks.proofs.SlotRows.{length-slots}
use Rattle.gpu_block_chunks.proofs.chain.slots.Slots.capacity.Goals as goal

pub returns : goal.returns
returns c =
    let counted = c.self.invariant.sound.counted in
    let total = c.self.invariant.sound.total in
    let named = c.self.invariant.named in
    let long = length-slots c.self.inside.cells.items c.self.inside.labels.items named in
    rw (← c.self.view_is) (omega arith)
