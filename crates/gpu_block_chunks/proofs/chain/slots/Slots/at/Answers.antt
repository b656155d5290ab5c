use Rattle.std.proofs.Common.{arith}
use Rattle.gpu_block_chunks.proofs.SlotWrites.{within, within_labels, chunk_here}
use Rattle.gpu_block_chunks.proofs.chain.slots.Slots.at.Goals as goal

pub index-cell-requires : goal.index-cell-requires
index-cell-requires c =
    let inside = within c.self.inside.cells.items c.self.inside.labels.items c.self.inside.live c.self.inside.free c.self.invariant c.args.slot (rw (← c.self.view_is) at c.requires) in
    omega arith

pub index-requires : goal.index-requires
index-requires c =
    let inside = within_labels c.self.inside.cells.items c.self.inside.labels.items c.self.inside.live c.self.inside.free c.self.invariant c.args.slot (rw (← c.self.view_is) at c.requires) in
    omega arith

pub returns : goal.returns
returns c =
    let there = rw (← c.self.view_is) at c.requires in
    let inside = within c.self.inside.cells.items c.self.inside.labels.items c.self.inside.live c.self.inside.free c.self.invariant c.args.slot there in
    rw (← c.self.view_is, c.slot.ensures, c.slot-2.ensures)
    (chunk_here c.self.inside.cells.items c.self.inside.labels.items c.args.slot c.index-cell.result.now c.index.result.now c.self.invariant.named inside c.index-cell.ensures c.index.ensures there)
