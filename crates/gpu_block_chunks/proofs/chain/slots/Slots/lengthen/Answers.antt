use Rattle.std.proofs.Common.{refl, arith}
use Rattle.gpu_block_chunks.specs.Slots.{joined_linked}
use Rattle.gpu_block_chunks.proofs.SlotWrites.{within, cell_sound, cell_is, cell_count, stored_changed, some_of, read_and}
use Rattle.gpu_block_chunks.proofs.chain.slots.Slots.lengthen.Goals as goal

pub index_mut-cell-requires : goal.index_mut-cell-requires
index_mut-cell-requires c =
    let inside = within c.self.inside.cells.items c.self.inside.labels.items c.self.inside.live c.self.inside.free c.self.invariant c.args.slot (some_of _ _ (rw (← c.self.view_is) at c.requires.fits)) in
    omega arith

pub invariant_of-self : goal.invariant_of-self
invariant_of-self c =
    cell_sound c.self.inside.cells.items c.self.inside.labels.items c.self.inside.live c.self.inside.free c.self.invariant c.args.slot (some_of _ _ (rw (← c.self.view_is) at c.requires.fits))
    c.index_mut-cell.result.now c.index_mut-cell.ensures.value _ (joined_linked c.args.more c.new-cell.result) refl refl

pub returns-clause-changes : goal.returns-clause-changes
returns-clause-changes c =
    rw (← c.self.view_is, ← c.new-cell.ensures) (stored_changed _ _ _ c.args.slot (joined_linked c.args.more c.new-cell.result)
    (cell_is c.self.inside.cells.items c.self.inside.labels.items c.self.inside.live c.self.inside.free c.self.invariant c.args.slot (some_of _ _ (rw (← c.self.view_is) at c.requires.fits))
    c.index_mut-cell.result.now c.index_mut-cell.ensures.value _ (joined_linked c.args.more c.new-cell.result) refl refl))

pub returns-clause-count : goal.returns-clause-count
returns-clause-count c =
    rw (← c.self.view_is) (cell_count c.self.inside.cells.items c.self.inside.labels.items c.self.inside.live c.self.inside.free c.self.invariant c.args.slot (some_of _ _ (rw (← c.self.view_is) at c.requires.fits))
    c.index_mut-cell.result.now c.index_mut-cell.ensures.value _ (joined_linked c.args.more c.new-cell.result) refl refl)

pub overflow_add-cell : goal.overflow_add-cell
overflow_add-cell c =
    let below = read_and c.self.inside.cells.items c.self.inside.labels.items c.self.inside.live c.self.inside.free c.self.invariant c.args.slot (some_of _ _ (rw (← c.self.view_is) at c.requires.fits))
    c.index_mut-cell.result.now c.index_mut-cell.ensures.value _ (rw (← c.self.view_is) at c.requires.fits) in
    omega arith
