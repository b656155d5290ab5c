use Rattle.std.proofs.Common.{refl, arith}
use Rattle.gpu_block_chunks.specs.Slots.{used_linked}
use Rattle.gpu_block_chunks.proofs.SlotWrites.{within, within_labels, written_sound, written_is, written_count, stored_changed}
use Rattle.gpu_block_chunks.proofs.chain.slots.Slots.set_use.Goals as goal

pub index_mut-cell-requires : goal.index_mut-cell-requires
index_mut-cell-requires c =
    let inside = within c.self.inside.cells.items c.self.inside.labels.items c.self.inside.live c.self.inside.free c.self.invariant c.args.slot (rw (← c.self.view_is) at c.requires) in
    omega arith

pub index_mut-requires : goal.index_mut-requires
index_mut-requires c =
    let inside = within_labels c.self.inside.cells.items c.self.inside.labels.items c.self.inside.live c.self.inside.free c.self.invariant c.args.slot (rw (← c.self.view_is) at c.requires) in
    omega arith

pub invariant_of-self : goal.invariant_of-self
invariant_of-self c =
    written_sound c.self.inside.cells.items c.self.inside.labels.items c.self.inside.live c.self.inside.free c.self.invariant c.args.slot (rw (← c.self.view_is) at c.requires)
    c.index_mut-cell.result.now c.index_mut-cell.ensures.value _ c.args.label (used_linked c.args.offset c.args.kind c.args.label) refl refl

pub returns-clause-changes : goal.returns-clause-changes
returns-clause-changes c =
    rw (← c.self.view_is) (stored_changed _ _ _ c.args.slot (used_linked c.args.offset c.args.kind c.args.label)
    (written_is c.self.inside.cells.items c.self.inside.labels.items c.self.inside.live c.self.inside.free c.self.invariant c.args.slot (rw (← c.self.view_is) at c.requires)
    c.index_mut-cell.result.now c.index_mut-cell.ensures.value _ c.args.label (used_linked c.args.offset c.args.kind c.args.label) refl refl))

pub returns-clause-count : goal.returns-clause-count
returns-clause-count c =
    rw (← c.self.view_is) (written_count c.self.inside.cells.items c.self.inside.labels.items c.self.inside.live c.self.inside.free c.self.invariant c.args.slot (rw (← c.self.view_is) at c.requires)
    c.index_mut-cell.result.now c.index_mut-cell.ensures.value _ c.args.label (used_linked c.args.offset c.args.kind c.args.label) refl refl)
