use Rattle.std.proofs.Common.{refl, arith}
use Rattle.gpu_block_chunks.proofs.SlotRows.{length-slots}
use Rattle.gpu_block_chunks.proofs.SlotWrites.{within, within_labels}
use Rattle.gpu_block_chunks.proofs.SlotFills.{freed_sound, freed_changes, freed_count, freed_length, some_live}
use Rattle.gpu_block_chunks.proofs.chain.slots.Slots.remove.Goals as goal

pub index_mut-cell-requires : goal.index_mut-cell-requires
index_mut-cell-requires c =
    let inside = within c.self.inside.cells.items c.self.inside.labels.items c.self.inside.live c.self.inside.free c.self.invariant c.args.slot (rw (← c.self.view_is) at c.requires) in
    omega arith

pub index_mut-requires : goal.index_mut-requires
index_mut-requires c =
    let inside = within_labels c.self.inside.cells.items c.self.inside.labels.items c.self.inside.live c.self.inside.free c.self.invariant c.args.slot (rw (← c.self.view_is) at c.requires) in
    omega arith

pub overflow_cast-slot : goal.overflow_cast-slot
overflow_cast-slot c =
    let inside = within c.self.inside.cells.items c.self.inside.labels.items c.self.inside.live c.self.inside.free c.self.invariant c.args.slot (rw (← c.self.view_is) at c.requires) in
    let few = c.self.invariant.few in
    omega arith

pub new-self-inside-requires : goal.new-self-inside-requires
new-self-inside-requires c =
    let inside = within c.self.inside.cells.items c.self.inside.labels.items c.self.inside.live c.self.inside.free c.self.invariant c.args.slot (rw (← c.self.view_is) at c.requires) in
    let few = c.self.invariant.few in
    omega arith

pub invariant_of-self : goal.invariant_of-self
invariant_of-self c =
    rw (c.new-self-inside.ensures, c.empty.ensures) (freed_sound c.self.inside.cells.items c.self.inside.labels.items c.self.inside.live c.self.inside.free c.self.invariant c.args.slot (rw (← c.self.view_is) at c.requires) _ refl)

pub returns-clause-changes : goal.returns-clause-changes
returns-clause-changes c =
    rw (← c.self.view_is, c.empty.ensures) (freed_changes c.self.inside.cells.items c.self.inside.labels.items c.self.inside.live c.self.inside.free c.self.invariant c.args.slot (rw (← c.self.view_is) at c.requires) _ refl _ _)

pub returns-clause-count : goal.returns-clause-count
returns-clause-count c =
    rw (← c.self.view_is, c.empty.ensures) (freed_count c.self.inside.cells.items c.self.inside.labels.items c.self.inside.live c.self.inside.free c.self.invariant c.args.slot (rw (← c.self.view_is) at c.requires) _ refl)

pub returns-clause-length : goal.returns-clause-length
returns-clause-length c =
    rw (← c.self.view_is, c.empty.ensures) (freed_length c.self.inside.cells.items c.self.inside.labels.items c.self.inside.live c.self.inside.free c.self.invariant c.args.slot (rw (← c.self.view_is) at c.requires) _ refl)

pub returns-clause-room : goal.returns-clause-room
returns-clause-room c =
    let some = some_live c.self.inside.cells.items c.self.inside.labels.items c.self.inside.live c.self.inside.free c.self.invariant c.args.slot (rw (← c.self.view_is) at c.requires) in
    let total = c.self.invariant.sound.total in
    let named = c.self.invariant.named in
    let long = length-slots c.self.inside.cells.items c.self.inside.labels.items named in
    let cells = c.len-cells.ensures.fits in
    let labels = c.len-labels.ensures.fits in
    rw (← c.self.view_is) (omega arith)
