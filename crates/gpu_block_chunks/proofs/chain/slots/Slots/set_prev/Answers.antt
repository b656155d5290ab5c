use Rattle.std.proofs.Common.{refl, arith}
use Rattle.gpu_block_chunks.specs.Slots.{linked_prev}
use Rattle.gpu_block_chunks.proofs.SlotWrites.{within, cell_sound, cell_is, cell_count, stored_changed}
use Rattle.gpu_block_chunks.proofs.chain.slots.Slots.set_prev.Goals as goal

pub index_mut-requires : goal.index_mut-requires
index_mut-requires c =
    let inside = within c.self.inside.cells.items c.self.inside.labels.items c.self.inside.live c.self.inside.free c.self.invariant c.args.slot (rw (← c.self.view_is) at c.requires.there) in
    omega arith

pub invariant_of-self : goal.invariant_of-self
invariant_of-self c =
    cell_sound c.self.inside.cells.items c.self.inside.labels.items c.self.inside.live c.self.inside.free c.self.invariant c.args.slot (rw (← c.self.view_is) at c.requires.there)
    c.index_mut.result.now c.index_mut.ensures.value _ (linked_prev c.new.result) refl refl

pub returns-clause-changes : goal.returns-clause-changes
returns-clause-changes c =
    rw (← c.self.view_is, ← c.new.ensures) (stored_changed _ _ _ c.args.slot (linked_prev c.new.result)
    (cell_is c.self.inside.cells.items c.self.inside.labels.items c.self.inside.live c.self.inside.free c.self.invariant c.args.slot (rw (← c.self.view_is) at c.requires.there)
    c.index_mut.result.now c.index_mut.ensures.value _ (linked_prev c.new.result) refl refl))

pub returns-clause-count : goal.returns-clause-count
returns-clause-count c =
    rw (← c.self.view_is) (cell_count c.self.inside.cells.items c.self.inside.labels.items c.self.inside.live c.self.inside.free c.self.invariant c.args.slot (rw (← c.self.view_is) at c.requires.there)
    c.index_mut.result.now c.index_mut.ensures.value _ (linked_prev c.new.result) refl refl)
