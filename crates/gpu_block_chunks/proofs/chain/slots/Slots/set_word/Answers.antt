use Rattle.std.proofs.Common.{◌≡◌, ap, arith, get_or}
use Rattle.gpu_block_chunks.specs.declared.label.Label.{Label}
use Rattle.gpu_block_chunks.specs.Label.{no_label}
use Rattle.gpu_block_chunks.specs.FreeSlots.{chunk_by}
use Rattle.gpu_block_chunks.specs.Slots.{worded_linked}
use Rattle.gpu_block_chunks.proofs.SlotWrites.{within, within_labels, cell_at, label_at, label_sound, label_is, label_count, stored_changed}
use Rattle.gpu_block_chunks.proofs.chain.slots.Slots.set_word.Goals as goal
use Rattle.gpu_block_chunks.proofs.chain.slots.Slots.set_word.Goals.{After-index_mut}

pub index_mut-requires : goal.index_mut-requires
index_mut-requires c =
    let inside = within_labels c.self.inside.cells.items c.self.inside.labels.items c.self.inside.live c.self.inside.free c.self.invariant c.args.slot (rw (← c.self.view_is) at c.requires) in
    omega arith

abbrev worded : After-index_mut → Label
worded c = record c.index_mut.result.now { word = c.args.word }

the_label : (c : After-index_mut) → worded c ≡ record (get_or c.self.inside.labels.items c.args.slot no_label) { word = c.args.word }
the_label c =
    let i = c.self.inside in
    ap (λ (l : Label). record l { word = c.args.word })
    (label_at i.labels.items c.args.slot c.index_mut.result.now (within_labels i.cells.items i.labels.items i.live i.free c.self.invariant c.args.slot (rw (← c.self.view_is) at c.requires)) c.index_mut.ensures.value)

pub invariant_of-self : goal.invariant_of-self
invariant_of-self c =
    let at = (goal.at.invariant_of-self c).After-index_mut in
    let i = c.self.inside in
    let b = cell_at i.cells.items c.args.slot (within i.cells.items i.labels.items i.live i.free c.self.invariant c.args.slot (rw (← c.self.view_is) at c.requires)) in
    label_sound i.cells.items i.labels.items i.live i.free c.self.invariant c.args.slot (rw (← c.self.view_is) at c.requires) b.0 b.1 (worded at) (worded_linked c.args.word)
    (ap (chunk_by b.0) (the_label at))

pub returns-clause-changes : goal.returns-clause-changes
returns-clause-changes c =
    let at = (goal.at.returns-clause-changes c).After-index_mut in
    let i = c.self.inside in
    let b = cell_at i.cells.items c.args.slot (within i.cells.items i.labels.items i.live i.free c.self.invariant c.args.slot (rw (← c.self.view_is) at c.requires)) in
    rw (← c.self.view_is) (stored_changed _ _ _ c.args.slot (worded_linked c.args.word)
    (label_is i.cells.items i.labels.items i.live i.free c.self.invariant c.args.slot (rw (← c.self.view_is) at c.requires) b.0 b.1 (worded at) (worded_linked c.args.word)
    (ap (chunk_by b.0) (the_label at))))

pub returns-clause-count : goal.returns-clause-count
returns-clause-count c =
    let at = (goal.at.returns-clause-count c).After-index_mut in
    let i = c.self.inside in
    let b = cell_at i.cells.items c.args.slot (within i.cells.items i.labels.items i.live i.free c.self.invariant c.args.slot (rw (← c.self.view_is) at c.requires)) in
    rw (← c.self.view_is) (label_count i.cells.items i.labels.items i.live i.free c.self.invariant c.args.slot (rw (← c.self.view_is) at c.requires) b.0 b.1 (worded at) (worded_linked c.args.word)
    (ap (chunk_by b.0) (the_label at)))
