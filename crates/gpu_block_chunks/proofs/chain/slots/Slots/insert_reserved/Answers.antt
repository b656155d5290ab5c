use Rattle.std.proofs.Common.{◌≡◌, ◌+◌, ◌<◌, ◌^◌, length, sym, ◌∙◌, arith}
use Rattle.gpu_block_chunks.proofs.SlotFills.{whole, pushed_sound, pushed_was_free, pushed_changes, pushed_count, pushed_first}
use Rattle.gpu_block_chunks.proofs.SlotFills.{fill_within, fill_within_labels, filled_sound, filled_was_free, filled_changes, filled_count, filled_first}
use Rattle.gpu_block_chunks.proofs.chain.slots.Slots.insert_reserved.Goals as goal

-- ---- all slots are taken

pub push_reserved-requires : goal.push_reserved-requires
push_reserved-requires c =
    let all = whole c.self.inside.cells.items c.self.inside.labels.items c.self.inside.live c.self.inside.free c.self.invariant (sym c.slot.ensures ∙ c.in_default.is) in
    let room = rw (← c.self.view_is) at c.requires.room in
    omega arith

pub push_reserved-requires-in_default : goal.push_reserved-requires-in_default
push_reserved-requires-in_default c =
    let all = whole c.self.inside.cells.items c.self.inside.labels.items c.self.inside.live c.self.inside.free c.self.invariant (sym c.slot.ensures ∙ c.in_default.is) in
    let room = rw (← c.self.view_is) at c.requires.room in
    let named = c.self.invariant.named in
    omega arith

pub invariant_of-self : goal.invariant_of-self
invariant_of-self c =
    let few = rw (← c.self.view_is) at c.requires.few in
    let counted = c.self.invariant.sound.counted in
    let fits : c.self.inside.live + 1 < 2 ^ 32 = omega arith in
    rw (c.push_reserved.ensures.items, c.push_reserved-in_default.ensures.items, c.of.ensures)
    (pushed_sound c.self.inside.cells.items c.self.inside.labels.items c.self.inside.live c.self.inside.free c.self.invariant (sym c.slot.ensures ∙ c.in_default.is) c.parts-cell.result.0 c.parts-cell.result.1 c.args.chunk c.parts-cell.ensures fits)

pub returns-in_default-clause-was_free : goal.returns-in_default-clause-was_free
returns-in_default-clause-was_free c =
    let at : c.len-slot.result ≡ length c.self.inside.cells.items = omega arith in
    rw (← c.self.view_is, at)
    (pushed_was_free c.self.inside.cells.items c.self.inside.labels.items c.self.inside.live c.self.inside.free c.self.invariant (sym c.slot.ensures ∙ c.in_default.is) c.parts-cell.result.0 c.parts-cell.result.1 c.args.chunk c.parts-cell.ensures 0)

pub returns-in_default-clause-changes : goal.returns-in_default-clause-changes
returns-in_default-clause-changes c =
    let at : c.len-slot.result ≡ length c.self.inside.cells.items = omega arith in
    rw (← c.self.view_is, at, c.push_reserved.ensures.items, c.push_reserved-in_default.ensures.items, c.of.ensures)
    (pushed_changes c.self.inside.cells.items c.self.inside.labels.items c.self.inside.live c.self.inside.free c.self.invariant (sym c.slot.ensures ∙ c.in_default.is) c.parts-cell.result.0 c.parts-cell.result.1 c.args.chunk c.parts-cell.ensures _ _)

pub returns-in_default-clause-count : goal.returns-in_default-clause-count
returns-in_default-clause-count c =
    rw (← c.self.view_is, c.push_reserved.ensures.items, c.push_reserved-in_default.ensures.items, c.of.ensures)
    (pushed_count c.self.inside.cells.items c.self.inside.labels.items c.self.inside.live c.self.inside.free c.self.invariant (sym c.slot.ensures ∙ c.in_default.is) c.parts-cell.result.0 c.parts-cell.result.1 c.args.chunk c.parts-cell.ensures)

pub returns-in_default-clause-first : goal.returns-in_default-clause-first
returns-in_default-clause-first c =
    let at : c.len-slot.result ≡ length c.self.inside.cells.items = omega arith in
    rw (← c.self.view_is, at, c.push_reserved.ensures.items, c.push_reserved-in_default.ensures.items, c.of.ensures)
    (pushed_first c.self.inside.cells.items c.self.inside.labels.items c.self.inside.live c.self.inside.free c.self.invariant (sym c.slot.ensures ∙ c.in_default.is) c.parts-cell.result.0 c.parts-cell.result.1 c.args.chunk c.parts-cell.ensures 0 0)

-- ---- the first free slot is filled

pub index-requires : goal.index-requires
index-requires c =
    let inside = fill_within c.self.inside.cells.items c.self.inside.labels.items c.self.inside.live c.self.inside.free c.self.invariant c.in-Some.slot (sym c.slot.ensures ∙ c.in-Some.is) in
    omega arith

pub index_mut-requires : goal.index_mut-requires
index_mut-requires c =
    let inside = fill_within c.self.inside.cells.items c.self.inside.labels.items c.self.inside.live c.self.inside.free c.self.invariant c.in-Some.slot (sym c.slot.ensures ∙ c.in-Some.is) in
    omega arith

pub index_mut-requires-2 : goal.index_mut-requires-2
index_mut-requires-2 c =
    let inside = fill_within_labels c.self.inside.cells.items c.self.inside.labels.items c.self.inside.live c.self.inside.free c.self.invariant c.in-Some.slot (sym c.slot.ensures ∙ c.in-Some.is) in
    omega arith

pub invariant_of-self-2 : goal.invariant_of-self-2
invariant_of-self-2 c =
    rw c.set.ensures (filled_sound c.self.inside.cells.items c.self.inside.labels.items c.self.inside.live c.self.inside.free c.self.invariant c.in-Some.slot (sym c.slot.ensures ∙ c.in-Some.is) c.parts-cell.result.0 c.parts-cell.result.1
    c.args.chunk c.parts-cell.ensures c.index.result.now c.index.ensures)

pub returns-clause-was_free : goal.returns-clause-was_free
returns-clause-was_free c = rw (← c.self.view_is) (filled_was_free c.self.inside.cells.items c.self.inside.labels.items c.self.inside.live c.self.inside.free c.self.invariant c.in-Some.slot (sym c.slot.ensures ∙ c.in-Some.is) 0)

pub returns-clause-changes : goal.returns-clause-changes
returns-clause-changes c =
    rw (← c.self.view_is, c.set.ensures) (filled_changes c.self.inside.cells.items c.self.inside.labels.items c.self.inside.live c.self.inside.free c.self.invariant c.in-Some.slot (sym c.slot.ensures ∙ c.in-Some.is)
    c.parts-cell.result.0 c.parts-cell.result.1 c.args.chunk c.parts-cell.ensures _ _)

pub returns-clause-count : goal.returns-clause-count
returns-clause-count c =
    rw (← c.self.view_is, c.set.ensures) (filled_count c.self.inside.cells.items c.self.inside.labels.items c.self.inside.live c.self.inside.free c.self.invariant c.in-Some.slot (sym c.slot.ensures ∙ c.in-Some.is)
    c.parts-cell.result.0 c.parts-cell.result.1 c.args.chunk c.parts-cell.ensures)

pub returns-clause-first : goal.returns-clause-first
returns-clause-first c =
    rw (← c.self.view_is, c.set.ensures) (filled_first c.self.inside.cells.items c.self.inside.labels.items c.self.inside.live c.self.inside.free c.self.invariant c.in-Some.slot (sym c.slot.ensures ∙ c.in-Some.is)
    c.parts-cell.result.0 c.parts-cell.result.1 c.args.chunk c.parts-cell.ensures 0 0)
