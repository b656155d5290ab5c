use Rattle.std.proofs.Common.{Result, Ok, Err, arith}
use Rattle.std.specs.Result.{OnOk}
use Rattle.gpu_block_chunks.proofs.SlotRows.{length-slots, free_room}
use Rattle.gpu_block_chunks.proofs.chain.slots.Slots.reserve.Goals as goal

on_ok : {T E : Type 0} (r : Result T E) (P Q : Type 0) → (P → Q) → OnOk r P → OnOk r Q
on_ok (Ok x) P Q f ok = f ok
on_ok (Err e) P Q f ok = tt

pub overflow_sub-free : goal.overflow_sub-free
overflow_sub-free c =
    let total = c.self.invariant.sound.total in
    let named = c.self.invariant.named in
    let long = length-slots c.self.inside.cells.items c.self.inside.labels.items named in
    omega arith

-- less is wanted behind the free slots than in all
pub overflow_sub-more : goal.overflow_sub-more
overflow_sub-more c =
    let i = c.self.inside in
    let free = free_room i.cells.items i.labels.items i.live c.room.result c.self.invariant.named c.self.invariant.sound.counted (rw (← c.self.view_is) at c.room.ensures.free) in
    omega arith

pub overflow_sub-more-2 : goal.overflow_sub-more-2
overflow_sub-more-2 c =
    let i = c.self.inside in
    let free = free_room i.cells.items i.labels.items i.live c.room.result c.self.invariant.named c.self.invariant.sound.counted (rw (← c.self.view_is) at c.room.ensures.free) in
    omega arith

pub returns-clause-room : goal.returns-clause-room
returns-clause-room c =
    let total = c.self.invariant.sound.total in
    let named = c.self.invariant.named in
    let long = length-slots c.self.inside.cells.items c.self.inside.labels.items named in
    let labels = c.in_ok-reserve.ensures.ok in
    let kept = c.in_ok-reserve.ensures.len in
    let same = c.reserve-2.ensures.len in
    on_ok c.reserve-2.result _ _ (λ cells. omega arith) c.reserve-2.ensures.ok
