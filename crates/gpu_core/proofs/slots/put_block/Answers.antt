use Rattle.std.proofs.Common.{◌≡◌, length, arith, sym, subst}
use Rattle.gpu_core.specs.TypeTake.{with_block}
use Rattle.gpu_core.specs.Slots.{slot_of, slots_of}
use Rattle.gpu_core.proofs.Putting.{put_slots, push_slots}
use Rattle.gpu_core.proofs.slots.put_block.Goals as goal

pub returns-then-slot-len-clause-slots : goal.returns-then-slot-len-clause-slots
returns-then-slot-len-clause-slots g c = put_slots c.args.slots.now.items c.args.slot c.args.block (omega (arith, c.if-slot-len.true, c.len.ensures))

pub returns-else-slot-len-clause-slots : goal.returns-else-slot-len-clause-slots
returns-else-slot-len-clause-slots g c =
    let old = c.args.slots.now.items in
    let new = c.push_reserved.new.self.items in
    let last : length old ≡ c.args.slot = omega (arith, c.requires.within, c.if-slot-len.false, c.len.ensures) in
    let pushed = subst (λ i. slots_of new ≡ with_block (slots_of old) i (slot_of c.args.block)) last in
    pushed (subst (λ xs. slots_of xs ≡ with_block (slots_of old) (length old) (slot_of c.args.block)) (sym c.push_reserved.ensures.items) (push_slots old c.args.block))
