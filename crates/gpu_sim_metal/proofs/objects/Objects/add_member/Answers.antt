use Rattle.std.proofs.Common.{sym, ap, ◌∙◌, arith}
use Rattle.gpu_device.specs.Metal.{Set, add_member}
use Rattle.gpu_sim_metal.specs.Objects.{held_by}
use Rattle.gpu_sim_metal.proofs.Sets.{after, none_taken, changed, unchanged, set_entry, roomy_after, length_after, room_in, heap_positive, heap_within}
use Rattle.gpu_sim_metal.proofs.objects.Objects.add_member.Goals as goal

pub add-requires-clause-number : goal.add-requires-clause-number
add-requires-clause-number c = heap_positive c.args.self.now.numbers.slots.items c.args.heap.0 c.requires

pub add-requires-clause-room : goal.add-requires-clause-room
add-requires-clause-room c =
    let ss = c.args.self.now.numbers.slots.items in
    let enough = room_in ss c.args.number _ c.in-Some.set (c.args.self.now.roomy c.args.number) (sym c.take_set.ensures.set ∙ c.in-Some.is) in
    omega (arith, heap_within ss c.args.heap.0 c.requires, c.args.self.now.fits, enough)

pub invariant_of-self : goal.invariant_of-self
invariant_of-self c =
    let ss = c.args.self.now.numbers.slots.items in
    let there = after ss _ _ c.args.number _ c.in-Some.set c.add.new.self c.take_set.ensures.slots c.in-Some.is c.put.ensures in
    record {
      roomy = roomy_after ss _ c.args.number c.args.self.now.room c.in-Some.set c.add.new.self there c.args.self.now.roomy (sym c.take_set.ensures.set ∙ c.in-Some.is)
          (omega (arith, c.add.ensures.room));
      fits = omega (arith, length_after ss _ c.args.number c.add.new.self there, c.args.self.now.fits);
    }

pub returns-in-Some-clause-held : goal.returns-in-Some-clause-held
returns-in-Some-clause-held c =
    let ss = c.args.self.now.numbers.slots.items in
    ap held_by (after ss _ _ c.args.number _ c.in-Some.set c.add.new.self c.take_set.ensures.slots c.in-Some.is c.put.ensures)
    ∙ changed ss c.args.number c.in-Some.set c.add.new.self (λ members committed. Set (add_member members c.args.heap) committed)
    (sym c.take_set.ensures.set ∙ c.in-Some.is)
    (set_entry c.add.new.self (add_member c.in-Some.set.members.items c.args.heap) c.in-Some.set.committed.items c.add.ensures.members c.add.ensures.committed)

pub returns-in_default-clause-held : goal.returns-in_default-clause-held
returns-in_default-clause-held c =
    let ss = c.args.self.now.numbers.slots.items in
    ap held_by (none_taken ss _ c.args.number _ c.take_set.ensures.slots c.in_default.is)
    ∙ unchanged ss c.args.number (λ members committed. Set (add_member members c.args.heap) committed) (sym c.take_set.ensures.set ∙ c.in_default.is)
