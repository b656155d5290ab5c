use Rattle.std.proofs.Common.{[], sym, ap, ◌∙◌, arith}
use Rattle.std.specs.FinMap.{get, insert}
use Rattle.gpu_device.specs.Metal as device
use Rattle.gpu_sim_base.proofs.Holding.{not_held, added}
use Rattle.gpu_sim_metal.specs.Objects.{entry_of, held_by}
use Rattle.gpu_sim_metal.specs.declared.objects.Object.TheVariants.{Set}
use Rattle.gpu_sim_metal.proofs.Sets.{roomy_add, length_add, set_entry}
use Rattle.gpu_sim_metal.proofs.objects.Objects.hold_set.Goals as goal

pub invariant_of-self : goal.invariant_of-self
invariant_of-self c =
    let ss = c.make_room.new.self.numbers.slots.items in
    let set = Set c.in_ok-set.set in
    let room = c.make_room.new.self.room in
    record {
      roomy = roomy_add ss _ room set c.add.result c.make_room.new.self.roomy (omega (arith, c.in_ok-set.ensures.room)) c.add.ensures.held c.add.ensures.refused;
      fits = omega (arith, length_add ss _ set c.add.result c.add.ensures.held c.add.ensures.refused, c.in_ok-make_room.ensures.room);
    }

pub returns-clause-new : goal.returns-clause-new
returns-clause-new c =
    ap (λ h. get h c.in_ok-number.number) (sym c.make_room.ensures.held)
    ∙ not_held entry_of c.make_room.new.self.numbers.slots.items c.in_ok-number.number (omega (arith, c.in_ok-number.ensures.number))

pub returns-clause-held : goal.returns-clause-held
returns-clause-held c =
    ap held_by c.in_ok-number.ensures.held
    ∙ added entry_of c.make_room.new.self.numbers.slots.items (Set c.in_ok-set.set) c.in_ok-number.number c.in_ok-number.ensures.number
    ∙ ap (insert (held_by c.make_room.new.self.numbers.slots.items) c.in_ok-number.number) (set_entry c.in_ok-set.set [] [] c.in_ok-set.ensures.members c.in_ok-set.ensures.committed)
    ∙ ap (λ h. insert h c.in_ok-number.number (device.Set [] [])) c.make_room.ensures.held
