use Rattle.std.proofs.Common.{sym, ap, ◌∙◌, arith}
use Rattle.gpu_device.specs.Metal.{Set}
use Rattle.gpu_sim_metal.specs.Objects.{held_by}
use Rattle.gpu_sim_metal.proofs.Sets.{after, none_taken, changed, unchanged, set_entry, roomy_after, length_after}
use Rattle.gpu_sim_metal.proofs.objects.Objects.commit.Goals as goal

pub invariant_of-self : goal.invariant_of-self
invariant_of-self c =
    let ss = c.args.self.now.numbers.slots.items in
    let there = after ss _ _ c.args.number _ c.in-Some.set c.commit.new.self c.take_set.ensures.slots c.in-Some.is c.put.ensures in
    record {
      roomy = roomy_after ss _ c.args.number c.args.self.now.room c.in-Some.set c.commit.new.self there c.args.self.now.roomy (sym c.take_set.ensures.set ∙ c.in-Some.is)
          (omega (arith, c.commit.ensures.room));
      fits = omega (arith, length_after ss _ c.args.number c.commit.new.self there, c.args.self.now.fits);
    }

pub returns-in-Some-clause-held : goal.returns-in-Some-clause-held
returns-in-Some-clause-held c =
    let ss = c.args.self.now.numbers.slots.items in
    ap held_by (after ss _ _ c.args.number _ c.in-Some.set c.commit.new.self c.take_set.ensures.slots c.in-Some.is c.put.ensures)
    ∙ changed ss c.args.number c.in-Some.set c.commit.new.self (λ members committed. Set members members)
    (sym c.take_set.ensures.set ∙ c.in-Some.is)
    (set_entry c.commit.new.self c.in-Some.set.members.items c.in-Some.set.members.items c.commit.ensures.members c.commit.ensures.committed)

pub returns-in_default-clause-held : goal.returns-in_default-clause-held
returns-in_default-clause-held c =
    let ss = c.args.self.now.numbers.slots.items in
    ap held_by (none_taken ss _ c.args.number _ c.take_set.ensures.slots c.in_default.is)
    ∙ unchanged ss c.args.number (λ members committed. Set members members) (sym c.take_set.ensures.set ∙ c.in_default.is)
