use Rattle.std.proofs.Common.{None, sym, ap, subst, ◌∙◌, length, arith}
use Rattle.gpu_sim_base.proofs.Holding.{length_put}
use Rattle.gpu_sim_metal.specs.Objects.{held_by, AllHaveRoom}
use Rattle.gpu_sim_metal.proofs.Sets.{heap_removed, heap_not_there, roomy_removed}
use Rattle.gpu_sim_metal.proofs.objects.Objects.release_heap.Goals as goal

pub invariant_of-self : goal.invariant_of-self
invariant_of-self c =
    let ss = c.args.self.now.numbers.slots.items in
    record {
      roomy = subst (AllHaveRoom c.args.self.now.room) (sym c.remove.ensures) (roomy_removed ss c.args.number c.args.self.now.room c.args.self.now.roomy);
      fits = omega (arith, ap length c.remove.ensures, length_put ss c.args.number None, c.args.self.now.fits);
    }

pub returns-then-is_heap-clause-held : goal.returns-then-is_heap-clause-held
returns-then-is_heap-clause-held c =
    ap held_by c.remove.ensures ∙ heap_removed c.args.self.now.numbers.slots.items c.args.number (sym c.is_heap.ensures ∙ c.if-is_heap.true)

pub returns-else-is_heap-clause-held : goal.returns-else-is_heap-clause-held
returns-else-is_heap-clause-held c = heap_not_there c.args.self.now.numbers.slots.items c.args.number (sym c.is_heap.ensures ∙ c.if-is_heap.false)
