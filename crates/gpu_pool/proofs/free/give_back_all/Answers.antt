use Rattle.std.proofs.Common.{◌∙◌, refl, sym, subst}
use Rattle.gpu_core.specs.Types.{slots_of}
use Rattle.gpu_pool.specs.Free.{GivesBackAll}
use Rattle.gpu_pool.specs.Held.{HoldsJust}
use Rattle.gpu_pool.proofs.Emptying.{holds_listed}
use Rattle.gpu_pool.proofs.free.give_back_all.Goals as goal

pub loop-handle-init : goal.loop-handle-init
loop-handle-init g c =
    let B = g.S.BlockSource in
    let held = B.held c.args.source.now in
    let slots = slots_of c.args.types.now in
    let listed = c.into_iter-handle-iterator.ensures.into_iter_gives ∙ c.all_handles-handle-items.ensures in
    record {
      holds = subst (HoldsJust B.number held) (sym listed) (holds_listed B.number held slots c.requires);
      gives_back = λ final gives. subst (λ handles. GivesBackAll B.gives_back c.args.source.now handles final) listed gives;
      constant = refl;
    }
