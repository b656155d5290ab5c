use Rattle.std.proofs.Common.{◌∙◌, sym, refl, subst, Err}
use Rattle.gpu_vulkan.specs.Rename.{RenamesBy}
use Rattle.gpu_vulkan.proofs.rename.rename.Goals as goal

pub returns-in-Err-clause-renames : goal.returns-in-Err-clause-renames
returns-in-Err-clause-renames g c =
    let e = c.in-Err.ensures in
    let a = c.args.allocation.now in
    subst (λ o. RenamesBy a o c.args.name.now c.args.pool.now.slots (Err c.in-Err.error) a c.rename_piece.new.pool.slots)
    (sym c.in-Some.is ∙ c.piece.ensures) (e.cause, refl, e.refused)
