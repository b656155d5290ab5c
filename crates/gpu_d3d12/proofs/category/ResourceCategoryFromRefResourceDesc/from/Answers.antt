use Rattle.std.proofs.Common.{rules}
use Rattle.gpu_d3d12.proofs.category.ResourceCategoryFromRefResourceDesc.from.Goals as goal

pub returns-then-eq : goal.returns-then-eq
returns-then-eq c = search rules

pub returns-then-desc-ne0-2 : goal.returns-then-desc-ne0-2
returns-then-desc-ne0-2 c = search rules

pub returns-else-desc-ne0-2 : goal.returns-else-desc-ne0-2
returns-else-desc-ne0-2 c = search rules
