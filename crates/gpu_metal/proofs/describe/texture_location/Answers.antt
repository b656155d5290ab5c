use Rattle.std.proofs.Common.{rules}
use Rattle.gpu_metal.proofs.describe.texture_location.Goals as goal

pub returns-in-Private : goal.returns-in-Private
returns-in-Private c = search rules
