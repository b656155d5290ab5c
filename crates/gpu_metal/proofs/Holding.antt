-- A device that holds a residency set holds it still once it holds another entry.
use Rattle.std.proofs.Common.{◌≡◌, ℕ, Option, Some, None}
use Rattle.std.specs.FinMap.{get, insert}
use Rattle.gpu_device.specs.Metal.{Entry, Held}
use Rattle.gpu_device.specs.declared.metal.types.MTLResidencySet.{MTLResidencySet}
use Rattle.gpu_device.proofs.HeapsAndSets.{insert-keeps_set}
use Rattle.gpu_metal.specs.Residency.{HoldsSet}

pub set_stays : (h : Held) (n : ℕ) (e : Entry) (set : Option MTLResidencySet) → get h n ≡ None → HoldsSet h set → HoldsSet (insert h n e) set
set_stays h n e None new holds = tt
set_stays h n e (Some set) new holds = insert-keeps_set h n e set.0 new holds
