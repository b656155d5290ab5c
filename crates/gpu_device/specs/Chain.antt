-- The list that a chain of snapshots stands for.
use Rattle.std.specs.Prelude.{List, [], ◌∷◌}
use Rattle.gpu_device.specs.declared.chain.Chain.{Chain, Empty, Then'}

module _ {E : Type 0} where
  abbrev pub listed : Chain E → List E
  listed Empty = []
  listed (Then' entry shape before) = entry.value ∷ listed before
