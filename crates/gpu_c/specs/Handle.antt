-- What lies behind a handle.
use Rattle.std.specs.Prelude.{Option, Some, None}

-- something lay behind the handle and still does, and the two are in the relation
abbrev pub Changes : {V : Type 0} → Option V → Option V → (V → V → Type 0) → Type 0
Changes None new R = ⊥
Changes (Some old) None R = ⊥
Changes (Some old) (Some new) R = R old new
