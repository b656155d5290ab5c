-- What a memory type is, as callers see it.
use Rattle.std.proofs.Common.{◌≡◌, refl, ℕ, zero, suc, [], ◌∷◌}
use Rattle.gpu_core.specs.Types.{Types, type_of, kinds}
use Rattle.gpu_pool.specs.State.{kind_at}

pub kind_is : {H : Type 0} (types : Types H) (t : ℕ) → ((type_of types t).is_host, (type_of types t).granularity) ≡ kind_at (kinds types) t
kind_is [] t = refl
kind_is (x ∷ xs) zero = refl
kind_is (x ∷ xs) (suc t) = kind_is xs t
