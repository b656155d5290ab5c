-- Words that are spelled again and compared.
use Rattle.std.proofs.Common.{◌≡◌, ◌<◌, ◌^◌, Bool, true, false, ℕ, List, arith, ℤ, pos, negsuc}
use Rattle.std.specs.Prelude.{FitsSigned}
use Rattle.std.specs.Int.{w32}
use Rattle.std.specs.Str.{bytes_eq}
use Rattle.std.specs.Int.Signed.{mag}
use Rattle.std.proofs.lemmas.Slice.Eq.{bytes_eq-Decides}

pub differ : (xs ys : List ℕ) (r : Bool) → r ≡ bytes_eq xs ys → r ≡ false → xs ≡ ys → ⊥
differ xs ys r is unequal same = let equal : bytes_eq xs ys ≡ true = (bytes_eq-Decides xs ys).1 same in cc

pub mag_below : (z : ℤ) → FitsSigned w32 z → mag z < 2 ^ 63
mag_below (pos n) h = omega arith
mag_below (negsuc n) h = omega arith
