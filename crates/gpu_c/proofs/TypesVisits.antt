-- What is read of memory types: a leak by its number.
use Rattle.std.proofs.Common.{◌≡◌, ◌∙◌, refl, sym, ℕ, List, Option, Some, None}
use Rattle.std.specs.List.{slice_get}
use Rattle.std.specs.Option.{option_map}
use Rattle.std.proofs.lemmas.Iterator.Consumers.{nth_from_yields_List, YieldsList-from_first}
use Rattle.std.specs.Iterator.{SkipsThenYields, YieldsFirst}
use Rattle.gpu_block_pieces.specs.Leak.{LeakOf}

-- ---- a leak by its number

same_leak : (r : Option LeakOf) → option_map (λ (x : LeakOf). x) r ≡ r
same_leak None = refl
same_leak (Some leak) = refl

-- the leak that comes behind so many others
pub nth_leak : (leaks : List LeakOf) (r : Option LeakOf) (rest : List LeakOf) (n : ℕ) → SkipsThenYields (YieldsFirst (λ (s : List LeakOf). s)) leaks n r rest → r ≡ slice_get leaks n
nth_leak leaks r rest n ran = sym (same_leak r) ∙ nth_from_yields_List r rest n ran (YieldsList-from_first (λ (x : LeakOf). x) (λ (s : List LeakOf). s) leaks refl)
