-- A text of given bytes.
use Rattle.std.proofs.Common.{◌≡◌, ℕ, ◌<◌, ◌^◌, List, length, refl, arith, string_bytes}
use Rattle.std.specs.Str.{IsUtf8}
use Rattle.std.specs.declared.string.String.{String}
use Rattle.std.specs.declared.alloc.Global.{Global}
use denote.RawPtr.{null_ptr}

pub made : Global → (bs : List ℕ) → length bs < 2 ^ 63 → IsUtf8 bs → (s : String Global) × (string_bytes s ≡ bs)
made g bs small fine =
    (record { bytes = record { ptr = null_ptr; len = length bs; cap = length bs; alloc = g; items = bs; ok = (refl, omega arith); small = small }; ok = ∣ fine ∣₁ }, refl)
