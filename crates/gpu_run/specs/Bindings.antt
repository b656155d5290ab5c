-- What a caller's numbers stand for.
use Rattle.std.specs.Prelude.{◌≡◌, ◌≢◌, ℕ, ◌==◌, nat_eq, if◌then◌else◌, List, Option, Some}
use Rattle.std.specs.Map.{lookup}

-- what each number stands for, None for nothing
abbrev pub Bindings : Type 0 → Type 0
Bindings T = ℕ → Option T

-- the number stands for this from now on, None for nothing
abbrev pub bind : {T : Type 0} → Bindings T → (key : ℕ) → Option T → Bindings T
bind bound key to k = if key == k then to else bound k

-- what the entries of a map bind
abbrev pub bindings_of : {T : Type 0} → List (ℕ × T) → Bindings T
bindings_of entries key = lookup (nat_eq key) entries

-- each number stands for something live, and no two for one thing
pub record AreOwn {T : Type 0} (IsLive : T → Type 0) (AreDistinct : T → T → Type 0) (bound : Bindings T) : Type 0 where
  pub live : (key : ℕ) (a : T) → bound key ≡ Some a → IsLive a
  pub apart : (key other : ℕ) (a b : T) → bound key ≡ Some a → bound other ≡ Some b → key ≢ other → AreDistinct a b
