-- None and Some are never the same, and Some of two values only where these are.
use Rattle.std.proofs.Common.{◌≡◌, Some, None, Ok, Err, Result, OnErr}

pub none_some : {A : Type 0} (x : A) → None ≡ Some x → ⊥
none_some x e = cc

pub some_same : {A : Type 0} (x y : A) → Some x ≡ Some y → x ≡ y
some_same x y e = cc

-- what holds anyway holds of a refusal
pub on_any_error : {V E : Type 0} (r : Result V E) (X : Type 0) → X → OnErr r X
on_any_error (Ok v) X x = tt
on_any_error (Err e) X x = x
