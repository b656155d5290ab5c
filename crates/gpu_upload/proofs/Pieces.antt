-- A new piece lies apart from those that were there, by their offsets.
use Rattle.std.proofs.Common.{ℕ, ◌%◌, ◌<◌, subst, Option, Some, None}
use Rattle.std.specs.Prelude.{IfSome}
use Rattle.gpu_ring.specs.Line.{IsTaken, IsTakenAt, Apart}

pub apart_at : (ring tail taken size : ℕ) (r : Option ℕ) → IfSome r (λ o. (q m : ℕ) → 0 < m → IsTaken ring tail taken q m → Apart (q % ring) m o size)
    → IfSome r (λ o. (p m : ℕ) → 0 < m → IsTakenAt ring tail taken p m → Apart p m o size)
apart_at ring tail taken size None h = tt
apart_at ring tail taken size (Some o) h = λ p m some lies. subst (λ k. Apart k m o size) lies.at (h lies.place m some lies.there)
