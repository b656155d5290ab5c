-- What a test of two placed resources tells of a plan.
use Rattle.std.proofs.Common.{◌≢◌, ◌⊎◌, inl, inr, ℕ, ◌<◌, List, length, get_or}
use Rattle.std.proofs.lemmas.Bool.{cases_lt}
use Rattle.gpu_plan.specs.declared.resource.Resource.{Resource}
use Rattle.gpu_plan.specs.Plan.{resource_at, ShareByte}
use Rattle.gpu_plan.specs.Best.{NoneMeet}
use Rattle.gpu_plan.specs.Reuse.{Reuses}

-- two that share a byte aren't alive in one pass, so one of them begins after the other's life
pub one_reuses : (page : ℕ) (resources : List Resource) (offsets : List ℕ) (i j : ℕ) → NoneMeet page resources offsets → i < length resources → j < length resources → i ≢ j
    → ShareByte (get_or offsets i 0) (resource_at resources i).size (get_or offsets j 0) (resource_at resources j).size → Reuses resources offsets i j ⊎ Reuses resources offsets j i
one_reuses page resources offsets i j apart i_lt j_lt differ share =
    elim (cases_lt (resource_at resources j).last (resource_at resources i).first) [
      | inl after ↦ inl (record { over = after; bytes = (share.1, share.0) })
      | inr begun ↦ elim (cases_lt (resource_at resources i).last (resource_at resources j).first) [
        | inl before ↦ inr (record { over = before; bytes = share })
        | inr going ↦ absurd (apart i j i_lt j_lt differ ((begun, going), inl share))
      ]
    ]
