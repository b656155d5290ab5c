-- What an answer to a question changes: an entry more under a new number, or a refusal more.
use Rattle.std.specs.Prelude.{ℕ, ◌≡◌, ◌≢◌, Option, Some, None, IfSome}
use Rattle.std.specs.Ordering.{nat_cmp}
use Rattle.std.specs.FinMap.{FinMap, get, insert}
use Rattle.gpu_device.specs.Held.{raised}

module _ {E : Type 0} where
  -- a granted number isn't null, and nothing was held under it
  abbrev pub IsNew : FinMap nat_cmp E → Option ℕ → Type 0
  IsNew held granted = IfSome granted (λ number. (number ≢ 0) × (get held number ≡ None))

  -- the same with this entry under the number that was granted; a refusal changes nothing
  abbrev pub with_granted : FinMap nat_cmp E → Option ℕ → E → FinMap nat_cmp E
  with_granted held None entry = held
  with_granted held (Some number) entry = insert held number entry

-- the count of refusals after an answer
abbrev pub counted : ℕ → Option ℕ → ℕ
counted count None = raised count
counted count (Some number) = count
