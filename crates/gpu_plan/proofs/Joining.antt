-- What a resource that joins a set leaves of the sets.
use Rattle.std.proofs.Common.{◌≡◌, ap, refl, Bool, true, false, zero, suc, ◌<◌, ◌≤◌, List, [], ◌∷◌, ◌++◌, length, slice_set, slice_index_or, arith}
use Rattle.std.specs.Prelude.{if◌then◌else◌}
use Rattle.gpu_plan.specs.Sets.{may_join, narrowed, set_for, joined}
use Rattle.gpu_plan.specs.declared.sets.MemoryNeeds.{MemoryNeeds}

module _ (r : MemoryNeeds) where
  within_by : (b : Bool) (sets : List MemoryNeeds) → set_for r sets ≤ length sets → (if b then zero else suc (set_for r sets)) ≤ suc (length sets)
  within_by true sets h = omega arith
  within_by false sets h = omega (arith, h)

  -- no set lies behind the one that would be new
  pub within : (sets : List MemoryNeeds) → set_for r sets ≤ length sets
  within [] = omega arith
  within (s ∷ sets) = within_by (may_join r s) sets (within sets)

  begins_by : (b : Bool) (s : MemoryNeeds) (sets : List MemoryNeeds) → (if b then zero else suc (set_for r sets)) ≡ suc (length sets)
      → (set_for r sets ≡ length sets → joined r sets ≡ sets ++ (r ∷ []))
      → (if b then narrowed s r ∷ sets else s ∷ joined r sets) ≡ s ∷ (sets ++ (r ∷ []))
  begins_by true s sets h rest = absurd (omega (arith, h))
  begins_by false s sets h rest = ap (λ ss. s ∷ ss) (rest (omega (arith, h)))

  -- a new set begins with the resource
  pub begins : (sets : List MemoryNeeds) → set_for r sets ≡ length sets → joined r sets ≡ sets ++ (r ∷ [])
  begins [] h = refl
  begins (s ∷ sets) h = begins_by (may_join r s) s sets h (begins sets)

  joins_by : (b : Bool) (s : MemoryNeeds) (sets : List MemoryNeeds) (d : MemoryNeeds) → (if b then zero else suc (set_for r sets)) < suc (length sets)
      → (set_for r sets < length sets → joined r sets ≡ slice_set sets (set_for r sets) (narrowed (slice_index_or sets (set_for r sets) d) r))
      → (if b then narrowed s r ∷ sets else s ∷ joined r sets)
      ≡ slice_set (s ∷ sets) (if b then zero else suc (set_for r sets)) (narrowed (slice_index_or (s ∷ sets) (if b then zero else suc (set_for r sets)) d) r)
  joins_by true s sets d h rest = refl
  joins_by false s sets d h rest = ap (λ ss. s ∷ ss) (rest (omega (arith, h)))

  -- a set that is there is narrowed to the memory types that serve the resource too
  pub joins : (sets : List MemoryNeeds) (d : MemoryNeeds) → set_for r sets < length sets
      → joined r sets ≡ slice_set sets (set_for r sets) (narrowed (slice_index_or sets (set_for r sets) d) r)
  joins [] d h = absurd (omega (arith, h))
  joins (s ∷ sets) d h = joins_by (may_join r s) s sets d h (joins sets d)
