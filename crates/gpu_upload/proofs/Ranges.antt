-- A range of bytes, and what a write leaves of it.
use Rattle.std.proofs.Common.{◌≡◌, ◌∙◌, sym, ap, cond, ℕ, ◌+◌, ◌≤◌, List, length, take, drop, Option, Some, None}
use Rattle.gpu_device.specs.Held.{range_in}
use Rattle.gpu_device.proofs.Writes.{fits_within}

pub range_there : (ys : List ℕ) (o m : ℕ) → o + m ≤ length ys → range_in o m (Some ys) ≡ Some (take m (drop o ys))
range_there ys o m fits = ap (λ b. cond b (Some (take m (drop o ys))) None) (fits_within (o + m) (length ys) fits)

-- what stands in a range that wasn't written over stands there still
pub range_kept : (xs ws bytes : List ℕ) (before after : Option (List ℕ)) (o m : ℕ) → before ≡ Some xs → after ≡ Some ws → o + m ≤ length xs → o + m ≤ length ws
    → take m (drop o ws) ≡ take m (drop o xs) → range_in o m before ≡ Some bytes → range_in o m after ≡ Some bytes
range_kept xs ws bytes before after o m was is fits still same has =
    ap (range_in o m) is ∙ (range_there ws o m still ∙ (ap (λ zs. Some zs) same ∙ (sym (range_there xs o m fits) ∙ (sym (ap (range_in o m) was) ∙ has))))

-- what was written stands there
pub range_written : (ws bytes : List ℕ) (after : Option (List ℕ)) (o : ℕ) → after ≡ Some ws → o + length bytes ≤ length ws → take (length bytes) (drop o ws) ≡ bytes
    → range_in o (length bytes) after ≡ Some bytes
range_written ws bytes after o is fits same = ap (range_in o (length bytes)) is ∙ (range_there ws o (length bytes) fits ∙ ap (λ zs. Some zs) same)
