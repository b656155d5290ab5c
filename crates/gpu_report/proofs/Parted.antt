-- The columns, one behind another.
use Rattle.std.proofs.Common.{◌≡◌, ℕ, zero, suc, ◌+◌, ◌-◌, ◌<◌, ◌≤◌, List, [], ◌∷◌, ◌++◌, length, take, drop, refl, sym, ap, ◌∙◌, arith}
use Rattle.std.specs.Prelude.{slice_range}
use Rattle.std.proofs.lemmas.Bool.Decides.{nat_tests}
use Rattle.std.proofs.lemmas.List.{take-take, drop-take, take-append-drop, take_all}
use Rattle.std.proofs.Math.Nat.{mul-div_cancel_left}
use Rattle.gpu_report.specs.Picture.{place}
use Rattle.gpu_report.proofs.Drawn.{place-in_order}
use Rattle.gpu_report.specs.Samples.{column, columns, column_count}
use Rattle.gpu_report.specs.declared.timeline.samples.Sample.{Sample}

take-add : {X : Type 0} (a b : ℕ) (xs : List X) → take a xs ++ take b (drop a xs) ≡ take (a + b) xs
take-add a b xs =
    ap (λ ys. ys ++ take b (drop a xs)) (sym (take-take a (a + b) xs (omega arith)))
    ∙ ap (λ ys. take a (take (a + b) xs) ++ ys) (sym (drop-take a b xs))
    ∙ take-append-drop a (take (a + b) xs)

range-next : {X : Type 0} (a b : ℕ) (xs : List X) → a ≤ b → take a xs ++ slice_range xs a b ≡ take b xs
range-next a b xs le = take-add a (b - a) xs ∙ ap (λ n. take n xs) (omega arith)

place-first : (size width : ℕ) → place size width 0 ≡ 0
unfolding place
place-first size width = grind (arith, nat_tests)

place-last : (size width : ℕ) → 0 < size → place size width size ≡ width
unfolding place
place-last size width some = grind (arith, nat_tests, mul-div_cancel_left width some)

column-is : (count n : ℕ) (samples : List Sample) → column count n samples ≡ slice_range samples (place count (length samples) n) (place count (length samples) (n + 1))
unfolding column
column-is count n samples = refl

first-columns : (count n : ℕ) (samples : List Sample) → columns count samples n ≡ take (place count (length samples) n) samples
first-columns count zero samples = ap (λ k. take k samples) (sym (place-first count (length samples)))
first-columns count (suc n) samples =
    ap (λ ys. ys ++ column count n samples) (first-columns count n samples)
    ∙ ap (λ ys. take (place count (length samples) n) samples ++ ys) (column-is count n samples)
    ∙ range-next (place count (length samples) n) (place count (length samples) (n + 1)) samples (place-in_order count (length samples) n (n + 1) (omega arith)).0
    ∙ ap (λ k. take (place count (length samples) k) samples) (omega arith)

pub all-columns : (samples : List Sample) → columns (column_count samples) samples (column_count samples) ≡ samples
all-columns [] = refl
all-columns (s ∷ samples) =
    first-columns (column_count (s ∷ samples)) (column_count (s ∷ samples)) (s ∷ samples)
    ∙ ap (λ k. take k (s ∷ samples)) (place-last (column_count (s ∷ samples)) (length (s ∷ samples)) (omega arith))
    ∙ take_all (length (s ∷ samples)) (s ∷ samples) (omega arith)
