-- What is told of samples, with one more.
use Rattle.std.proofs.Common.{◌≡◌, ℕ, ◌-◌, ◌^◌, ◌≤◌, List, [], ◌∷◌, length, drop, max, min, arith}
use Rattle.std.proofs.Math.ListN.{drop_of_length-le}
use Rattle.gpu_report.specs.Samples.{amount, greatest, least}
use Rattle.gpu_report.specs.declared.timeline.samples.Sample.{Sample}
use Rattle.gpu_report.specs.declared.timeline.samples.Measure.{Measure}

pub greatest-next : (m : Measure) (most total : ℕ) (s : Sample) (xs rest : List Sample) → xs ≡ s ∷ rest → max most (greatest m xs) ≡ total → max (max (amount m s) most) (greatest m rest) ≡ total
greatest-next m most total s xs rest e h =
    let both : max most (max (amount m s) (greatest m rest)) ≡ total = rw e at h in
    omega arith

pub least-next : (m : Measure) (fewest total : ℕ) (s : Sample) (xs rest : List Sample) → xs ≡ s ∷ rest → min fewest (least m xs) ≡ total → min (min (amount m s) fewest) (least m rest) ≡ total
least-next m fewest total s xs rest e h =
    let both : min fewest (min (amount m s) (least m rest)) ≡ total = rw e at h in
    omega arith

-- every amount of a column is a number of 64 bits, or there is none
least-top : (m : Measure) (samples : List Sample) → least m samples ≤ 2 ^ 64 - 1
least-top m [] = omega arith
least-top m (s ∷ samples) = let rest = least-top m samples in omega arith

pub least-first : (m : Measure) (samples : List Sample) → min (2 ^ 64 - 1) (least m samples) ≡ least m samples
least-first m samples = let top = least-top m samples in omega arith

pub min-below : (a b : ℕ) → b ≤ 2 ^ 64 - 1 → min a b ≤ 2 ^ 64 - 1
min-below a b le = omega arith

pub least-last : (m : Measure) (fewest total : ℕ) (samples : List Sample) (i : ℕ) → length samples ≤ i → min fewest (least m (drop i samples)) ≡ total → fewest ≤ 2 ^ 64 - 1 → fewest ≡ total
least-last m fewest total samples i le h bound =
    let none : drop i samples ≡ [] = drop_of_length-le samples le in
    let both : min fewest (2 ^ 64 - 1) ≡ total = rw none at h in
    omega arith
