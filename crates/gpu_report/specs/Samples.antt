-- Samples of what memory types hold, one for each command, and what is told of several.
use Rattle.std.specs.Prelude.{ℕ, ◌-◌, ◌+◌, ◌^◌, ◌==◌, if◌then◌else◌, List, [], ◌∷◌, Option, min, max, length, slice_range, zero, suc, ◌++◌}
use Rattle.std.specs.List.{slice_index_or}
use Rattle.gpu_core.specs.TypeState.{Slot, capacity_of}
use Rattle.gpu_core.specs.TypeReport.{allocated_of}
use Rattle.gpu_report.specs.Picture.{place}
use Rattle.gpu_report.specs.Svg.{capped}
use Rattle.gpu_report.specs.declared.timeline.samples.Usage.{Usage}
use Rattle.gpu_report.specs.declared.timeline.samples.Sample.{Sample}
use Rattle.gpu_report.specs.declared.timeline.samples.Measure.{Measure}
use Rattle.gpu_report.specs.declared.timeline.samples.Measure.TheVariants.{Blocks, Pieces, Refused, Types}

-- the bytes of the live blocks in these slots, and of their pieces with the padding
abbrev pub usage_of : {H : Type 0} → List (Option (Slot H)) → Usage
usage_of slots = record { blocks = capacity_of slots; pieces = allocated_of slots }

-- a memory type that holds nothing
abbrev pub no_usage : Usage
no_usage = record { blocks = 0; pieces = 0 }

-- what a sample tells of the t-th memory type; one that it doesn't have, as behind the end of an allocator, holds nothing
abbrev pub usage_at : (t : ℕ) → Sample → Usage
usage_at t s = slice_index_or s.usages.items t no_usage

-- what is measured of a sample: bytes, whether its command was refused, the number of memory types
abbrev pub amount : Measure → Sample → ℕ
amount (Blocks t) s = (usage_at t s).blocks
amount (Pieces t) s = (usage_at t s).pieces
amount Refused s = if s.refused then 1 else 0
amount Types s = length s.usages.items

-- the greatest amount, 0 where there is no sample
abbrev pub greatest : Measure → List Sample → ℕ
greatest m [] = 0
greatest m (s ∷ samples) = max (amount m s) (greatest m samples)

-- the least amount, and the greatest number of 64 bits where there is no sample
abbrev pub least : Measure → List Sample → ℕ
least m [] = 2 ^ 64 - 1
least m (s ∷ samples) = min (amount m s) (least m samples)

-- the line of the first sample with that amount, 0 where there is none
abbrev pub first_line : Measure → (wanted : ℕ) → List Sample → ℕ
first_line m wanted [] = 0
first_line m wanted (s ∷ samples) = if amount m s == wanted then s.line else first_line m wanted samples

-- the sum of the amounts beside another, which stops at the largest number of 64 bits
abbrev pub sum : Measure → (before : ℕ) → List Sample → ℕ
sum m before [] = before
sum m before (s ∷ samples) = sum m (capped (before + amount m s)) samples

-- ---- columns

-- in how many columns samples are drawn: each in one of its own, but in a thousand at most
abbrev pub column_count : List Sample → ℕ
column_count samples = min (length samples) 1000

-- the samples of the j-th of so many columns: all columns have as many, but for one
unfoldable pub column : (count j : ℕ) → List Sample → List Sample
column count j samples = slice_range samples (place count (length samples) j) (place count (length samples) (j + 1))

-- the samples of the first n columns
abbrev pub columns : (count : ℕ) → List Sample → (n : ℕ) → List Sample
columns count samples zero = []
columns count samples (suc n) = columns count samples n ++ column count n samples
