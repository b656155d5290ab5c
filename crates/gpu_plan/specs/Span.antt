-- Where a resource may lie beside the spans of placed ones. Spans of its own kind have pages of one byte.
use Rattle.std.specs.Prelude.{◌≡◌, ℕ, ◌+◌, ◌-◌, ◌/◌, ◌%◌, ◌^◌, ◌<◌, ◌≤◌, ◌⊎◌, List, All, length, slice_index_or}
use Rattle.gpu_plan.specs.declared.resource.Resource.{Resource}
use Rattle.gpu_plan.specs.declared.span.Span.{Span}
use Rattle.gpu_plan.specs.declared.span.Reached.{Reached}

-- a span isn't empty
abbrev pub IsSpan : Span → Type 0
IsSpan s = s.start < s.end

-- some pass has both
abbrev pub IsAlive : Resource → Span → Type 0
IsAlive r s = (r.first ≤ s.last) × (s.first ≤ r.last)

-- the offset lies on a page behind the one on which the span ends
abbrev pub IsPassed : (page : ℕ) → (o : ℕ) → Span → Type 0
IsPassed page o s = (s.end - 1) / page < o / page

-- the span begins on a page behind the one on which the resource ends
abbrev pub IsBehind : (page : ℕ) → Resource → (o : ℕ) → Span → Type 0
IsBehind page r o s = (o + r.size - 1) / page < s.start / page

-- at offset o the resource shares no page with a span while both are alive
abbrev pub IsClear : (page : ℕ) → Resource → (o : ℕ) → Span → Type 0
IsClear page r o s = IsAlive r s → IsPassed page o s ⊎ IsBehind page r o s

-- the resource may lie at o
pub record IsBeside (page : ℕ) (same other : List Span) (r : Resource) (o : ℕ) : Type 0 where
  pub aligned : o % r.alignment ≡ 0
  pub beside_same : All (IsClear 1 r o) same
  pub beside_other : All (IsClear page r o) other

-- the offset is past the first spans
abbrev pub ArePassed : (page : ℕ) → Resource → (o : ℕ) → List Span → (count : ℕ) → Type 0
ArePassed page r o spans count = (k : ℕ) (d : Span) → k < count → IsAlive r (slice_index_or spans k d) → IsPassed page o (slice_index_or spans k d)

-- from o on, the resource is clear of all spans at no offset before this one, and at this one
pub record IsReached (page : ℕ) (r : Resource) (o : ℕ) (spans : List Span) (s : Reached) : Type 0 where
  pub up : o ≤ s.offset
  pub end : s.offset + r.size < 2 ^ 64
  pub aligned : s.offset % r.alignment ≡ 0
  pub within : s.next ≤ length spans
  pub passed : ArePassed page r s.offset spans s.next
  pub clear : All (IsClear page r s.offset) spans
  pub least : (q : ℕ) → o ≤ q → q < s.offset → q % r.alignment ≡ 0 → All (IsClear page r q) spans → ⊥

-- from o on, the resource is clear of all spans only where its end passes 64 bits
abbrev pub NoneFrom : (page : ℕ) → Resource → (o : ℕ) → List Span → Type 0
NoneFrom page r o spans = (q : ℕ) → o ≤ q → q % r.alignment ≡ 0 → All (IsClear page r q) spans → 2 ^ 64 ≤ q + r.size
