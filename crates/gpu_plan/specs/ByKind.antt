-- The spans of what is placed, by kind.
use Rattle.std.specs.Prelude.{◌≡◌, ℕ, ◌+◌, ◌<◌, List, All, Contains, length, slice_index_or}
use Rattle.std.specs.List.Sorted.{IsNonDecreasingBy}
use Rattle.gpu_plan.specs.declared.resource.Placed.{Placed}
use Rattle.gpu_plan.specs.declared.resource.Kind.{Kind}
use Rattle.gpu_plan.specs.declared.resource.Kind.TheVariants.{Linear, Optimal}
use Rattle.gpu_plan.specs.declared.span.Span.{Span}
use Rattle.gpu_plan.specs.declared.by_kind.SpansByKind.{SpansByKind}
use Rattle.gpu_plan.specs.Span.{IsSpan}

-- the bytes of a placed resource, and the passes in which it is alive
abbrev pub span_of : Placed → Span
span_of p = record { first = p.resource.first; last = p.resource.last; start = p.offset; end = p.offset + p.resource.size }

-- a placed resource of this kind has the span
pub record IsSpanOf (kind : Kind) (placed : List Placed) (s : Span) : Type 0 where
  pub index : ℕ
  pub here : index < length placed
  pub kind_is : (d : Placed) → (slice_index_or placed index d).resource.kind ≡ kind
  pub span_is : (d : Placed) → span_of (slice_index_or placed index d) ≡ s

-- the spans of the placed resources of one kind, and no others
pub record AreSpansOf (kind : Kind) (placed : List Placed) (spans : List Span) : Type 0 where
  pub listed : All (λ p. p.resource.kind ≡ kind → Contains spans (span_of p)) placed
  pub only : All (IsSpanOf kind placed) spans

-- those of both kinds
pub record AreSpans (placed : List Placed) (s : SpansByKind) : Type 0 where
  pub linear : AreSpansOf Linear placed s.linear.items
  pub optimal : AreSpansOf Optimal placed s.optimal.items

-- no span is empty, and each begins where the one before it does, or behind
pub record AreOrdered (spans : List Span) : Type 0 where
  pub sized : All IsSpan spans
  pub sorted : IsNonDecreasingBy (λ s. s.start) spans

-- so are the spans of each kind
pub record BothOrdered (s : SpansByKind) : Type 0 where
  pub linear : AreOrdered s.linear.items
  pub optimal : AreOrdered s.optimal.items
