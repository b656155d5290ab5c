-- What is clear of the spans of both kinds meets nothing that is placed, and the other way round.
use Rattle.std.proofs.Common.{◌≡◌, ◌∙◌, refl, sym, ap, subst, ◌≢◌, ℕ, ◌+◌, ◌-◌, ◌/◌, ◌^◌, ◌<◌, ◌≤◌, ◌⊎◌, inl, inr, Bool, true, false, List, [], ◌∷◌, ◌++◌, length, get_or, arith}
use Rattle.std.specs.Prelude.{All, MatchOption, Option, Some, None}
use Rattle.std.specs.List.Sorted.{IsPermutation}
use Rattle.gpu_plan.specs.declared.resource.Resource.{Resource}
use Rattle.gpu_plan.specs.declared.resource.Placed.{Placed}
use Rattle.gpu_plan.specs.declared.resource.Kind.{Kind}
use Rattle.gpu_plan.specs.declared.resource.Kind.TheVariants.{Linear, Optimal}
use Rattle.gpu_plan.specs.declared.span.Span.{Span}
use Rattle.gpu_plan.specs.Plan.{Meets, IsFree, IsLeast, no_resource}
use Rattle.gpu_plan.specs.Span.{IsSpan, IsClear, IsBeside}
use Rattle.gpu_plan.specs.ByKind.{span_of, IsSpanOf, AreSpansOf}
use Rattle.std.proofs.lemmas.Bool.{cases_lt, both_ways}
use Rattle.std.proofs.lemmas.List.{length-append}
use Rattle.std.proofs.lemmas.List.Elements.{All-contains, All-contains_itself, All-cons, Contains-append_left, Contains-append_right}
use Rattle.std.proofs.lemmas.List.Sorted.{All-permutation, Contains-permutation}
use Rattle.std.proofs.Math.ListN.{get_or-append}
use Rattle.std.proofs.Math.Seq.{get_or-append_seam}
use Rattle.gpu_plan.proofs.Paging.{page_mono}

abbrev pub nothing : Placed
nothing = record { resource = no_resource; offset = 0 }

-- of the kind: apart by bytes
pub clear_same : (page : ℕ) (r : Resource) (o : ℕ) (p : Placed) → r.kind ≡ p.resource.kind → IsClear 1 r o (span_of p) → Meets page r o p → ⊥
clear_same page r o p same clear meets = elim meets.1 [
  | inr pages ↦ pages.0 same
  | inl bytes ↦ elim (clear meets.0) [
    | inl passed ↦ let low = bytes.0 in absurd (omega arith)
    | inr behind ↦ let high = bytes.1 in absurd (omega arith)
  ]
]

pub apart_same : (page : ℕ) (r : Resource) (o : ℕ) (p : Placed) → 0 < r.size → IsSpan (span_of p) → (Meets page r o p → ⊥) → IsClear 1 r o (span_of p)
apart_same page r o p sized span apart alive = elim (cases_lt o (p.offset + p.resource.size)) [
  | inr past ↦ inl (omega arith)
  | inl low ↦ elim (cases_lt p.offset (o + r.size)) [
    | inr behind ↦ inr (omega arith)
    | inl high ↦ absurd (apart (alive, inl (low, high)))
  ]
]

-- of the other kind: apart by pages
pub clear_other : (page : ℕ) (r : Resource) (o : ℕ) (p : Placed) → 0 < page → IsClear page r o (span_of p) → Meets page r o p → ⊥
clear_other page r o p pos clear meets = elim (clear meets.0) [
  | inl passed ↦ elim meets.1 [
    | inr pages ↦ let low = pages.1.0 in absurd (omega arith)
    | inl bytes ↦
        let low = bytes.0 in
        let le : o / page ≤ (p.offset + p.resource.size - 1) / page = page_mono page o (p.offset + p.resource.size - 1) pos (omega arith) in
        absurd (omega arith)
  ]
  | inr behind ↦ elim meets.1 [
    | inr pages ↦ let high = pages.1.1 in absurd (omega arith)
    | inl bytes ↦
        let high = bytes.1 in
        let le : p.offset / page ≤ (o + r.size - 1) / page = page_mono page p.offset (o + r.size - 1) pos (omega arith) in
        absurd (omega arith)
  ]
]

pub apart_other : (page : ℕ) (r : Resource) (o : ℕ) (p : Placed) → r.kind ≢ p.resource.kind → (Meets page r o p → ⊥) → IsClear page r o (span_of p)
apart_other page r o p differ apart alive = elim (cases_lt ((p.offset + p.resource.size - 1) / page) (o / page)) [
  | inl passed ↦ inl passed
  | inr low ↦ elim (cases_lt ((o + r.size - 1) / page) (p.offset / page)) [
    | inl behind ↦ inr behind
    | inr high ↦ absurd (apart (alive, inr (differ, (low, high))))
  ]
]

-- ---- lists

pub free_from : (page : ℕ) (kind apart : Kind) (placed : List Placed) (same other : List Span) (r : Resource) (o : ℕ) → 0 < page → r.kind ≡ kind → ((k : Kind) → (k ≡ kind) ⊎ (k ≡ apart)) → AreSpansOf kind placed same → AreSpansOf apart placed other → IsBeside page same other r o → IsFree page placed r o
free_from page kind apart placed same other r o pos kind_is either are_same are_other beside = record {
  aligned = beside.aligned;
  apart = λ k d lt meets. elim (either (get_or placed k d).resource.kind) [
    | inl is_same ↦ clear_same page r o (get_or placed k d) (kind_is ∙ sym is_same) (All-contains (IsClear 1 r o) same (span_of (get_or placed k d)) beside.beside_same (are_same.listed k d lt is_same)) meets
    | inr is_other ↦ clear_other page r o (get_or placed k d) pos (All-contains (IsClear page r o) other (span_of (get_or placed k d)) beside.beside_other (are_other.listed k d lt is_other)) meets
  ];
}

pub free_to : (page : ℕ) (kind apart : Kind) (placed : List Placed) (same other : List Span) (r : Resource) (o : ℕ) → 0 < r.size → r.kind ≡ kind → (kind ≡ apart → ⊥) → All IsSpan same → AreSpansOf kind placed same → AreSpansOf apart placed other → IsFree page placed r o → IsBeside page same other r o
free_to page kind apart placed same other r o sized kind_is differ spans are_same are_other free = record {
  aligned = free.aligned;
  beside_same = λ k d lt.
      let one = are_same.only k d lt in
      let p : Placed = get_or placed one.index nothing in
      let is_span : IsSpan (span_of p) = subst (λ (s : Span). IsSpan s) (sym (one.span_is nothing)) (spans k d lt) in
      subst (λ (s : Span). IsClear 1 r o s) (one.span_is nothing) (apart_same page r o p sized is_span (free.apart one.index nothing one.here));
  beside_other = λ k d lt.
      let one = are_other.only k d lt in
      let p : Placed = get_or placed one.index nothing in
      let unlike : r.kind ≢ p.resource.kind = λ e. differ (sym kind_is ∙ (e ∙ one.kind_is nothing)) in
      subst (λ (s : Span). IsClear page r o s) (one.span_is nothing) (apart_other page r o p unlike (free.apart one.index nothing one.here));
}

-- what a search beside both lists found, said of what is placed
pub found_from : (page : ℕ) (kind apart : Kind) (placed : List Placed) (same other : List Span) (r : Resource) (found : Option ℕ) → 0 < page → 0 < r.size → r.kind ≡ kind → (kind ≡ apart → ⊥) → ((k : Kind) → (k ≡ kind) ⊎ (k ≡ apart)) → All IsSpan same → AreSpansOf kind placed same → AreSpansOf apart placed other →
    MatchOption found ((q : ℕ) → IsBeside page same other r q → 2 ^ 64 ≤ q + r.size) (λ o. IsBeside page same other r o × (o + r.size < 2 ^ 64) × ((q : ℕ) → IsBeside page same other r q → o ≤ q)) →
    MatchOption found ((o : ℕ) → IsFree page placed r o → 2 ^ 64 ≤ o + r.size) (λ o. IsLeast page placed r o × (o + r.size < 2 ^ 64))
found_from page kind apart placed same other r None pos sized kind_is differ either spans are_same are_other none = λ o free. none o (free_to page kind apart placed same other r o sized kind_is differ spans are_same are_other free)
found_from page kind apart placed same other r (Some o) pos sized kind_is differ either spans are_same are_other found = (
  record {
    free = free_from page kind apart placed same other r o pos kind_is either are_same are_other found.0;
    least = λ q free. found.2 q (free_to page kind apart placed same other r q sized kind_is differ spans are_same are_other free);
  },
  found.1,
)

pub linear_or_optimal : (k : Kind) → (k ≡ Linear) ⊎ (k ≡ Optimal)
linear_or_optimal Linear = inl refl
linear_or_optimal Optimal = inr refl

pub optimal_or_linear : (k : Kind) → (k ≡ Optimal) ⊎ (k ≡ Linear)
optimal_or_linear Linear = inr refl
optimal_or_linear Optimal = inl refl

is_linear : Kind → Bool
is_linear Linear = true
is_linear Optimal = false

pub apart_kinds : Linear ≡ Optimal → ⊥
unfolding is_linear
apart_kinds e = both_ways true (ap is_linear e) refl

pub kinds_apart : Optimal ≡ Linear → ⊥
kinds_apart e = apart_kinds (sym e)

-- ---- one more is placed

more_span : (kind : Kind) (placed : List Placed) (x : Placed) (s : Span) → IsSpanOf kind placed s → IsSpanOf kind (placed ++ (x ∷ [])) s
more_span kind placed x s one =
    let len : length (placed ++ (x ∷ [])) ≡ length placed + 1 = length-append placed (x ∷ []) in
    let low = one.here in
    record {
      index = one.index;
      here = omega arith;
      kind_is = λ d. rw (get_or-append placed (x ∷ []) d one.index low) (one.kind_is d);
      span_is = λ d. rw (get_or-append placed (x ∷ []) d one.index low) (one.span_is d);
    }

last_span : (kind : Kind) (placed : List Placed) (x : Placed) → x.resource.kind ≡ kind → IsSpanOf kind (placed ++ (x ∷ [])) (span_of x)
last_span kind placed x same =
    let len : length (placed ++ (x ∷ [])) ≡ length placed + 1 = length-append placed (x ∷ []) in
    record {
      index = length placed;
      here = omega arith;
      kind_is = λ d. rw (get_or-append_seam placed x [] d) same;
      span_is = λ d. rw (get_or-append_seam placed x [] d) refl;
    }

pub spans_more : (kind : Kind) (placed : List Placed) (spans new : List Span) (x : Placed) → x.resource.kind ≡ kind → IsPermutation (span_of x ∷ spans) new → AreSpansOf kind placed spans → AreSpansOf kind (placed ++ (x ∷ [])) new
spans_more kind placed spans new x same moved are =
    let len : length (placed ++ (x ∷ [])) ≡ length placed + 1 = length-append placed (x ∷ []) in
    let front : List Span = span_of x ∷ [] in
    record {
      listed = λ k d lt. elim (cases_lt k (length placed)) [
        | inl low ↦ rw (get_or-append placed (x ∷ []) d k low) (λ is. Contains-permutation (span_of x ∷ spans) new (span_of (get_or placed k d)) moved (Contains-append_right front spans (span_of (get_or placed k d)) (are.listed k d low is)))
        | inr ge ↦
            let at : k ≡ length placed = omega arith in
            rw (at, get_or-append_seam placed x [] d) (λ is. Contains-permutation (span_of x ∷ spans) new (span_of x) moved (Contains-append_left front spans (span_of x) (All-contains_itself front 0 (span_of x) (omega arith))))
      ];
      only = All-permutation (IsSpanOf kind (placed ++ (x ∷ []))) (span_of x ∷ spans) new moved
          (All-cons (IsSpanOf kind (placed ++ (x ∷ []))) (span_of x) spans (last_span kind placed x same) (λ k d lt. more_span kind placed x (get_or spans k d) (are.only k d lt)));
    }

pub spans_same : (kind : Kind) (placed : List Placed) (spans : List Span) (x : Placed) → (x.resource.kind ≡ kind → ⊥) → AreSpansOf kind placed spans → AreSpansOf kind (placed ++ (x ∷ [])) spans
spans_same kind placed spans x differ are =
    let len : length (placed ++ (x ∷ [])) ≡ length placed + 1 = length-append placed (x ∷ []) in
    record {
      listed = λ k d lt. elim (cases_lt k (length placed)) [
        | inl low ↦ rw (get_or-append placed (x ∷ []) d k low) (are.listed k d low)
        | inr ge ↦
            let at : k ≡ length placed = omega arith in
            rw (at, get_or-append_seam placed x [] d) (λ is. absurd (differ is))
      ];
      only = λ k d lt. more_span kind placed x (get_or spans k d) (are.only k d lt);
    }
