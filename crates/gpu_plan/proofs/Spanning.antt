-- Past the spans of placed resources, in order of their first byte.
use Rattle.std.proofs.Common.{◌≡◌, ◌∙◌, sym, ap, subst, ℕ, ◌+◌, ◌-◌, ◌/◌, ◌%◌, ◌^◌, ◌<◌, ◌≤◌, inl, inr, List, length, get_or, arith}
use Rattle.std.specs.Prelude.{All}
use Rattle.std.specs.List.Sorted.{IsNonDecreasingBy}
use Rattle.gpu_plan.specs.declared.resource.Resource.{Resource}
use Rattle.gpu_plan.specs.declared.span.Span.{Span}
use Rattle.gpu_plan.specs.declared.span.Reached.{Reached}
use Rattle.gpu_plan.specs.Span.{IsAlive, IsPassed, IsBehind, IsClear, IsBeside, ArePassed, IsReached, NoneFrom}
use Rattle.std.proofs.lemmas.Bool.{cases_lt}
use Rattle.std.proofs.lemmas.List.{get_or_default}
use Rattle.gpu_plan.proofs.Paging.{page_mono}

-- in a loop over spans: those before next are passed at the offset, and no offset before it is clear of all
pub record Reaching (page : ℕ) (r : Resource) (o : ℕ) (spans : List Span) (next offset : ℕ) : Type 0 where
  pub up : o ≤ offset
  pub end : offset + r.size < 2 ^ 64
  pub aligned : offset % r.alignment ≡ 0
  pub within : next ≤ length spans
  pub passed : ArePassed page r offset spans next
  pub least : (q : ℕ) → o ≤ q → q < offset → q % r.alignment ≡ 0 → All (IsClear page r q) spans → ⊥

-- between two lists
pub record Between (page : ℕ) (same other : List Span) (r : Resource) (o same_next other_next : ℕ) : Type 0 where
  pub aligned : o % r.alignment ≡ 0
  pub same_in : same_next ≤ length same
  pub other_in : other_next ≤ length other
  pub same_passed : ArePassed 1 r o same same_next
  pub other_passed : ArePassed page r o other other_next
  pub least : (q : ℕ) → q < o → IsBeside page same other r q → ⊥

pub reaching_first : (page : ℕ) (r : Resource) (o : ℕ) (spans : List Span) (next : ℕ) → next ≤ length spans → o + r.size < 2 ^ 64 → o % r.alignment ≡ 0 → ArePassed page r o spans next → Reaching page r o spans next o
reaching_first page r o spans next within end multiple passed = record {
  up = omega arith;
  end = end;
  aligned = multiple;
  within = within;
  passed = passed;
  least = λ q from to. absurd (omega arith);
}

pub passed_up : (page : ℕ) (r : Resource) (o p : ℕ) (spans : List Span) (count : ℕ) → 0 < page → o ≤ p → ArePassed page r o spans count → ArePassed page r p spans count
passed_up page r o p spans count pos le passed k d lt alive =
    let before = passed k d lt alive in
    let more : o / page ≤ p / page = page_mono page o p pos le in
    omega arith

pub passed_more : (page : ℕ) (r : Resource) (o : ℕ) (spans : List Span) (i : ℕ) (e : Span) → i < length spans → ArePassed page r o spans i → (IsAlive r (get_or spans i e) → IsPassed page o (get_or spans i e)) → ArePassed page r o spans (i + 1)
passed_more page r o spans i e in_list passed one k d lt alive = elim (cases_lt k i) [
  | inl before ↦ passed k d before alive
  | inr last ↦
      let k_is : k ≡ i = omega arith in
      let same : get_or spans k d ≡ get_or spans i e = ap (λ (j : ℕ). get_or spans j d) k_is ∙ get_or_default spans i d e in_list in
      subst (λ (s : Span). IsPassed page o s) (sym same) (one (subst (λ (s : Span). IsAlive r s) same alive))
]

-- one more span is passed where the offset is
pub reaching_on : (page : ℕ) (r : Resource) (o : ℕ) (spans : List Span) (next offset : ℕ) (e : Span) → next < length spans → Reaching page r o spans next offset → (IsAlive r (get_or spans next e) → IsPassed page offset (get_or spans next e)) → Reaching page r o spans (next + 1) offset
reaching_on page r o spans next offset e lt s one = record {
  up = s.up;
  end = s.end;
  aligned = s.aligned;
  within = omega arith;
  passed = passed_more page r offset spans next e lt s.passed one;
  least = s.least;
}

-- an offset from which a span isn't behind, and that isn't past it: none before the next one is clear
pub barred : (page : ℕ) (r : Resource) (offset q : ℕ) (span : Span) → 0 < page → 0 < r.size → offset ≤ q → IsAlive r span → span.start / page ≤ (offset + r.size - 1) / page → IsClear page r q span → IsPassed page q span
barred page r offset q span pos sized from alive reaches clear = elim (clear alive) [
  | inl passed ↦ passed
  | inr behind ↦
      let more : (offset + r.size - 1) / page ≤ (q + r.size - 1) / page = page_mono page (offset + r.size - 1) (q + r.size - 1) pos (omega arith) in
      absurd (omega arith)
]

-- the next span is passed at a later offset
pub reaching_past : (page : ℕ) (r : Resource) (o : ℕ) (spans : List Span) (next offset n : ℕ) (e : Span) → 0 < page → 0 < r.size → next < length spans → Reaching page r o spans next offset → IsAlive r (get_or spans next e) →
    (get_or spans next e).start / page ≤ (offset + r.size - 1) / page → offset / page ≤ ((get_or spans next e).end - 1) / page → IsPassed page n (get_or spans next e) → n % r.alignment ≡ 0 → n + r.size < 2 ^ 64 →
    ((q : ℕ) → IsPassed page q (get_or spans next e) → q % r.alignment ≡ 0 → n ≤ q) → Reaching page r o spans (next + 1) n
reaching_past page r o spans next offset n e pos sized lt s alive reaches here passed multiple end least =
    let beyond : offset ≤ n = elim (cases_lt n offset) [
      | inl below ↦ let less : n / page ≤ offset / page = page_mono page n offset pos (omega arith) in absurd (omega arith)
      | inr ge ↦ ge
    ] in
    let up = s.up in
    record {
      up = omega arith;
      end = end;
      aligned = multiple;
      within = omega arith;
      passed = passed_more page r n spans next e lt (passed_up page r offset n spans next pos beyond s.passed) (λ _. passed);
      least = λ q from to aligned clear. elim (cases_lt q offset) [
        | inl before ↦ s.least q from before aligned clear
        | inr after ↦
            let least_here = least q (barred page r offset q (get_or spans next e) pos sized after alive reaches (clear next e lt)) aligned in
            absurd (omega arith)
      ];
    }

pub reaching_none : (page : ℕ) (r : Resource) (o : ℕ) (spans : List Span) (next offset : ℕ) (e : Span) → 0 < page → 0 < r.size → next < length spans → Reaching page r o spans next offset → IsAlive r (get_or spans next e) →
    (get_or spans next e).start / page ≤ (offset + r.size - 1) / page → ((q : ℕ) → IsPassed page q (get_or spans next e) → q % r.alignment ≡ 0 → 2 ^ 64 ≤ q + r.size) → NoneFrom page r o spans
reaching_none page r o spans next offset e pos sized lt s alive reaches none q from aligned clear = elim (cases_lt q offset) [
  | inl before ↦ absurd (s.least q from before aligned clear)
  | inr after ↦ none q (barred page r offset q (get_or spans next e) pos sized after alive reaches (clear next e lt)) aligned
]

pub reached : (page : ℕ) (r : Resource) (o : ℕ) (spans : List Span) (next offset : ℕ) → Reaching page r o spans next offset → ((k : ℕ) (d : Span) → next ≤ k → k < length spans → IsBehind page r offset (get_or spans k d)) → IsReached page r o spans (record { offset = offset; next = next })
reached page r o spans next offset s behind = record {
  up = s.up;
  end = s.end;
  aligned = s.aligned;
  within = s.within;
  passed = s.passed;
  clear = λ k d lt alive. elim (cases_lt k next) [
    | inl before ↦ inl (s.passed k d before alive)
    | inr after ↦ inr (behind k d after lt)
  ];
  least = s.least;
}

pub behind_on : (page : ℕ) (r : Resource) (offset : ℕ) (spans : List Span) (next : ℕ) (e : Span) → 0 < page → next < length spans → IsNonDecreasingBy (λ s. s.start) spans → IsBehind page r offset (get_or spans next e) → (k : ℕ) (d : Span) → next ≤ k → k < length spans → IsBehind page r offset (get_or spans k d)
behind_on page r offset spans next e pos lt sorted behind k d from in_list =
    let e_is : get_or spans next e ≡ get_or spans next d = get_or_default spans next e d lt in
    let here : IsBehind page r offset (get_or spans next d) = subst (λ (s : Span). IsBehind page r offset s) e_is behind in
    let up : (get_or spans next d).start ≤ (get_or spans k d).start = sorted next k d from in_list in
    let more : (get_or spans next d).start / page ≤ (get_or spans k d).start / page = page_mono page (get_or spans next d).start (get_or spans k d).start pos up in
    omega arith

-- the resource may lie nowhere before an offset that one list alone bars it from
abbrev pub BarredBefore : (page : ℕ) → (same other : List Span) → Resource → ℕ → Type 0
BarredBefore page same other r o = (q : ℕ) → q < o → IsBeside page same other r q → ⊥

barred_by_same : (page : ℕ) (same other : List Span) (r : Resource) (o : ℕ) (a : Reached) → BarredBefore page same other r o → IsReached 1 r o same a → BarredBefore page same other r a.offset
barred_by_same page same other r o a below at q lt beside = elim (cases_lt q o) [
  | inl before ↦ below q before beside
  | inr after ↦ at.least q after lt beside.aligned beside.beside_same
]

barred_by_other : (page : ℕ) (same other : List Span) (r : Resource) (o : ℕ) (b : Reached) → BarredBefore page same other r o → IsReached page r o other b → BarredBefore page same other r b.offset
barred_by_other page same other r o b below at q lt beside = elim (cases_lt q o) [
  | inl before ↦ below q before beside
  | inr after ↦ at.least q after lt beside.aligned beside.beside_other
]

-- neither list moves the offset any more
pub between_found : (page : ℕ) (same other : List Span) (r : Resource) (o same_next other_next : ℕ) (a b : Reached) → Between page same other r o same_next other_next → IsReached 1 r o same a → IsReached page r a.offset other b → b.offset ≡ a.offset →
    IsBeside page same other r b.offset × (b.offset + r.size < 2 ^ 64) × ((q : ℕ) → IsBeside page same other r q → b.offset ≤ q)
between_found page same other r o same_next other_next a b s at_same at_other stays = (
  record {
    aligned = at_other.aligned;
    beside_same = subst (λ (x : ℕ). All (IsClear 1 r x) same) (sym stays) at_same.clear;
    beside_other = at_other.clear;
  },
  at_other.end,
  λ q beside. elim (cases_lt q b.offset) [
    | inl lt ↦ absurd (barred_by_other page same other r a.offset b (barred_by_same page same other r o a s.least at_same) at_other q lt beside)
    | inr ge ↦ ge
  ],
)

pub between_on : (page : ℕ) (same other : List Span) (r : Resource) (o same_next other_next : ℕ) (a b : Reached) → Between page same other r o same_next other_next → IsReached 1 r o same a → IsReached page r a.offset other b → Between page same other r b.offset a.next b.next
between_on page same other r o same_next other_next a b s at_same at_other = record {
  aligned = at_other.aligned;
  same_in = at_same.within;
  other_in = at_other.within;
  same_passed = passed_up 1 r a.offset b.offset same a.next (omega arith) at_other.up at_same.passed;
  other_passed = at_other.passed;
  least = barred_by_other page same other r a.offset b (barred_by_same page same other r o a s.least at_same) at_other;
}

pub none_by_same : (page : ℕ) (same other : List Span) (r : Resource) (o same_next other_next : ℕ) → Between page same other r o same_next other_next → NoneFrom 1 r o same → (q : ℕ) → IsBeside page same other r q → 2 ^ 64 ≤ q + r.size
none_by_same page same other r o same_next other_next s none q beside = elim (cases_lt q o) [
  | inl before ↦ absurd (s.least q before beside)
  | inr after ↦ none q after beside.aligned beside.beside_same
]

pub none_by_other : (page : ℕ) (same other : List Span) (r : Resource) (o same_next other_next : ℕ) (a : Reached) → Between page same other r o same_next other_next → IsReached 1 r o same a → NoneFrom page r a.offset other → (q : ℕ) → IsBeside page same other r q → 2 ^ 64 ≤ q + r.size
none_by_other page same other r o same_next other_next a s at_same none q beside = elim (cases_lt q a.offset) [
  | inl before ↦ absurd (barred_by_same page same other r o a s.least at_same q before beside)
  | inr after ↦ none q after beside.aligned beside.beside_other
]

pub between_past : (page : ℕ) (same other : List Span) (r : Resource) (o same_next other_next : ℕ) → Between page same other r o same_next other_next → 2 ^ 64 ≤ o + r.size → (q : ℕ) → IsBeside page same other r q → 2 ^ 64 ≤ q + r.size
between_past page same other r o same_next other_next s past q beside = elim (cases_lt q o) [
  | inl before ↦ absurd (s.least q before beside)
  | inr after ↦ omega arith
]
