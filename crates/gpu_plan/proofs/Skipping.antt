-- What an offset that meets a placed resource rules out.
use Rattle.std.proofs.Common.{◌≡◌, ◌∙◌, sym, ap, subst, ◌≢◌, ℕ, ◌+◌, ◌-◌, ◌/◌, ◌%◌, ◌^◌, ◌<◌, ◌≤◌, inl, inr, List, length, get_or, arith}
use Rattle.gpu_plan.specs.declared.resource.Resource.{Resource}
use Rattle.gpu_plan.specs.declared.resource.Placed.{Placed}
use Rattle.gpu_plan.specs.declared.place.Outcome.TheVariants.{Free, Next, Past}
use Rattle.gpu_plan.specs.Plan.{Overlap, ShareByte, SharePage, Meets, IsFree}
use Rattle.gpu_plan.specs.Outcomes.{Skips, Tries}
use Rattle.std.proofs.lemmas.Bool.{cases_lt}
use Rattle.std.proofs.lemmas.List.{get_or_default}
use Rattle.gpu_plan.proofs.Paging.{page_mono}

-- from o to before end the resource meets p
pub record Blocks (page : ℕ) (r : Resource) (o : ℕ) (p : Placed) (end : ℕ) : Type 0 where
  pub beyond : o < end
  pub covers : (q : ℕ) → o ≤ q → q < end → Meets page r q p

pub blocks_bytes : (page : ℕ) (r : Resource) (o : ℕ) (p : Placed) (end : ℕ) → Overlap r p.resource → ShareByte o r.size p.offset p.resource.size → end ≡ p.offset + p.resource.size → Blocks page r o p end
blocks_bytes page r o p end alive share e =
    let low = share.0 in
    let high = share.1 in
    record { beyond = omega arith; covers = λ q from to. (alive, inl (omega arith, omega arith)) }

-- the pages that a later offset reaches are none fewer
pub reaches : (page o q size start : ℕ) → 0 < page → o ≤ q → start / page ≤ (o + size - 1) / page → start / page ≤ (q + size - 1) / page
reaches page o q size start pos from h =
    let more : (o + size - 1) / page ≤ (q + size - 1) / page = page_mono page (o + size - 1) (q + size - 1) pos (omega arith) in
    omega arith

pub blocks_page : (page : ℕ) (r : Resource) (o : ℕ) (p : Placed) (end : ℕ) → 0 < page → Overlap r p.resource → r.kind ≢ p.resource.kind → SharePage page o r.size p.offset p.resource.size →
    ((q : ℕ) → q < end → q / page ≤ (p.offset + p.resource.size - 1) / page) → ((q : ℕ) → q / page ≤ (p.offset + p.resource.size - 1) / page → q < end) → Blocks page r o p end
blocks_page page r o p end pos alive differ share on off =
    record {
      beyond = off o share.0;
      covers = λ q from to. (alive, inr (differ, (on q to, reaches page o q r.size p.offset pos from share.1)));
    }

pub none_past_page : (page : ℕ) (r : Resource) (o : ℕ) (p : Placed) → 0 < page → Overlap r p.resource → r.kind ≢ p.resource.kind → SharePage page o r.size p.offset p.resource.size →
    ((q : ℕ) → q < 2 ^ 64 → q / page ≤ (p.offset + p.resource.size - 1) / page) → Skips page r o p Past
none_past_page page r o p pos alive differ share on q from multiple small =
    (alive, inr (differ, (on q small, reaches page o q r.size p.offset pos from share.1)))

pub skips_next : (page : ℕ) (r : Resource) (o : ℕ) (p : Placed) (end n : ℕ) → Blocks page r o p end → end ≤ n → n % r.alignment ≡ 0 → ((q : ℕ) → end ≤ q → q % r.alignment ≡ 0 → n ≤ q) → Skips page r o p (Next n)
skips_next page r o p end n b up multiple least =
    let beyond = b.beyond in (
      omega arith,
      multiple,
      λ q from to aligned.
          elim (cases_lt q end) [
            | inl before ↦ b.covers q from before
            | inr after ↦ let l = least q after aligned in absurd (omega arith)
          ],
    )

pub skips_past : (page : ℕ) (r : Resource) (o : ℕ) (p : Placed) (end : ℕ) → Blocks page r o p end → ((q : ℕ) → end ≤ q → q % r.alignment ≡ 0 → 2 ^ 64 ≤ q) → Skips page r o p Past
skips_past page r o p end b least q from aligned small =
    elim (cases_lt q end) [
      | inl before ↦ b.covers q from before
      | inr after ↦ let l = least q after aligned in absurd (omega arith)
    ]

-- the first ones are passed, from o to at
pub record Swept (page : ℕ) (placed : List Placed) (r : Resource) (o i at : ℕ) : Type 0 where
  pub up : o ≤ at
  pub here : at ≡ o → (k : ℕ) (d : Placed) → k < i → Meets page r o (get_or placed k d) → ⊥
  pub multiple : o < at → at % r.alignment ≡ 0
  pub blocked : (q : ℕ) → o ≤ q → q < at → IsFree page placed r q → ⊥

pub swept_none : (page : ℕ) (placed : List Placed) (r : Resource) (o : ℕ) → Swept page placed r o 0 o
swept_none page placed r o = record {
  up = omega arith;
  here = λ same k d lt. absurd (omega arith);
  multiple = λ lt. absurd (omega arith);
  blocked = λ q from to. absurd (omega arith);
}

pub swept_free : (page : ℕ) (placed : List Placed) (r : Resource) (o i at : ℕ) (e : Placed) → i < length placed → Swept page placed r o i at → (Meets page r at (get_or placed i e) → ⊥) → Swept page placed r o (i + 1) at
swept_free page placed r o i at e in_list s free = record {
  up = s.up;
  here = λ same k d lt meets. elim (cases_lt k i) [
    | inl before ↦ s.here same k d before meets
    | inr last ↦
        let k_is : k ≡ i = omega arith in
        let one : get_or placed k d ≡ get_or placed i e = ap (λ (j : ℕ). get_or placed j d) k_is ∙ get_or_default placed i d e in_list in
        let moved : Meets page r o (get_or placed i e) = subst (λ (p : Placed). Meets page r o p) one meets in
        free (subst (λ (x : ℕ). Meets page r x (get_or placed i e)) (sym same) moved)
  ];
  multiple = s.multiple;
  blocked = s.blocked;
}

pub swept_next : (page : ℕ) (placed : List Placed) (r : Resource) (o i at n : ℕ) (e : Placed) → i < length placed → Swept page placed r o i at → Skips page r at (get_or placed i e) (Next n) → Swept page placed r o (i + 1) n
swept_next page placed r o i at n e in_list s skips =
    let up = s.up in
    let beyond = skips.0 in
    record {
      up = omega arith;
      here = λ same. absurd (omega arith);
      multiple = λ lt. skips.1;
      blocked = λ q from to free. elim (cases_lt q at) [
        | inl before ↦ s.blocked q from before free
        | inr after ↦ free.apart i e in_list (skips.2 q after to free.aligned)
      ];
    }

pub swept_past : (page : ℕ) (placed : List Placed) (r : Resource) (o i at : ℕ) (e : Placed) → i < length placed → Swept page placed r o i at → Skips page r at (get_or placed i e) Past → Tries page placed r o Past
swept_past page placed r o i at e in_list s skips q from small free = elim (cases_lt q at) [
  | inl before ↦ s.blocked q from before free
  | inr after ↦ free.apart i e in_list (skips q after free.aligned small)
]

pub swept_on : (page : ℕ) (placed : List Placed) (r : Resource) (o i at : ℕ) → Swept page placed r o i at → o < at → Tries page placed r o (Next at)
swept_on page placed r o i at s beyond = (beyond, s.multiple beyond, s.blocked)

pub swept_all : (page : ℕ) (placed : List Placed) (r : Resource) (o i at : ℕ) → length placed ≤ i → Swept page placed r o i at → at ≡ o → Tries page placed r o Free
swept_all page placed r o i at all s same = λ k d lt. s.here same k d (omega arith)
