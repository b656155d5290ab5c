-- A gap that is long enough fits, whatever its neighbours are.
use Rattle.std.proofs.Common.{◌≡◌, ◌≢◌, ℕ, zero, suc, ◌+◌, ◌-◌, ◌*◌, ◌/◌, ◌%◌, ◌^◌, ◌<◌, ◌≤◌, ◌⊎◌, max, List, [], ◌∷◌, length, get_or, refl, sym, ap, ◌∙◌, subst, inl, inr, arith}
use Rattle.std.specs.Prelude.{Contains}
use Rattle.std.specs.Int.{next_multiple_of, IsPowerOfTwo}
use Rattle.std.proofs.lemmas.Bool.{cases_lt, cases_eq}
use Rattle.std.proofs.lemmas.Nat.{pow-add, pow_pos, pow_below, le-div, div-add-mod'}
use Rattle.std.proofs.Math.Nat.{mul-mod_left, mul_assoc, le-max_left, le-max_right, div-mul-le_self}
use Rattle.gpu_values.specs.declared.allocation_type.AllocationType.{AllocationType}
use Rattle.gpu_values.specs.declared.error.AllocationError.{AllocationError}
use Rattle.gpu_values.specs.declared.error.AllocationError.TheVariants as errors
use Rattle.gpu_block_pieces.specs.FreeList.{Extent, FreeList, IsGap}
use Rattle.gpu_block_pieces.specs.Request.{Request}
use Rattle.gpu_block_pieces.specs.Place.{page, RequestFits, IsOffsetIn, OtherEnds}
use Rattle.gpu_block_pieces.specs.BlockRefusal.{IsAllocateRefusal}
use Rattle.gpu_block_pieces.specs.Laws.{IsSound, IsLongEnough, IsForChunkIds}
use Rattle.gpu_block_pieces.proofs.Pages.{next_up, first_here, first_next, offset_some}
use Rattle.gpu_block_pieces.proofs.Separation.{same_or_not, within_of}

-- a multiple of the greater of two powers of two is one of the smaller
pub power_divides : (a b x : ℕ) → IsPowerOfTwo a → IsPowerOfTwo b → a ≤ b → x % b ≡ 0 → x % a ≡ 0
power_divides a b x pa pb le e =
    elim (cases_lt pb.0 pa.0) [
      | inl lt ↦
          let p : 2 ^ pb.0 < 2 ^ pa.0 = pow_below pb.0 pa.0 lt in
          let ea = pa.1 in let eb = pb.1 in
          absurd (omega arith)
      | inr ge ↦
          let d = pb.0 - pa.0 in
          let sum : d + pa.0 ≡ pb.0 = omega arith in
          let b_is : b ≡ 2 ^ d * a = pb.1 ∙ (ap (λ k. 2 ^ k) (sym sum) ∙ (pow-add 2 d pa.0 ∙ ap (λ k. 2 ^ d * k) (sym pa.1))) in
          let whole = div-add-mod' x b in
          let x_is : x ≡ x / b * b = omega arith in
          let y_is : x ≡ x / b * 2 ^ d * a = x_is ∙ (ap (λ k. x / b * k) b_is ∙ sym (mul_assoc (x / b) (2 ^ d) a)) in
          subst (λ k. k % a ≡ 0) (sym y_is) (mul-mod_left (x / b * 2 ^ d) a)
    ]

pub power_positive : (a : ℕ) → IsPowerOfTwo a → 0 < a
power_positive a p = let q = pow_pos p.0 in let e = p.1 in omega arith

-- an offset behind one of the other kind stays near
pub near_other : (g a s : ℕ) → IsPowerOfTwo g → IsPowerOfTwo a → next_multiple_of (next_multiple_of s g) a < s + max a g
near_other g a s pg pa =
    let gp = power_positive g pg in
    let ap' = power_positive a pa in
    let r = next_up s g gp in
    let o = next_up (next_multiple_of s g) a ap' in
    let m1 = le-max_left a g in
    let m2 = le-max_right a g in
    let near = r.near in
    elim (cases_lt a g) [
      | inl lt ↦
          let l = o.least (next_multiple_of s g) (omega arith) (power_divides a g (next_multiple_of s g) pa pg (omega arith) r.multiple) in
          omega arith
      | inr ge ↦
          let q = next_up s a ap' in
          let qn = q.near in
          let low = r.least (next_multiple_of s a) q.up (power_divides g a (next_multiple_of s a) pg pa ge q.multiple) in
          let l = o.least (next_multiple_of s a) low q.multiple in
          omega arith
    ]

contains_more : (x y : Extent) (xs : List Extent) → Contains xs y → Contains (x ∷ xs) y
contains_more x y xs h = (suc h.0, (let l = h.1 in omega arith), h.2)

contains_by : (x y : Extent) (xs : List Extent) (k : ℕ) → k < length (x ∷ xs) → get_or (x ∷ xs) k y ≡ y → (x ≡ y) ⊎ Contains xs y
contains_by x y xs zero l e = inl e
contains_by x y xs (suc k) l e = inr (k, omega arith, e)

contains_cases : (x y : Extent) (xs : List Extent) → Contains (x ∷ xs) y → (x ≡ y) ⊎ Contains xs y
contains_cases x y xs h = contains_by x y xs h.0 h.1 h.2

other_here : (kind : AllocationType) (place : ℕ) (x : Extent) → ((x.kind ≢ kind) × (x.end ≡ place)) ⊎ ((x.kind ≢ kind) × (x.end ≡ place) → ⊥)
other_here kind place x =
    elim (same_or_not x.kind kind) [
      | inl same ↦ inr (λ p. p.0 same)
      | inr other ↦ elim (cases_eq x.end place) [ inl e ↦ inl (other, e) | inr ne ↦ inr (λ p. ne p.1) ]
    ]

abbrev SomeOther : AllocationType → ℕ → List Extent → Type 0
SomeOther kind place xs = (x : Extent) × Contains xs x × ((x.kind ≢ kind) × (x.end ≡ place))

some_other : (kind : AllocationType) (place : ℕ) (xs : List Extent) → SomeOther kind place xs ⊎ (SomeOther kind place xs → ⊥)
some_other kind place [] = inr (λ w. (let l = w.1.1 in absurd (omega arith)))
some_other kind place (x ∷ xs) =
    elim (other_here kind place x) [
      | inl p ↦ inl (x, (0, omega arith, refl), p)
      | inr here ↦ elim (some_other kind place xs) [
        | inl w ↦ inl (w.0, contains_more x w.0 xs w.1, w.2)
        | inr none ↦ inr (λ w. elim (contains_cases x w.0 xs w.1) [
          | inl e ↦ here (subst (λ y. (y.kind ≢ kind) × (y.end ≡ place)) (sym e) w.2)
          | inr c ↦ none (w.0, c, w.2)
        ])
      ]
    ]

-- whether an extent of the other kind ends at a place
pub other_or_not : (b : FreeList) (kind : AllocationType) (place : ℕ) → OtherEnds b kind place ⊎ (OtherEnds b kind place → ⊥)
other_or_not b kind place = some_other kind place b.extents

page_step : (g x e : ℕ) → 0 < g → x + g ≤ e → page g x < page g e
page_step g x e pos le =
    let under = div-mul-le_self x g in
    let next : (x / g + 1) * g ≡ x / g * g + g = omega arith in
    let up : x / g + 1 ≤ e / g = le-div (x / g + 1) e g pos (omega arith) in
    omega arith

fits_at : (b : FreeList) (r : Request) (s e o : ℕ) → IsPowerOfTwo b.granularity → IsPowerOfTwo r.alignment → 0 < r.size → IsGap b s e → IsLongEnough b r s e → IsOffsetIn b.granularity r.alignment
    (OtherEnds b r.kind s) s o → o < s + max r.alignment b.granularity → RequestFits b r s e o
fits_at b r s e o pg pa some gap long begins near =
    let pos = power_positive b.granularity pg in
    let len = gap.nonempty in
    record {
      gap = gap;
      between = record {
        begins = begins;
        inside = omega arith;
        apart = λ _ same. (let lt = page_step b.granularity (o + r.size - 1) e pos (omega arith) in absurd (omega arith));
      };
    }

pub fit_law : (b : FreeList) (r : Request) (s e : ℕ) → IsSound b → IsPowerOfTwo b.granularity → IsPowerOfTwo r.alignment → 0 < r.size → IsGap b s e → IsLongEnough b r s e → (o : ℕ) × RequestFits b r s e o
fit_law b r s e sound pg pa some gap long =
    let g = b.granularity in let a = r.alignment in
    let gp = power_positive g pg in
    let ap' = power_positive a pa in
    elim (other_or_not b r.kind s) [
      | inl other ↦
          let w = other in
          let q = within_of b w.0 sound w.1 in
          let q1 = q.1 in
          let end : w.0.end ≡ s = w.2.1 in
          let behind : 0 < s = omega arith in
          let o = next_multiple_of (next_multiple_of s g) a in (
            o,
            fits_at b r s e o pg pa some gap long (offset_some g a (OtherEnds b r.kind s) s (next_multiple_of s g) o ap' (first_next g (OtherEnds b r.kind s) s gp behind other) refl)
                (near_other g a s pg pa),
          )
      | inr none ↦
          let o = next_multiple_of s a in
          let n = (next_up s a ap').near in
          let m1 = le-max_left a g in
          (o, fits_at b r s e o pg pa some gap long (offset_some g a (OtherEnds b r.kind s) s s o ap' (first_here g (OtherEnds b r.kind s) s none) refl) (omega arith))
    ]

pub law_of_refusal : (b : FreeList) (r : Request) (s e : ℕ) (err : AllocationError) → IsSound b → IsPowerOfTwo b.granularity → IsPowerOfTwo r.alignment → 0 < r.size → IsGap b s e → IsLongEnough b r s
    e → IsAllocateRefusal b r err → IsForChunkIds b err
law_of_refusal b r s e errors.OutOfMemory sound pg pa some gap long h =
    let f = fit_law b r s e sound pg pa some gap long in
    elim h [ inl none ↦ absurd (none s e f.0 f.1) | inr w ↦ w.5 ]
law_of_refusal b r s e errors.HostOutOfMemory sound pg pa some gap long h = tt
law_of_refusal b r s e (errors.FailedToMap _) sound pg pa some gap long h = absurd h
law_of_refusal b r s e errors.NoCompatibleMemoryTypeFound sound pg pa some gap long h = absurd h
law_of_refusal b r s e errors.InvalidAllocationCreateDesc sound pg pa some gap long h = absurd h
law_of_refusal b r s e (errors.InvalidAllocatorCreateDesc _) sound pg pa some gap long h = absurd h
law_of_refusal b r s e (errors.Internal _) sound pg pa some gap long h = absurd h
law_of_refusal b r s e errors.BarrierLayoutNeedsDevice10 sound pg pa some gap long h = absurd h
law_of_refusal b r s e errors.CastableFormatsRequiresEnhancedBarriers sound pg pa some gap long h = absurd h
law_of_refusal b r s e errors.CastableFormatsRequiresAtLeastDevice12 sound pg pa some gap long h = absurd h
law_of_refusal b r s e errors.BudgetExceeded sound pg pa some gap long h = absurd h
