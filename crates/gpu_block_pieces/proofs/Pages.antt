-- Rounding up, and the page rule on the left of a gap.
use Rattle.std.proofs.Common.{◌≡◌, ◌≢◌, ℕ, ◌+◌, ◌-◌, ◌*◌, ◌/◌, ◌%◌, ◌<◌, ◌≤◌, Option, Some, None, MatchOption, inl, inr, arith}
use Rattle.std.specs.Option.{SomeIff}
use Rattle.std.proofs.lemmas.Nat.{div-add-mod', mul-le, mod_below, le-div}
use Rattle.std.proofs.Math.Nat.{div-mul-le_self, lt-div-mul-add, mul-mod_left, mod_self, sub-zero, mod-eq_of_lt}
use Rattle.std.proofs.lemmas.Bool.{cases_eq, cases_lt}
use Rattle.std.specs.Int.{next_multiple_of}
use Rattle.gpu_block_pieces.specs.Place.{page, MayBegin, IsOffsetIn}

-- y is the least multiple of m that is x or more
pub record IsRoundedUp (m x y : ℕ) : Type 0 where
  pub up : x ≤ y
  pub near : y < x + m
  pub multiple : y % m ≡ 0
  pub least : (o : ℕ) → x ≤ o → o % m ≡ 0 → y ≤ o

-- a multiple above q * m is at least the next one
pub next_multiple_above : (m o q : ℕ) → 0 < m → o % m ≡ 0 → q * m < o → (q + 1) * m ≤ o
next_multiple_above m o q pos e lt =
    let whole = div-add-mod' o m in
    elim (cases_lt q (o / m)) [
      | inl above ↦ let step : (q + 1) * m ≤ o / m * m = mul-le (q + 1) m (o / m) m (omega arith) (omega arith) in omega arith
      | inr below ↦ let step : o / m * m ≤ q * m = mul-le (o / m) m q m below (omega arith) in absurd (omega arith)
    ]

pub next_up : (x m : ℕ) → 0 < m → IsRoundedUp m x (next_multiple_of x m)
next_up x m pos =
    let below : x % m < m = mod_below x m pos in
    let whole = div-add-mod' x m in
    elim (cases_eq (x % m) 0) [
      | inl e ↦
          let inner : (m - x % m) % m ≡ 0 = rw (e, sub-zero) (mod_self m) in
          let same : next_multiple_of x m ≡ x = omega arith in
          rw same (record { up = omega arith; near = omega arith; multiple = e; least = λ o le _. le })
      | inr ne ↦
          let inner : (m - x % m) % m ≡ m - x % m = mod-eq_of_lt (omega arith) in
          let next : (x / m + 1) * m ≡ x / m * m + m = omega arith in
          let same : next_multiple_of x m ≡ (x / m + 1) * m = omega arith in
          rw same (record { up = omega arith; near = omega arith; multiple = mul-mod_left (x / m + 1) m; least = λ o le e. next_multiple_above m o (x / m) pos e (omega arith) })
    ]

-- where the last multiple up to l isn't before x, the next one from x on is at most l
pub up_within : (x l m r : ℕ) → 0 < m → x ≤ l → (r ≡ l % m) → r ≤ l - x → next_multiple_of x m ≤ l
up_within x l m r pos order e near =
    let whole = div-add-mod' l m in
    let multiple : next_multiple_of x m ≤ l / m * m = (next_up x m pos).least (l / m * m) (omega arith) (mul-mod_left (l / m) m) in
    omega arith

-- where the last multiple up to l is before x, there is none from x on up to l
pub no_multiple_within : (x l m r : ℕ) → 0 < m → x ≤ l → r ≡ l % m → l - x < r → next_multiple_of x m ≤ l → ⊥
no_multiple_within x l m r pos order e near within =
    let up = next_up x m pos in
    let low = up.up in
    let whole = div-add-mod' l m in
    let below : l % m < m = mod_below l m pos in
    elim (cases_lt (l / m * m) (next_multiple_of x m)) [
      | inl above ↦
          let next = next_multiple_above m (next_multiple_of x m) (l / m) pos up.multiple above in
          let step : (l / m + 1) * m ≡ l / m * m + m = omega arith in
          omega arith
      | inr ge ↦ omega arith
    ]

-- `first` is the least place from s on where a piece may begin but for its alignment
pub record IsFirst (g : ℕ) (Other : Type 0) (s first : ℕ) : Type 0 where
  pub low : (o : ℕ) → s ≤ o → (Other → page g o ≢ page g (s - 1)) → first ≤ o
  pub back : (o : ℕ) → first ≤ o → (s ≤ o) × (Other → page g o ≢ page g (s - 1))

pub first_here : (g : ℕ) (Other : Type 0) (s : ℕ) → (Other → ⊥) → IsFirst g Other s s
first_here g Other s none = record { low = λ o le _. le; back = λ o le. (le, λ other _. none other) }

pub page_mono : (g a b : ℕ) → 0 < g → a ≤ b → page g a ≤ page g b
page_mono g a b pos le = le-div (a / g) b g pos (omega (arith, div-mul-le_self a g))

pub first_next : (g : ℕ) (Other : Type 0) (s : ℕ) → 0 < g → 0 < s → Other → IsFirst g Other s (next_multiple_of s g)
first_next g Other s pos behind other =
    let r = next_up s g pos in
    let p = (s - 1) / g in
    let under : p * g ≤ s - 1 = div-mul-le_self (s - 1) g in
    let over : s - 1 < p * g + g = lt-div-mul-add pos in
    let step : (p + 1) * g ≡ p * g + g = omega arith in
    record {
      low = λ o le apart.
          let ne : page g o ≢ p = apart other in
          let up : p ≤ page g o = page_mono g (s - 1) o pos (omega arith) in
          let more : (p + 1) * g ≤ o / g * g = mul-le (p + 1) g (o / g) g (omega arith) (omega arith) in
          let whole = div-mul-le_self o g in
          let at : next_multiple_of s g ≤ (p + 1) * g = r.least ((p + 1) * g) (omega arith) (mul-mod_left (p + 1) g) in
          omega arith;
      back = λ o le.
          let from : s ≤ o = let u = r.up in omega arith in
          let more : (p + 1) * g ≤ next_multiple_of s g = next_multiple_above g (next_multiple_of s g) p pos r.multiple (let u = r.up in omega arith) in
          let page_over : p + 1 ≤ o / g = le-div (p + 1) o g pos (omega arith) in
          (from, λ _ e. absurd (omega arith));
    }

-- at the first byte of a page
pub first_of_page : (g : ℕ) (Other : Type 0) (s : ℕ) → 0 < g → (Other → 0 < s) → s % g ≡ 0 → IsFirst g Other s s
first_of_page g Other s pos behind at =
    let inner : (g - s % g) % g ≡ 0 = rw (at, sub-zero) (mod_self g) in
    let same : next_multiple_of s g ≡ s = omega arith in
    record { low = λ o le _. le; back = λ o le. (le, λ other. ((first_next g Other s pos (behind other) other).back o (omega arith)).1 other) }

pub offset_some : (g a : ℕ) (Other : Type 0) (s first v : ℕ) → 0 < a → IsFirst g Other s first → v ≡ next_multiple_of first a → IsOffsetIn g a Other s v
offset_some g a Other s first v pos f e =
    let r = next_up first a pos in
    let b = f.back v (let u = r.up in omega arith) in
    record {
      begins = record { after = b.0; aligned = rw e r.multiple; apart = b.1 };
      least = λ o m. let l = r.least o (f.low o m.after m.apart) m.aligned in omega arith;
    }

-- no place up to `last` serves where the next multiple is behind it
none_within : (g a last : ℕ) (Other : Type 0) (s first : ℕ) → 0 < a → IsFirst g Other s first → (next_multiple_of first a ≤ last → ⊥) → (o : ℕ) → MayBegin g a Other s o → last < o
none_within g a last Other s first pos f refused o m =
    let l = (next_up first a pos).least o (f.low o m.after m.apart) m.aligned in
    elim (cases_lt last (next_multiple_of first a)) [
      | inl lt ↦ omega arith
      | inr le ↦ absurd (refused le)
    ]

pub offset_within : (g a last : ℕ) (Other : Type 0) (s first : ℕ) (r : Option ℕ) → 0 < a → IsFirst g Other s first → SomeIff r (next_multiple_of first a ≤ last) (next_multiple_of first a) →
    MatchOption r ((o : ℕ) → MayBegin g a Other s o → last < o) (λ o. IsOffsetIn g a Other s o × (o ≤ last))
offset_within g a last Other s first None pos f h = none_within g a last Other s first pos f h
offset_within g a last Other s first (Some v) pos f h = (offset_some g a Other s first v pos f h.1, rw h.1 h.0)

-- nor where no multiple of the alignment lies up to it
pub none_aligned : (g a last : ℕ) (Other : Type 0) (s : ℕ) → 0 < a → (next_multiple_of s a ≤ last → ⊥) → (o : ℕ) → MayBegin g a Other s o → last < o
none_aligned g a last Other s pos refused o m =
    let l = (next_up s a pos).least o m.after m.aligned in
    elim (cases_lt last (next_multiple_of s a)) [
      | inl lt ↦ omega arith
      | inr le ↦ absurd (refused le)
    ]

pub no_first_within : (g a last : ℕ) (Other : Type 0) (s : ℕ) → 0 < g → 0 < s → Other → (next_multiple_of s g ≤ last → ⊥) → (o : ℕ) → MayBegin g a Other s o → last < o
no_first_within g a last Other s pos behind other refused o m =
    let l = (first_next g Other s pos behind other).low o m.after m.apart in
    elim (cases_lt last (next_multiple_of s g)) [
      | inl lt ↦ omega arith
      | inr le ↦ absurd (refused le)
    ]
