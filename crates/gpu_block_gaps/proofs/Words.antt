-- Sets of numbers as bits of words.
use Rattle.std.proofs.Common.{◌≡◌, ◌≢◌, ℕ, ◌+◌, ◌-◌, ◌*◌, ◌/◌, ◌%◌, ◌^◌, ◌<◌, ◌≤◌, ◌⊎◌, inl, inr, List, length, get_or, set, not, bit_and, Bool, true, false, nat_eq, sym, ap, subst, ◌∙◌, arith}
use Rattle.std.specs.Int.{bit_at, w64, trailing_zeros}
use Rattle.std.proofs.lemmas.Nat.{shr-shr, shr_le}
use Rattle.std.proofs.lemmas.Nat.Bits.{bit_at-zero, bit_at-trailing_zeros, bit_at_above, bit_at_set_same, bit_at_set_other, bit_at_clear_same, bit_at_clear_other}
use Rattle.std.proofs.lemmas.Bool.{cases_lt, cases_eq}
use Rattle.std.proofs.lemmas.Bool.Decides.{eqb_tells}
use Rattle.std.proofs.lemmas.List.{get_or_past, get_or_default, length-set, get_or-set_same, get_or-set_other}
use Rattle.std.specs.Int.RustNames.{bit_or}
use Rattle.gpu_block_gaps.specs.Key.{bit_of}
use Rattle.gpu_block_gaps.specs.ClassSet.{is_in, IsFirst, NoneFrom, ChangesOne, KeepsWords, AreTops}

-- ---- one word

-- the bits of what is left of a word without its lowest ones
shifted : (word from i : ℕ) → bit_of word (from + i) ≡ nat_eq (bit_at (word / 2 ^ from) i) 1
shifted word from i = ap (λ n. nat_eq (n % 2) 1) (sym (shr-shr word from i))

zero_bit : (i : ℕ) → nat_eq (bit_at 0 i) 1 ≡ false
zero_bit i = ap (λ n. nat_eq n 1) (bit_at-zero i)

pub none_left : (word from : ℕ) → word / 2 ^ from ≡ 0 → NoneFrom (bit_of word) from
none_left word from none = λ k le.
    ap (bit_of word) (let whole : k ≡ from + (k - from) = omega arith in whole) ∙ shifted word from (k - from) ∙ ap (λ n. nat_eq (bit_at n (k - from)) 1) none ∙ zero_bit (k - from)

pub first_left : (word from : ℕ) → word < 2 ^ 64 → word / 2 ^ from ≢ 0
    → (from + trailing_zeros w64 (word / 2 ^ from) < 64) × IsFirst (bit_of word) from (from + trailing_zeros w64 (word / 2 ^ from))
first_left word from fits some =
    let rest = word / 2 ^ from in
    let k = trailing_zeros w64 rest in
    let small : rest < 2 ^ 64 = (let part = shr_le word from in omega arith) in
    let found = bit_at-trailing_zeros w64 rest (omega arith) small in
    let set : bit_of word (from + k) ≡ true = shifted word from k ∙ ap (λ n. nat_eq n 1) found.1 in
    let inside : from + k < 64 = by_order (from + k) (bit_at word (from + k) ≡ 1) (sym (shr-shr' word from k) ∙ found.1) (cases_lt (from + k) 64) in (
      inside,
      record {
        behind = omega arith;
        is = set;
        least = λ j le lt. ap (bit_of word) (let whole : j ≡ from + (j - from) = omega arith in whole) ∙ shifted word from (j - from) ∙ ap (λ n. nat_eq n 1) (found.2 (j - from) (omega arith));
      },
    )
  where
    shr-shr' : (word from k : ℕ) → bit_at (word / 2 ^ from) k ≡ bit_at word (from + k)
    shr-shr' word from k = ap (λ n. n % 2) (shr-shr word from k)

    by_order : (i : ℕ) (P : Type 0) → bit_at word i ≡ 1 → (i < 64) ⊎ (64 ≤ i) → i < 64
    by_order i P one (inl lt) = lt
    by_order i P one (inr ge) = absurd (let zero = bit_at_above word 64 i fits ge in omega arith)

-- the first bit of a word that isn't 0
pub first_whole : (word : ℕ) → word < 2 ^ 64 → word ≢ 0 → (trailing_zeros w64 word < 64) × IsFirst (bit_of word) 0 (trailing_zeros w64 word)
first_whole word fits some =
    let whole : word / 2 ^ 0 ≡ word = omega arith in
    let same : 0 + trailing_zeros w64 (word / 2 ^ 0) ≡ trailing_zeros w64 word = (let e = ap (trailing_zeros w64) whole in omega arith) in
    subst (λ k. (k < 64) × IsFirst (bit_of word) 0 k) same (first_left word 0 fits (λ zero. some (sym whole ∙ zero)))

-- ---- several words

pub in_word : (words : List ℕ) (w k : ℕ) → k < 64 → is_in words (w * 64 + k) ≡ bit_of (get_or words w 0) k
in_word words w k lt =
    let place : (w * 64 + k) / 64 ≡ w = omega arith in
    let bit : (w * 64 + k) % 64 ≡ k = omega arith in
    ap (λ v. bit_of (get_or words v 0) ((w * 64 + k) % 64)) place ∙ ap (bit_of (get_or words w 0)) bit

-- no number of a word from a bit on
pub none_in : (words : List ℕ) (w from : ℕ) → NoneFrom (bit_of (get_or words w 0)) from → (j : ℕ) → w * 64 + from ≤ j → j < (w + 1) * 64 → is_in words j ≡ false
none_in words w from none j le lt =
    let place : j / 64 ≡ w = omega arith in
    ap (λ v. bit_of (get_or words v 0) (j % 64)) place ∙ none (j % 64) (omega arith)

-- the first number of a word from a bit on
pub first_in : (words : List ℕ) (w from k : ℕ) → k < 64 → IsFirst (bit_of (get_or words w 0)) from k → IsFirst (is_in words) (w * 64 + from) (w * 64 + k)
first_in words w from k small first = record {
  behind = (let h = first.behind in omega arith);
  is = in_word words w k small ∙ first.is;
  least = λ j le lt.
      let place : j / 64 ≡ w = omega arith in
      ap (λ v. bit_of (get_or words v 0) (j % 64)) place ∙ first.least (j % 64) (omega arith) (omega arith);
}

-- the first one behind numbers that aren't in the set
pub first_behind : (words : List ℕ) (from mid k : ℕ) → from ≤ mid → ((j : ℕ) → from ≤ j → j < mid → is_in words j ≡ false) → IsFirst (is_in words) mid k → IsFirst (is_in words) from k
first_behind words from mid k le none first = record {
  behind = (let h = first.behind in omega arith);
  is = first.is;
  least = λ j from_j lt. by_order j from_j lt (cases_lt j mid);
}
  where
    by_order : (j : ℕ) → from ≤ j → j < k → (j < mid) ⊎ (mid ≤ j) → is_in words j ≡ false
    by_order j from_j lt (inl before) = none j from_j before
    by_order j from_j lt (inr after) = first.least j after lt

-- and none behind the last word
pub none_past : (words : List ℕ) (j : ℕ) → length words ≤ j / 64 → is_in words j ≡ false
none_past words j past = ap (λ word. bit_of word (j % 64)) (get_or_past words (j / 64) 0 past) ∙ zero_bit (j % 64)

pub none_from : (words : List ℕ) (from : ℕ) → ((j : ℕ) → from ≤ j → j < length words * 64 → is_in words j ≡ false) → NoneFrom (is_in words) from
none_from words from none = λ j le. by_order j le (cases_lt j (length words * 64))
  where
    by_order : (j : ℕ) → from ≤ j → (j < length words * 64) ⊎ (length words * 64 ≤ j) → is_in words j ≡ false
    by_order j le (inl before) = none j le before
    by_order j le (inr after) = none_past words j (omega arith)

-- ---- one bit changes

change_one : (words : List ℕ) (class v : ℕ) (inside : Bool) → class < length words * 64 → nat_eq (bit_at v (class % 64)) 1 ≡ inside
    → ((i : ℕ) → i < 64 → i ≢ class % 64 → bit_at v i ≡ bit_at (get_or words (class / 64) 0) i) → ChangesOne words (set words (class / 64) v) class inside
change_one words class v inside lt is kept =
    let within : class / 64 < length words = omega arith in
    record {
      length = length-set words (class / 64) v;
      changed = ap (λ word. bit_of word (class % 64)) (get_or-set_same words (class / 64) v 0 within) ∙ is;
      others = λ k other. by_word k other (cases_eq (k / 64) (class / 64));
    }
  where
    by_word : (k : ℕ) → k ≢ class → (k / 64 ≡ class / 64) ⊎ (k / 64 ≢ class / 64) → is_in (set words (class / 64) v) k ≡ is_in words k
    by_word k other (inr apart) = ap (λ word. bit_of word (k % 64)) (get_or-set_other words (class / 64) (k / 64) v 0 apart)
    by_word k other (inl same) =
        let moved : k % 64 ≢ class % 64 = λ e. other (omega arith) in
        ap (λ w. bit_of (get_or (set words (class / 64) v) w 0) (k % 64)) same
        ∙ ap (λ word. bit_of word (k % 64)) (get_or-set_same words (class / 64) v 0 (omega arith))
        ∙ ap (λ n. nat_eq n 1) (kept (k % 64) (omega arith) moved)
        ∙ sym (ap (λ w. bit_of (get_or words w 0) (k % 64)) same)

pub set_one : (words : List ℕ) (class : ℕ) → class < length words * 64
    → ChangesOne words (set words (class / 64) (bit_or (get_or words (class / 64) 0) (1 * 2 ^ (class % 64) % 2 ^ 64))) class true
set_one words class lt =
    let word = get_or words (class / 64) 0 in
    let small : class % 64 < 64 = omega arith in
    change_one words class _ true lt (ap (λ n. nat_eq n 1) (bit_at_set_same w64 word (class % 64) small)) (λ i fits other. bit_at_set_other w64 word (class % 64) small i other)

pub clear_one : (words : List ℕ) (class : ℕ) → class < length words * 64
    → ChangesOne words (set words (class / 64) (bit_and (get_or words (class / 64) 0) (2 ^ 64 - 1 - 1 * 2 ^ (class % 64) % 2 ^ 64))) class false
clear_one words class lt =
    let word = get_or words (class / 64) 0 in
    let small : class % 64 < 64 = omega arith in
    change_one words class _ false lt (ap (λ n. nat_eq n 1) (bit_at_clear_same w64 word (class % 64) small)) (λ i fits other. bit_at_clear_other w64 word (class % 64) small i fits other)

-- ---- the words that aren't 0

-- a word with a number of the set isn't 0
has_some : (words : List ℕ) (k : ℕ) → is_in words k ≡ true → get_or words (k / 64) 0 ≢ 0
has_some words k inside = λ none. let empty : is_in words k ≡ false = ap (λ word. bit_of word (k % 64)) none ∙ zero_bit (k % 64) in absurd (cc)

not_zero : (n : ℕ) → n ≢ 0 → not (nat_eq n 0) ≡ true
not_zero n some = by_test (eqb_tells n 0)
  where
    by_test : ((nat_eq n 0 ≡ true) × (n ≡ 0)) ⊎ ((nat_eq n 0 ≡ false) × (n ≢ 0)) → not (nat_eq n 0) ≡ true
    by_test (inl zero) = absurd (some zero.1)
    by_test (inr more) = ap not more.0

pub zero_untold : (n : ℕ) → not (nat_eq n 0) ≡ false → n ≡ 0
zero_untold n told = by_test (eqb_tells n 0)
  where
    by_test : ((nat_eq n 0 ≡ true) × (n ≡ 0)) ⊎ ((nat_eq n 0 ≡ false) × (n ≢ 0)) → n ≡ 0
    by_test (inl zero) = zero.1
    by_test (inr more) = absurd (let e = ap not more.0 in cc)

pub some_told : (n : ℕ) → not (nat_eq n 0) ≡ true → n ≢ 0
some_told n told none = absurd (let e : not (nat_eq n 0) ≡ false = ap (λ m. not (nat_eq m 0)) none in cc)

pub tops_set : (words words' tops tops' : List ℕ) (class : ℕ) → AreTops words tops → ChangesOne words words' class true → KeepsWords words words' class → ChangesOne tops tops' (class / 64) true
    → AreTops words' tops'
tops_set words words' tops tops' class are set_word kept set_top = record {
  short = (let a = are.short in let b = set_word.length in omega arith);
  few = (let a = are.few in let b = set_top.length in omega arith);
  enough = (let a = are.enough in let b = set_word.length in let c = set_top.length in omega arith);
  told = λ w. by_word w (cases_eq w (class / 64));
}
  where
    by_word : (w : ℕ) → (w ≡ class / 64) ⊎ (w ≢ class / 64) → is_in tops' w ≡ not (nat_eq (get_or words' w 0) 0)
    by_word w (inl same) =
        ap (is_in tops') same ∙ set_top.changed ∙ sym (ap (λ v. not (nat_eq (get_or words' v 0) 0)) same ∙ not_zero (get_or words' (class / 64) 0) (has_some words' class set_word.changed))
    by_word w (inr other) = set_top.others w other ∙ are.told w ∙ ap (λ n. not (nat_eq n 0)) (sym (kept w other))

pub tops_cleared : (words words' tops tops' : List ℕ) (class : ℕ) → AreTops words tops → ChangesOne words words' class false → KeepsWords words words' class → get_or words' (class / 64) 0 ≡ 0
    → ChangesOne tops tops' (class / 64) false → AreTops words' tops'
tops_cleared words words' tops tops' class are clear_word kept none clear_top = record {
  short = (let a = are.short in let b = clear_word.length in omega arith);
  few = (let a = are.few in let b = clear_top.length in omega arith);
  enough = (let a = are.enough in let b = clear_word.length in let c = clear_top.length in omega arith);
  told = λ w. by_word w (cases_eq w (class / 64));
}
  where
    by_word : (w : ℕ) → (w ≡ class / 64) ⊎ (w ≢ class / 64) → is_in tops' w ≡ not (nat_eq (get_or words' w 0) 0)
    by_word w (inl same) = ap (is_in tops') same ∙ clear_top.changed ∙ sym (ap (λ v. not (nat_eq (get_or words' v 0) 0)) same ∙ ap (λ n. not (nat_eq n 0)) none)
    by_word w (inr other) = clear_top.others w other ∙ are.told w ∙ ap (λ n. not (nat_eq n 0)) (sym (kept w other))

pub tops_kept : (words words' tops : List ℕ) (class : ℕ) → AreTops words tops → ChangesOne words words' class false → KeepsWords words words' class → get_or words' (class / 64) 0 ≢ 0
    → get_or words' (class / 64) 0 ≤ get_or words (class / 64) 0 → AreTops words' tops
tops_kept words words' tops class are clear_word kept some less = record {
  short = (let a = are.short in let b = clear_word.length in omega arith);
  few = are.few;
  enough = (let a = are.enough in let b = clear_word.length in omega arith);
  told = λ w. by_word w (cases_eq w (class / 64));
}
  where
    before : get_or words (class / 64) 0 ≢ 0
    before = λ none. some (omega arith)

    by_word : (w : ℕ) → (w ≡ class / 64) ⊎ (w ≢ class / 64) → is_in tops w ≡ not (nat_eq (get_or words' w 0) 0)
    by_word w (inl same) =
        are.told w ∙ ap (λ v. not (nat_eq (get_or words v 0) 0)) same ∙ not_zero _ before
        ∙ sym (ap (λ v. not (nat_eq (get_or words' v 0) 0)) same ∙ not_zero (get_or words' (class / 64) 0) some)
    by_word w (inr other) = are.told w ∙ ap (λ n. not (nat_eq n 0)) (sym (kept w other))

-- the first number of the first word that isn't 0
pub first_by_tops : (words tops : List ℕ) (class next bit : ℕ) → AreTops words tops → NoneFrom (bit_of (get_or words (class / 64) 0)) (class % 64) → IsFirst (is_in tops) (class / 64 + 1) next
    → bit < 64 → IsFirst (bit_of (get_or words next 0)) 0 bit → IsFirst (is_in words) class (next * 64 + bit)
first_by_tops words tops class next bit are none top small first =
    let behind = top.behind in
    first_behind words class (next * 64 + 0) (next * 64 + bit) (omega arith) (λ j le lt. by_order j le lt (cases_lt j ((class / 64 + 1) * 64))) (first_in words next 0 bit small first)
  where
    by_order : (j : ℕ) → class ≤ j → j < next * 64 + 0 → (j < (class / 64 + 1) * 64) ⊎ ((class / 64 + 1) * 64 ≤ j) → is_in words j ≡ false
    by_order j le lt (inl here) = none_in words (class / 64) (class % 64) none j (omega arith) here
    by_order j le lt (inr later) =
        let empty = zero_untold (get_or words (j / 64) 0) (sym (are.told (j / 64)) ∙ top.least (j / 64) (omega arith) (omega arith)) in
        ap (λ word. bit_of word (j % 64)) empty ∙ zero_bit (j % 64)

pub none_by_tops : (words tops : List ℕ) (class : ℕ) → AreTops words tops → NoneFrom (bit_of (get_or words (class / 64) 0)) (class % 64) → NoneFrom (is_in tops) (class / 64 + 1) → NoneFrom (is_in words) class
none_by_tops words tops class are none later = λ j le. by_order j le (cases_lt j ((class / 64 + 1) * 64))
  where
    by_order : (j : ℕ) → class ≤ j → (j < (class / 64 + 1) * 64) ⊎ ((class / 64 + 1) * 64 ≤ j) → is_in words j ≡ false
    by_order j le (inl here) = none_in words (class / 64) (class % 64) none j (omega arith) here
    by_order j le (inr far) =
        let empty = zero_untold (get_or words (j / 64) 0) (sym (are.told (j / 64)) ∙ later (j / 64) (omega arith)) in
        ap (λ word. bit_of word (j % 64)) empty ∙ zero_bit (j % 64)

-- ---- what a vector has after a write to its slice

pub tops_moved : (ws ws' ts ts' : List ℕ) → ws' ≡ ws → ts' ≡ ts → AreTops ws ts → AreTops ws' ts'
tops_moved ws ws' ts ts' same_words same_tops are =
    subst (λ (z : List ℕ). AreTops z ts') (sym same_words) (subst (λ (z : List ℕ). AreTops ws z) (sym same_tops) are)

pub read_at : (xs ys : List ℕ) (i r : ℕ) → ys ≡ xs → r ≡ get_or ys i r → i < length xs → get_or xs i 0 ≡ r
read_at xs ys i r same read within = get_or_default xs i 0 r within ∙ sym (ap (λ (z : List ℕ). get_or z i r) same) ∙ sym read

-- a word below 2 ^ 64 that isn't 0 has a bit
pub bits_zero : (word : ℕ) → word < 2 ^ 64 → word ≢ 0 → NoneFrom (bit_of word) 0 → ⊥
bits_zero word fits some none =
    let found = bit_at-trailing_zeros w64 word (omega arith) fits in
    let set : bit_of word (trailing_zeros w64 word) ≡ true = ap (λ n. nat_eq n 1) found.1 in
    let unset = none (trailing_zeros w64 word) (omega arith) in
    absurd (cc)

pub within_of_some : (words : List ℕ) (w : ℕ) → get_or words w 0 ≢ 0 → w < length words
within_of_some words w some = by_order (cases_lt w (length words))
  where
    by_order : (w < length words) ⊎ (length words ≤ w) → w < length words
    by_order (inl lt) = lt
    by_order (inr past) = absurd (some (get_or_past words w 0 past))
