-- A set of numbers as bits of words.
use Rattle.std.specs.Prelude.{◌≡◌, ◌≢◌, ℕ, ◌*◌, ◌^◌, ◌/◌, ◌%◌, ◌<◌, ◌≤◌, ◌==◌, not, List, length, slice_index, Bool, true, false}
use Rattle.gpu_block_gaps.specs.Key.{bit_of}

-- whether a number is in the set
abbrev pub is_in : List ℕ → ℕ → Bool
is_in words k = bit_of (slice_index words (k / 64)) (k % 64)

-- the first number from that one on which passes
pub record IsFirst (passes : ℕ → Bool) (from k : ℕ) : Type 0 where
  pub behind : from ≤ k
  pub is : passes k ≡ true
  pub least : (j : ℕ) → from ≤ j → j < k → passes j ≡ false

-- no number from that one on passes
abbrev pub NoneFrom : (ℕ → Bool) → ℕ → Type 0
NoneFrom passes from = (k : ℕ) → from ≤ k → passes k ≡ false

-- the second words say of each word whether it is 0
pub record AreTops (words tops : List ℕ) : Type 0 where
  pub short : length words < 2 ^ 32
  pub few : length tops < 2 ^ 32
  pub enough : length words ≤ length tops * 64
  pub told : (w : ℕ) → is_in tops w ≡ not (slice_index words w == 0)

-- one number is in the set or not, and each other as before
pub record ChangesOne (old new : List ℕ) (class : ℕ) (inside : Bool) : Type 0 where
  pub length : length new ≡ length old
  pub changed : is_in new class ≡ inside
  pub others : (k : ℕ) → k ≢ class → is_in new k ≡ is_in old k

-- no word changes but the one that has the number's bit
abbrev pub KeepsWords : List ℕ → List ℕ → ℕ → Type 0
KeepsWords old new class = (w : ℕ) → w ≢ class / 64 → slice_index new w ≡ slice_index old w
