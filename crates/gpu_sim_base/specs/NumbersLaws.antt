-- What a simulated device holds under a number is the item of that number.
use Rattle.std.proofs.Common.{◌≡◌, ◌≢◌, ℕ, zero, suc, ◌+◌, ◌<◌, List, [], ◌∷◌, get_or, Option, Some, None, option_map, ap, ◌∙◌, arith}
use Rattle.std.specs.FinMap.{get, insert, get-empty}
use Rattle.gpu_device.proofs.Maps.{get-insert_same, get-insert_other}
use Rattle.gpu_sim_base.specs.Numbers.{item_at, held_from, held_in}

module _ {T E : Type 0} (entry : T → E) where
  pub find_before : (ss : List (Option T)) (k n : ℕ) → n < k → get (held_from entry k ss) n ≡ None
  find_before [] k n lt = get-empty _ n
  find_before (None ∷ ss) k n lt = find_before ss (suc k) n (omega arith)
  find_before (Some a ∷ ss) k n lt =
      let ne : n ≢ k = λ e. omega arith in
      get-insert_other (held_from entry (suc k) ss) k n (entry a) ne ∙ find_before ss (suc k) n (omega arith)

  pub find_slot : (ss : List (Option T)) (k i n : ℕ) → n ≡ i + k → get (held_from entry k ss) n ≡ option_map entry (get_or ss i None)
  find_slot [] k i n e = get-empty _ n
  find_slot (None ∷ ss) k zero n e = find_before ss (suc k) n (omega arith)
  find_slot (None ∷ ss) k (suc i) n e = find_slot ss (suc k) i n (omega arith)
  find_slot (Some a ∷ ss) k zero n e =
      let same : n ≡ k = omega arith in
      ap (get (insert (held_from entry (suc k) ss) k (entry a))) same ∙ get-insert_same (held_from entry (suc k) ss) k (entry a)
  find_slot (Some a ∷ ss) k (suc i) n e =
      let ne : n ≢ k = λ same. omega arith in
      get-insert_other (held_from entry (suc k) ss) k n (entry a) ne ∙ find_slot ss (suc k) i n (omega arith)

  -- what is held under a number is the item of its slot
  pub get-held : (ss : List (Option T)) (n : ℕ) → get (held_in entry ss) n ≡ option_map entry (item_at ss n)
  get-held ss zero = find_before ss 1 0 (omega arith)
  get-held ss (suc i) = find_slot ss 1 i (suc i) (omega arith)

  -- nothing is held under the number 0
  pub at_zero : (ss : List (Option T)) → get (held_in entry ss) 0 ≡ None
  at_zero ss = get-held ss 0
