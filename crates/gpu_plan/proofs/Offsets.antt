-- Offsets that are written by index.
use Rattle.std.proofs.Common.{◌≡◌, ◌∙◌, sym, ap, ℕ, ◌+◌, ◌<◌, inl, inr, List, length, get_or, set, arith}
use Rattle.std.specs.List.{range_with_len}
use Rattle.std.specs.List.Sorted.{IsPermutation}
use Rattle.std.proofs.Math.ListN.{length-set}
use Rattle.std.proofs.lemmas.Bool.{cases_lt}
use Rattle.std.proofs.lemmas.List.{get_or-set_same, get_or-set_other, get_or_default}
use Rattle.gpu_plan.specs.declared.resource.Placed.{Placed}
use Rattle.gpu_plan.proofs.Ordering.{indices_below, indices_differ}

pub record Written (offsets indices : List ℕ) (placed : List Placed) (k : ℕ) : Type 0 where
  pub each : length offsets ≡ length indices
  pub at : (j : ℕ) (d : Placed) → j < k → get_or offsets (get_or indices j 0) 0 ≡ (get_or placed j d).offset

pub offset_set : (offsets indices : List ℕ) (placed : List Placed) (k : ℕ) (e : Placed) → length placed ≡ length indices → IsPermutation (range_with_len 0 (length indices)) indices → k < length placed → Written offsets indices placed k
    → Written (set offsets (get_or indices k 0) (get_or placed k e).offset) indices placed (k + 1)
offset_set offsets indices placed k e same permuted lt w =
    let n : ℕ = length indices in
    let each = w.each in
    let i : ℕ = get_or indices k 0 in
    let below : i < n = indices_below n indices permuted k 0 (omega arith) in
    record {
      each = length-set offsets i (get_or placed k e).offset ∙ each;
      at = λ j d up. elim (cases_lt j k) [
        | inl less ↦
            let differ = indices_differ n indices j k 0 permuted less (omega arith) in
            get_or-set_other offsets i (get_or indices j 0) (get_or placed k e).offset 0 differ ∙ w.at j d less
        | inr high ↦
            let j_is : j ≡ k = omega arith in
            let same_index : get_or indices j 0 ≡ i = ap (λ (m : ℕ). get_or indices m 0) j_is in
            let same_placed : (get_or placed j d).offset ≡ (get_or placed k e).offset = ap (λ (m : ℕ). (get_or placed m d).offset) j_is ∙ ap (λ (p : Placed). p.offset) (get_or_default placed k d e lt) in
            ap (λ (m : ℕ). get_or (set offsets i (get_or placed k e).offset) m 0) same_index ∙ (get_or-set_same offsets i (get_or placed k e).offset 0 (omega arith) ∙ sym same_placed)
      ];
    }
