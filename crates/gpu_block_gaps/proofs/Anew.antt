-- Gaps that are put into an index in their order.
use Rattle.std.proofs.Common.{◌≡◌, ℕ, suc, ◌+◌, ◌<◌, ◌≤◌, List, [], ◌∷◌, ◌++◌, length, get_or, take, ◌⊎◌, inl, inr, sym, ap, subst, ◌∙◌, arith}
use Rattle.std.specs.List.{AllPairs, insert}
use Rattle.std.proofs.Math.Seq.{take-suc}
use Rattle.std.proofs.lemmas.Bool.{cases_lt}
use Rattle.std.proofs.lemmas.List.{get_or-take, length-take-le}
use Rattle.std.proofs.lemmas.List.Edits.{length-insert, get_or-insert_at, get_or-insert_above, insert_end}
use Rattle.gpu_block_gaps.specs.declared.index.Gap.{Gap}
use Rattle.gpu_block_gaps.specs.Index.{Before, HasKey, HasNoKey, IsInserted}

pub one_order : (a b : Gap) → Before a b → Before b a → ⊥
one_order a b (inl x) (inl y) = omega arith
one_order a b (inl x) (inr y) = let e = y.0 in omega arith
one_order a b (inr x) (inl y) = let e = x.0 in omega arith
one_order a b (inr x) (inr y) = let e = x.1 in let f = y.1 in omega arith

other_key : (a b : Gap) → Before a b → HasKey a b.length b.start → ⊥
other_key a b (inl x) same = let e = same.0 in omega arith
other_key a b (inr x) same = let e = x.1 in let f = same.1 in omega arith

module _ (gs : List Gap) (k : ℕ) (g : Gap) (sorted : AllPairs Before gs) (lt : k < length gs) (is : (d : Gap) → get_or gs k d ≡ g) where
  -- none of the gaps before it has its key
  pub fresh_next : HasNoKey (take k gs) g.length g.start
  fresh_next j d within same =
      let long = length-take-le k gs (omega arith) in
      let before : Before (get_or gs j d) g = subst (λ (b : Gap). Before (get_or gs j d) b) (is d) (sorted j k d (omega arith) lt) in
      other_key (get_or gs j d) g before (subst (λ (a : Gap). HasKey a g.length g.start) (get_or-take k gs j d (omega arith)) same)

  -- in order it stands behind them
  pub put_next : (new : List Gap) → IsInserted (take k gs) g new → AllPairs Before new → new ≡ take (suc k) gs
  put_next new put ordered = put.is ∙ by_place (cases_lt put.place k)
    where
      long : length (take k gs) ≡ k
      long = length-take-le k gs (omega arith)

      by_place : (put.place < k) ⊎ (k ≤ put.place) → insert (take k gs) put.place g ≡ take (suc k) gs
      by_place (inl less) =
          let p = put.place in
          let le = put.within in
          let ordered' = subst (λ (xs : List Gap). AllPairs Before xs) put.is ordered in
          let longer = length-insert (take k gs) p g le in
          let pair = ordered' p (p + 1) g (omega arith) (let l = long in omega arith) in
          let here = get_or-insert_at (take k gs) p g g le in
          let behind = get_or-insert_above (take k gs) p g g p (omega arith) le ∙ get_or-take k gs p g less in
          let one = subst (λ (b : Gap). Before g b) behind (subst (λ (a : Gap). Before a (get_or (insert (take k gs) p g) (p + 1) g)) here pair) in
          absurd (one_order g (get_or gs p g) one (subst (λ (b : Gap). Before (get_or gs p g) b) (is g) (sorted p k g less lt)))
      by_place (inr more) =
          let le = put.within in
          let l = long in
          let at : put.place ≡ length (take k gs) = omega arith in
          ap (λ p. insert (take k gs) p g) at ∙ insert_end (take k gs) g ∙ sym (take-suc gs k g lt ∙ ap (λ (x : Gap). take k gs ++ x ∷ []) (is g))
