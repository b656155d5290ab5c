-- The chain of a chunk id in its era, and in the era that begins.
use Rattle.std.proofs.Common.{◌≡◌, ℕ, zero, suc, ◌+◌, ◌-◌, ◌^◌, ◌<◌, ◌≤◌, List, [], ◌∷◌, ◌++◌, length, get_or, Bool, true, false, cond, refl, sym, ap, subst, ◌∙◌, ◌⊎◌, inl, inr, lit<, lit≤, arith}
use Rattle.std.specs.Prelude.{nat_lt}
use Rattle.std.proofs.Math.Nat.{mod-lt, pow-suc}
use Rattle.std.proofs.lemmas.Bool.{lt-ltb, le-ltb}
use Rattle.std.proofs.lemmas.Nat.{pow_pos}
use Rattle.std.proofs.lemmas.List.{length_push, get_or_push, get_or_append_left}
use Rattle.gpu_block_chunks.specs.declared.chain.eras.Eras.{Eras}
use Rattle.gpu_block_chunks.specs.Eras.{newest, chains_when_new, own_chain}

pub doubled : (era : ℕ) → 2 ^ (era + 1) ≡ 2 ^ era + 2 ^ era
doubled era = let is : era + 1 ≡ suc era = omega arith in let twice = pow-suc 2 era in let made = ap (λ (n : ℕ). 2 ^ n) is in omega arith

-- ---- there are as many chains as in the newest era, or fewer
few_by : (b : Bool) (m n p : ℕ) → 0 < m → 0 < n → m ≤ p → n ≤ p → (0 < cond b m n) × (cond b m n ≤ p)
few_by true m n p some some' few few' = (some, few)
few_by false m n p some some' few few' = (some', few')

chains_few : (since : List ℕ) (era k : ℕ) → (0 < chains_when_new since era k) × (chains_when_new since era k ≤ 2 ^ era)
chains_few since zero k = (lit< tt, lit≤ tt)
chains_few since (suc era) k =
    let rest = chains_few since era k in
    let less = rest.1 in
    let twice = pow-suc 2 era in
    few_by (nat_lt (get_or since era 0) k) (2 ^ suc era) (chains_when_new since era k) (2 ^ suc era) (pow_pos (suc era)) rest.0 (omega arith) (omega arith)

pub own_within : (eras : Eras) (k : ℕ) → own_chain eras k < 2 ^ newest eras
own_within eras k =
    let few = chains_few eras.since.items (newest eras) k in
    let most = few.1 in
    let low = mod-lt k few.0 in
    omega arith

-- ---- the last era that began before an id
pub of_era : (since : List ℕ) (era k : ℕ) → (era ≡ 0) ⊎ (get_or since (era - 1) 0 < k) → chains_when_new since era k ≡ 2 ^ era
of_era since zero k after = refl
of_era since (suc era) k (inl is) = absurd (omega arith)
of_era since (suc era) k (inr after) =
    let before : suc era - 1 ≡ era = omega arith in
    let late : get_or since era 0 < k = subst (λ (e : ℕ). get_or since e 0 < k) before after in
    ap (λ (b : Bool). cond b (2 ^ suc era) (chains_when_new since era k)) (lt-ltb (get_or since era 0) k late)

pub of_before : (since : List ℕ) (era k : ℕ) → 0 < era → k ≤ get_or since (era - 1) 0 → chains_when_new since era k ≡ chains_when_new since (era - 1) k
of_before since zero k some early = absurd (omega arith)
of_before since (suc era) k some early =
    let before : suc era - 1 ≡ era = omega arith in
    let soon : k ≤ get_or since era 0 = subst (λ (e : ℕ). k ≤ get_or since e 0) before early in
    ap (λ (b : Bool). cond b (2 ^ suc era) (chains_when_new since era k)) (le-ltb (get_or since era 0) k soon) ∙ ap (λ (e : ℕ). chains_when_new since e k) (sym before)

-- ---- an era begins
same_eras : (since new : List ℕ) (era k : ℕ) → ((e : ℕ) → e < era → get_or new e 0 ≡ get_or since e 0) → chains_when_new new era k ≡ chains_when_new since era k
same_eras since new zero k same = refl
same_eras since new (suc era) k same =
    ap (λ (x : ℕ). cond (nat_lt x k) (2 ^ suc era) (chains_when_new new era k)) (same era (omega arith))
    ∙ ap (λ (n : ℕ). cond (nat_lt (get_or since era 0) k) (2 ^ suc era) n) (same_eras since new era k (λ e less. same e (omega arith)))

module _ (since : List ℕ) (latest k : ℕ) where
  begun : get_or (since ++ latest ∷ []) (length since) 0 ≡ latest
  begun = get_or_push since latest 0 (length since) refl

  one_more : length (since ++ latest ∷ []) ≡ suc (length since)
  one_more = omega (arith, length_push since latest)

  last_era : suc (length since) - 1 ≡ length since
  last_era = omega arith

  -- an id that was there keeps its chain
  pub chains_kept : k ≤ latest → chains_when_new (since ++ latest ∷ []) (length (since ++ latest ∷ [])) k ≡ chains_when_new since (length since) k
  chains_kept early =
      ap (λ (e : ℕ). chains_when_new (since ++ latest ∷ []) e k) one_more
      ∙ of_before (since ++ latest ∷ []) (suc (length since)) k (omega arith)
      (subst (λ (e : ℕ). k ≤ get_or (since ++ latest ∷ []) e 0) (sym last_era) (subst (λ (n : ℕ). k ≤ n) (sym begun) early))
      ∙ ap (λ (e : ℕ). chains_when_new (since ++ latest ∷ []) e k) last_era
      ∙ same_eras since (since ++ latest ∷ []) (length since) k (λ e less. get_or_append_left since (latest ∷ []) 0 e less)

  -- a later one is of the era that begins
  pub chains_new : latest < k → chains_when_new (since ++ latest ∷ []) (length (since ++ latest ∷ [])) k ≡ 2 ^ length (since ++ latest ∷ [])
  chains_new late =
      of_era (since ++ latest ∷ []) (length (since ++ latest ∷ [])) k (inr (subst (λ (e : ℕ). get_or (since ++ latest ∷ []) (e - 1) 0 < k) (sym one_more)
      (subst (λ (e : ℕ). get_or (since ++ latest ∷ []) e 0 < k) (sym last_era) (subst (λ (n : ℕ). n < k) (sym begun) late))))
