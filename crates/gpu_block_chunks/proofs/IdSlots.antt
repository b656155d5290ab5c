-- The slot of a chunk id, and the links from slot to slot.
use Rattle.std.proofs.Common.{◌≡◌, ◌≢◌, ℕ, ◌+◌, ◌<◌, List, [], ◌∷◌, ◌++◌, length, set, replicate, Bool, true, false, cond, ◌==◌, Option, Some, None, refl, sym, ap, ◌∙◌, subst, ◌⊎◌, inl, inr, add-one, zero, suc, arith}
use Rattle.std.specs.Option.{option_map}
use Rattle.std.proofs.lemmas.Bool.{eqb-true, eq-eqb, false≢true}
use Rattle.std.proofs.lemmas.Option.{same_Some}
use Rattle.std.proofs.lemmas.List.{get_or-set_other}
use Rattle.gpu_block_chunks.specs.Chain.{is_at}
use Rattle.gpu_block_chunks.specs.ChunkIds.{id_at, slot_of, link_at}

-- ---- the slot of an id
slot_by : (b : Bool) (o : Option ℕ) (s : ℕ) → cond b (Some 0) (option_map (λ (t : ℕ). t + 1) o) ≡ Some s → ((b ≡ true) × (s ≡ 0)) ⊎ ((b ≡ false) × ((t : ℕ) × (o ≡ Some t) × (s ≡ t + 1)))
slot_by true o s e = inl (refl, sym (same_Some 0 s e))
slot_by false None s e = absurd (let no : None ≡ Some s = e in cc)
slot_by false (Some t) s e = inr (refl, (t, refl, sym (same_Some (t + 1) s e)))

is_some_at : (o : Option ℕ) (k : ℕ) → is_at o k ≡ true → o ≡ Some k
is_some_at None k e = absurd (false≢true e)
is_some_at (Some j) k e = ap (λ (u : ℕ). Some u) (eqb-true j k e)

-- what is found has the id
pub slot_has : (ids : List (Option ℕ)) (k s : ℕ) → slot_of ids k ≡ Some s → id_at ids s ≡ Some k
slot_has [] k s e = absurd (let no : None ≡ Some s = e in cc)
slot_has (o ∷ ids) k s e =
    elim (slot_by (is_at o k) (slot_of ids k) s e) as (λ _. id_at (o ∷ ids) s ≡ Some k) [
      | inl p ↦ subst (λ (u : ℕ). id_at (o ∷ ids) u ≡ Some k) (sym p.1) (is_some_at o k p.0)
      | inr p ↦ subst (λ (u : ℕ). id_at (o ∷ ids) u ≡ Some k) (sym p.1.2) (let there = slot_has ids k p.1.0 p.1.1 in rw add-one there)
    ]

none_by : (b : Bool) (o : Option ℕ) → cond b (Some 0) (option_map (λ (t : ℕ). t + 1) o) ≡ None → (b ≡ false) × (o ≡ None)
none_by true o e = absurd (let no : Some 0 ≡ None = e in cc)
none_by false None e = (refl, refl)
none_by false (Some t) e = absurd (let no : Some (t + 1) ≡ None = e in cc)

-- where nothing is found, no slot has the id
pub slot_none : (ids : List (Option ℕ)) (k : ℕ) → slot_of ids k ≡ None → (s : ℕ) → id_at ids s ≢ Some k
slot_none [] k e s = λ (at : None ≡ Some k). cc
slot_none (o ∷ ids) k e zero = λ (at : o ≡ Some k).
    false≢true (sym (none_by (is_at o k) (slot_of ids k) e).0 ∙ ap (λ (u : Option ℕ). is_at u k) at ∙ eq-eqb k k refl)
slot_none (o ∷ ids) k e (suc s) = slot_none ids k (none_by (is_at o k) (slot_of ids k) e).1 s

by_slot : (ids : List (Option ℕ)) (k : ℕ) (P : Option ℕ → Type 0) → (slot_of ids k ≡ None → P None) → ((s : ℕ) → slot_of ids k ≡ Some s → P (Some s)) → P (slot_of ids k)
by_slot ids k P none some = cases (slot_of ids k) refl
  where
    cases : (o : Option ℕ) → slot_of ids k ≡ o → P o
    cases None e = none e
    cases (Some s) e = some s e

pub slot_absent : (ids : List (Option ℕ)) (k : ℕ) → ((s : ℕ) → id_at ids s ≢ Some k) → slot_of ids k ≡ None
slot_absent ids k absent = by_slot ids k (λ o. o ≡ None) (λ e. refl) (λ s e. absurd (absent s (slot_has ids k s e)))

-- the only slot with an id is found
pub slot_found : (ids : List (Option ℕ)) (k s : ℕ) → id_at ids s ≡ Some k → ((t : ℕ) → id_at ids t ≡ Some k → t ≡ s) → slot_of ids k ≡ Some s
slot_found ids k s at alone = by_slot ids k (λ o. o ≡ Some s) (λ e. absurd (slot_none ids k e s at)) (λ t e. ap (λ (u : ℕ). Some u) (alone t (slot_has ids k t e)))

-- ---- an id is put into a slot without one
by_test : (b : Bool) (P : Bool → Type 0) → (b ≡ true → P true) → (b ≡ false → P false) → P b
by_test true P holds fails = holds refl
by_test false P holds fails = fails refl

pub slot_set : (ids : List (Option ℕ)) (k s : ℕ) → s < length ids → id_at ids s ≡ None → slot_of ids k ≡ None → (q : ℕ) → slot_of (set ids s (Some k)) q ≡ cond (k == q) (Some s) (slot_of ids q)
slot_set [] k s within vacant new q = absurd (omega arith)
slot_set (o ∷ ids) k zero within vacant new q =
    subst (λ (u : Option ℕ). cond (k == q) (Some 0) (option_map (λ (t : ℕ). t + 1) (slot_of ids q)) ≡ cond (k == q) (Some 0) (slot_of (u ∷ ids) q)) (sym vacant) refl
slot_set (o ∷ ids) k (suc s) within vacant new q =
    let split = none_by (is_at o k) (slot_of ids k) new in
    let rest = slot_set ids k s (omega arith) vacant split.1 q in
    ap (λ (u : Option ℕ). cond (is_at o q) (Some 0) (option_map (λ (t : ℕ). t + 1) u)) rest ∙ by_test (k == q) (λ b.
    cond (is_at o q) (Some 0) (option_map (λ (t : ℕ). t + 1) (cond b (Some s) (slot_of ids q))) ≡ cond b (Some (suc s)) (cond (is_at o q) (Some 0) (option_map (λ (t : ℕ). t + 1) (slot_of ids q))))
    (λ same.
    ap (λ (b : Bool). cond b (Some 0) (Some (s + 1))) (ap (is_at o) (sym (eqb-true k q same)) ∙ split.0) ∙ rw add-one refl)
    (λ differs. refl)

-- ---- or taken out of its slot
slot_kept : (ids : List (Option ℕ)) (k s : ℕ) → id_at ids s ≡ Some k → (q : ℕ) → (k == q) ≡ false → slot_of (set ids s None) q ≡ slot_of ids q
slot_kept [] k s at q differs = refl
slot_kept (o ∷ ids) k zero at q differs =
    let other : is_at o q ≡ false = ap (λ (u : Option ℕ). is_at u q) at ∙ differs in
    ap (λ (b : Bool). cond b (Some 0) (option_map (λ (t : ℕ). t + 1) (slot_of ids q))) (sym other)
slot_kept (o ∷ ids) k (suc s) at q differs = ap (λ (u : Option ℕ). cond (is_at o q) (Some 0) (option_map (λ (t : ℕ). t + 1) u)) (slot_kept ids k s at q differs)

pub slot_out : (ids : List (Option ℕ)) (k s : ℕ) → id_at ids s ≡ Some k → slot_of (set ids s None) k ≡ None → (q : ℕ) → slot_of (set ids s None) q ≡ cond (k == q) None (slot_of ids q)
slot_out ids k s at gone q =
    by_test (k == q) (λ b. slot_of (set ids s None) q ≡ cond b None (slot_of ids q))
    (λ same. ap (slot_of (set ids s None)) (sym (eqb-true k q same)) ∙ gone)
    (λ differs. slot_kept ids k s at q differs)

-- ---- there are more slots
none_replicated : (more q : ℕ) → slot_of (replicate more None) q ≡ None
none_replicated zero q = refl
none_replicated (suc more) q = ap (option_map (λ (t : ℕ). t + 1)) (none_replicated more q)

pub slot_more : (ids : List (Option ℕ)) (more q : ℕ) → slot_of (ids ++ replicate more None) q ≡ slot_of ids q
slot_more [] more q = none_replicated more q
slot_more (o ∷ ids) more q = ap (λ (u : Option ℕ). cond (is_at o q) (Some 0) (option_map (λ (t : ℕ). t + 1) u)) (slot_more ids more q)

-- ---- links
pub link_set : (heads fs : List (Option ℕ)) (s : ℕ) (x : Option ℕ) (chain : ℕ) (p : Option ℕ) → p ≢ Some s → link_at heads (set fs s x) chain p ≡ link_at heads fs chain p
link_set heads fs s x chain None ne = refl
link_set heads fs s x chain (Some q) ne = get_or-set_other fs s q x None (λ (is : q ≡ s). ne (ap (λ (u : ℕ). Some u) is))
