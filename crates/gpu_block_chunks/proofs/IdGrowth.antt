-- Chains with more slots, and with more heads.
use Rattle.std.proofs.Common.{◌≡◌, ℕ, ◌^◌, ◌<◌, ◌≤◌, ◌+◌, zero, suc, List, [], ◌∷◌, ◌++◌, length, get_or, replicate, Option, Some, None, refl, sym, ◌∙◌, subst, inl, inr, arith}
use Rattle.std.proofs.lemmas.Bool.{cases_lt}
use Rattle.std.proofs.lemmas.List.{length-append, length-replicate, get_or_past}
use Rattle.gpu_block_chunks.specs.ChunkIds.{id_at, link_at, IsOf, LeadsTo, IsBelow, AreLinked, AreChains}
use Rattle.gpu_block_chunks.proofs.IdChains.{same_leads}

-- ---- more slots
none_at : {X : Type 0} (n s : ℕ) → get_or {A = Option X} (replicate n None) s None ≡ None
none_at zero s = refl
none_at (suc n) zero = refl
none_at (suc n) (suc s) = none_at n s

pub get_more : {X : Type 0} (xs : List (Option X)) (more s : ℕ) → get_or (xs ++ replicate more None) s None ≡ get_or xs s None
get_more [] more s = none_at more s
get_more (x ∷ xs) more zero = refl
get_more (x ∷ xs) more (suc s) = get_more xs more s

module _ (chain_of : ℕ → ℕ) (heads fs ids : List (Option ℕ)) (more : ℕ) (are : AreChains chain_of heads fs ids) where
  id_same : (s : ℕ) → id_at (ids ++ replicate more None) s ≡ id_at ids s
  id_same s = get_more ids more s

  link_same : (chain : ℕ) (p : Option ℕ) → link_at heads (fs ++ replicate more None) chain p ≡ link_at heads fs chain p
  link_same chain None = refl
  link_same chain (Some q) = get_more fs more q

  leads_same : (P : ℕ → Type 0) (link : Option ℕ) → LeadsTo ids P link → LeadsTo (ids ++ replicate more None) P link
  leads_same P None leads = λ s k at holds. leads s k (sym (id_same s) ∙ at) holds
  leads_same P (Some t) leads =
      record { id = leads.id; at = id_same t ∙ leads.at; holds = leads.holds; greatest = λ s k at holds. leads.greatest s k (sym (id_same s) ∙ at) holds }

  more_linked : AreLinked (ids ++ replicate more None) chain_of (length heads) (link_at heads (fs ++ replicate more None))
  more_linked chain None lt of =
      subst (LeadsTo (ids ++ replicate more None) _) (sym (link_same chain None)) (leads_same _ (link_at heads fs chain None) (are.linked chain None lt tt))
  more_linked chain (Some q) lt of =
      subst (LeadsTo (ids ++ replicate more None) _) (sym (link_same chain (Some q)))
      (same_leads (ids ++ replicate more None) (λ m. (chain_of m ≡ chain) × IsBelow ids (Some q) m) (λ m. (chain_of m ≡ chain) × IsBelow (ids ++ replicate more None) (Some q) m)
      (link_at heads fs chain (Some q)) (λ m holds. (holds.0, λ top e. holds.1 top (sym (id_same q) ∙ e))) (λ m holds. (holds.0, λ top e. holds.1 top (id_same q ∙ e)))
      (leads_same _ (link_at heads fs chain (Some q)) (are.linked chain (Some q) lt (of.0, sym (id_same q) ∙ of.1, of.2))))

  pub more_chains : length fs + more ≤ length heads → length fs + more < 2 ^ 32 → AreChains chain_of heads (fs ++ replicate more None) (ids ++ replicate more None)
  more_chains enough few =
      let long = length-append fs (replicate more None) in
      let wide = length-append ids (replicate more None) in
      let added = length-replicate {A = Option ℕ} more None in
      let same = are.long in
      record {
        inside = are.inside;
        linked = more_linked;
        distinct = λ s t k at at'. are.distinct s t k (sym (id_same s) ∙ at) (sym (id_same t) ∙ at');
        long = omega arith;
        enough = omega arith;
        few = omega arith;
      }

-- ---- more heads, of which no id in a slot has one
module _ (was now : ℕ → ℕ) (heads fs ids : List (Option ℕ)) (more : ℕ) (are : AreChains was heads fs ids) (kept : (s k : ℕ) → id_at ids s ≡ Some k → now k ≡ was k) where
  head_same : (chain : ℕ) (p : Option ℕ) → link_at (heads ++ replicate more None) fs chain p ≡ link_at heads fs chain p
  head_same chain None = get_more heads more chain
  head_same chain (Some q) = refl

  -- a link leads to the same id of the same chain
  leads_now : (chain : ℕ) (Q : ℕ → Type 0) (link : Option ℕ) → LeadsTo ids (λ k. (was k ≡ chain) × Q k) link → LeadsTo ids (λ k. (now k ≡ chain) × Q k) link
  leads_now chain Q None leads = λ s k at holds. leads s k at (sym (kept s k at) ∙ holds.0, holds.1)
  leads_now chain Q (Some t) leads =
      record {
        id = leads.id;
        at = leads.at;
        holds = (kept t leads.id leads.at ∙ leads.holds.0, leads.holds.1);
        greatest = λ s k at holds. leads.greatest s k at (sym (kept s k at) ∙ holds.0, holds.1);
      }

  of_before : (chain : ℕ) (p : Option ℕ) → IsOf ids now chain p → IsOf ids was chain p
  of_before chain None of = tt
  of_before chain (Some q) of = (of.0, of.1, sym (kept q of.0 of.1) ∙ of.2)

  -- no id is of a new chain
  none_new : (chain : ℕ) → length heads ≤ chain → (s k : ℕ) → id_at ids s ≡ Some k → now k ≡ chain → ⊥
  none_new chain past s k at is = let same = kept s k at in let inside = are.inside k in omega arith

  leads_new : (chain : ℕ) (p : Option ℕ) → length heads ≤ chain → IsOf ids now chain p → LeadsTo ids (λ k. (now k ≡ chain) × IsBelow ids p k) (link_at heads fs chain p)
  leads_new chain None past of = subst (LeadsTo ids _) (sym (get_or_past heads chain None past)) (λ s k at holds. none_new chain past s k at holds.0)
  leads_new chain (Some q) past of = absurd (none_new chain past q of.0 of.1 of.2)

  wide_linked : AreLinked ids now (length (heads ++ replicate more None)) (link_at (heads ++ replicate more None) fs)
  wide_linked chain p lt of =
      subst (LeadsTo ids _) (sym (head_same chain p))
      (elim (cases_lt chain (length heads)) as (λ _. LeadsTo ids (λ k. (now k ≡ chain) × IsBelow ids p k) (link_at heads fs chain p)) [
        | inl old ↦ leads_now chain (IsBelow ids p) (link_at heads fs chain p) (are.linked chain p old (of_before chain p of))
        | inr new ↦ leads_new chain p new of
      ])

  pub wide_chains : ((k : ℕ) → now k < length heads + more) → AreChains now (heads ++ replicate more None) fs ids
  wide_chains inside =
      let long = length-append heads (replicate more None) in
      let added = length-replicate {A = Option ℕ} more None in
      let old = are.enough in
      record {
        inside = λ k. let less = inside k in omega arith;
        linked = wide_linked;
        distinct = are.distinct;
        long = are.long;
        enough = omega arith;
        few = are.few;
      }
