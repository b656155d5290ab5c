-- The blocks of a pool go back one after another, each once.
use Rattle.std.specs.Prelude.{IsSome}
use Rattle.std.proofs.Common.{◌≡◌, ◌≢◌, ◌∙◌, refl, sym, ap, subst, ⊎_elim, inl, inr, ℕ, suc, List, [], ◌∷◌, ◌++◌, Option, Some, None, arith}
use Rattle.std.proofs.lemmas.Bool.{cases_eq}
use Rattle.gpu_core.specs.TypeState.{Slot, slot_at}
use Rattle.gpu_core.specs.Blocks.{Slots, block_at}
use Rattle.gpu_pool.specs.Handles.{handles_in, all_handles}
use Rattle.gpu_pool.specs.Held.{HoldsJustBlocks, HoldsJust}
use Rattle.gpu_pool.specs.Source.{HeldBlocks}
use Rattle.gpu_pool.proofs.Listing.{In, in_either, block_listed, slot_of, listed_block}

module _ {H : Type 0} (number : H → ℕ) where
  -- no two of the handles have one number
  abbrev NumbersDiffer : List H → Type 0
  NumbersDiffer [] = Unit {0}
  NumbersDiffer (x ∷ xs) = ((y : H) → In xs y → number x ≢ number y) × NumbersDiffer xs

  differ_both : (xs ys : List H) → NumbersDiffer xs → NumbersDiffer ys → ((x y : H) → In xs x → In ys y → number x ≢ number y) → NumbersDiffer (xs ++ ys)
  differ_both [] ys dx dy cross = dy
  differ_both (x ∷ xs) ys dx dy cross = (
    λ y within. ⊎_elim (λ left. dx.0 y left) (λ right. cross x y (inl refl) right) (in_either xs ys y within),
    differ_both xs ys dx.1 dy (λ z y left right. cross z y (inr left) right),
  )

  -- no two blocks in these slots have one number
  abbrev OnePlace : List (Option (Slot H)) → Type 0
  OnePlace ss = (i j : ℕ) (s r : Slot H) → slot_at ss i ≡ Some s → slot_at ss j ≡ Some r → number s.handle ≡ number r.handle → i ≡ j

  slots_differ : (ss : List (Option (Slot H))) → OnePlace ss → NumbersDiffer (handles_in ss)
  slots_differ [] one = tt
  slots_differ (None ∷ ss) one = slots_differ ss (λ i j s r at there alike. let same = one (suc i) (suc j) s r at there alike in omega (arith, same))
  slots_differ (Some a ∷ ss) one = (
    λ y within alike.
        let f = slot_of ss y within in
        let same = one 0 (suc f.0) a f.1 refl f.2 (alike ∙ sym (ap number f.3)) in
        omega (arith, same),
    slots_differ ss (λ i j s r at there alike. let same = one (suc i) (suc j) s r at there alike in omega (arith, same)),
  )

  abbrev OneBlock : Slots H → Type 0
  OneBlock ss = (t i u j : ℕ) (s r : Slot H) → block_at ss t i ≡ Some s → block_at ss u j ≡ Some r → number s.handle ≡ number r.handle → (t ≡ u) × (i ≡ j)

  all_differ : (ss : Slots H) → OneBlock ss → NumbersDiffer (all_handles ss)
  all_differ [] one = tt
  all_differ (x ∷ ss) one =
      differ_both (handles_in x) (all_handles ss)
      (slots_differ x (λ i j s r at there alike. (one 0 i 0 j s r at there alike).1))
      (all_differ ss (λ t i u j s r at there alike.
      let same = one (suc t) i (suc u) j s r at there alike in
      let types = same.0 in
      (omega (arith, types), same.1)))
      (λ h k left right alike.
      let f = slot_of x h left in
      let b = listed_block ss k right in
      let same = (one 0 f.0 (suc b.0) b.1 f.1 b.2 f.2 b.3 (ap number f.3 ∙ alike ∙ sym (ap number b.4))).0 in
      omega (arith, same))

  just : (handles : List H) (held : HeldBlocks) → ((h : H) → In handles h → IsSome (held (number h))) → NumbersDiffer handles
      → ((n : ℕ) → ((h : H) → In handles h → number h ≢ n) → held n ≡ None) → HoldsJust number held handles
  just [] held each differ others = λ n. others n (λ h within. absurd within)
  just (x ∷ xs) held each differ others = (
    each x (inl refl),
    λ after went.
        just xs after
        (λ h within. subst IsSome (sym (went.others (number h) (λ alike. differ.0 h within (sym alike)))) (each h (inr within)))
        differ.1
        (λ n none.
        ⊎_elim
        (λ same. ap after same ∙ went.gone)
        (λ ne. went.others n ne ∙ others n (λ h within. ⊎_elim (λ (first : x ≡ h). λ is. ne (sym is ∙ ap number (sym first))) (λ later. none h later) within))
        (cases_eq n (number x))),
  )

  -- a source that holds just the live blocks holds just those of the handles that are listed
  pub holds_listed : (held : HeldBlocks) (slots : Slots H) → HoldsJustBlocks number held slots → HoldsJust number held (all_handles slots)
  holds_listed held slots h =
      just (all_handles slots) held
      (λ k within.
      let b = listed_block slots k within in
      subst (λ (x : H). IsSome (held (number x))) b.4 (subst IsSome (sym (h.blocks b.0 b.1 b.2 b.3)) refl))
      (all_differ slots h.one_block)
      (λ n none. h.others n (λ t i s at. none s.handle (block_listed slots t i s at)))
