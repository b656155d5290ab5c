-- What a source holds of a pool's blocks, as one block is added, changes in its place, or goes.
use Rattle.std.proofs.Common.{◌≡◌, ◌≢◌, ◌∙◌, ◌⊎◌, refl, sym, ap, subst, ℕ, zero, suc, Option, Some, None, inl, inr, ⊎_elim, List, [], ◌∷◌, All}
use Rattle.std.proofs.lemmas.Bool.{cases_eq}
use Rattle.std.proofs.lemmas.List.Elements.{All-head, All-tail}
use Rattle.gpu_block.specs.Block.{size_of}
use Rattle.gpu_core.specs.TypeState.{Slot, slot_at}
use Rattle.gpu_core.specs.Blocks.{Slots, block_at}
use Rattle.gpu_core.specs.Held.{IsNoBlock}
use Rattle.gpu_core.proofs.Placed.{OnlyBlock, same_place}
use Rattle.gpu_core.proofs.Options.{none_some, some_same}
use Rattle.gpu_pool.specs.Source.{HeldBlocks, Adds, Removes}
use Rattle.gpu_pool.specs.Held.{held_as, HoldsJustBlocks}

-- a block of the same number and size stands in a block's place
module _ {H : Type 0} (number : H → ℕ) (held : HeldBlocks) (old new : Slots H) (t i : ℕ) (a b : Slot H) (at : block_at old t i ≡ Some a) (only : OnlyBlock old t i (Some b) new)
    (same : b.handle ≡ a.handle) (size : size_of b.block ≡ size_of a.block) (h : HoldsJustBlocks number held old) where
  before : (u j : ℕ) (s : Slot H) → block_at new u j ≡ Some s → (r : Slot H) × (block_at old u j ≡ Some r) × (s.handle ≡ r.handle) × (size_of s.block ≡ size_of r.block)
  before u j s found =
      ⊎_elim
      (λ here.
      let there : block_at new t i ≡ Some s = ap (λ k. block_at new k i) (sym here.0) ∙ ap (block_at new u) (sym here.1) ∙ found in
      let is : b ≡ s = some_same b s (sym only.at ∙ there) in
      (a, ap (λ k. block_at old k j) here.0 ∙ ap (block_at old t) here.1 ∙ at, sym (ap (λ (x : Slot H). x.handle) is) ∙ same, sym (ap (λ (x : Slot H). size_of x.block) is) ∙ size))
      (λ away. (s, sym (only.others u j away) ∙ found, refl, refl))
      (same_place u t j i)

  after : (u j : ℕ) (r : Slot H) → block_at old u j ≡ Some r → (s : Slot H) × (block_at new u j ≡ Some s) × (s.handle ≡ r.handle)
  after u j r found =
      ⊎_elim
      (λ here.
      let there : block_at old t i ≡ Some r = ap (λ k. block_at old k i) (sym here.0) ∙ ap (block_at old u) (sym here.1) ∙ found in
      let is : a ≡ r = some_same a r (sym at ∙ there) in
      (b, ap (λ k. block_at new k j) here.0 ∙ ap (block_at new t) here.1 ∙ only.at, same ∙ ap (λ (x : Slot H). x.handle) is))
      (λ away. (r, only.others u j away ∙ found, refl))
      (same_place u t j i)

  pub changed_holds : HoldsJustBlocks number held new
  changed_holds = record {
    blocks = λ u j s found.
        let r = before u j s found in
        ap (λ (n : H). held (number n)) r.2 ∙ h.blocks u j r.0 r.1 ∙ ap (λ n. Some (record { memory_type = u; size = n })) (sym r.3);
    one_block = λ u j v k s r found there alike.
        let x = before u j s found in
        let y = before v k r there in
        h.one_block u j v k x.0 y.0 x.1 y.1 (ap number (sym x.2) ∙ alike ∙ ap number y.2);
    others = λ n none. h.others n (λ u j r found is. let s = after u j r found in none u j s.0 s.1 (ap number s.2 ∙ is));
  }

-- a block more
module _ {H : Type 0} (number : H → ℕ) (held now : HeldBlocks) (old new : Slots H) (t i : ℕ) (b : Slot H) (empty : block_at old t i ≡ None) (only : OnlyBlock old t i (Some b) new)
    (adds : Adds held (number b.handle) (held_as t b) now) (h : HoldsJustBlocks number held old) where
  origin : (u j : ℕ) (s : Slot H) → block_at new u j ≡ Some s → ((u ≡ t) × (j ≡ i) × (s ≡ b)) ⊎ (block_at old u j ≡ Some s)
  origin u j s found =
      ⊎_elim
      (λ here.
      let there : block_at new t i ≡ Some s = ap (λ k. block_at new k i) (sym here.0) ∙ ap (block_at new u) (sym here.1) ∙ found in
      inl (here.0, here.1, sym (some_same b s (sym only.at ∙ there))))
      (λ away. inr (sym (only.others u j away) ∙ found))
      (same_place u t j i)

  -- no live block has the new number
  none : IsNoBlock number old (number b.handle)
  none u j s at is = none_some (held_as u s) (sym adds.was_free ∙ ap held (sym is) ∙ h.blocks u j s at)

  stays : (u j : ℕ) (r : Slot H) → block_at old u j ≡ Some r → block_at new u j ≡ Some r
  stays u j r found =
      ⊎_elim
      (λ here. absurd (none_some r (sym empty ∙ (ap (λ k. block_at old k i) (sym here.0) ∙ ap (block_at old u) (sym here.1) ∙ found))))
      (λ away. only.others u j away ∙ found)
      (same_place u t j i)

  pub added_holds : HoldsJustBlocks number now new
  added_holds = record {
    blocks = λ u j s found.
        ⊎_elim
        (λ is. ap (λ (x : Slot H). now (number x.handle)) is.2 ∙ adds.held ∙ (λ k. Some (held_as (sym is.0 k) (sym is.2 k))))
        (λ was. adds.others (number s.handle) (none u j s was) ∙ h.blocks u j s was)
        (origin u j s found);
    one_block = λ u j v k s r found there alike.
        ⊎_elim
        (λ x. ⊎_elim
        (λ y. (x.0 ∙ sym y.0, x.1 ∙ sym y.1))
        (λ was. absurd (none v k r was (sym alike ∙ ap (λ (z : Slot H). number z.handle) x.2)))
        (origin v k r there))
        (λ was. ⊎_elim
        (λ y. absurd (none u j s was (alike ∙ ap (λ (z : Slot H). number z.handle) y.2)))
        (λ also. h.one_block u j v k s r was also alike)
        (origin v k r there))
        (origin u j s found);
    others = λ n out. adds.others n (λ is. out t i b only.at (sym is)) ∙ h.others n (λ u j r found is. out u j r (stays u j r found) is);
  }

-- a block less
module _ {H : Type 0} (number : H → ℕ) (held now : HeldBlocks) (old new : Slots H) (t i : ℕ) (a : Slot H) (at : block_at old t i ≡ Some a) (only : OnlyBlock old t i None new)
    (went : Removes held (number a.handle) now) (h : HoldsJustBlocks number held old) where
  left : (u j : ℕ) (s : Slot H) → block_at new u j ≡ Some s → (block_at old u j ≡ Some s) × (number s.handle ≢ number a.handle)
  left u j s found =
      ⊎_elim
      (λ here. absurd (none_some s (sym only.at ∙ (ap (λ k. block_at new k i) (sym here.0) ∙ ap (block_at new u) (sym here.1) ∙ found))))
      (λ away.
      let was = sym (only.others u j away) ∙ found in
      (was, λ is. let place = h.one_block u j t i s a was at is in away place.0 place.1))
      (same_place u t j i)

  pub removed_holds : HoldsJustBlocks number now new
  removed_holds = record {
    blocks = λ u j s found. let was = left u j s found in went.others (number s.handle) was.1 ∙ h.blocks u j s was.0;
    one_block = λ u j v k s r found there alike. h.one_block u j v k s r (left u j s found).0 (left v k r there).0 alike;
    others = λ n out.
        ⊎_elim
        (λ same. ap now same ∙ went.gone)
        (λ ne. went.others n ne ∙ h.others n (λ u j r found is.
        ⊎_elim
        (λ here.
        let there : block_at old t i ≡ Some r = ap (λ k. block_at old k i) (sym here.0) ∙ ap (block_at old u) (sym here.1) ∙ found in
        ne (sym is ∙ ap (λ (z : Slot H). number z.handle) (sym (some_same a r (sym at ∙ there)))))
        (λ away. out u j r (only.others u j away ∙ found) is)
        (same_place u t j i)))
        (cases_eq n (number a.handle));
  }

-- what is held changes by no number
pub same_holds : {H : Type 0} (number : H → ℕ) (held now : HeldBlocks) (slots new : Slots H) → new ≡ slots → ((n : ℕ) → now n ≡ held n) → HoldsJustBlocks number held slots → HoldsJustBlocks number now new
same_holds {H} number held now slots new same alike h =
    subst (λ (ss : Slots H). HoldsJustBlocks number now ss) (sym same)
    (record {
      blocks = λ t i s at. alike (number s.handle) ∙ h.blocks t i s at;
      one_block = h.one_block;
      others = λ n none. alike n ∙ h.others n none;
    })

-- ---- no blocks

no_block : {H : Type 0} (slots : Slots H) → All (λ ss. ss ≡ []) slots → (t i : ℕ) (s : Slot H) → block_at slots t i ≡ Some s → ⊥
no_block [] empty t i s at = none_some s at
no_block {H} (x ∷ xs) empty zero i s at = none_some s (sym (ap (λ (ss : List (Option (Slot H))). slot_at ss i) (All-head (λ ss. ss ≡ []) x xs empty)) ∙ at)
no_block (x ∷ xs) empty (suc t) i s at = no_block xs (All-tail (λ ss. ss ≡ []) x xs empty) t i s at

pub holds_nothing : {H : Type 0} (number : H → ℕ) (held : HeldBlocks) (slots : Slots H) → All (λ ss. ss ≡ []) slots → ((n : ℕ) → held n ≡ None) → HoldsJustBlocks number held slots
holds_nothing number held slots empty none = record {
  blocks = λ t i s at. absurd (no_block slots empty t i s at);
  one_block = λ t i u j s r at there alike. absurd (no_block slots empty t i s at);
  others = λ n out. none n;
}
