-- What a handle owns, by cases. Assumes `Logic`.
use Rattle.std.proofs.Common.{◌≡◌, ℕ, List, ◌∷◌, refl}
use seplogic.Ra.Ura.{Ura}
use mir.Raw.{raw as bare}
use base.Fraction.{full_share}
use base.Logic.{SProp, ent, guard, via, snd∗, guard_i, never_e}
use base.Fml.{ftrue}
use contract.Monad.{fact_use}
use types.Logic.{Logic, sem}
use types.Kit.{Item, Goal, Seq, ‵, given, ◌$◌, drop, fpick, learn, use1}
use denote.RattleType.{RattleType}
use denote.Memory.{lone}
use denote.RawPtr.{Ptr, block_ptr, null_ptr, lies_at, Testable}
use Rattle.std.specs.declared.alloc.Global.{Global}
use Rattle.std.specs.contracts.impls.GlobalAllocator.TheImpl.{ghosts}
use Rattle.std.specs.declared.option.Option.{Option}
use Rattle.std.specs.declared.option.Option.TheVariants.{None, Some}
use Rattle.std.specs.Box.Ownership.{box_owns}
use Rattle.std.proofs.GlobalToken.{dealloc_token-Testable}
use Rattle.gpu_c.specs.Owned.{handle_owns}

module _ (R : RattleType) (a : Global) where
  tested : {M : Type 1} {𝓤 : Ura M} (𝓛 : Logic 𝓤) (p : Ptr) (x : R.Denot)
      → ent 𝓤 (sem 𝓛 (box_owns (ghosts.dealloc_token a) R p x)) (guard 𝓤 (Testable p) (sem 𝓛 (box_owns (ghosts.dealloc_token a) R p x)))
  tested {𝓤 = 𝓤} 𝓛 p x = let B : SProp 𝓤 = sem 𝓛 (box_owns (ghosts.dealloc_token a) R p x) in
      fact_use 𝓤 (Testable p) (via 𝓤 _ (snd∗ 𝓤 (sem 𝓛 (lies_at R full_share p x)) (sem 𝓛 (ghosts.dealloc_token a (bare (lone R.mir)) p))) (dealloc_token-Testable 𝓛 a (bare (lone R.mir)) p))
      (guard_i 𝓤 (Testable p) B)

  module _ {M : Type 1} {𝓤 : Ura M} {𝓛 : Logic 𝓤} {K : Type 0} {Γ : List (Item 𝓤)} {G : Goal 𝓤 𝓛.H} where
    -- a step: null, which owns nothing, or a pointer that may be tested
    pub by_cases : K → (p : Ptr) (x : Option R.Denot) → (p ≡ null_ptr → x ≡ None → Seq K 𝓛 Γ G)
        → ((b o : ℕ) (y : R.Denot) → p ≡ block_ptr b o → x ≡ Some y → Testable (block_ptr b o) → Seq K 𝓛 (‵ (box_owns (ghosts.dealloc_token a) R (block_ptr b o) y) ∷ Γ) G)
        → Seq K 𝓛 (‵ (handle_owns R p x) ∷ Γ) G
    by_cases t null_ptr None k j = drop t $ k refl refl
    by_cases t null_ptr (Some x) k j = use1 𝓛 (given ⊥ (‵ ftrue)) (never_e 𝓤 _) $ learn t (λ z. absurd z)
    by_cases t (block_ptr b o) None k j = use1 𝓛 (given ⊥ (‵ ftrue)) (never_e 𝓤 _) $ learn t (λ z. absurd z)
    by_cases t (block_ptr b o) (Some x) k j = fpick t
        (λ _. use1 𝓛 (given (Testable (block_ptr b o)) (‵ (box_owns (ghosts.dealloc_token a) R (block_ptr b o) x))) (tested 𝓛 (block_ptr b o) x) $ learn t (λ e. j b o x refl refl e))
