-- A block with no extent is one gap, in which every request up to its size begins at 0.
use Rattle.std.proofs.Common.{◌≡◌, ◌≢◌, ℕ, ◌-◌, ◌^◌, ◌<◌, ◌≤◌, ◌⊎◌, List, [], refl, sym, subst, inl, inr, arith}
use Rattle.std.specs.Prelude.{All, Contains}
use Rattle.std.proofs.lemmas.List.Elements.{All-nil}
use Rattle.std.proofs.Math.Nat.{zero-mod}
use Rattle.gpu_block_pieces.specs.FreeList.{Extent, FreeList, IsGap, SomeExtent}
use Rattle.gpu_block_pieces.specs.Request.{Request}
use Rattle.gpu_block_pieces.specs.Place.{IsBestFit, HasNoPlace}
use Rattle.gpu_block_pieces.proofs.OneOutcome.{chosen_once}

no_extent : (b : FreeList) (P : Extent → Type 0) → b.extents ≡ [] → SomeExtent b P → ⊥
no_extent b P e w = let l = (subst (λ (xs : List Extent). Contains xs w.0) e w.1).1 in omega arith

pub empty_gap : (b : FreeList) → b.extents ≡ [] → 0 < b.size → IsGap b 0 b.size
empty_gap b e pos = record {
  nonempty = pos;
  inside = omega arith;
  meets_none = subst (λ (xs : List Extent). All (λ x. (x.end ≤ 0) ⊎ (b.size ≤ x.start)) xs) (sym e) (All-nil (λ (x : Extent). (x.end ≤ 0) ⊎ (b.size ≤ x.start)));
  starts = inl refl;
  ends = inl refl;
}

pub empty_only : (b : FreeList) (s e : ℕ) → b.extents ≡ [] → IsGap b s e → (s ≡ 0) × (e ≡ b.size)
empty_only b s e h gap = (
  elim gap.starts [ inl z ↦ z | inr w ↦ absurd (no_extent b (λ x. x.end ≡ s) h w) ],
  elim gap.ends [ inl z ↦ z | inr w ↦ absurd (no_extent b (λ x. x.start ≡ e) h w) ],
)

pub empty_chosen : (b : FreeList) (r : Request) → b.extents ≡ [] → 0 < b.size → r.size ≤ b.size → IsBestFit b r 0 b.size 0
empty_chosen b r h pos le = record {
  fits = record {
    gap = empty_gap b h pos;
    between = record {
      begins = record {
        begins = record { after = omega arith; aligned = zero-mod r.alignment; apart = λ w. absurd (no_extent b (λ x. (x.kind ≢ r.kind) × (x.end ≡ 0)) h w) };
        least = λ o m. omega arith;
      };
      inside = omega arith;
      apart = λ w. absurd (no_extent b (λ x. (x.kind ≢ r.kind) × (x.start ≡ b.size)) h w);
    };
  };
  best = λ s e o f. (let q = empty_only b s e h f.gap in let q0 = q.0 in let q1 = q.1 in inr (omega arith, omega arith));
}

pub empty_has_place : (b : FreeList) (r : Request) → b.extents ≡ [] → 0 < b.size → r.size ≤ b.size → HasNoPlace b r → (r.size < b.size) × (b.counter ≡ 2 ^ 64 - 1)
empty_has_place b r h pos le n =
    elim n [
      | inl none ↦ absurd (none 0 b.size 0 (empty_chosen b r h pos le).fits)
      | inr w ↦
          let c = chosen_once b r 0 w.0 b.size w.1 0 w.2 (empty_chosen b r h pos le) w.3 in
          let ce = c.ends in let co = c.offsets in let lt = w.4 in
          (omega arith, w.5)
    ]
