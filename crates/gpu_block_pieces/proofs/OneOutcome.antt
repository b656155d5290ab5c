-- A take and a release have one outcome.
use Rattle.std.proofs.Common.{◌<◌, ◌^◌, ◌-◌, ◌≡◌, ℕ, ◌+◌, List, sym, ap, ◌∙◌, subst, inl, inr, arith}
use Rattle.std.specs.Prelude.{Contains}
use Rattle.std.proofs.lemmas.Bool.{cases_lt}
use Rattle.gpu_block_pieces.specs.FreeList.{Extent, FreeList, IsGap}
use Rattle.gpu_block_pieces.specs.Request.{Request}
use Rattle.gpu_block_pieces.specs.Changes.{Takes, Releases, with_extent, without_extent, with_gap, without_gap, moved_gap}
use Rattle.gpu_block_pieces.specs.Place.{RequestFits, IsBestFit, HasNoPlace}
use Rattle.gpu_block_pieces.specs.Laws.{IsSound}

pub record SamePlace (s s' e e' o o' : ℕ) : Type 0 where
  pub starts : s ≡ s'
  pub ends : e ≡ e'
  pub offsets : o ≡ o'

pub chosen_once : (b : FreeList) (r : Request) (s s' e e' o o' : ℕ) → IsBestFit b r s e o → IsBestFit b r s' e' o' → SamePlace s s' e e' o o'
chosen_once b r s s' e e' o o' c d =
    let p = c.fits.gap.nonempty in let q = d.fits.gap.nonempty in
    let places : (s ≡ s') × (e ≡ e') =
    elim (c.best s' e' o' d.fits) [
      | inl x ↦ elim (d.best s e o c.fits) [ inl y ↦ absurd (omega arith) | inr y ↦ (let y0 = y.0 in absurd (omega arith)) ]
      | inr x ↦ (let x0 = x.0 in let x1 = x.1 in elim (d.best s e o c.fits) [ inl y ↦ absurd (omega arith) | inr y ↦ (let y0 = y.0 in let y1 = y.1 in (omega arith, omega arith)) ])
    ] in
    let other : RequestFits b r s e o' = rw (places.0, places.1) d.fits in
    let m = c.fits.between.begins.least o' other.between.begins.begins in
    let n = other.between.begins.least o c.fits.between.begins.begins in
    record { starts = places.0; ends = places.1; offsets = omega arith }

pub same_block : (b b' : FreeList) → b.size ≡ b'.size → b.granularity ≡ b'.granularity → b.counter ≡ b'.counter → b.extents ≡ b'.extents → b.gap_chunk_ids ≡ b'.gap_chunk_ids → b ≡ b'
same_block b b' p q r s t = λ i. record { size = p i; granularity = q i; counter = r i; extents = s i; gap_chunk_ids = t i }

pub record SameTake (o o' n n' : ℕ) (new new' : FreeList) : Type 0 where
  pub offsets : o ≡ o'
  pub numbers : n ≡ n'
  pub blocks : new ≡ new'

pub takes_once : (old : FreeList) (r : Request) (o o' n n' : ℕ) (new new' : FreeList) → ((s k k' : ℕ) → Contains old.gap_chunk_ids (s, k) → Contains old.gap_chunk_ids (s, k') → k ≡ k') → Takes old r o n
    new → Takes old r o' n' new' → SameTake o o' n n' new new'
takes_once old r o o' n n' new new' once t u =
    let c = chosen_once old r t.start u.start t.end u.end o o' t.chosen u.chosen in
    let cs = c.starts in let ce = c.ends in let co = c.offsets in
    let in' = t.chosen.fits.between.inside in
    let ext : Extent → List Extent = λ x. with_extent x old.extents in
    let done : n ≡ n' → new.counter ≡ new'.counter → new.gap_chunk_ids ≡ new'.gap_chunk_ids → SameTake o o' n n' new new' =
    λ hn hc hg. record {
      offsets = co;
      numbers = hn;
      blocks = same_block new new' (t.same.0 ∙ sym u.same.0) (t.same.1 ∙ sym u.same.1) hc
          (t.extent ∙ ((λ i. ext (record { start = cs i; offset = co i; end = co i + r.size; kind = r.kind; chunk_id = hn i; name = r.name; word = 0 })) ∙ sym u.extent)) hg;
    } in
    elim (cases_lt (o + r.size) t.end) [
      | inl lt ↦
          let a = t.rest lt in let b = u.rest (omega arith) in
          done (a.0 ∙ sym b.0) (a.1 ∙ sym b.1) (a.2 ∙ ((λ i. moved_gap (cs i) (co i + r.size) old.gap_chunk_ids) ∙ sym b.2))
      | inr ge ↦
          let a = t.no_rest (omega arith) in let b = u.no_rest (omega arith) in
          done (once t.start n n' a.0 (subst (λ k. Contains old.gap_chunk_ids (k, n')) (sym cs) b.0)) (a.1 ∙ sym b.1) (a.2 ∙ ((λ i. without_gap (cs i) old.gap_chunk_ids) ∙ sym b.2))
    ]

-- a request that takes has a place
-- a request with a best gap has a place, where that leaves no rest or there is a number for it
pub best_has_place : (b : FreeList) (r : Request) (s e o : ℕ) → IsBestFit b r s e o → (o + r.size < e → b.counter < 2 ^ 64 - 1) → HasNoPlace b r → ⊥
best_has_place b r s e o best left h =
    elim h [
      | inl none ↦ none s e o best.fits
      | inr w ↦
          let c = chosen_once b r s w.0 e w.1 o w.2 best w.3 in
          let ce = c.ends in let co = c.offsets in let lt = w.4 in let last = w.5 in
          let more = left (omega arith) in
          omega arith
    ]

pub takes_or_none : (old : FreeList) (r : Request) (o n : ℕ) (new : FreeList) → Takes old r o n new → HasNoPlace old r → ⊥
takes_or_none old r o n new t h =
    elim h [
      | inl none ↦ none t.start t.end o t.chosen.fits
      | inr w ↦
          let c = chosen_once old r t.start w.0 t.end w.1 o w.2 t.chosen w.3 in
          let ce = c.ends in let co = c.offsets in let lt = w.4 in let last = w.5 in
          let left = (t.rest (omega arith)).3 in
          omega arith
    ]

pub releases_once : (old : FreeList) (n : ℕ) (new new' : FreeList) → IsSound old → Releases old n new → Releases old n new' → new ≡ new'
releases_once old n new new' sound t u =
    let same : t.gone ≡ u.gone = sound.one_number t.gone u.gone t.held u.held (t.numbered ∙ sym u.numbered) in
    let start : t.gone.start ≡ u.gone.start = ap (λ x. x.start) same in
    let done : new.gap_chunk_ids ≡ new'.gap_chunk_ids → new ≡ new' = λ gaps.
    same_block new new' (t.same.0 ∙ sym u.same.0) (t.same.1 ∙ sym u.same.1) (t.same.2 ∙ sym u.same.2) (t.extents ∙ (ap (λ x. without_extent x.start old.extents) same ∙ sym u.extents)) gaps in
    elim t.numbers [
      | inl a ↦ elim u.numbers [
        | inl b ↦ done (a.2 ∙ (ap (λ x. without_gap x.end old.gap_chunk_ids) same ∙ sym b.2))
        | inr b ↦ absurd (b.0 a.0 (subst (λ k. IsGap old a.0 k) start a.1))
      ]
      | inr a ↦ elim u.numbers [
        | inl b ↦ absurd (a.0 b.0 (subst (λ k. IsGap old b.0 k) (sym start) b.1))
        | inr b ↦ done (a.1 ∙ (ap (λ x. with_gap x.start n (without_gap x.end old.gap_chunk_ids)) same ∙ sym b.1))
      ]
    ]
