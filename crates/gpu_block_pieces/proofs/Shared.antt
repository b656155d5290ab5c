-- No byte of a piece shares a page with one of a piece of another kind.
use Rattle.std.proofs.Common.{◌≢◌, ℕ, ◌-◌, ◌<◌, ◌≤◌, sym, ap, inl, inr, arith}
use Rattle.std.specs.Prelude.{Contains}
use Rattle.gpu_block_pieces.specs.FreeList.{Extent, FreeList}
use Rattle.gpu_block_pieces.specs.Place.{page}
use Rattle.gpu_block_pieces.specs.Laws.{IsSound, IsPageSeparated}
use Rattle.gpu_block_pieces.proofs.Pages.{page_mono}

module _ (b : FreeList) (pos : 0 < b.granularity) (apart : IsPageSeparated b) where
  earlier_page : (x y : Extent) → Contains b.extents x → Contains b.extents y → x.kind ≢ y.kind → x.end ≤ y.start → (p q : ℕ) → p < x.end → y.offset ≤ q → page b.granularity p < page b.granularity q
  earlier_page x y hx hy ne le p q below above =
      let between = apart x y hx hy ne le in
      let low = page_mono b.granularity p (x.end - 1) pos (omega arith) in
      let high = page_mono b.granularity y.offset q pos above in
      omega arith

  pub no_shared_page : IsSound b → (x y : Extent) → Contains b.extents x → Contains b.extents y → x.kind ≢ y.kind → (p q : ℕ) → x.offset ≤ p → p < x.end → y.offset ≤ q → q < y.end → page
      b.granularity p ≢ page b.granularity q
  no_shared_page sound x y hx hy ne p q x0 x1 y0 y1 same =
      elim (sound.apart x y hx hy) [
        | inl one ↦ ne (ap (λ k. k.kind) one)
        | inr sides ↦ elim sides [
          | inl before ↦ (let lt = earlier_page x y hx hy ne before p q x1 y0 in omega arith)
          | inr behind ↦ (let lt = earlier_page y x hy hx (λ e. ne (sym e)) behind q p y1 x0 in omega arith)
        ]
      ]
