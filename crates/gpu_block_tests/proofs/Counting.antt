-- Counts over blocks that are written out.
use Rattle.std.proofs.Common.{◌≡◌, ℕ, [], ◌∷◌, refl, count_by}
use Rattle.gpu_block_pieces.specs.FreeList.{Extent}
use Rattle.gpu_cost.specs.Cost.{digits}
use Rattle.gpu_block_pieces.specs.Search.{gap_spans, is_tried_span}

pub digits_are : (digits 0 ≡ 0) × (digits 1 ≡ 1) × (digits 3 ≡ 2) × (digits 4 ≡ 3) × (digits 1000 ≡ 10)
unfolding digits
digits_are = (refl, refl, refl, refl, refl)

pub digits_two : digits 2 ≡ 2
unfolding digits
digits_two = refl

pub one_test : (x y : Extent) (n : ℕ) → x.start ≡ 100 → y.start ≡ 160 → n ≡ 40
    → count_by (is_tried_span n 110 160) (gap_spans (record { size = 4194304; granularity = 1; counter = 6; extents = x ∷ y ∷ []; gap_chunk_ids = (0, 2) ∷ (110, 4) ∷ (170, 1) ∷ [] })) ≡ 1
one_test x y n ex ey en = rw (ex, ey, en) refl

pub two_tests : (x y : Extent) (n : ℕ) → x.start ≡ 16 → y.start ≡ 1088 → n ≡ 16
    → count_by (is_tried_span n 2064 4194304) (gap_spans (record { size = 4194304; granularity = 1024; counter = 5; extents = x ∷ y ∷ []; gap_chunk_ids = (0, 2) ∷ (2064, 1) ∷ [] })) ≡ 2
two_tests x y n ex ey en = rw (ex, ey, en) refl
