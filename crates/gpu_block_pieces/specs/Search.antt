-- What a search of a block costs.
use Rattle.std.specs.Prelude.{◌≡◌, ℕ, ◌+◌, ◌-◌, ◌≤◌, nat_lt, nat_le, ◌&&◌, ◌||◌, ◌==◌, if◌then◌else◌, Bool, length, map, List, [], ◌∷◌}
use Rattle.std.specs.List.{count_by}
use Rattle.gpu_block_pieces.specs.FreeList.{Extent, FreeList}
use Rattle.gpu_block_pieces.specs.Request.{Request}
use Rattle.gpu_block_pieces.specs.Place.{RequestFits, IsBestFit}
use Rattle.gpu_cost.specs.Cost.{Counts, digits}

-- where the gap that begins at `start` ends: at the next extent, or at the block's end
abbrev pub gap_end : ℕ → List Extent → ℕ → ℕ
gap_end size [] start = size
gap_end size (x ∷ xs) start = if nat_le start x.start then x.start else gap_end size xs start

-- length and start of each gap
abbrev pub gap_spans : FreeList → List (ℕ × ℕ)
gap_spans b = map (λ g. (gap_end b.size b.extents g.0 - g.0, g.0)) b.gap_chunk_ids

-- the gap is long enough for n bytes
abbrev pub is_long_span : ℕ → ℕ × ℕ → Bool
is_long_span n s = nat_le n s.0

-- and not behind the gap [start, end) in the order of length and start
abbrev pub is_tried_span : ℕ → ℕ → ℕ → ℕ × ℕ → Bool
is_tried_span n start end s = is_long_span n s && (nat_lt s.0 (end - start) || (s.0 == end - start && nat_le s.1 start))

-- what finding and taking a place costs. With k gaps at most digits(k) comparisons of a length; a test for each gap that is long enough, up to the chosen one in the order of
-- length and start, and for all of them where none fits. To take the place, at most four chunks are looked up, at most one where no rest is left, and none where no gap fits
pub record IsSearch (b : FreeList) (r : Request) (old new : Counts) : Type 0 where
  pub rises : old.comparisons ≤ new.comparisons
  pub compared_to : new.comparisons ≤ old.comparisons + digits (length b.gap_chunk_ids)
  pub chosen : (start end offset : ℕ) → IsBestFit b r start end offset → new.tests ≡ old.tests + count_by (is_tried_span r.size start end) (gap_spans b)
  pub none : ((start end offset : ℕ) → RequestFits b r start end offset → ⊥) → (new.tests ≡ old.tests + count_by (is_long_span r.size) (gap_spans b)) × (new.lookups ≡ old.lookups)
  pub lookups : (old.lookups ≤ new.lookups) × (new.lookups ≤ old.lookups + 4)
  pub whole : (start end offset : ℕ) → IsBestFit b r start end offset → offset + r.size ≡ end → new.lookups ≤ old.lookups + 1

-- at most so many chunks were looked up, and nothing else is counted
pub record LooksUpTo (most : ℕ) (old new : Counts) : Type 0 where
  pub comparisons : new.comparisons ≡ old.comparisons
  pub tests : new.tests ≡ old.tests
  pub rises : old.lookups ≤ new.lookups
  pub to : new.lookups ≤ old.lookups + most
