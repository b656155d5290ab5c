-- The last gap of the index is the block's longest, and what is longer has no place.
use Rattle.std.proofs.Common.{◌≡◌, ℕ, ◌+◌, ◌<◌, ◌≤◌, List, length, get_or, sym, ap, subst, refl, inl, arith}
use Rattle.std.specs.Prelude.{Contains}
use Rattle.std.proofs.lemmas.List.{get_or_default}
use Rattle.gpu_block_chunks.specs.declared.chunk.Chunk.{Chunk}
use Rattle.gpu_block_gaps.specs.declared.index.Gap.{Gap}
use Rattle.gpu_values.specs.declared.allocation_type.AllocationType.TheVariants.{Free}
use Rattle.gpu_block_gaps.specs.Index.{HasLength}
use Rattle.gpu_block_pieces.specs.FreeList.{FreeList, IsLongestGap}
use Rattle.gpu_block_pieces.specs.Request.{Request}
use Rattle.gpu_block_pieces.specs.Place.{HasNoPlace}
use Rattle.gpu_block_pieces.specs.Chunks.{AreChunks, last_kind, free_list_of}
use Rattle.gpu_block_pieces.specs.Indexed.{gap_between, kind_or, gaps_between, HasSame, IsLongestOf}
use Rattle.gpu_block_pieces.proofs.GapStarts.{gap_of_chunk, chunk_of_gap}
use Rattle.gpu_block_pieces.proofs.Indexing.{gap_of_member, member_at, same_member, same_back}

-- ---- of the chunks

abbrev no_gap : Gap
no_gap = record { length = 0; start = 0; chunk_id = 0; before = Free; after = Free }

pub longest_of : (cs : List Chunk) (gs : List Gap) (n : ℕ) → HasSame gs (gaps_between Free cs Free)
    → ((k : ℕ) (d : Gap) → k < length gs → (get_or gs k d).length ≤ n) → (0 < n → HasLength gs n) → IsLongestOf cs n
longest_of cs gs n same bound reached =
    record {
      bound = λ g m.
          let here = subst (λ (x : Gap). Contains (gaps_between Free cs Free) x) (sym m.is) (member_at cs m.front m.back m.chunk m.split m.free) in
          let at = same_member (gaps_between Free cs Free) gs g (same_back gs (gaps_between Free cs Free) same) here in
          subst (λ (x : Gap). x.length ≤ n) at.2 (bound at.0 g at.1);
      reached = λ pos.
          let h = reached pos in
          let g = get_or gs h.at no_gap in
          let held : Contains gs g = (h.at, h.within, get_or_default gs h.at g no_gap h.within) in
          (g, gap_of_member cs g (same_member gs (gaps_between Free cs Free) g same held), h.is no_gap);
    }

-- ---- of the block

pub longest_in : (cs : List Chunk) (size granularity counter n : ℕ) → AreChunks cs size counter → IsLongestOf cs n → IsLongestGap (free_list_of size granularity counter cs) n
longest_in cs size granularity counter n are l =
    record {
      bound = λ start end gap.
          let f = chunk_of_gap cs size granularity counter start end are.covers are.none_touch gap in
          let g = gap_between (last_kind Free f.front) f.chunk (kind_or f.back Free) in
          let b = l.bound g (record { front = f.front; chunk = f.chunk; back = f.back; split = f.split; free = f.free; is = refl }) in
          let s = f.starts in
          let e = f.ends in
          omega arith;
      reached = λ pos.
          let h = l.reached pos in
          let m = h.1 in
          let is : h.0.length ≡ m.chunk.size = ap (λ (x : Gap). x.length) m.is in
          (m.chunk.start, m.chunk.start + m.chunk.size, gap_of_chunk cs size granularity counter m.front m.back m.chunk m.split are.covers are.none_touch m.free, omega (arith, h.2));
    }

-- what is longer than the longest gap has no place
pub longer_has_none : (b : FreeList) (n : ℕ) → IsLongestGap b n → (r : Request) → n < r.size → HasNoPlace b r
longer_has_none b n l r more =
    inl (λ start end offset fits.
    let gap = l.bound start end fits.gap in
    let after = fits.between.begins.begins.after in
    let inside = fits.between.inside in
    absurd (omega arith))
