-- What a take changes of the chunks and of the index.
use Rattle.std.proofs.Common.{◌≡◌, ℕ, ◌+◌, ◌-◌, ◌<◌, List, ◌∷◌, ◌++◌, length, sym, ap, ◌∙◌, subst, arith}
use Rattle.std.specs.Prelude.{Contains}
use Rattle.std.specs.List.{AllPairs}
use Rattle.std.proofs.lemmas.List.{length-append}
use Rattle.gpu_block_chunks.specs.declared.chunk.Chunk.{Chunk}
use Rattle.gpu_block_gaps.specs.declared.index.Gap.{Gap}
use Rattle.gpu_values.specs.declared.allocation_type.AllocationType.{AllocationType}
use Rattle.gpu_values.specs.declared.allocation_type.AllocationType.TheVariants.{Free, Linear}
use Rattle.gpu_block_chunks.specs.declared.label.Label.{Label}
use Rattle.gpu_block_chunks.specs.ChunkList.{IsFree, Covers, AreDistinct, cut_chunk, filled_chunk}
use Rattle.gpu_block_pieces.specs.Chunks.{NotBothFree, NoneTouch, last_kind, extents_of, extent}
use Rattle.gpu_block_chunks.specs.Chain.{HasChunkId, IsLonger, IsSplit, IsFilled, front_piece}
use Rattle.gpu_block_gaps.specs.Index.{Before, HasKeyAt, HasNoKey, IsRemoved, IsInserted}
use Rattle.gpu_block_pieces.specs.Indexed.{gap_between, kind_or, gaps_between, HasSame, IsListed, IsGapOf}
use Rattle.gpu_block_pieces.proofs.Views.{extents-free, extents-append, extents-split}
use Rattle.gpu_block_pieces.proofs.Takings.{Touching, touching, touch_join, live_after, live_before, after_live}
use Rattle.gpu_block_chunks.proofs.Listing.{stands_once}
use Rattle.gpu_block_pieces.proofs.Indexing.{free_is, first_free, gaps_free, gaps_live, after_same, before_same, none_after, other_starts, member_at, same_member, same_back, key_there, no_key}
use Rattle.gpu_block_pieces.proofs.Indexing.{same_less, same_more, same_to}

piece_kind : (k : AllocationType) → (k ≡ Free → ⊥) → IsFree k → ⊥
piece_kind k h f = h (free_is k f)

-- ---- a gap that is in the index

module _ (cs : List Chunk) (gs : List Gap) (g : Gap) (listed : IsListed cs gs) (m : IsGapOf cs g) where
  pub gap_chunk_id : m.chunk.chunk_id ≡ g.chunk_id
  gap_chunk_id = ap (λ (x : Gap). x.chunk_id) (sym m.is)

  pub gap_has : HasChunkId cs g.chunk_id
  gap_has = (m.chunk, record { front = m.front; back = m.back; split = m.split; numbered = gap_chunk_id })

  pub gap_longer : (taken : ℕ) → taken < g.length → IsLonger cs g.chunk_id taken
  gap_longer taken lt =
      let e : g.length ≡ m.chunk.size = ap (λ (x : Gap). x.length) m.is in
      record { chunk = m.chunk; at = record { front = m.front; back = m.back; split = m.split; numbered = gap_chunk_id }; longer = omega arith }

  pub gap_held : Contains gs g
  gap_held =
      subst (λ (x : Gap). Contains gs x) (sym m.is)
      (same_member (gaps_between Free cs Free) gs (gap_between (last_kind Free m.front) m.chunk (kind_or m.back Free)) (same_back gs (gaps_between Free cs Free) listed.same)
      (member_at cs m.front m.back m.chunk m.split m.free))

  pub gap_key : HasKeyAt gs g.length g.start
  gap_key = key_there gs g gap_held

  -- the gaps before it and behind it
  abbrev low : List Gap
  low = gaps_between Free m.front m.chunk.kind

  abbrev high : List Gap
  high = gaps_between m.chunk.kind m.back Free

  old_same : HasSame gs (low ++ g ∷ high)
  old_same =
      same_to gs (gaps_between Free cs Free) (low ++ g ∷ high) listed.same
      (ap (λ (xs : List Chunk). gaps_between Free xs Free) m.split ∙ (gaps_free m.front m.chunk m.back m.free ∙ ap (λ (x : Gap). low ++ x ∷ high) (sym m.is)))

  touch_at : Touching Linear m.front m.chunk m.back
  touch_at = touching Linear m.front m.chunk m.back (subst (λ (xs : List Chunk). NoneTouch Linear xs) m.split listed.touch)

  before_free : NotBothFree (last_kind Linear m.front) Free
  before_free = subst (λ (k : AllocationType). NotBothFree (last_kind Linear m.front) k) (free_is m.chunk.kind m.free) touch_at.at

  old_shown : length (extents_of cs) ≡ length (extents_of m.front) + length (extents_of m.back)
  old_shown =
      ap (λ (xs : List Chunk). length (extents_of xs)) m.split
      ∙ ap length (extents-append m.front (m.chunk ∷ m.back) ∙ ap (λ ys. extents_of m.front ++ ys) (extents-free m.chunk m.back m.free))
      ∙ length-append (extents_of m.front) (extents_of m.back)

  pub mid_same : (mid : List Gap) → AllPairs Before gs → IsRemoved gs g.length g.start mid → HasSame mid (low ++ high)
  mid_same mid ordered r = same_less gs mid low high g ordered old_same r

  -- ---- its front is taken

  module _ (ds : List Chunk) (taken chunk_id offset : ℕ) (kind : AllocationType) (label : Label) (distinct : AreDistinct cs) (live : kind ≡ Free → ⊥)
      (split : IsSplit cs g.chunk_id taken chunk_id offset kind label ds) where
    abbrev piece : Chunk
    piece = front_piece m.chunk taken offset kind chunk_id label

    abbrev rest : Chunk
    rest = cut_chunk m.chunk taken

    abbrev rest_gap : Gap
    rest_gap = record { length = g.length - taken; start = g.start + taken; chunk_id = g.chunk_id; before = kind; after = g.after }

    front_is : ds ≡ m.front ++ piece ∷ rest ∷ m.back
    front_is =
        let s = stands_once cs m.front m.back m.chunk split.chunk g.chunk_id distinct split.at m.split gap_chunk_id in
        split.is ∙ (ap (λ (xs : List Chunk). xs ++ front_piece split.chunk taken offset kind chunk_id label ∷ cut_chunk split.chunk taken ∷ split.at.back) (sym s.fronts)
        ∙ (ap (λ (x : Chunk). m.front ++ front_piece x taken offset kind chunk_id label ∷ cut_chunk x taken ∷ split.at.back) (sym s.chunks)
        ∙ ap (λ (xs : List Chunk). m.front ++ piece ∷ rest ∷ xs) (sym s.backs)))

    rest_is : gap_between kind rest (kind_or m.back Free) ≡ rest_gap
    rest_is = ap (λ (x : Gap). record { length = x.length - taken; start = x.start + taken; chunk_id = x.chunk_id; before = kind; after = x.after }) (sym m.is)

    front_gaps : gaps_between Free ds Free ≡ low ++ rest_gap ∷ high
    front_gaps =
        ap (λ (xs : List Chunk). gaps_between Free xs Free) front_is
        ∙ (gaps_live m.front piece (rest ∷ m.back) (piece_kind kind live)
        ∙ (ap (λ (gs' : List Gap). gs' ++ gaps_between kind (rest ∷ m.back) Free) (after_same Free Linear m.front kind m.chunk.kind before_free)
        ∙ (ap (λ (gs' : List Gap). low ++ gs') (first_free m.chunk.kind (gap_between kind rest (kind_or m.back Free)) high m.free)
        ∙ ap (λ (x : Gap). low ++ x ∷ high) rest_is)))

    pub front_live : length (extents_of ds) ≡ length (extents_of cs) + 1
    front_live =
        let a = ap (λ (xs : List Chunk). length (extents_of xs)) front_is in
        let b = ap length (extents-split m.front (rest ∷ m.back) piece (piece_kind kind live) ∙ ap (λ ys. extents_of m.front ++ extent piece ∷ ys) (extents-free rest m.back m.free)) in
        let c = length-append (extents_of m.front) (extent piece ∷ extents_of m.back) in
        let d = old_shown in
        omega arith

    pub front_no_key : (mid : List Gap) (size : ℕ) → Covers cs 0 size → 0 < taken → taken < g.length → AllPairs Before gs → IsRemoved gs g.length g.start mid → HasNoKey mid (g.length - taken)
        (g.start + taken)
    front_no_key mid size covers pos lt ordered r =
        let e1 : g.start ≡ m.chunk.start = ap (λ (x : Gap). x.start) m.is in
        let e2 : g.length ≡ m.chunk.size = ap (λ (x : Gap). x.length) m.is in
        no_key mid (low ++ high) (g.length - taken) (g.start + taken) (mid_same mid ordered r)
        (other_starts m.front m.chunk m.back size m.chunk.kind m.chunk.kind Free (g.start + taken) (subst (λ (xs : List Chunk). Covers xs 0 size) m.split covers) (omega arith) (omega arith))

    pub front_listed : (mid new : List Gap) → AllPairs Before gs → IsRemoved gs g.length g.start mid → IsInserted mid rest_gap new → IsListed ds new
    front_listed mid new ordered r i =
        let t = touch_at in
        record {
          touch = subst (λ (xs : List Chunk). NoneTouch Linear xs) (sym front_is)
              (touch_join Linear m.front piece (rest ∷ m.back)
              (record { before = t.before; at = live_after (last_kind Linear m.front) kind (piece_kind kind live); after = (live_before kind m.chunk.kind (piece_kind kind live), t.after) }));
          same = same_to new (low ++ rest_gap ∷ high) (gaps_between Free ds Free) (same_more mid new low high rest_gap (mid_same mid ordered r) i) (sym front_gaps);
        }

  -- ---- the whole of it is taken

  module _ (ds : List Chunk) (offset : ℕ) (kind : AllocationType) (label : Label) (distinct : AreDistinct cs) (live : kind ≡ Free → ⊥) (filled : IsFilled cs g.chunk_id offset kind label ds) where
    abbrev whole : Chunk
    whole = filled_chunk m.chunk offset kind label

    whole_is : ds ≡ m.front ++ whole ∷ m.back
    whole_is =
        let s = stands_once cs m.front m.back m.chunk filled.chunk g.chunk_id distinct filled.at m.split gap_chunk_id in
        filled.is ∙ (ap (λ (xs : List Chunk). xs ++ filled_chunk filled.chunk offset kind label ∷ filled.at.back) (sym s.fronts)
        ∙ (ap (λ (x : Chunk). m.front ++ filled_chunk x offset kind label ∷ filled.at.back) (sym s.chunks)
        ∙ ap (λ (xs : List Chunk). m.front ++ whole ∷ xs) (sym s.backs)))

    whole_gaps : gaps_between Free ds Free ≡ low ++ high
    whole_gaps =
        ap (λ (xs : List Chunk). gaps_between Free xs Free) whole_is
        ∙ (gaps_live m.front whole m.back (piece_kind kind live)
        ∙ (ap (λ (gs' : List Gap). gs' ++ gaps_between kind m.back Free) (after_same Free Linear m.front kind m.chunk.kind before_free)
        ∙ ap (λ (gs' : List Gap). low ++ gs') (before_same kind m.chunk.kind m.back Free (none_after m.chunk.kind m.back m.free touch_at.after))))

    pub whole_live : length (extents_of ds) ≡ length (extents_of cs) + 1
    whole_live =
        let a = ap (λ (xs : List Chunk). length (extents_of xs)) whole_is in
        let b = ap length (extents-split m.front m.back whole (piece_kind kind live)) in
        let c = length-append (extents_of m.front) (extent whole ∷ extents_of m.back) in
        let d = old_shown in
        omega arith

    pub whole_listed : (mid : List Gap) → AllPairs Before gs → IsRemoved gs g.length g.start mid → IsListed ds mid
    whole_listed mid ordered r =
        let t = touch_at in
        record {
          touch = subst (λ (xs : List Chunk). NoneTouch Linear xs) (sym whole_is)
              (touch_join Linear m.front whole m.back (record
              { before = t.before; at = live_after (last_kind Linear m.front) kind (piece_kind kind live); after = after_live kind m.back m.chunk.kind (piece_kind kind live) t.after }));
          same = same_to mid (low ++ high) (gaps_between Free ds Free) (mid_same mid ordered r) (sym whole_gaps);
        }
