-- Pieces and gaps among the chunks, by their numbers.
use Rattle.std.proofs.Common.{◌≡◌, ◌≢◌, ℕ, ◌+◌, ◌-◌, ◌^◌, ◌<◌, ◌≤◌, ◌↔◌, IsTrue, List, [], ◌∷◌, ◌++◌, length, refl, sym, ap, ◌∙◌, subst, arith, Bool, true, false, ◌==◌, ◌||◌}
use Rattle.std.specs.Prelude.{All, Contains}
use Rattle.std.specs.List.{list_any}
use Rattle.std.proofs.lemmas.List.{length-append}
use Rattle.std.proofs.lemmas.Bool.{false≢true}
use Rattle.std.proofs.lemmas.List.Folds.{list_any-append}
use Rattle.std.proofs.lemmas.List.Elements.{All-head, All-tail, All-weaker}
use Rattle.gpu_block_chunks.specs.declared.chunk.Chunk.{Chunk}
use Rattle.gpu_block_gaps.specs.declared.index.Gap.{Gap}
use Rattle.gpu_block_pieces.specs.declared.place.Wanted.{Wanted}
use Rattle.gpu_block_pieces.specs.declared.search.Found.{Found}
use Rattle.gpu_values.specs.declared.allocation_type.AllocationType.{AllocationType}
use Rattle.gpu_values.specs.declared.allocation_type.AllocationType.TheVariants.{Free, Linear, NonLinear}
use Rattle.gpu_block_chunks.specs.declared.label.Label.{Label}
use Rattle.gpu_block_chunks.specs.Label.{no_label, with_name, with_word}
use Rattle.gpu_block_chunks.specs.ChunkList.{IsFree, Covers, AreDistinct, join_front, join_back, filled_chunk, labelled_chunk, cut_chunk}
use Rattle.gpu_block_pieces.specs.Chunks.{NoneTouch, HoldsChunkId, IsLabelledAt, IsReleasedAt, IsTaken, AreChunks, IsChunk, is_gap_by, extents_of, extent}
use Rattle.gpu_block_chunks.specs.Chain.{StandsAt, HasNoChunkId, IsSplit, IsFilled, IsWorded, HasNoPiece, front_piece}
use Rattle.gpu_block_pieces.specs.Indexed.{IsListed, IsGapOf, IsChosen, chosen_at, IsFreed, IsPieceAt, IsPieceOf, gaps_between}
use Rattle.gpu_block_pieces.proofs.Numbers.{one_at}
use Rattle.gpu_block_pieces.proofs.Placing.{not_rest}
use Rattle.gpu_block_pieces.proofs.Lists.{same_parts}
use Rattle.gpu_block_pieces.proofs.Tiling.{around, Covers-le}
use Rattle.gpu_block_chunks.proofs.Parts.{All-parts}
use Rattle.gpu_block_chunks.proofs.Links.{same_test, apart_test}
use Rattle.gpu_block_pieces.specs.FreeList.{Extent}
use Rattle.gpu_block_pieces.proofs.Views.{extents-split, contains_chunk}
use Rattle.gpu_block_pieces.proofs.Takings.{touching, touch_join}
use Rattle.gpu_block_chunks.proofs.Listing.{stands_once}
use Rattle.gpu_block_pieces.proofs.Indexing.{gaps_live, same_to}

-- a free chunk has the number, so no piece has
pub not_held : (cs : List Chunk) (c : Chunk) (k : ℕ) → AreDistinct cs → StandsAt cs k c → IsFree c.kind → (i : ℕ) → HoldsChunkId cs k i → ⊥
not_held cs c k w at f i h =
    let s = stands_once cs h.front h.back h.chunk c k w at h.split h.numbered in
    h.live (subst (λ (x : Chunk). IsFree x.kind) (sym s.chunks) f)

pub none_held : (cs : List Chunk) (k : ℕ) → HasNoPiece cs k → (i : ℕ) → HoldsChunkId cs k i → ⊥
none_held cs k none i h = h.live (none h.chunk (record { front = h.front; back = h.back; split = h.split; numbered = h.numbered }))

none_gap : (k : AllocationType) (n : ℕ) (c : Chunk) → c.chunk_id ≢ n → is_gap_by k n c ≡ false
none_gap Free n c ne = apart_test c.chunk_id n ne
none_gap Linear n c ne = refl
none_gap NonLinear n c ne = refl

none_any : (cs : List Chunk) (n : ℕ) → HasNoChunkId cs n → list_any (λ c. is_gap_by c.kind n c) cs ≡ false
none_any [] n h = refl
none_any (c ∷ cs) n h =
    ap (λ (b : Bool). b || list_any (λ x. is_gap_by x.kind n x) cs) (none_gap c.kind n c (All-head (λ (x : Chunk). x.chunk_id ≢ n) c cs h)) ∙ none_any cs n
    (All-tail (λ (x : Chunk). x.chunk_id ≢ n) c cs h)

pub no_gap_of : (cs : List Chunk) (n : ℕ) → HasNoChunkId cs n → false ≡ list_any (λ c. is_gap_by c.kind n c) cs
no_gap_of cs n h = sym (none_any cs n h)

told_by : (b : Bool) (k : AllocationType) (n : ℕ) (c : Chunk) → c.chunk_id ≡ n → (IsTrue b → IsFree k) → (IsFree k → IsTrue b) → b ≡ is_gap_by k n c
told_by true Free n c e p q = sym (ap (λ (m : ℕ). m == n) e ∙ same_test n)
told_by true Linear n c e p q = absurd (p refl)
told_by true NonLinear n c e p q = absurd (p refl)
told_by false Free n c e p q = absurd (false≢true (q tt))
told_by false Linear n c e p q = refl
told_by false NonLinear n c e p q = refl

or_false : (b : Bool) → (b || false) ≡ b
or_false true = refl
or_false false = refl

apart_at : (front : List Chunk) (c : Chunk) (back : List Chunk) → AreDistinct (front ++ c ∷ back) → HasNoChunkId front c.chunk_id × HasNoChunkId back c.chunk_id
apart_at front c back w = let r = one_at front back c w in (r.0, r.1)

pub gap_of_chunk : (cs : List Chunk) (c : Chunk) (n : ℕ) (b : Bool) → AreDistinct cs → StandsAt cs n c → IsTrue b ↔ IsFree c.kind → b ≡ list_any (λ x. is_gap_by x.kind n x) cs
gap_of_chunk cs c n b w at told =
    let r = apart_at at.front c at.back (subst (λ (xs : List Chunk). AreDistinct xs) at.split w) in
    let f = none_any at.front n (subst (λ (k : ℕ). HasNoChunkId at.front k) at.numbered r.0) in
    let l = none_any at.back n (subst (λ (k : ℕ). HasNoChunkId at.back k) at.numbered r.1) in
    told_by b c.kind n c at.numbered told.0 told.1
    ∙ sym (ap (λ (xs : List Chunk). list_any (λ x. is_gap_by x.kind n x) xs) at.split ∙ (list_any-append (λ x. is_gap_by x.kind n x) at.front (c ∷ at.back)
    ∙ (ap (λ (q : Bool). q || (is_gap_by c.kind n c || list_any (λ x. is_gap_by x.kind n x) at.back)) f
    ∙ (ap (λ (q : Bool). is_gap_by c.kind n c || q) l ∙ or_false (is_gap_by c.kind n c)))))

-- ---- another label

module _ (cs ds : List Chunk) (k : ℕ) (change : Label → Label) (w : AreDistinct cs) (p : IsPieceAt cs k) (is : ds ≡ p.at.front ++ labelled_chunk change p.chunk ∷ p.at.back) where
  abbrev labelled : Chunk
  labelled = labelled_chunk change p.chunk

  pub labelled_listed : (gs : List Gap) → IsListed cs gs → IsListed ds gs
  labelled_listed gs listed =
      let t = touching Linear p.at.front p.chunk p.at.back (subst (λ (xs : List Chunk). NoneTouch Linear xs) p.at.split listed.touch) in
      record {
        touch = subst (λ (xs : List Chunk). NoneTouch Linear xs) (sym is) (touch_join Linear p.at.front labelled p.at.back (record { before = t.before; at = t.at; after = t.after }));
        same = same_to gs (gaps_between Free cs Free) (gaps_between Free ds Free) listed.same
            (ap (λ (xs : List Chunk). gaps_between Free xs Free) p.at.split ∙
            (gaps_live p.at.front p.chunk p.at.back p.live ∙ sym (ap (λ (xs : List Chunk). gaps_between Free xs Free) is ∙ gaps_live p.at.front labelled p.at.back p.live)));
      }

  pub labelled_live : length (extents_of ds) ≡ length (extents_of cs)
  labelled_live =
      let x = ap (λ (xs : List Chunk). length (extents_of xs)) p.at.split in
      let y = ap length (extents-split p.at.front p.at.back p.chunk p.live) in
      let z = length-append (extents_of p.at.front) (extent p.chunk ∷ extents_of p.at.back) in
      let x' = ap (λ (xs : List Chunk). length (extents_of xs)) is in
      let y' = ap length (extents-split p.at.front p.at.back labelled p.live) in
      let z' = length-append (extents_of p.at.front) (extent labelled ∷ extents_of p.at.back) in
      omega arith

  pub labelled_at : (i : ℕ) → HoldsChunkId cs k i → IsLabelledAt cs i change ds
  labelled_at i h = λ front c back q len.
      let r = same_parts cs front back h.front h.back c h.chunk q h.split (len ∙ sym h.index) in
      let s = stands_once cs front back c p.chunk k w p.at q (ap (λ (x : Chunk). x.chunk_id) r.middle ∙ h.numbered) in
      is ∙ (ap (λ (xs : List Chunk). xs ++ labelled ∷ p.at.back) (sym s.fronts) ∙
      (ap (λ (x : Chunk). front ++ labelled_chunk change x ∷ p.at.back) (sym s.chunks) ∙ ap (λ (xs : List Chunk). front ++ labelled_chunk change c ∷ xs) (sym s.backs)))

abbrev pub piece_at : (cs : List Chunk) (k offset : ℕ) (kind : AllocationType) (word : ℕ) → IsPieceOf cs k offset kind word → IsPieceAt cs k
piece_at cs k offset kind word p = record { chunk = p.chunk; at = p.at; live = p.live }

pub named_is : (cs ds : List Chunk) (k offset : ℕ) (kind : AllocationType) (label : Label) → AreDistinct cs → (p : IsPieceOf cs k offset kind label.word) → IsFilled cs k offset kind label ds
    → ds ≡ p.at.front ++ labelled_chunk (with_name label.name) p.chunk ∷ p.at.back
named_is cs ds k offset kind label w p filled =
    let s = stands_once cs p.at.front p.at.back p.chunk filled.chunk k w filled.at p.at.split p.at.numbered in
    filled.is ∙ (ap (λ (xs : List Chunk). xs ++ filled_chunk filled.chunk offset kind label ∷ filled.at.back) (sym s.fronts)
    ∙ (ap (λ (x : Chunk). p.at.front ++ filled_chunk x offset kind label ∷ filled.at.back) (sym s.chunks)
    ∙ (ap (λ (xs : List Chunk). p.at.front ++ filled_chunk p.chunk offset kind label ∷ xs) (sym s.backs)
    ∙ (ap (λ (n : ℕ). p.at.front ++ filled_chunk p.chunk n kind label ∷ p.at.back) p.offset_is
    ∙ (ap (λ (q : AllocationType). p.at.front ++ filled_chunk p.chunk p.chunk.offset q label ∷ p.at.back) p.kind_is
    ∙ ap (λ (n : ℕ). p.at.front ++ labelled_chunk (λ l. record { name = label.name; word = n }) p.chunk ∷ p.at.back) p.word_is)))))

pub worded_is : (cs ds : List Chunk) (k word : ℕ) → AreDistinct cs → (p : IsPieceAt cs k) → IsWorded cs k word ds → ds ≡ p.at.front ++ labelled_chunk (with_word word) p.chunk ∷ p.at.back
worded_is cs ds k word w p worded =
    let s = stands_once cs p.at.front p.at.back p.chunk worded.chunk k w worded.at p.at.split p.at.numbered in
    worded.is ∙ (ap (λ (xs : List Chunk). xs ++ labelled_chunk (with_word word) worded.chunk ∷ worded.at.back) (sym s.fronts)
    ∙ (ap (λ (x : Chunk). p.at.front ++ labelled_chunk (with_word word) x ∷ worded.at.back) (sym s.chunks)
    ∙ ap (λ (xs : List Chunk). p.at.front ++ labelled_chunk (with_word word) p.chunk ∷ xs) (sym s.backs)))

-- ---- the chosen gap

pub chosen_gap : (cs : List Chunk) (w : Wanted) (f : Found) → IsChosen cs w f → IsGapOf cs f.gap
chosen_gap cs w f h = record { front = h.best.fits.front; chunk = h.best.fits.chunk; back = h.best.fits.back; split = h.best.fits.split; free = h.best.fits.free; is = h.gap }

pub record ChosenFits (cs : List Chunk) (w : Wanted) (f : Found) : Type 0 where
  pub low : f.gap.start ≤ f.offset
  pub high : f.offset + w.size ≤ f.gap.start + f.gap.length
  pub ends : f.gap.start + f.gap.length < 2 ^ 64

pub chosen_fits : (cs : List Chunk) (w : Wanted) (f : Found) (size : ℕ) → Covers cs 0 size → size < 2 ^ 64 → IsChosen cs w f → ChosenFits cs w f
chosen_fits cs w f size covers lt h =
    let b = h.best.fits in
    let r = around b.front b.chunk b.back 0 size (subst (λ (xs : List Chunk). Covers xs 0 size) b.split covers) in
    let le = Covers-le b.back (b.chunk.start + b.chunk.size) size r.after in
    let e1 : f.gap.start ≡ b.chunk.start = ap (λ (x : Gap). x.start) h.gap in
    let e2 : f.gap.length ≡ b.chunk.size = ap (λ (x : Gap). x.length) h.gap in
    let l = b.between.begins.begins.after in
    let i = b.between.inside in
    record { low = omega arith; high = omega arith; ends = omega arith }

module _ (cs ds : List Chunk) (w : Wanted) (f : Found) (counter : ℕ) (label : Label) (distinct : AreDistinct cs) where
  chunk_id_at : (h : IsChosen cs w f) (front back : List Chunk) (c : Chunk) → cs ≡ front ++ c ∷ back → length front ≡ h.index → (c.chunk_id ≡ f.gap.chunk_id) × (f.gap.start ≡ c.start) ×
      (f.gap.length ≡ c.size)
  chunk_id_at h front back c p len =
      let b = h.best.fits in
      let r = same_parts cs front back b.front b.back c b.chunk p b.split (len ∙ sym b.index) in (
        ap (λ (x : Chunk). x.chunk_id) r.middle ∙ sym (ap (λ (x : Gap). x.chunk_id) h.gap),
        ap (λ (x : Gap). x.start) h.gap ∙ ap (λ (x : Chunk). x.start) (sym r.middle),
        ap (λ (x : Gap). x.length) h.gap ∙ ap (λ (x : Chunk). x.size) (sym r.middle),
      )

  pub front_taken : (taken : ℕ) → taken ≡ f.offset + w.size - f.gap.start → taken < f.gap.length → f.gap.start ≤ f.offset → IsSplit cs f.gap.chunk_id taken counter f.offset w.kind label ds →
      (h : IsChosen cs w f) → IsTaken cs (chosen_at cs w f h) w counter label counter ds
  front_taken taken et lt low split h = λ front c back p len.
      let n = chunk_id_at h front back c p len in
      let s = stands_once cs front back c split.chunk f.gap.chunk_id distinct split.at p n.0 in
      let t : taken ≡ f.offset + w.size - c.start = et ∙ ap (λ (m : ℕ). f.offset + w.size - m) n.1 in
      let is : ds ≡ front ++ front_piece c taken f.offset w.kind counter label ∷ cut_chunk c taken ∷ back =
      split.is ∙ (ap (λ (xs : List Chunk). xs ++ front_piece split.chunk taken f.offset w.kind counter label ∷ cut_chunk split.chunk taken ∷ split.at.back) (sym s.fronts)
      ∙ (ap (λ (x : Chunk). front ++ front_piece x taken f.offset w.kind counter label ∷ cut_chunk x taken ∷ split.at.back) (sym s.chunks)
      ∙ ap (λ (xs : List Chunk). front ++ front_piece c taken f.offset w.kind counter label ∷ cut_chunk c taken ∷ xs) (sym s.backs))) in
      let e1 = n.1 in let e2 = n.2 in
      record {
        rest = λ _. (refl, is ∙ ap (λ (m : ℕ). front ++ front_piece c m f.offset w.kind counter label ∷ cut_chunk c m ∷ back) t);
        whole = λ ge. absurd (omega arith);
      }

  pub whole_taken : f.gap.length ≤ f.offset + w.size - f.gap.start → 0 < f.gap.length → IsFilled cs f.gap.chunk_id f.offset w.kind label ds → (h : IsChosen cs w f) → IsTaken cs (chosen_at cs w f h) w
      counter label f.gap.chunk_id ds
  whole_taken ge pos filled h = λ front c back p len.
      let n = chunk_id_at h front back c p len in
      let s = stands_once cs front back c filled.chunk f.gap.chunk_id distinct filled.at p n.0 in
      let is : ds ≡ front ++ filled_chunk c f.offset w.kind label ∷ back =
      filled.is ∙ (ap (λ (xs : List Chunk). xs ++ filled_chunk filled.chunk f.offset w.kind label ∷ filled.at.back) (sym s.fronts)
      ∙ (ap (λ (x : Chunk). front ++ filled_chunk x f.offset w.kind label ∷ filled.at.back) (sym s.chunks)
      ∙ ap (λ (xs : List Chunk). front ++ filled_chunk c f.offset w.kind label ∷ xs) (sym s.backs))) in
      let e1 = n.1 in let e2 = n.2 in
      record {
        rest = λ lt. absurd (omega arith);
        whole = λ _. (sym n.0, is);
      }

-- ---- what the free list reads of a change

pub record ReleasedThere (cs ds : List Chunk) (n : ℕ) : Type 0 where
  pub index : ℕ
  pub held : HoldsChunkId cs n index
  pub released : IsReleasedAt cs index ds

pub released_there : (cs ds : List Chunk) (n bytes : ℕ) → AreDistinct cs → IsFreed cs n bytes ds → ReleasedThere cs ds n
released_there cs ds n bytes w p =
    let at = p.at in
    let chunk = p.chunk in
    let r = p.released in
    record {
      index = length at.front;
      held = record { front = at.front; chunk = chunk; back = at.back; split = at.split; index = refl; live = p.live; numbered = at.numbered };
      released = λ front c back q len.
          let m = same_parts cs front back at.front at.back c chunk q at.split len in
          let s = stands_once cs front back c r.chunk n w r.at q (ap (λ (x : Chunk). x.chunk_id) m.middle ∙ at.numbered) in
          r.is ∙ (ap (λ (xs : List Chunk). join_front xs (join_back (filled_chunk r.chunk r.chunk.start Free no_label) r.at.back)) (sym s.fronts)
          ∙ (ap (λ (x : Chunk). join_front front (join_back (filled_chunk x x.start Free no_label) r.at.back)) (sym s.chunks)
          ∙ ap (λ (xs : List Chunk). join_front front (join_back (filled_chunk c c.start Free no_label) xs)) (sym s.backs)));
    }

pub held_at : (cs : List Chunk) (c : Chunk) (n : ℕ) → (IsFree c.kind → ⊥) → (s : StandsAt cs n c) → HoldsChunkId cs n (length s.front)
held_at cs c n live s = record { front = s.front; chunk = c; back = s.back; split = s.split; index = refl; live = live; numbered = s.numbered }

pub fresh_chunk_id : (counter : ℕ) (cs : List Chunk) → All (IsChunk counter) cs → HasNoChunkId cs counter
fresh_chunk_id counter cs h = All-weaker (IsChunk counter) (λ c. c.chunk_id ≢ counter) (λ c q. (let g = q.given in λ e. absurd (omega arith))) cs h

pub laid_from : (cs : List Chunk) (size counter : ℕ) → size < 2 ^ 64 → AreChunks cs size counter → (from : ℕ) × (to : ℕ) × (to < 2 ^ 64) × Covers cs from to
laid_from cs size counter lt h = (0, size, lt, h.covers)

-- whether a rest is left, said of the chosen chunk
pub rest_of_chunk : (cs : List Chunk) (w : Wanted) (f : Found) → (h : IsChosen cs w f) → f.offset + w.size < f.gap.start + f.gap.length → f.offset + w.size < h.best.fits.chunk.start +
    h.best.fits.chunk.size
rest_of_chunk cs w f h lt = subst (λ (g : Gap). f.offset + w.size < g.start + g.length) h.gap lt

pub no_rest_of_chunk : (cs : List Chunk) (w : Wanted) (f : Found) (b : Bool) → (h : IsChosen cs w f) → b ≡ false → (f.offset + w.size < f.gap.start + f.gap.length → IsTrue b) →
    h.best.fits.chunk.start + h.best.fits.chunk.size ≤ f.offset + w.size
no_rest_of_chunk cs w f b h e told =
    let ge : f.gap.start + f.gap.length ≤ f.offset + w.size = not_rest b (f.offset + w.size) (f.gap.start + f.gap.length) e told in
    subst (λ (g : Gap). g.start + g.length ≤ f.offset + w.size) h.gap ge

-- the place that a live piece shows
pub record PlaceShown (cs : List Chunk) (c : Chunk) (n : ℕ) : Type 0 where
  pub found : (x : Extent) × Contains (extents_of cs) x × (x.chunk_id ≡ n) × (x.offset ≡ c.offset) × (x.end ≡ c.offset + (c.start + c.size - c.offset))
  pub fits : c.start + c.size < 2 ^ 64
  pub inside : c.offset ≤ c.start + c.size

pub place_shown : (cs : List Chunk) (size counter : ℕ) (c : Chunk) (n : ℕ) → AreChunks cs size counter → size < 2 ^ 64 → (IsFree c.kind → ⊥) → StandsAt cs n c → PlaceShown cs c n
place_shown cs size counter c n are lt live s =
    let r = around s.front c s.back 0 size (subst (λ (xs : List Chunk). Covers xs 0 size) s.split are.covers) in
    let le = Covers-le s.back (c.start + c.size) size r.after in
    let all = All-parts (IsChunk counter) s.front (c ∷ s.back) (subst (λ (xs : List Chunk). All (IsChunk counter) xs) s.split are.each) in
    let inside = (All-head (IsChunk counter) c s.back all.1).before in
    record {
      found = (extent c, contains_chunk cs s.front s.back c s.split live, s.numbered, refl, omega arith);
      fits = omega arith;
      inside = omega arith;
    }
