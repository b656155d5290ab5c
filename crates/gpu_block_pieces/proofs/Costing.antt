-- What a search costs, said of the block.
use Rattle.std.proofs.Common.{◌≡◌, ◌≢◌, ℕ, ◌+◌, ◌-◌, ◌<◌, ◌≤◌, List, [], ◌∷◌, ◌++◌, length, map, refl, sym, ap, ◌∙◌, subst, inl, inr, arith, Option, Some, None, MatchOption, Bool, true, false}
use Rattle.std.proofs.Common.{cond, count_by}
use Rattle.std.specs.Prelude.{All, nat_le, nat_lt, ◌&&◌, ◌||◌, ◌==◌}
use Rattle.std.proofs.lemmas.List.{append_assoc, length-map}
use Rattle.std.proofs.lemmas.List.Sums.{sum_by-cons}
use Rattle.std.proofs.lemmas.List.Elements.{All-nil, All-cons, All-head, All-tail, All-append, All-weaker}
use Rattle.std.proofs.lemmas.Bool.{cases_lt}
use Rattle.std.proofs.lemmas.Bool.Decides.{nat_tests}
use Rattle.gpu_block_chunks.specs.declared.chunk.Chunk.{Chunk}
use Rattle.gpu_cost.specs.declared.cost.Cost.{Cost}
use Rattle.gpu_block_gaps.specs.declared.index.Gap.{Gap}
use Rattle.gpu_block_pieces.specs.declared.place.Wanted.{Wanted}
use Rattle.gpu_block_pieces.specs.declared.search.Found.{Found}
use Rattle.gpu_values.specs.declared.allocation_type.AllocationType.{AllocationType}
use Rattle.gpu_values.specs.declared.allocation_type.AllocationType.TheVariants.{Free, Linear}
use Rattle.gpu_block_pieces.specs.FreeList.{Extent, FreeList}
use Rattle.gpu_block_pieces.specs.Request.{Request, request}
use Rattle.gpu_block_pieces.specs.Place.{RequestFits, IsBestFit}
use Rattle.gpu_cost.specs.Cost.{Counts, counts_of, digits, LooksUp, LooksUpBetween}
use Rattle.gpu_block_chunks.specs.ChunkList.{IsFree, Covers}
use Rattle.gpu_block_pieces.specs.Chunks.{NotBothFree, NoneTouch, AreChunks, NoneFits, extents_of, gaps_of, extent, free_list_of}
use Rattle.gpu_block_pieces.specs.Search.{gap_end, gap_spans, is_long_span, is_tried_span, IsSearch}
use Rattle.gpu_block_pieces.specs.Indexed.{gap_between, kind_or, gaps_between, IsChosen, chosen_at, Spends, tested}
use Rattle.gpu_block_pieces.proofs.Views.{free_or_live, extents-free, extents-live, gaps-free, gaps-live}
use Rattle.gpu_block_pieces.proofs.FoundIsBestFit.{chosen_of_best, none_of_chunks}
use Rattle.gpu_block_pieces.proofs.OneOutcome.{chosen_once}
use Rattle.gpu_block_pieces.proofs.Indexing.{free_is, first_free, first_live, live_second}
use Rattle.gpu_block_pieces.proofs.Spending.{one, count_cons}

abbrev span : Gap → ℕ × ℕ
span g = (g.length, g.start)

end_after : (size : ℕ) (before xs : List Extent) (start : ℕ) → All (λ x. x.start < start) before → gap_end size (before ++ xs) start ≡ gap_end size xs start
end_after size [] xs start h = refl
end_after size (x ∷ before) xs start h =
    let lt = All-head (λ y. y.start < start) x before h in
    let t : nat_le start x.start ≡ false = grind (arith, nat_tests) in
    ap (λ (b : Bool). cond b x.start (gap_end size (before ++ xs) start)) t ∙ end_after size before xs start (All-tail (λ y. y.start < start) x before h)

end_here : (size : ℕ) (cs : List Chunk) (k : AllocationType) (from start : ℕ) → IsFree k → NoneTouch k cs → Covers cs from size → start ≤ from → gap_end size (extents_of cs) start ≡ from
end_here size [] k from start f h c le = sym c
end_here size (d ∷ ds) k from start f h c le =
    let live = live_second d.kind (subst (λ (q : AllocationType). NotBothFree q d.kind) (free_is k f) h.0) in
    let s : d.start ≡ from = c.0 in
    let t : nat_le start d.start ≡ true = grind (arith, nat_tests) in
    ap (λ (xs : List Extent). gap_end size xs start) (extents-live d ds live) ∙ (ap (λ (b : Bool). cond b d.start (gap_end size (extents_of ds) start)) t ∙ s)

spans_from : (before : List Extent) (b k : AllocationType) (cs : List Chunk) (from size : ℕ) → Covers cs from size → NoneTouch k cs → All (λ x. x.start < from) before
    → map (λ g. (gap_end size (before ++ extents_of cs) g.0 - g.0, g.0)) (gaps_of cs) ≡ map span (gaps_between b cs Free)
spans_from before b k [] from size c h e = refl
spans_from before b k (d ∷ ds) from size c h e =
    let s : d.start ≡ from = c.0 in
    let pos : 0 < d.size = c.1 in
    let g = gap_between b d (kind_or ds Free) in
    let more : All (λ (x : Extent). x.start < from + d.size) before = All-weaker (λ (x : Extent). x.start < from) (λ (x : Extent). x.start < from + d.size) (λ x q. omega (arith, q)) before e in
    elim (free_or_live d.kind) [
      | inl f ↦
          let xs : before ++ extents_of (d ∷ ds) ≡ before ++ extents_of ds = ap (λ (ys : List Extent). before ++ ys) (extents-free d ds f) in
          let at : gap_end size (before ++ extents_of ds) d.start ≡ d.start + d.size =
          end_after size before (extents_of ds) d.start (All-weaker (λ (x : Extent). x.start < from) (λ (x : Extent). x.start < d.start) (λ x q. omega (arith, q)) before e)
          ∙ (end_here size ds d.kind (from + d.size) d.start f h.1 c.2 (omega arith) ∙ omega arith) in
          let len : gap_end size (before ++ extents_of ds) d.start - d.start ≡ d.size = omega arith in
          ap (λ (ys : List Extent). map (λ g. (gap_end size ys g.0 - g.0, g.0)) (gaps_of (d ∷ ds))) xs
          ∙ (ap (λ (gs : List (ℕ × ℕ)). map (λ g. (gap_end size (before ++ extents_of ds) g.0 - g.0, g.0)) gs) (gaps-free d ds f)
          ∙ (ap (λ (n : ℕ). (n, d.start) ∷ map (λ g. (gap_end size (before ++ extents_of ds) g.0 - g.0, g.0)) (gaps_of ds)) len
          ∙ (ap (λ (ys : List (ℕ × ℕ)). (d.size, d.start) ∷ ys) (spans_from before d.kind d.kind ds (from + d.size) size c.2 h.1 more)
          ∙ ap (map span) (sym (first_free d.kind g (gaps_between d.kind ds Free) f)))))
      | inr l ↦
          let xs : before ++ extents_of (d ∷ ds) ≡ (before ++ extent d ∷ []) ++ extents_of ds = ap (λ (ys : List Extent). before ++ ys) (extents-live d ds l) ∙ sym
          (append_assoc before (extent d ∷ []) (extents_of ds)) in
          let all : All (λ (x : Extent). x.start < from + d.size) (before ++ extent d ∷ []) = All-append (λ (x : Extent). x.start < from + d.size) before (extent d ∷ []) more
          (All-cons (λ (x : Extent). x.start < from + d.size) (extent d) [] (omega arith) (All-nil (λ (x : Extent). x.start < from + d.size))) in
          ap (λ (ys : List Extent). map (λ g. (gap_end size ys g.0 - g.0, g.0)) (gaps_of (d ∷ ds))) xs
          ∙ (ap (λ (gs : List (ℕ × ℕ)). map (λ g. (gap_end size ((before ++ extent d ∷ []) ++ extents_of ds) g.0 - g.0, g.0)) gs) (gaps-live d ds l)
          ∙ (spans_from (before ++ extent d ∷ []) d.kind d.kind ds (from + d.size) size c.2 h.1 all
          ∙ ap (map span) (sym (first_live d.kind g (gaps_between d.kind ds Free) l))))
    ]

-- long enough, and not behind a gap of that length and start
abbrev passes : ℕ → ℕ → ℕ → ℕ × ℕ → Bool
passes n length start s = nat_le n s.0 && (nat_lt s.0 length || (s.0 == length && nat_le s.1 start))

count_map : (p : ℕ × ℕ → Bool) (gs : List Gap) → count_by p (map span gs) ≡ count_by (λ g. p (span g)) gs
count_map p [] = refl
count_map p (g ∷ gs) =
    let a : count_by p (span g ∷ map span gs) ≡ one (p (span g)) + count_by p (map span gs) = sum_by-cons (λ (y : ℕ × ℕ). one (p y)) (span g) (map span gs) in
    a ∙ (ap (λ (n : ℕ). one (p (span g)) + n) (count_map p gs) ∙ sym (count_cons (λ x. p (span x)) g gs))

-- what taking a place may add to the cost of finding it
pub record Taking (w : Wanted) (o : Option Found) (found taken : Cost) : Type 0 where
  pub comparisons : taken.comparisons ≡ found.comparisons
  pub tests : taken.tests ≡ found.tests
  pub from : found.lookups ≤ taken.lookups
  pub to : taken.lookups ≤ found.lookups + 4
  pub none : o ≡ None → taken.lookups ≡ found.lookups
  pub whole : (f : Found) → o ≡ Some f → f.gap.start + f.gap.length ≤ f.offset + w.size → taken.lookups ≤ found.lookups + 1

pub nothing_taken : (w : Wanted) (o : Option Found) (found taken : Cost) → LooksUp 0 found taken → Taking w o found taken
nothing_taken w o found taken l =
    let n = l.lookups in
    record { comparisons = l.comparisons; tests = l.tests; from = omega arith; to = omega arith; none = λ e. omega arith; whole = λ f e le. omega arith }

pub not_taken : (w : Wanted) (o : Option Found) (found : Cost) → Taking w o found found
not_taken w o found = record { comparisons = refl; tests = refl; from = omega arith; to = omega arith; none = λ e. refl; whole = λ f e le. omega arith }

pub place_taken : (w : Wanted) (o : Option Found) (f : Found) (found taken : Cost) → o ≡ Some f
    → (f.offset + w.size < f.gap.start + f.gap.length → LooksUpBetween 3 4 found taken) → (f.gap.start + f.gap.length ≤ f.offset + w.size → LooksUp 1 found taken) → Taking w o found taken
place_taken w o f found taken e front whole =
    let some : o ≡ None → ⊥ = λ n. let s : Some f ≡ None = sym e ∙ n in cc in
    elim (cases_lt (f.offset + w.size) (f.gap.start + f.gap.length)) [
      | inl lt ↦
          let l = front lt in
          let a = l.from in
          let b = l.to in
          record {
            comparisons = l.comparisons;
            tests = l.tests;
            from = omega arith;
            to = omega arith;
            none = λ n. absurd (some n);
            whole = λ g eg le.
                let s : Some f ≡ Some g = sym e ∙ eg in
                let is : f ≡ g = cc in
                let x = ap (λ (z : Found). z.offset) is in
                let y = ap (λ (z : Found). z.gap.start) is in
                let z = ap (λ (z : Found). z.gap.length) is in
                absurd (omega arith);
          }
      | inr ge ↦
          let l = whole ge in
          let a = l.lookups in
          record { comparisons = l.comparisons; tests = l.tests; from = omega arith; to = omega arith; none = λ n. absurd (some n); whole = λ g eg le. omega arith }
    ]

module _ (cs : List Chunk) (size k counter : ℕ) (w : Wanted) (text : List ℕ) (v : FreeList) (are : AreChunks cs size counter) (piece : w.kind ≢ Free)
    (view : free_list_of size w.granularity counter cs ≡ v) where
  abbrev r : Request
  r = request w.size w.alignment w.kind text

  spans : gap_spans v ≡ map span (gaps_between Free cs Free)
  spans = ap gap_spans (sym view) ∙ spans_from [] Free Linear cs 0 size are.covers are.none_touch (All-nil (λ (x : Extent). x.start < 0))

  counted : (p : ℕ × ℕ → Bool) → count_by (λ g. p (span g)) (gaps_between Free cs Free) ≡ count_by p (gap_spans v)
  counted p = sym (count_map p (gaps_between Free cs Free)) ∙ ap (count_by p) (sym spans)

  how_many : length (gaps_between Free cs Free) ≡ length v.gap_chunk_ids
  how_many =
      sym (length-map (gaps_between Free cs Free) span) ∙ (ap length (sym spans) ∙ length-map v.gap_chunk_ids (λ g. (gap_end v.size v.extents g.0 - g.0, g.0)))

  best_is : (f : Found) → IsChosen cs w f → (s e o : ℕ) → IsBestFit v r s e o → (f.gap.start ≡ s) × (f.gap.length ≡ e - s)
  best_is f h s e o q =
      let mine = subst (λ x. IsBestFit x r h.best.fits.chunk.start (h.best.fits.chunk.start + h.best.fits.chunk.size) f.offset) view
      (chosen_of_best cs size counter w text are.covers are.none_touch piece (chosen_at cs w f h) h.best) in
      let same = chosen_once v r h.best.fits.chunk.start s (h.best.fits.chunk.start + h.best.fits.chunk.size) e f.offset o mine q in
      let a : f.gap.start ≡ h.best.fits.chunk.start = ap (λ (x : Gap). x.start) h.gap in
      let b : f.gap.length ≡ h.best.fits.chunk.size = ap (λ (x : Gap). x.length) h.gap in
      let c : h.best.fits.chunk.start ≡ s = same.starts in
      let d : h.best.fits.chunk.start + h.best.fits.chunk.size ≡ e = same.ends in
      (a ∙ c, omega arith)

  offset_is : (f : Found) → IsChosen cs w f → (s e o : ℕ) → IsBestFit v r s e o → f.offset ≡ o
  offset_is f h s e o q =
      let mine = subst (λ x. IsBestFit x r h.best.fits.chunk.start (h.best.fits.chunk.start + h.best.fits.chunk.size) f.offset) view
      (chosen_of_best cs size counter w text are.covers are.none_touch piece (chosen_at cs w f h) h.best) in
      (chosen_once v r h.best.fits.chunk.start s (h.best.fits.chunk.start + h.best.fits.chunk.size) e f.offset o mine q).offsets

  best_fits : (f : Found) → IsChosen cs w f → (s : ℕ) × (e : ℕ) × (o : ℕ) × RequestFits v r s e o
  best_fits f h =
      let mine = subst (λ x. IsBestFit x r h.best.fits.chunk.start (h.best.fits.chunk.start + h.best.fits.chunk.size) f.offset) view
      (chosen_of_best cs size counter w text are.covers are.none_touch piece (chosen_at cs w f h) h.best) in
      (h.best.fits.chunk.start, h.best.fits.chunk.start + h.best.fits.chunk.size, f.offset, mine.fits)

  no_fits : NoneFits cs w (length cs) → (s e o : ℕ) → RequestFits v r s e o → ⊥
  no_fits none = subst (λ x. (s e o : ℕ) → RequestFits x r s e o → ⊥) view (none_of_chunks cs size counter w text are.covers are.none_touch piece none)

  tests_are : (o : Option Found) (old new : Cost) → MatchOption o (NoneFits cs w (length cs)) (λ f. IsChosen cs w f) → new.tests ≡ old.tests + tested w.size o (gaps_between Free cs Free)
      → ((s e f : ℕ) → IsBestFit v r s e f → new.tests ≡ old.tests + count_by (is_tried_span w.size s e) (gap_spans v))
      × (((s e f : ℕ) → RequestFits v r s e f → ⊥) → new.tests ≡ old.tests + count_by (is_long_span w.size) (gap_spans v))
  tests_are None old new h t = (
    λ s e f q. absurd (no_fits h s e f q.fits),
    λ none. t ∙ ap (λ (n : ℕ). old.tests + n) (counted (is_long_span w.size)),
  )
  tests_are (Some f) old new h t = (
    λ s e o q.
        let m = best_is f h s e o q in
        let c = counted (passes w.size f.gap.length f.gap.start) in
        t ∙ ap (λ (n : ℕ). old.tests + n) (c ∙ (ap (λ (n : ℕ). count_by (passes w.size n f.gap.start) (gap_spans v)) m.1 ∙ ap (λ (n : ℕ). count_by (passes w.size (e - s) n) (gap_spans v)) m.0)),
    λ none. (let b = best_fits f h in absurd (none b.0 b.1 b.2 b.3)),
  )

  abbrev IsFound : Option Found → Type 0
  IsFound o = MatchOption o (NoneFits cs w (length cs)) (λ f. IsChosen cs w f)

  -- where the whole of the best gap is taken
  whole_of : (o : Option Found) (old searched after : Cost) → IsFound o → old.lookups ≡ searched.lookups → Taking w o searched after
      → (s e p : ℕ) → IsBestFit v r s e p → p + r.size ≡ e → after.lookups ≤ old.lookups + 1
  whole_of None old searched after h el t s e p best whole = absurd (no_fits h s e p best.fits)
  whole_of (Some f) old searched after h el t s e p best whole =
      let m = best_is f h s e p best in
      let n = offset_is f h s e p best in
      let a = m.0 in
      let b = m.1 in
      let q = best.fits.gap.nonempty in
      let le = t.whole f refl (omega arith) in
      omega arith

  none_of : (o : Option Found) (searched after : Cost) → IsFound o → Taking w o searched after → ((s e p : ℕ) → RequestFits v r s e p → ⊥) → after.lookups ≡ searched.lookups
  none_of None searched after h t none = t.none refl
  none_of (Some f) searched after h t none = (let b = best_fits f h in absurd (none b.0 b.1 b.2 b.3))

  -- the cost of a search and a taking, as the contract of `allocate` has it
  pub searched : (o : Option Found) (old new last : Cost) (before after : Counts) → IsFound o → Spends cs w.size o old new → Taking w o new last → before ≡ counts_of old → after ≡ counts_of last →
      IsSearch v r before after
  searched o old new last before after h s k eb ea =
      let t = tests_are o old new h s.tests in
      let kc = k.comparisons in
      let kt = k.tests in
      let kf = k.from in
      let ko = k.to in
      let sl = s.lookups in
      let sr = s.rises in
      let ct = subst (λ (n : ℕ). new.comparisons ≤ old.comparisons + digits n) how_many s.compared_to in
      rw (eb, ea) (record {
        rises = omega arith;
        compared_to = omega arith;
        chosen = λ s e p best. kt ∙ t.0 s e p best;
        none = λ none. (kt ∙ t.1 none, none_of o new last h k none ∙ sl);
        lookups = (omega arith, omega arith);
        whole = whole_of o old new last h (sym sl) k;
      })
