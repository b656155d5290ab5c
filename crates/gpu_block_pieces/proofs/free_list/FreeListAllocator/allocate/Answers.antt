use Rattle.std.proofs.Common.{◌≡◌, ℕ, ◌+◌, ◌-◌, ◌^◌, ◌<◌, refl, sym, ap, ◌∙◌, subst, arith, true, false}
use Rattle.std.proofs.lemmas.Bool.{false≢true}
use Rattle.gpu_block_pieces.specs.declared.place.Wanted.{Wanted}
use Rattle.gpu_block_pieces.specs.Request.{Request}
use Rattle.gpu_block_pieces.specs.Place.{HasNoPlace}
use Rattle.gpu_block_pieces.specs.Request.{request}
use Rattle.gpu_values.specs.declared.error.AllocationError.TheVariants.{OutOfMemory}
use Rattle.gpu_block_pieces.specs.FreeList.{Counted}
use Rattle.gpu_block_pieces.specs.Chunks.{free_list_of}
use Rattle.gpu_block_pieces.proofs.Placing.{view_at, no_place_none, no_place_counter, has_place, host_refusal, rest_taken_are, whole_taken_are, rest_takes, whole_takes, some_number}
use Rattle.gpu_block_pieces.proofs.StaysSeparated.{law_at, Stepped, stepped, granularity_of}
use Rattle.std.specs.Prelude.{IsTrue}
use Rattle.std.specs.Int.{is_power_of_two}
use Rattle.gpu_block_pieces.proofs.Sound.{sound_block}
use Rattle.gpu_block_pieces.proofs.Ordered.{ordered_block}
use Rattle.gpu_block_pieces.proofs.Covering.{sound_covered}
use Rattle.gpu_block_pieces.specs.Chunks.{FoundAt}
use Rattle.gpu_block_gaps.specs.declared.index.Gap.{Gap}
use Rattle.gpu_block_pieces.specs.Indexed.{IsChosen, chosen_at}
use Rattle.gpu_cost.specs.Cost.{counts_of}
use Rattle.gpu_cost.specs.declared.cost.Cost.{Cost}
use Rattle.gpu_block_pieces.specs.Search.{IsSearch}
use Rattle.gpu_block_pieces.proofs.Amounts.{bytes_of, taken_bytes, room_for}
use Rattle.gpu_block_pieces.proofs.Costing.{Taking, searched, nothing_taken, not_taken, place_taken}
use Rattle.gpu_block_pieces.proofs.FirstFitIsBest.{none_fits, chosen, found_chosen}
use Rattle.gpu_block_pieces.proofs.Spending.{spends}
use Rattle.gpu_block_pieces.proofs.FoundByChunkId.{chosen_fits, fresh_chunk_id, rest_of_chunk, no_rest_of_chunk}
use Rattle.gpu_block_pieces.proofs.free_list.FreeListAllocator.allocate.Goals as goal
use Rattle.gpu_block_pieces.proofs.free_list.FreeListAllocator.allocate.Goals.{In-Some, In_ok-chunk_id, After-find, After-leaves_rest-rest, In_default, then-rest-2, else-rest-2}
use Rattle.gpu_block_pieces.proofs.free_list.FreeListAllocator.allocate.Goals.{else-rest-via-then-rest+else-self, else-rest-via-else-rest}

-- what is asked, and of whom
abbrev asked : After-find → Wanted
asked c = record { size = c.args.size; alignment = c.args.alignment; kind = c.args.kind; granularity = c.args.granularity }

abbrev the_request : After-find → Request
the_request c = request c.args.size c.args.alignment c.args.kind c.args.name.now

the_view : (c : After-find) → free_list_of c.self.inside.chunks.size c.args.granularity c.self.inside.counter c.self.inside.chunks.items ≡ c.args.self.now.block
the_view c = view_at c.self.inside.chunks.size c.self.inside.granularity c.self.inside.counter c.self.inside.chunks.items c.args.self.now.block (ap (λ (v : Counted). v.block) c.self.view_is) c.args.granularity c.requires.paged

the_none : (c : In_default) → HasNoPlace c.args.self.now.block (request c.args.size c.args.alignment c.args.kind c.args.name.now)
the_none c =
    let w : Wanted = record { size = c.args.size; alignment = c.args.alignment; kind = c.args.kind; granularity = c.args.granularity } in
    no_place_none c.self.inside.chunks.items c.self.inside.chunks.size c.self.inside.counter w c.args.self.now.block c.args.name.now c.self.invariant.1 c.requires.piece
    (view_at c.self.inside.chunks.size c.self.inside.granularity c.self.inside.counter c.self.inside.chunks.items c.args.self.now.block (ap (λ (v : Counted). v.block) c.self.view_is) c.args.granularity c.requires.paged)
    (none_fits c.self.inside.chunks.items c.gaps.result.now.gaps w c.self.inside.chunks.size c.self.invariant.1.covers c.gaps.ensures.same c.in_default.ensures.found.0)

pub returns-in_default-clause-cause : goal.returns-in_default-clause-cause
returns-in_default-clause-cause c = the_none c

pub returns-in_default-clause-law : goal.returns-in_default-clause-law
returns-in_default-clause-law c = λ s t gap long.
    let at = (goal.at.returns-in_default-clause-law c).After-find in
    law_at c.self.inside.chunks.size c.self.inside.granularity c.self.inside.counter c.self.inside.chunks.items c.args.self.now.block (the_request at) OutOfMemory (ap (λ (v : Counted). v.block) c.self.view_is) c.self.invariant.1
    c.self.invariant.0 c.requires.aligned c.requires.sized (the_none c) s t gap long

-- the gap that the search found is the chosen one
the_chosen : (c : In-Some) → IsChosen c.self.inside.chunks.items (record { size = c.args.size; alignment = c.args.alignment; kind = c.args.kind; granularity = c.args.granularity }) c.in-Some.found
the_chosen c =
    let w : Wanted = record { size = c.args.size; alignment = c.args.alignment; kind = c.args.kind; granularity = c.args.granularity } in
    chosen c.self.inside.chunks.items c.gaps.result.now.gaps w c.self.inside.chunks.size c.self.invariant.1.covers c.gaps.ensures.same c.in-Some.ensures.ordered c.in-Some.found
    c.in-Some.ensures.found.0 c.in-Some.ensures.found.1

abbrev the_found : (c : In-Some) → FoundAt
the_found c = chosen_at c.self.inside.chunks.items (record { size = c.args.size; alignment = c.args.alignment; kind = c.args.kind; granularity = c.args.granularity }) c.in-Some.found (the_chosen c)

pub returns-then-self-clause-cause : goal.returns-then-self-clause-cause
returns-then-self-clause-cause c =
    let at = (goal.at.returns-then-self-clause-cause c).After-find in
    let h = the_chosen ((goal.at.returns-then-self-clause-cause c).In-Some) in
    no_place_counter c.self.inside.chunks.items c.self.inside.chunks.size c.self.inside.counter (asked at) c.args.self.now.block c.args.name.now
    (the_found ((goal.at.returns-then-self-clause-cause c).In-Some)) c.self.invariant.1 c.requires.piece (the_view at) h.best
    (rest_of_chunk c.self.inside.chunks.items (asked at) c.in-Some.found h (c.leaves_rest-rest.ensures.0 c.if-rest.true)) c.if-self.true

-- ---- the two outcomes

chosen_then : (c : In_ok-chunk_id) → IsChosen c.self.inside.chunks.items (record { size = c.args.size; alignment = c.args.alignment; kind = c.args.kind; granularity = c.args.granularity }) c.in-Some.found
chosen_then c =
    let w : Wanted = record { size = c.args.size; alignment = c.args.alignment; kind = c.args.kind; granularity = c.args.granularity } in
    chosen c.self.inside.chunks.items c.gaps.result.now.gaps w c.self.inside.chunks.size c.self.invariant.1.covers c.gaps.ensures.same c.in-Some.ensures.ordered c.in-Some.found
    c.in-Some.ensures.found.0 c.in-Some.ensures.found.1

abbrev Steps : In_ok-chunk_id → ℕ → ℕ → Type 0
Steps c n after = Stepped c.args.self.now.block (request c.args.size c.args.alignment c.args.kind c.args.name.now) c.in-Some.found.offset n c.self.inside.chunks.size c.self.inside.granularity after
    c.allocate.new.self.items

the_rest : (c : In_ok-chunk_id) (n : ℕ) → n ≡ c.in_ok-chunk_id.chunk_id → c.leaves_rest-rest.result ≡ true → Steps c n (c.self.inside.counter + 1)
the_rest c n e is =
    let i = c.self.inside in
    let w : Wanted = record { size = c.args.size; alignment = c.args.alignment; kind = c.args.kind; granularity = c.args.granularity } in
    let h = chosen_then c in
    let f = chosen_at i.chunks.items w c.in-Some.found h in
    let rest = rest_of_chunk i.chunks.items w c.in-Some.found h (c.leaves_rest-rest.ensures.0 is) in
    let left : c.self.inside.counter < 2 ^ 64 - 1 = elim c.else-rest.branch [
      | else-rest-via-then-rest+else-self v ↦ (let ne = v.if-self.false in omega arith)
      | else-rest-via-else-rest v ↦ absurd (false≢true (sym v.if-rest.false ∙ is))
    ] in
    stepped c.args.self.now.block (request c.args.size c.args.alignment c.args.kind c.args.name.now) c.in-Some.found.offset n c.in_ok-chunk_id.chunk_id i.chunks.size i.granularity c.args.granularity i.counter
    (i.counter + 1) i.chunks.items c.allocate.new.self.items (ap (λ (v : Counted). v.block) c.self.view_is) c.requires.paged e c.self.invariant.0 c.requires.sized c.self.invariant.1 c.self.invariant.2
    (rest_taken_are i.chunks.items c.allocate.new.self.items i.chunks.size i.counter w f c.in_ok-text.text c.in_ok-chunk_id.chunk_id c.self.invariant.1 c.requires.sized c.requires.piece h.best
    (c.in_ok-chunk_id.ensures.taken h) rest)
    (rest_takes i.chunks.items c.allocate.new.self.items i.chunks.size i.counter w f c.in_ok-text.text c.in_ok-chunk_id.chunk_id c.self.invariant.1 c.requires.sized c.requires.piece h.best
    (c.in_ok-chunk_id.ensures.taken h) rest c.args.name.now c.in_ok-text.ensures.text left)

the_whole : (c : In_ok-chunk_id) (n : ℕ) → n ≡ c.in_ok-chunk_id.chunk_id → c.leaves_rest-rest.result ≡ false → Steps c n c.self.inside.counter
the_whole c n e is =
    let i = c.self.inside in
    let w : Wanted = record { size = c.args.size; alignment = c.args.alignment; kind = c.args.kind; granularity = c.args.granularity } in
    let h = chosen_then c in
    let f = chosen_at i.chunks.items w c.in-Some.found h in
    let whole = no_rest_of_chunk i.chunks.items w c.in-Some.found c.leaves_rest-rest.result h is c.leaves_rest-rest.ensures.1 in
    stepped c.args.self.now.block (request c.args.size c.args.alignment c.args.kind c.args.name.now) c.in-Some.found.offset n c.in_ok-chunk_id.chunk_id i.chunks.size i.granularity c.args.granularity i.counter
    i.counter i.chunks.items c.allocate.new.self.items (ap (λ (v : Counted). v.block) c.self.view_is) c.requires.paged e c.self.invariant.0 c.requires.sized c.self.invariant.1 c.self.invariant.2
    (whole_taken_are i.chunks.items c.allocate.new.self.items i.chunks.size i.counter w f c.in_ok-text.text c.in_ok-chunk_id.chunk_id c.self.invariant.1 c.requires.sized c.requires.piece h.best
    (c.in_ok-chunk_id.ensures.taken h) whole)
    (whole_takes i.chunks.items c.allocate.new.self.items i.chunks.size i.counter w f c.in_ok-text.text c.in_ok-chunk_id.chunk_id c.self.invariant.1 c.requires.sized c.requires.piece h.best
    (c.in_ok-chunk_id.ensures.taken h) whole c.args.name.now c.in_ok-text.ensures.text)

-- what the pieces take then
the_bytes : (c : In_ok-chunk_id) → bytes_of c.allocate.new.self.items ≡ bytes_of c.self.inside.chunks.items + (c.in-Some.found.offset + c.args.size - c.in-Some.found.gap.start)
the_bytes c =
    let i = c.self.inside in
    let w : Wanted = record { size = c.args.size; alignment = c.args.alignment; kind = c.args.kind; granularity = c.args.granularity } in
    let h = chosen_then c in
    taken_bytes i.chunks.items c.allocate.new.self.items w c.in-Some.found i.counter c.in_ok-chunk_id.chunk_id c.in_ok-text.text h c.requires.piece (c.in_ok-chunk_id.ensures.taken h)

pub overflow_add-self : goal.overflow_add-self
overflow_add-self c =
    let w : Wanted = record { size = c.args.size; alignment = c.args.alignment; kind = c.args.kind; granularity = c.args.granularity } in
    let f = chosen_fits c.self.inside.chunks.items w c.in-Some.found c.self.inside.chunks.size c.self.invariant.1.covers c.self.invariant.3 (the_chosen ((goal.at.overflow_add-self c).In-Some)) in
    omega (arith, f.high, f.ends)

pub overflow_add-self-2 : goal.overflow_add-self-2
overflow_add-self-2 c =
    let w : Wanted = record { size = c.args.size; alignment = c.args.alignment; kind = c.args.kind; granularity = c.args.granularity } in
    let room = room_for c.self.inside.chunks.items c.self.inside.chunks.size w c.in-Some.found (the_chosen ((goal.at.overflow_add-self-2 c).In-Some)) c.self.invariant.1.covers in
    let held = c.self.invariant.4 in
    let size = c.self.invariant.3 in
    omega arith

pub invariant_of-self-then-rest-2 : goal.invariant_of-self-then-rest-2
invariant_of-self-then-rest-2 c =
    let s = the_rest ((goal.at.invariant_of-self-then-rest-2 c).In_ok-chunk_id) c.in_ok-chunk_id.chunk_id refl c.if-rest-2.true in
    let b = the_bytes ((goal.at.invariant_of-self-then-rest-2 c).In_ok-chunk_id) in
    let held = c.self.invariant.4 in
    rw c.in_ok-chunk_id.ensures.size (c.self.invariant.0, s.are, s.separated, c.self.invariant.3, omega arith)

pub invariant_of-self-else-rest-2 : goal.invariant_of-self-else-rest-2
invariant_of-self-else-rest-2 c =
    let s = the_whole ((goal.at.invariant_of-self-else-rest-2 c).In_ok-chunk_id) c.in_ok-chunk_id.chunk_id refl c.if-rest-2.false in
    let b = the_bytes ((goal.at.invariant_of-self-else-rest-2 c).In_ok-chunk_id) in
    let held = c.self.invariant.4 in
    rw c.in_ok-chunk_id.ensures.size (c.self.invariant.0, s.are, s.separated, c.self.invariant.3, omega arith)

pub non_zero-requires : goal.non_zero-requires
non_zero-requires c =
    let at = (goal.at.non_zero-requires c).After-find in
    let h = the_chosen ((goal.at.non_zero-requires c).In-Some) in
    some_number c.self.inside.chunks.items c.allocate.new.self.items c.self.inside.chunks.size c.self.inside.counter (asked at) (the_found ((goal.at.non_zero-requires c).In-Some)) c.in_ok-text.text
    c.in_ok-chunk_id.chunk_id c.self.invariant.1 c.requires.sized c.requires.piece h.best (c.in_ok-chunk_id.ensures.taken h)

pub returns-clause-took : goal.returns-clause-took
returns-clause-took c =
    let at = (goal.at.returns-clause-took c).In_ok-chunk_id in
    elim c.if-rest-2.branch [
      | then-rest-2 w ↦ rw (w.self-is, c.in_ok-chunk_id.ensures.size) (the_rest at _ c.non_zero.ensures w.if-rest-2.true).takes
      | else-rest-2 w ↦ rw (w.self-is, c.in_ok-chunk_id.ensures.size) (the_whole at _ c.non_zero.ensures w.if-rest-2.false).takes
    ]

pub returns-clause-sound : goal.returns-clause-sound
returns-clause-sound c =
    let at = (goal.at.returns-clause-sound c).In_ok-chunk_id in
    let i = c.self.inside in
    elim c.if-rest-2.branch [
      | then-rest-2 w ↦ rw (w.self-is, c.in_ok-chunk_id.ensures.size)
          (sound_block c.allocate.new.self.items i.chunks.size i.granularity (i.counter + 1) (the_rest at c.in_ok-chunk_id.chunk_id refl w.if-rest-2.true).are)
      | else-rest-2 w ↦ rw (w.self-is, c.in_ok-chunk_id.ensures.size)
          (sound_block c.allocate.new.self.items i.chunks.size i.granularity i.counter (the_whole at c.in_ok-chunk_id.chunk_id refl w.if-rest-2.false).are)
    ]

pub returns-clause-covered : goal.returns-clause-covered
returns-clause-covered c =
    let at = (goal.at.returns-clause-covered c).In_ok-chunk_id in
    let i = c.self.inside in
    let ds = c.allocate.new.self.items in
    elim c.if-rest-2.branch [
      | then-rest-2 w ↦ rw (w.self-is, c.in_ok-chunk_id.ensures.size)
          (sound_covered (free_list_of i.chunks.size i.granularity (i.counter + 1) ds)
          (sound_block ds i.chunks.size i.granularity (i.counter + 1) (the_rest at c.in_ok-chunk_id.chunk_id refl w.if-rest-2.true).are))
      | else-rest-2 w ↦ rw (w.self-is, c.in_ok-chunk_id.ensures.size)
          (sound_covered (free_list_of i.chunks.size i.granularity i.counter ds)
          (sound_block ds i.chunks.size i.granularity i.counter (the_whole at c.in_ok-chunk_id.chunk_id refl w.if-rest-2.false).are))
    ]

pub returns-clause-separated : goal.returns-clause-separated
returns-clause-separated c =
    let at = (goal.at.returns-clause-separated c).In_ok-chunk_id in
    elim c.if-rest-2.branch [
      | then-rest-2 w ↦ rw w.self-is (the_rest at c.in_ok-chunk_id.chunk_id refl w.if-rest-2.true).separated
      | else-rest-2 w ↦ rw w.self-is (the_whole at c.in_ok-chunk_id.chunk_id refl w.if-rest-2.false).separated
    ]

pub find-requires-clause-aligned : goal.find-requires-clause-aligned
find-requires-clause-aligned c = c.requires.aligned

pub find-requires-clause-paged : goal.find-requires-clause-paged
find-requires-clause-paged c = subst (λ k. IsTrue (is_power_of_two k))
    (sym (granularity_of c.self.inside.chunks.size c.self.inside.granularity c.self.inside.counter c.self.inside.chunks.items c.args.self.now.block c.args.granularity (ap (λ (v : Counted). v.block) c.self.view_is) c.requires.paged))
    c.self.invariant.0

-- ---- host memory is refused where there is a place

pub returns-in_err-text-clause-cause : goal.returns-in_err-text-clause-cause
returns-in_err-text-clause-cause c =
    let at = (goal.at.returns-in_err-text-clause-cause c).After-find in
    let i = c.self.inside in
    let h = the_chosen ((goal.at.returns-in_err-text-clause-cause c).In-Some) in
    host_refusal c.from_residual.result c.args.self.now.block (the_request at) c.from_residual.ensures.1
    (has_place i.chunks.items i.chunks.size i.counter (asked at) c.args.self.now.block c.args.name.now (chosen_at i.chunks.items (asked at) c.in-Some.found h) c.self.invariant.1 c.requires.piece
    (the_view at) h.best (λ lt.
    let is = c.leaves_rest-rest.ensures.1 (subst (λ (g : Gap). c.in-Some.found.offset + c.args.size < g.start + g.length) (sym h.gap) lt) in
    elim c.else-rest.branch [
      | else-rest-via-then-rest+else-self v ↦ (let ne = v.if-self.false in omega arith)
      | else-rest-via-else-rest v ↦ absurd (false≢true (sym v.if-rest.false ∙ is))
    ]))

pub returns-in_err-chunk_id-clause-cause : goal.returns-in_err-chunk_id-clause-cause
returns-in_err-chunk_id-clause-cause c =
    let at = (goal.at.returns-in_err-chunk_id-clause-cause c).After-find in
    let i = c.self.inside in
    let h = the_chosen ((goal.at.returns-in_err-chunk_id-clause-cause c).In-Some) in
    host_refusal c.from_residual-in_err-chunk_id.result c.args.self.now.block (the_request at) c.from_residual-in_err-chunk_id.ensures.1
    (has_place i.chunks.items i.chunks.size i.counter (asked at) c.args.self.now.block c.args.name.now (chosen_at i.chunks.items (asked at) c.in-Some.found h) c.self.invariant.1 c.requires.piece
    (the_view at) h.best (λ lt.
    let is = c.leaves_rest-rest.ensures.1 (subst (λ (g : Gap). c.in-Some.found.offset + c.args.size < g.start + g.length) (sym h.gap) lt) in
    elim c.else-rest.branch [
      | else-rest-via-then-rest+else-self v ↦ (let ne = v.if-self.false in omega arith)
      | else-rest-via-else-rest v ↦ absurd (false≢true (sym v.if-rest.false ∙ is))
    ]))

pub leaves_rest-rest-requires : goal.leaves_rest-rest-requires
leaves_rest-rest-requires c =
    let w : Wanted = record { size = c.args.size; alignment = c.args.alignment; kind = c.args.kind; granularity = c.args.granularity } in
    let f = chosen_fits c.self.inside.chunks.items w c.in-Some.found c.self.inside.chunks.size c.self.invariant.1.covers c.self.invariant.3 (the_chosen ((goal.at.leaves_rest-rest-requires c).In-Some)) in
    (omega (arith, f.high, f.ends), f.ends)

pub allocate-requires-clause-chosen : goal.allocate-requires-clause-chosen
allocate-requires-clause-chosen c = the_chosen ((goal.at.allocate-requires-clause-chosen c).In-Some)

pub allocate-requires-clause-fresh : goal.allocate-requires-clause-fresh
allocate-requires-clause-fresh c = fresh_chunk_id c.self.inside.counter c.self.inside.chunks.items c.self.invariant.1.each

-- ---- what the search and the taking cost

searched_at : (c : After-find) (last : Cost) → Taking (asked c) c.find.result c.find.new.cost last → IsSearch c.args.self.now.block (the_request c) c.args.self.now.cost (counts_of last)
searched_at c last taking =
    let i = c.self.inside in
    let gs = c.gaps.result.now.gaps in
    let e = c.find.ensures in
    searched i.chunks.items i.chunks.size c.args.granularity i.counter (asked c) c.args.name.now c.args.self.now.block c.self.invariant.1 c.requires.piece (the_view c) c.find.result i.cost
    c.find.new.cost last _ _ (found_chosen i.chunks.items gs (asked c) i.chunks.size c.self.invariant.1.covers c.gaps.ensures.same _ _ c.find.result e.ordered e.found)
    (spends i.chunks.items gs (asked c) i.cost c.find.new.cost c.gaps.ensures.same e.ordered c.find.result e.found e.comparisons e.lookups) taking
    (sym (ap (λ (v : Counted). v.cost) c.self.view_is)) refl

pub returns-in_default-clause-cost : goal.returns-in_default-clause-cost
returns-in_default-clause-cost c =
    let at = (goal.at.returns-in_default-clause-cost c).After-find in
    searched_at at _ (not_taken (asked at) _ _)

pub returns-then-self-clause-cost : goal.returns-then-self-clause-cost
returns-then-self-clause-cost c =
    let at = (goal.at.returns-then-self-clause-cost c).After-find in
    searched_at at _ (not_taken (asked at) _ _)

pub returns-in_err-text-clause-cost : goal.returns-in_err-text-clause-cost
returns-in_err-text-clause-cost c =
    let at = (goal.at.returns-in_err-text-clause-cost c).After-find in
    searched_at at _ (not_taken (asked at) _ _)

pub returns-in_err-chunk_id-clause-cost : goal.returns-in_err-chunk_id-clause-cost
returns-in_err-chunk_id-clause-cost c =
    let at = (goal.at.returns-in_err-chunk_id-clause-cost c).After-find in
    searched_at at c.allocate.new.cost (nothing_taken (asked at) _ _ _ c.in_err-chunk_id.ensures.none)

pub returns-clause-cost : goal.returns-clause-cost
returns-clause-cost c =
    let at = (goal.at.returns-clause-cost c).After-find in
    let s = searched_at at c.allocate.new.cost (place_taken (asked at) c.find.result c.in-Some.found _ _ c.in-Some.is c.in_ok-chunk_id.ensures.front c.in_ok-chunk_id.ensures.whole) in
    elim c.if-rest-2.branch [
      | then-rest-2 w ↦ rw w.self-is s
      | else-rest-2 w ↦ rw w.self-is s
    ]

-- ---- the order of the lists

pub returns-clause-ordered : goal.returns-clause-ordered
returns-clause-ordered c =
    let at = (goal.at.returns-clause-ordered c).In_ok-chunk_id in
    let i = c.self.inside in
    elim c.if-rest-2.branch [
      | then-rest-2 w ↦ rw (w.self-is, c.in_ok-chunk_id.ensures.size)
          (ordered_block c.allocate.new.self.items i.chunks.size i.granularity (i.counter + 1) (the_rest at c.in_ok-chunk_id.chunk_id refl w.if-rest-2.true).are)
      | else-rest-2 w ↦ rw (w.self-is, c.in_ok-chunk_id.ensures.size)
          (ordered_block c.allocate.new.self.items i.chunks.size i.granularity i.counter (the_whole at c.in_ok-chunk_id.chunk_id refl w.if-rest-2.false).are)
    ]
