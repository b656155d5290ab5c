use Rattle.std.proofs.Common.{◌≡◌, ◌∙◌, ◌-◌, ◌<◌, ◌≤◌, ℕ, length, slice_set, refl, sym, ap, subst, arith, Some, Option, length-set, slice_index_or, vec_capacity}
use Rattle.std.specs.Option.{option_map}
use Rattle.std.proofs.lemmas.List.{length-map}
use Rattle.gpu_block.specs.Block.{free_list}
use Rattle.gpu_block.specs.declared.sub_allocator.SubAllocator.TheVariants.{FreeList}
use Rattle.gpu_core.specs.TypeState.{slot_at}
use Rattle.gpu_core.specs.TypeTake.{asked, BlockCannotServe, CannotServe, PreparesPiece}
use Rattle.gpu_values.specs.declared.error.AllocationError.{AllocationError}
use Rattle.gpu_values.specs.declared.error.AllocationError.TheVariants as errors
use Rattle.std.specs.Vec.{with_item}
use Rattle.std.specs.Prelude.{slice_index, min}
use Rattle.gpu_block_pieces.specs.BlockRefusal.{IsAllocateRefusal}
use Rattle.gpu_block_pieces.specs.Place.{HasNoPlace}
use Rattle.gpu_core.specs.declared.piece.Piece.{Piece}
use Rattle.gpu_core.specs.declared.slot.LiveBlock.{LiveBlock}
use Rattle.gpu_core.specs.declared.slots.Slots.TheInside.{Inside}
use Rattle.gpu_block_pieces.specs.Request.{Request}
use Rattle.gpu_block_pieces.specs.FreeList as lists
use Rattle.gpu_block.specs.SubAllocator.{block_of}
use Rattle.gpu_core.specs.Slots.{slot_of, slots_of, SlotIsSound, AreSound, AreNoted, OthersAreNoted}
use Rattle.gpu_core.proofs.Noted.{others_kept}
use Rattle.gpu_core.proofs.Passing.{none_behind, none_passed}
use Rattle.gpu_core.proofs.Slotted.{Edits, edits, none_from, prepares, edited_sound}
use Rattle.gpu_core.proofs.slots.Slots.allocate_from.Goals as goal
use Rattle.gpu_core.proofs.slots.Slots.allocate_from.Goals.{In-FreeList, In-Err, After-index_mut, After-pass_over-arg-in-loop-below-1, After-allocate, in-Some+in-FreeList+in-Err-OutOfMemory, in-Some+in_default-sub, in_default}

-- the slot that is looked at is what it was at first
here : (g : _) (c : After-index_mut g) → slot_at (slots_of c.self.inside.blocks.items) (c.loop-below.below - 1) ≡ option_map slot_of c.index_mut.result.now
here g c =
    let e = edits c.loop-below.self-inside.blocks.items (c.loop-below.below - 1) c.index_mut.result.now c.index_mut.result.now (omega (arith, c.loop-below-test.true, c.loop-below.invariant.within)) c.index_mut.ensures.value in
    ap (λ s. slot_at s (c.loop-below.below - 1)) (sym c.loop-below.invariant.same) ∙ e.before

sound_here : (g : _) (c : After-index_mut g) → SlotIsSound c.args.granularity (option_map slot_of c.index_mut.result.now)
sound_here g c =
    subst (SlotIsSound c.args.granularity) (here g c) (subst (λ t. AreSound c.args.granularity t.slots) (sym c.self.view_is) c.requires.sound (c.loop-below.below - 1))

-- the slot that is looked at holds a free list
free_list_here : (g : _) (c : In-FreeList g) → c.index_mut.result.now ≡ Some (record { handle = c.in-Some.field-0.handle; sub = FreeList c.in-FreeList.list })
free_list_here g c = c.in-Some.is ∙ ap (λ s. Some (record { handle = c.in-Some.field-0.handle; sub = s })) c.in-FreeList.is

paged : (g : _) (c : In-FreeList g) → c.args.granularity ≡ c.in-FreeList.list.block.granularity
paged g c = (subst (λ o. SlotIsSound c.args.granularity (option_map slot_of o)) (free_list_here g c) (sound_here g (goal.at.allocate-requires-clause-paged g c).After-index_mut)).0

pub allocate-requires-clause-paged : goal.allocate-requires-clause-paged
allocate-requires-clause-paged = paged

pub loop-below-init : goal.loop-below-init
loop-below-init g c =
    let slots = slots_of c.self.inside.blocks.items in
    let n = length-map c.self.inside.blocks.items (option_map slot_of) in
    record {
      within = omega (arith, c.pass_over-below.ensures.within, c.len.ensures);
      same = refl;
      room = refl;
      notes = refl;
      above = none_passed c.self.inside.notes slots (asked c.args.request.now) c.pass_over-below.result (length slots) c.self.invariant
          (λ i from lt. c.pass_over-below.ensures.passed i from (omega (arith, n, lt, c.len.ensures))) (none_behind slots (asked c.args.request.now));
    }

-- a slot that serves nothing is passed over, and no block changes
record IsPassed {H : Type 0} (old : Inside H) (i : ℕ) (r : Request) (new : Inside H) : Type 0 where
  length_is : length new.blocks.items ≡ length old.blocks.items
  same : slots_of new.blocks.items ≡ slots_of old.blocks.items
  room : vec_capacity new.blocks ≡ vec_capacity old.blocks
  notes : new.notes ≡ old.notes
  none : CannotServe r (slot_at (slots_of old.blocks.items) i)

passed : {H : Type 0} (old : Inside H) (i : ℕ) (read new : Option (LiveBlock H)) (r : Request) (after : Inside H) → i < length old.blocks.items → read ≡ slice_index_or old.blocks.items i read
    → after ≡ record { blocks = with_item old.blocks i new; notes = old.notes } → option_map slot_of new ≡ option_map slot_of read → CannotServe r (option_map slot_of read) → IsPassed old i r after
passed old i read new r after below is e same none =
    let d = edits old.blocks.items i read new below is in
    subst (IsPassed old i r) (sym e)
    (record { length_is = length-set old.blocks.items i new; same = d.same same; room = refl; notes = refl; none = subst (CannotServe r) (sym d.before) none })

-- the two refusals of a free list
only_host_memory : (b : lists.FreeList) (r : Request) (e : AllocationError) → IsAllocateRefusal b r e → (e ≡ errors.OutOfMemory → ⊥) → e ≡ errors.HostOutOfMemory
only_host_memory b r errors.OutOfMemory why ne = absurd (ne refl)
only_host_memory b r errors.HostOutOfMemory why ne = refl
only_host_memory b r (errors.FailedToMap _) why ne = absurd why
only_host_memory b r errors.NoCompatibleMemoryTypeFound why ne = absurd why
only_host_memory b r errors.InvalidAllocationCreateDesc why ne = absurd why
only_host_memory b r (errors.InvalidAllocatorCreateDesc _) why ne = absurd why
only_host_memory b r (errors.Internal _) why ne = absurd why
only_host_memory b r errors.BarrierLayoutNeedsDevice10 why ne = absurd why
only_host_memory b r errors.CastableFormatsRequiresEnhancedBarriers why ne = absurd why
only_host_memory b r errors.CastableFormatsRequiresAtLeastDevice12 why ne = absurd why
only_host_memory b r errors.BudgetExceeded why ne = absurd why

-- what the slot that is looked at leaves where it serves nothing
is_passed : (g : _) (c : After-pass_over-arg-in-loop-below-1 g) → IsPassed c.loop-below.self-inside (c.loop-below.below - 1) (asked c.args.request.now) c.match-index_mut.self-inside
is_passed g c =
    let i = c.loop-below.below - 1 in
    let read = c.index_mut.result.now in
    let r = asked c.args.request.now in
    let below : i < length c.loop-below.self-inside.blocks.items = omega (arith, c.loop-below-test.true, c.loop-below.invariant.within) in
    elim c.match-index_mut.branch [
      | in-Some+in-FreeList+in-Err-OutOfMemory w ↦
          (let is : read ≡ Some (record { handle = w.in-Some.field-0.handle; sub = FreeList w.in-FreeList.list }) =
          w.in-Some.is ∙ ap (λ s. Some (record { handle = w.in-Some.field-0.handle; sub = s })) w.in-FreeList.is in
          let none : HasNoPlace w.in-FreeList.list.block r = rw w.in-Err-OutOfMemory.field-0-is at w.in-Err-OutOfMemory.ensures.cause in
          passed c.loop-below.self-inside i read (Some (record { handle = w.in-Some.field-0.handle; sub = FreeList w.allocate.new.self })) r c.match-index_mut.self-inside below c.index_mut.ensures.value
          w.self-inside-is (ap (λ b. Some (record { handle = w.in-Some.field-0.handle; block = free_list b })) w.in-Err-OutOfMemory.ensures.refused ∙ sym (ap (option_map slot_of) is))
          (subst (λ o. CannotServe r (option_map slot_of o)) (sym is) none))
      | in-Some+in_default-sub w ↦
          passed c.loop-below.self-inside i read (Some w.in-Some.field-0) r c.match-index_mut.self-inside below c.index_mut.ensures.value w.self-inside-is (sym (ap (option_map slot_of) w.in-Some.is))
          (subst (λ o. CannotServe r (option_map slot_of o)) (sym w.in-Some.is) (subst (λ s. BlockCannotServe r (block_of s)) (sym w.in_default-sub.is) tt))
      | in_default w ↦
          passed c.loop-below.self-inside i read read r c.match-index_mut.self-inside below c.index_mut.ensures.value w.self-inside-is refl
          (subst (λ o. CannotServe r (option_map slot_of o)) (sym w.in_default.is) tt)
    ]

pub pass_over-below-requires-in-loop-below : goal.pass_over-below-requires-in-loop-below
pass_over-below-requires-in-loop-below g c =
    let p = is_passed g (goal.at.pass_over-below-requires-in-loop-below g c).After-pass_over-arg-in-loop-below-1 in
    let lengths = ap (λ n. length n.longest.marks) (p.notes ∙ c.loop-below.invariant.notes) in
    let many = c.self.invariant.as_long in
    let items = sym (length-map c.self.inside.blocks.items (option_map slot_of)) ∙ ap length (sym c.loop-below.invariant.same) ∙ length-map c.loop-below.self-inside.blocks.items (option_map slot_of) in
    let map = length-map c.self.inside.blocks.items (option_map slot_of) in
    omega (arith, lengths, many, items, map, c.loop-below.invariant.within)

pub loop-below-preserved : goal.loop-below-preserved
loop-below-preserved g c =
    let p = is_passed g (goal.at.loop-below-preserved g c).After-pass_over-arg-in-loop-below-1 in
    let slots = slots_of c.self.inside.blocks.items in
    let r = asked c.args.request.now in
    let lengths = p.notes ∙ c.loop-below.invariant.notes in
    let over = c.pass_over-below-in-loop-below.ensures in
    let none : CannotServe r (slot_at slots (c.loop-below.below - 1)) = subst (λ s. CannotServe r (slot_at s (c.loop-below.below - 1))) c.loop-below.invariant.same p.none in
    record {
      within = omega (arith, p.length_is, over.within, c.loop-below.invariant.within);
      same = p.same ∙ c.loop-below.invariant.same;
      room = p.room ∙ c.loop-below.invariant.room;
      notes = lengths;
      above = none_passed c.self.inside.notes slots r c.pass_over-below-in-loop-below.result (c.loop-below.below - 1) c.self.invariant
          (subst (λ l. (i : ℕ) → c.pass_over-below-in-loop-below.result ≤ i → i < c.loop-below.below - 1 → slice_index l.longest.marks i < r.size) lengths over.passed)
          (none_from slots r c.loop-below.below (omega (arith, c.loop-below-test.true)) c.loop-below.invariant.above none);
    }

-- the slots with the free list after the call
abbrev after_call : (g : _) (c : After-allocate g) → Option (LiveBlock g.row.H.Denot)
after_call g c = Some (record { handle = c.in-Some.field-0.handle; sub = FreeList c.allocate.new.self })

call_edits : (g : _) (c : After-allocate g) → Edits c.loop-below.self-inside.blocks.items (c.loop-below.below - 1) c.index_mut.result.now (after_call g c)
call_edits g c =
    edits c.loop-below.self-inside.blocks.items (c.loop-below.below - 1) c.index_mut.result.now (after_call g c) (omega (arith, c.loop-below-test.true, c.loop-below.invariant.within))
    c.index_mut.ensures.value

pub measure-requires-clause-others : goal.measure-requires-clause-others
measure-requires-clause-others g c =
    let i = c.loop-below.below - 1 in
    let items = c.loop-below.self-inside.blocks.items in
    let new = after_call g (goal.at.measure-requires-clause-others g c).After-allocate in
    let e = call_edits g (goal.at.measure-requires-clause-others g c).After-allocate in
    let bounded : AreNoted c.loop-below.self-inside.notes (slots_of items) =
    subst (λ n. AreNoted n (slots_of items)) (sym c.loop-below.invariant.notes) (subst (AreNoted c.self.inside.notes) (sym c.loop-below.invariant.same) c.self.invariant) in
    subst (λ xs. OthersAreNoted i c.loop-below.self-inside.notes (slots_of xs)) (sym c.deref.ensures.value)
    (others_kept c.loop-below.self-inside.notes (slots_of items) i (option_map slot_of new) (slots_of (slice_set items i new)) bounded e.slots)

pub returns-in-Ok-clause-took : goal.returns-in-Ok-clause-took
returns-in-Ok-clause-took g c =
    let f = goal.at.returns-in-Ok-clause-took g c in
    let i = c.loop-below.below - 1 in
    let new = after_call g f.After-allocate in
    let after = slots_of (slice_set c.loop-below.self-inside.blocks.items i new) in
    let p : Piece g.row.H.Denot = record { slot = i; chunk_id = c.in-Ok.chunk_id; offset = c.in-Ok.offset; size = c.args.request.now.size; handle = c.in-Some.field-0.handle } in (
      subst (λ t. PreparesPiece t.slots (asked c.args.request.now) p after) c.self.view_is
          (prepares (slots_of c.self.inside.blocks.items) (asked c.args.request.now) p (Some (record { handle = c.in-Some.field-0.handle; block = free_list c.in-FreeList.list.block }))
          (option_map slot_of new) after (here g f.After-index_mut ∙ ap (option_map slot_of) (free_list_here g f.In-FreeList)) (refl, refl, refl, c.in-Ok.ensures.took) refl
          (λ j lt. c.loop-below.invariant.above j (omega (arith, lt))) ((call_edits g f.After-allocate).slots ∙ ap (λ s. slice_set s i (option_map slot_of new)) c.loop-below.invariant.same)),
      omega (arith, c.loop-below-test.true),
    )

-- the slots are sound before the call
sound_slots : (g : _) (c : After-index_mut g) → AreSound c.args.granularity (slots_of c.loop-below.self-inside.blocks.items)
sound_slots g c = subst (AreSound c.args.granularity) (sym c.loop-below.invariant.same) (subst (λ t. AreSound c.args.granularity t.slots) (sym c.self.view_is) c.requires.sound)

pub returns-in-Ok-clause-kept : goal.returns-in-Ok-clause-kept
returns-in-Ok-clause-kept g c =
    let f = goal.at.returns-in-Ok-clause-kept g c in
    let i = c.loop-below.below - 1 in
    let items = c.loop-below.self-inside.blocks.items in
    edited_sound c.args.granularity items i c.index_mut.result.now (after_call g f.After-allocate) (omega (arith, c.loop-below-test.true, c.loop-below.invariant.within)) (call_edits g f.After-allocate)
    (sound_slots g f.After-index_mut) (λ _. (paged g f.In-FreeList ∙ sym c.in-Ok.ensures.pages, c.in-Ok.ensures.sound, c.in-Ok.ensures.separated))

-- a refusal leaves the slots as they were
same_after : (g : _) (c : In-Err g) → slots_of (slice_set c.loop-below.self-inside.blocks.items (c.loop-below.below - 1) (after_call g ((goal.at.returns-in-Err g c).After-allocate)))
    ≡ slots_of c.loop-below.self-inside.blocks.items
same_after g c =
    let f = goal.at.returns-in-Err g c in
    (call_edits g f.After-allocate).same (ap (λ b. Some (record { handle = c.in-Some.field-0.handle; block = free_list b })) c.in-Err.ensures.refused ∙ sym (ap (option_map slot_of) (free_list_here g f.In-FreeList)))

pub invariant_of-self : goal.invariant_of-self
invariant_of-self g c =
    subst (λ n. AreNoted n (slots_of c.loop-below.self-inside.blocks.items)) (sym c.loop-below.invariant.notes) (subst (AreNoted c.self.inside.notes) (sym c.loop-below.invariant.same) c.self.invariant)

pub invariant_of-self-in-Err : goal.invariant_of-self-in-Err
invariant_of-self-in-Err g c =
    subst (AreNoted c.loop-below.self-inside.notes) (sym (same_after g c))
    (subst (λ n. AreNoted n (slots_of c.loop-below.self-inside.blocks.items)) (sym c.loop-below.invariant.notes)
    (subst (AreNoted c.self.inside.notes) (sym c.loop-below.invariant.same) c.self.invariant))

pub returns-in-Err : goal.returns-in-Err
returns-in-Err g c =
    let f = goal.at.returns-in-Err g c in
    let slots = same_after g c ∙ c.loop-below.invariant.same in
    record {
      took = tt;
      none = tt;
      cause = only_host_memory c.in-FreeList.list.block (asked c.args.request.now) c.in-Err.error c.in-Err.ensures.cause (λ is. c.in-Err.in-Err-own.refused-1.1 (rw is refl));
      refused = slots ∙ ap (λ t. t.slots) c.self.view_is;
      room = ap (λ n. min n (min c.loop-below.self-inside.notes.longest.room c.loop-below.self-inside.notes.vacant.room)) c.loop-below.invariant.room ∙ ap (λ n. min (vec_capacity c.self.inside.blocks) (min n.longest.room n.vacant.room)) c.loop-below.invariant.notes ∙ ap (λ t. t.room) c.self.view_is;
      kept = subst (AreSound c.args.granularity) (sym (same_after g c)) (sound_slots g f.After-index_mut);
    }
