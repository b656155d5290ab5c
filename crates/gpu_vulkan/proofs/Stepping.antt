-- An attempt, and the attempts of an allocation, are steps of the model.
use Rattle.std.proofs.Common.{◌≡◌, ◌≢◌, ◌∙◌, ℕ, ◌<◌, refl, sym, ap, subst, Bool, true, false, List, [], length, slice_set, Option, Some, None, Ok, Err, Result, ⊎_elim}
use Rattle.std.specs.FinMap.{get, insert}
use Rattle.std.specs.Int.NonZero.{non_zero_u64_get}
use Rattle.gpu_block.specs.Block.{extents_of, TakesIn, IsSoundBlock, HoldsPiece}
use Rattle.gpu_block_pieces.specs.FreeList.{Extent}
use Rattle.gpu_values.specs.Refusal.{Refusal, out_of_memory}
use Rattle.gpu_core.specs.Slots.{SlotIsSound}
use Rattle.gpu_core.specs.TypeRelease.{SlotHolds}
use Rattle.gpu_core.specs.TypeState.{Slot}
use Rattle.gpu_core.specs.TypeTake.{Pending, fresh_block, PreparesPiece, Installs}
use Rattle.gpu_core.specs.declared.piece.Piece.{Piece}
use Rattle.gpu_core.proofs.EmptyBlocks.{takes_holds}
use Rattle.gpu_core.proofs.OneOutcome.{fresh_sound}
use Rattle.gpu_values.specs.declared.error.AllocationError.{AllocationError}
use Rattle.gpu_device.specs.Held.{Held, IsWhole, bytes_of, entry_bytes, new_entry, HasRange}
use Rattle.gpu_device.specs.declared.vulkan.device.VulkanDevice.{Ghosts}
use Rattle.gpu_device.specs.declared.vulkan.types.DeviceMemory.{DeviceMemory}
use Rattle.gpu_device.proofs.Maps.{get-insert_same, get-insert_other}
use Rattle.gpu_device.proofs.Changes.{get-mapped_other, bytes-mapped, new_is_unmapped}
use Rattle.gpu_core.specs.Budgets.{Budgets}
use Rattle.gpu_vulkan.specs.Allocate.{IsTooLarge, IsWithinHeap, IsAttempt}
use Rattle.gpu_core.proofs.Options.{none_some, some_same}
use Rattle.gpu_pool.specs.Allocate.{Environment, NothingMet, NoHostMemory, Answered, PoolServes}
use Rattle.gpu_pool.specs.State as states
use Rattle.gpu_vulkan.specs.Describe.{request_of}
use Rattle.gpu_vulkan.specs.Attempt.{AttemptEnvironment, Asked, Answer, IsAfter, IsMet, request_in, unseen, AnyQuestion}
use Rattle.gpu_vulkan.specs.BlockAnswer.{BlockAnswer, Declined, Granted, Mapped, NotMapped, Asks, answer_number}
use Rattle.gpu_vulkan.specs.Types.{is_mapped, kinds_of_device}
use Rattle.gpu_vulkan.specs.Blocks.{Slots, HoldsJustLiveBlocks, memory_number, IsBlockEntry}
use Rattle.gpu_core.specs.Blocks.{slots_at, block_at, BlocksWellFormed}
use Rattle.gpu_vulkan.specs.ByteView.{ByteView, byte_view_of, SplitsRest, AddsBlock}
use Rattle.gpu_vulkan.specs.Live.{is_same_memory, IsLiveIn}
use Rattle.gpu_vulkan.specs.Setup.{Setup}
use Rattle.gpu_vulkan.specs.Step.{BytesAfter, id_in, answer_bytes}
use Rattle.gpu_vulkan.specs.declared.allocation.Allocation.{Allocation}
use Rattle.gpu_vulkan.specs.declared.describe.AllocationCreateDesc.{AllocationCreateDesc}
use Rattle.gpu_vulkan.proofs.ByteViews.{served_byte_view, installed_byte_view, with_new_adds, with_new}
use Rattle.gpu_core.proofs.Holding.{not_a_block}
use Rattle.gpu_vulkan.proofs.Inside.{live_range, live_unmapped}
use Rattle.gpu_vulkan.proofs.Joins.{OneMore, one_more_taken}
use Rattle.gpu_vulkan.proofs.Parts.{HasRoom}
use Rattle.gpu_core.proofs.Placed.{only_block, installs_only, prepares_only}
use Rattle.gpu_vulkan.proofs.Attempts.{refused_held, unasked_held}
use Rattle.gpu_block_pieces.proofs.OrderedLists.{eq_true}

-- ---- room for a piece's bytes

room_by : (b mapped : Bool) → mapped ≡ b → (bytes : Option (List ℕ)) (o size : ℕ) → (mapped ≡ true → HasRange bytes o size) → (mapped ≡ false → bytes ≡ None) → HasRoom mapped bytes o size
room_by true mapped is bytes o size range none = subst (λ c. HasRoom c bytes o size) (sym is) (range is)
room_by false mapped is bytes o size range none = subst (λ c. HasRoom c bytes o size) (sym is) (none is)

-- a live piece has room in its block's bytes
pub live_room : (setup : Setup) (first held : Held) (ss : Slots) → BlocksWellFormed setup.properties.granularity ss → HoldsJustLiveBlocks setup.properties first held ss →
    ((n : ℕ) → IsWhole (get held n))
    → (t : ℕ) (p : Piece DeviceMemory) → IsLiveIn ss t (Some p) → HasRoom (is_mapped setup.properties t) (bytes_of held p.handle.0) p.offset p.size
live_room setup first held ss sound h whole t p live =
    room_by (is_mapped setup.properties t) (is_mapped setup.properties t) refl (bytes_of held p.handle.0) p.offset p.size
    (λ mapped. live_range setup.properties first held ss sound h t p whole mapped live)
    (λ unmapped. live_unmapped setup.properties first held ss sound h t p unmapped live)

-- a piece of a block that stands in its slot is live
pub live_at : (ss : Slots) (t : ℕ) (p : Piece DeviceMemory) (b : Slot DeviceMemory) → block_at ss t p.slot ≡ Some b → b.handle ≡ p.handle → HoldsPiece b.block (non_zero_u64_get p.chunk_id) p.offset
    p.size → IsLiveIn ss t (Some p)
live_at ss t p b at number holds =
    subst (SlotHolds is_same_memory p) (sym at) (eq_true b.handle.0 p.handle.0 (ap (λ (m : DeviceMemory). m.0) number), holds)

sound_at : (setup : Setup) (ss : Slots) (t i : ℕ) (b : Slot DeviceMemory) → BlocksWellFormed setup.properties.granularity ss → block_at ss t i ≡ Some b → IsSoundBlock b.block
sound_at setup ss t i b sound at = (subst (SlotIsSound setup.properties.granularity) at (sound t i)).1

fresh_extents : (own : Bool) (size granularity : ℕ) → extents_of (fresh_block own size granularity) ≡ []
fresh_extents true size granularity = refl
fresh_extents false size granularity = refl

same_size : (xs more : List Extent) (n o size other : ℕ) → size ≡ other → OneMore xs more n o size → OneMore xs more n o other
same_size xs more n o size other e one = subst (OneMore xs more n o) e one

module _ {D : Type 0} (g : Ghosts D) (setup : Setup) (budgets : Budgets) (d : AllocationCreateDesc) (first : Held) (t : ℕ) (old : Slots) (below : t < length old)
    (sound : BlocksWellFormed setup.properties.granularity old) where
  abbrev mapped : Bool
  mapped = is_mapped setup.properties t

  -- a shared block serves
  pub served_bytes : (p : Piece DeviceMemory) (taken : List (Option (Slot DeviceMemory))) (r : _) (held : Held) → PreparesPiece (slots_at old t) r p taken
      → BlocksWellFormed setup.properties.granularity (slice_set old t taken) → HoldsJustLiveBlocks setup.properties first held (slice_set old t taken) → ((n : ℕ) → IsWhole (get held n))
      → SplitsRest mapped (id_in t p) p.offset p.size (byte_view_of held old) (byte_view_of held (slice_set old t taken))
  served_bytes p taken r held s after holds whole =
      let new = slice_set old t taken in
      let b : Slot DeviceMemory = record s.slot { block = s.after } in
      let n = non_zero_u64_get p.chunk_id in
      let only = only_block old t p.slot (Some b) taken below (prepares_only (slots_at old t) r p taken s) in
      let holds_piece : HoldsPiece s.after n p.offset p.size = subst (HoldsPiece s.after n p.offset) (sym s.size) (takes_holds s.slot.block r p.offset n s.after s.takes) in
      let live = live_at new t p b only.at (sym s.handle) holds_piece in
      let room : HasRoom mapped (bytes_of held s.slot.handle.0) p.offset p.size =
      subst (λ (m : DeviceMemory). HasRoom mapped (bytes_of held m.0) p.offset p.size) s.handle (live_room setup first held new after holds whole t p live) in
      let one = same_size (extents_of s.slot.block) (extents_of s.after) n p.offset r.size p.size (sym s.size)
      (one_more_taken s.slot.block r p.offset n s.after (sound_at setup old t p.slot s.slot sound s.at) (sound_at setup new t p.slot b after only.at) s.takes) in
      served_byte_view held old new t p.slot s.slot b s.at only refl mapped n p.offset p.size room one

  -- a new block's piece
  installed_bytes : (own : Bool) (size pages : ℕ) (ready : Pending) (r : _) (m : DeviceMemory) (bytes : Option (List ℕ)) (p : Piece DeviceMemory) (x : List (Option (Slot DeviceMemory))) (held now : Held)
      → TakesIn (fresh_block own size pages) r ready.offset ready.chunk_id ready.block → ready.size ≡ r.size → Installs (slots_at old t) own ready m p x
      → get held m.0 ≡ None → bytes_of now m.0 ≡ bytes → ((k : ℕ) → k ≢ m.0 → get now k ≡ get held k)
      → BlocksWellFormed setup.properties.granularity (slice_set old t x) → HoldsJustLiveBlocks setup.properties first held old → HoldsJustLiveBlocks setup.properties first now (slice_set old t x) →
      ((k : ℕ) → IsWhole (get now k))
      → (mid : ByteView) × AddsBlock t p.slot bytes (byte_view_of held old) mid × SplitsRest mapped (id_in t p) p.offset p.size mid (byte_view_of now (slice_set old t x))
  installed_bytes own size pages ready r m bytes p x held now takes sized made fresh there same after before holds whole =
      let new = slice_set old t x in
      let b : Slot DeviceMemory = record { handle = m; block = ready.block } in
      let k = non_zero_u64_get p.chunk_id in
      let only_at = installs_only (slots_at old t) own ready m p x made in
      let only = only_block old t p.slot (Some b) x below only_at.1 in
      let none = not_a_block memory_number (IsBlockEntry setup.properties) first held old m.0 before fresh in
      let taken : HoldsPiece ready.block ready.chunk_id ready.offset r.size = takes_holds (fresh_block own size pages) r ready.offset ready.chunk_id ready.block takes in
      let long : p.size ≡ r.size = made.piece.2 ∙ sized in
      let holds_piece : HoldsPiece ready.block k p.offset p.size =
      subst (HoldsPiece ready.block k p.offset) (sym long)
      (subst (λ o. HoldsPiece ready.block k o r.size) (sym made.piece.0) (subst (λ k. HoldsPiece ready.block k ready.offset r.size) (sym made.piece.1) taken)) in
      let live = live_at new t p b only.at (sym made.piece.3) holds_piece in
      let room : HasRoom mapped (bytes_of now m.0) p.offset p.size =
      subst (λ (k : DeviceMemory). HasRoom mapped (bytes_of now k.0) p.offset p.size) made.piece.3 (live_room setup first now new after holds whole t p live) in
      let fresh_one : OneMore (extents_of (fresh_block own size pages)) (extents_of ready.block) ready.chunk_id ready.offset r.size =
      one_more_taken (fresh_block own size pages) r ready.offset ready.chunk_id ready.block (fresh_sound own size pages)
      (sound_at setup new t p.slot b after only.at) takes in
      let one : OneMore [] (extents_of ready.block) k p.offset p.size =
      subst (OneMore [] (extents_of ready.block) k p.offset) (sym long)
      (subst (λ o. OneMore [] (extents_of ready.block) k o r.size) (sym made.piece.0)
      (subst (λ k. OneMore [] (extents_of ready.block) k ready.offset r.size) (sym made.piece.1)
      (subst (λ (xs : List Extent). OneMore xs (extents_of ready.block) ready.chunk_id ready.offset r.size) (fresh_extents own size pages) fresh_one))) in (
        with_new t p.slot (bytes_of now m.0) (byte_view_of held old),
        subst (λ o. AddsBlock t p.slot o (byte_view_of held old) (with_new t p.slot (bytes_of now m.0) (byte_view_of held old))) there (with_new_adds t p.slot (bytes_of now m.0) (byte_view_of held old)),
        installed_byte_view held now old new t p.slot b only_at_none only mapped k p.offset p.size room (λ u j s at. ap entry_bytes (same s.handle.0 (none u j s at))) one,
      )
    where
      only_at_none : block_at old t p.slot ≡ None
      only_at_none = (installs_only (slots_at old t) own ready m p x made).0

  -- what is left of the bytes, by how the device answered
  granted_bytes : (own : Bool) (size pages : ℕ) (ready : Pending) (r : _) (a : Asked) (m : DeviceMemory) (p : Piece DeviceMemory) (x : List (Option (Slot DeviceMemory))) (device after : D)
      → TakesIn (fresh_block own size pages) r ready.offset ready.chunk_id ready.block → ready.size ≡ r.size → Installs (slots_at old t) own ready m p x
      → (b : BlockAnswer) → a.answer ≡ b → answer_number b ≡ Some m.0 → Asks g device a.info mapped b after
      → BlocksWellFormed setup.properties.granularity (slice_set old t x) → HoldsJustLiveBlocks setup.properties first (g.held device) old → HoldsJustLiveBlocks setup.properties first (g.held after)
      (slice_set old t x) → ((k : ℕ) → IsWhole (get (g.held after) k))
      → BytesAfter mapped t (Some a) (Ok p) (byte_view_of (g.held device) old) (byte_view_of (g.held after) (slice_set old t x))
  granted_bytes own size pages ready r a m p x device after takes sized made (Declined code) is number asks sound_after before holds whole = absurd (none_some m.0 number)
  granted_bytes own size pages ready r a m p x device after takes sized made (NotMapped n code) is number asks sound_after before holds whole = absurd (none_some m.0 number)
  granted_bytes own size pages ready r a m p x device after takes sized made (Granted n) is number asks sound_after before holds whole =
      let held = g.held device in
      let same : n ≡ m.0 = some_same n m.0 number in
      let there : bytes_of (g.held after) m.0 ≡ answer_bytes a.answer =
      ap (bytes_of (g.held after)) (sym same) ∙ ap (λ (k : Held). bytes_of k n) asks.held ∙ ap entry_bytes (get-insert_same held n (new_entry a.info)) ∙ sym (ap answer_bytes is) in
      installed_bytes own size pages ready r m (answer_bytes a.answer) p x held (g.held after) takes sized made (subst (λ k. get held k ≡ None) same asks.number.1) there
      (λ k ne. ap (λ (h : Held). get h k) asks.held ∙ get-insert_other held n k (new_entry a.info) (λ e. ne (e ∙ same))) sound_after before holds whole
  granted_bytes own size pages ready r a m p x device after takes sized made (Mapped n bytes) is number asks sound_after before holds whole =
      let held = g.held device in
      let block = insert held n (new_entry a.info) in
      let same : n ≡ m.0 = some_same n m.0 number in
      let there : bytes_of (g.held after) m.0 ≡ answer_bytes a.answer =
      ap (bytes_of (g.held after)) (sym same) ∙ ap (λ (k : Held). bytes_of k n) asks.held ∙ bytes-mapped block n bytes (new_is_unmapped held n a.info) ∙ sym (ap answer_bytes is) in
      installed_bytes own size pages ready r m (answer_bytes a.answer) p x held (g.held after) takes sized made (subst (λ k. get held k ≡ None) same asks.number.1) there
      (λ k ne. ap (λ (h : Held). get h k) asks.held ∙ get-mapped_other block n bytes k (λ e. ne (e ∙ same)) ∙ get-insert_other held n k (new_entry a.info) (λ e. ne (e ∙ same)))
      sound_after before holds whole

  -- a refusal leaves the bytes
  same_bytes : (o : Option Asked) (r : Refusal) (new : Slots) (held now : Held) → new ≡ old → now ≡ held → BytesAfter mapped t o (Err r) (byte_view_of held old) (byte_view_of now new)
  same_bytes None r new held now slots same i = byte_view_of (same i) (slots i)
  same_bytes (Some a) r new held now slots same i = byte_view_of (same i) (slots i)

  module _ (new : Slots) (device after : D) (sound_after : BlocksWellFormed setup.properties.granularity new) (before : HoldsJustLiveBlocks setup.properties first (g.held device) old)
      (holds : HoldsJustLiveBlocks setup.properties first (g.held after) new) (whole : (m : ℕ) → IsWhole (get (g.held after) m)) where
    abbrev Bytes : Option Asked → Answer → Type 0
    Bytes o answer = BytesAfter mapped t o answer (byte_view_of (g.held device) old) (byte_view_of (g.held after) new)

    -- a shared block has a place
    shared_bytes : (o : Option Asked) (p : Piece DeviceMemory) (x : List (Option (Slot DeviceMemory))) → o ≡ None → IsAfter g device mapped o after → PreparesPiece (slots_at old t) (request_of d) p x
        → new ≡ slice_set old t x → Bytes o (Ok p)
    shared_bytes o p x none asked takes is =
        let same : after ≡ device = subst (λ o. IsAfter g device mapped o after) none asked in
        let here : BytesAfter mapped t None (Ok p) (byte_view_of (g.held after) old) (byte_view_of (g.held after) (slice_set old t x)) =
        served_bytes p x (request_of d) (g.held after) takes (subst (BlocksWellFormed setup.properties.granularity) is sound_after)
        (subst (λ (ss : Slots). HoldsJustLiveBlocks setup.properties first (g.held after) ss) is holds) whole in
        subst (λ o. Bytes o (Ok p)) (sym none)
        (subst (λ (ss : Slots). BytesAfter mapped t None (Ok p) (byte_view_of (g.held device) old) (byte_view_of (g.held after) ss)) (sym is)
        (subst (λ (k : D). BytesAfter mapped t None (Ok p) (byte_view_of (g.held k) old) (byte_view_of (g.held after) (slice_set old t x))) same here))

    served_by : (o : AttemptEnvironment) (met : Environment DeviceMemory) (answer : Answer) → IsMet o met → IsAfter g device mapped o.asked after
        → PoolServes (kinds_of_device setup.properties) AnyQuestion (request_in t d) (unseen setup budgets old) met answer (unseen setup budgets new) → Bytes o.asked answer
    served_by o NothingMet (Ok p) is asked a = shared_bytes o.asked p a.left is.1 asked a.takes (ap (λ (s : states.State (Unit {0}) DeviceMemory). s.slots) a.state)
    served_by o NothingMet (Err e) is asked a =
        same_bytes o.asked e new (g.held device) (g.held after) (ap (λ (s : states.State (Unit {0}) DeviceMemory). s.slots) a.1) (unasked_held g mapped device after o.asked is.1 asked)
    served_by o NoHostMemory (Ok p) is asked a = absurd a
    served_by o NoHostMemory (Err e) is asked a =
        same_bytes o.asked e new (g.held device) (g.held after) (ap (λ (s : states.State (Unit {0}) DeviceMemory). s.slots) a.1) (unasked_held g mapped device after o.asked is.1 asked)
    served_by o (Answered size (Ok m)) (Ok p) is asked a =
        let q = is.1 in
        let slots : new ≡ slice_set old t a.left = ap (λ (s : states.State (Unit {0}) DeviceMemory). s.slots) a.state in
        let n = a.needs in
        subst (λ o. Bytes o (Ok p)) (sym q.1)
        (subst (λ (ss : Slots). BytesAfter mapped t (Some q.0) (Ok p) (byte_view_of (g.held device) old) (byte_view_of (g.held after) ss)) (sym slots)
        (granted_bytes n.is_dedicated size _ n.pending (request_of d) q.0 m p a.left device after n.needs.takes n.needs.piece a.installs q.0.answer refl q.3
        (subst (λ o. IsAfter g device mapped o after) q.1 asked) (subst (BlocksWellFormed setup.properties.granularity) slots sound_after) before
        (subst (λ (ss : Slots). HoldsJustLiveBlocks setup.properties first (g.held after) ss) slots holds) whole))
    served_by o (Answered size (Ok m)) (Err e) is asked a = absurd a
    served_by o (Answered size (Err why)) (Ok p) is asked a = absurd a
    served_by o (Answered size (Err why)) (Err e) is asked a =
        let q = is.1 in
        same_bytes o.asked e new (g.held device) (g.held after) (ap (λ (s : states.State (Unit {0}) DeviceMemory). s.slots) a.0.state)
        (refused_held g mapped device after q.0 why q.3 (subst (λ o. IsAfter g device mapped o after) q.1 asked))

    -- an attempt changes the bytes as its answer says
    pub attempt_bytes : (result : Result Allocation AllocationError) (a : IsAttempt g setup budgets t d old device result new after) → Bytes a.environment.asked a.answer
    attempt_bytes result a =
        ⊎_elim
        (λ (large : IsTooLarge setup old t d a.environment a.answer new).
        subst (λ w. Bytes a.environment.asked w) (sym large.answer_is)
        (same_bytes a.environment.asked out_of_memory new (g.held device) (g.held after) large.same (unasked_held g mapped device after a.environment.asked large.asked a.asked)))
        (λ (within : IsWithinHeap setup budgets old t d a.environment a.answer new).
        served_by a.environment within.allocates.met a.answer within.allocates.is_met a.asked within.allocates.serves)
        a.attempts
