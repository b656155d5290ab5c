-- A live allocation's list is the bytes at its place, and a write at its place changes that list alone.
use Rattle.std.proofs.Common.{◌≡◌, ◌∙◌, ◌⊎◌, ℕ, ◌+◌, ◌-◌, ◌<◌, ◌≤◌, refl, sym, ap, subst, true, false, List, length, take, drop, slice_get, Option, Some, None, Contains, arith, inl, inr, ⊎_elim}
use Rattle.std.proofs.Common.{Bor, IsSome, IfSome, option_copied, Result, Ok, Err}
use Rattle.std.specs.Prelude.{if◌then◌else◌}
use Rattle.std.specs.FinMap.{get}
use Rattle.std.proofs.lemmas.Bool.{cases_eq, cases_Bool, cases_lt}
use Rattle.std.proofs.lemmas.Bool.Decides.{nat_tests}
use Rattle.gpu_block.specs.Block.{Block, free_list, dedicated, extents_of, IsSoundBlock}
use Rattle.gpu_block_pieces.specs.FreeList.{Extent}
use Rattle.gpu_core.specs.Slots.{SlotIsSound}
use Rattle.gpu_core.specs.TypeState.{Slot}
use Rattle.gpu_block_pieces.proofs.Separation.{within_of}
use Rattle.std.specs.Option.{option_to_list}
use Rattle.gpu_core.proofs.Found.{one_in, only_one}
use Rattle.gpu_device.specs.Held.{Held, IsWhole, HasRange, bytes_of, range_in, range_of, put_range, put_bytes, with_range}
use Rattle.gpu_device.specs.declared.vulkan.device.VulkanDevice.{Ghosts}
use Rattle.gpu_device.specs.declared.vulkan.types.DeviceMemory.{DeviceMemory}
use Rattle.gpu_device.proofs.Writes.{bytes_there, bytes_elsewhere, range_elsewhere, reads_below, reads_above, length_of_range}
use Rattle.gpu_core.specs.Budgets.{budget_at, SetsBudget}
use Rattle.gpu_values.specs.Refusal.{refusal_in}
use Rattle.gpu_values.specs.declared.error.AllocationError.{AllocationError}
use Rattle.gpu_vulkan.specs.Blocks.{Slots, HoldsJustLiveBlocks}
use Rattle.gpu_core.specs.Blocks.{block_at, total_capacity, BlocksWellFormed}
use Rattle.gpu_vulkan.specs.ByteView.{is_same_id, byte_view_of, list_in, rest_in, piece_bytes, piece_of_number, covers, is_covered, byte_at, Writes}
use Rattle.gpu_vulkan.specs.Lends.{number_in, written_at}
use Rattle.gpu_vulkan.specs.Live.{IsLive, IsMapped, bytes_at}
use Rattle.gpu_pool.specs.Source.{result_of}
use Rattle.gpu_pool.specs.Step as pools
use Rattle.gpu_vulkan.specs.Attempt.{unseen}
use Rattle.gpu_vulkan.specs.State.{State}
use Rattle.gpu_vulkan.specs.Setup.{Setup}
use Rattle.gpu_vulkan.specs.Reply as replies
use Rattle.gpu_vulkan.specs.Reply.{Done, Bytes, done_with}
use Rattle.gpu_vulkan.specs.Step.{SetBudget, Budget, reply_of_done, model_of, id_of, IsRead, IsStep, Write, Read, Capacity, nothing_met}
use Rattle.gpu_vulkan.specs.declared.allocation.Allocation.{Allocation}
use Rattle.gpu_vulkan.proofs.ByteViews.{place, other_number}
use Rattle.gpu_vulkan.proofs.Joins.{number_found, found_number, any_of, all_of}
use Rattle.gpu_vulkan.proofs.Parts.{part_get}
use Rattle.gpu_core.proofs.Options.{some_same}
use Rattle.gpu_core.proofs.Apart.{extents_apart}
use Rattle.gpu_vulkan.proofs.Writing.{Stands, stands, allocation_range, own_written}

-- a piece ends behind its offset
whole_offset : (o : Option Extent) (size : ℕ) (y : Extent) → IfSome o (λ z. (z.start ≡ 0) × (z.offset ≡ 0) × (z.end ≡ size) × (z.chunk_id ≡ 1)) → Contains (option_to_list o) y → y.offset ≡ 0
whole_offset None size y whole k = let l = k.1 in absurd (omega (arith, l))
whole_offset (Some z) size y whole k = ap (λ (e : Extent). e.offset) (only_one (Some z) y z k (0, omega arith, refl)) ∙ whole.1

offset_below : (b : Block) (y : Extent) → IsSoundBlock b → Contains (extents_of b) y → y.offset ≤ y.end
offset_below (free_list b) y sound k = let w = within_of b y sound k in omega (arith, w.1)
offset_below (dedicated b) y sound k = let zero = whole_offset b.piece b.size y sound k in omega (arith, zero)

module _ (setup : Setup) (first held : Held) (ss : Slots) (sound : BlocksWellFormed setup.properties.granularity ss) (h : HoldsJustLiveBlocks setup.properties first held ss)
    (whole : (n : ℕ) → IsWhole (get held n)) (a : Allocation) where
  sound_at : (s : Slot DeviceMemory) (t i : ℕ) → block_at ss t i ≡ Some s → IsSoundBlock s.block
  sound_at s t i at = (subst (SlotIsSound setup.properties.granularity) at (sound t i)).1

  -- the list is the bytes at the allocation's place, whatever the device holds
  list_for : (now : Held) → (x : Stands ss a) → list_in now (block_at ss a.memory_type_index a.memory_block_index) (number_in a.chunk_id) ≡ bytes_at now a
  list_for now x =
      let f = x.found in
      let here : block_at ss a.memory_type_index a.memory_block_index ≡ Some f.s = ap (block_at ss a.memory_type_index) (sym x.slot) ∙ f.at in
      let b = sound_at f.s a.memory_type_index a.memory_block_index here in
      let one : piece_of_number (extents_of f.s.block) f.x.chunk_id ≡ Some f.x =
      number_found (extents_of f.s.block) f.x (all_of (extents_of f.s.block) (λ (y : Extent). y.chunk_id ≡ f.x.chunk_id → y ≡ f.x) (λ y k e. one_in f.s.block y f.x b k f.held e)) f.held in
      let number : number_in a.chunk_id ≡ f.x.chunk_id = sym x.chunk_id ∙ sym f.numbered in
      let begins : f.x.offset ≡ a.offset = f.begins ∙ x.offset in
      let long : f.x.end - f.x.offset ≡ a.size = omega (arith, f.begins, f.ends, x.size) in
      let memory : f.s.handle.0 ≡ a.device_memory.0 = f.handle ∙ ap (λ (m : DeviceMemory). m.0) x.block in
      ap (λ o. list_in now o (number_in a.chunk_id)) here
      ∙ ap (λ k. piece_bytes (bytes_of now f.s.handle.0) (piece_of_number (extents_of f.s.block) k)) number
      ∙ ap (piece_bytes (bytes_of now f.s.handle.0)) one
      ∙ (λ i. range_in (begins i) (long i) (bytes_of now (memory i)))

  pub list_of_live : IsLive ss a → (byte_view_of held ss).allocation_bytes (id_of a) ≡ bytes_at held a
  list_of_live live = list_for held (stands ss a live)

  -- ---- a write

  module _ (ws : List ℕ) (live : IsMapped setup.properties ss a) (long : length ws ≡ a.size) where
    abbrev now : Held
    now = with_range held a.device_memory.0 a.offset ws

    abbrev x : Stands ss a
    x = stands ss a live.0

    memory_is : x.found.s.handle.0 ≡ a.device_memory.0
    memory_is = x.found.handle ∙ ap (λ (m : DeviceMemory). m.0) x.block

    has : HasRange (bytes_of held a.device_memory.0) a.offset (length ws)
    has = subst (λ k. HasRange (bytes_of held a.device_memory.0) a.offset k) (sym long) (allocation_range setup.properties first held ss sound h whole a live)

    -- a block whose number is the allocation's memory is the allocation's block
    own_block : (t i : ℕ) (s : Slot DeviceMemory) → block_at ss t i ≡ Some s → s.handle.0 ≡ a.device_memory.0 → (t ≡ a.memory_type_index) × (i ≡ a.memory_block_index) × (s ≡ x.found.s)
    own_block t i s at is =
        let both = h.one_block t i a.memory_type_index x.piece.slot s x.found.s at x.found.at (is ∙ sym memory_is) in
        (both.0, both.1 ∙ x.slot, some_same s x.found.s (sym at ∙ (ap (λ u. block_at ss u i) both.0 ∙ ap (block_at ss a.memory_type_index) both.1) ∙ x.found.at))

    other_list : (t i k : ℕ) (s : Slot DeviceMemory) → block_at ss t i ≡ Some s → is_same_id (id_of a) (place t i k) ≡ false → (o : Option Extent) → piece_of_number (extents_of s.block) k ≡ o
        → piece_bytes (bytes_of now s.handle.0) o ≡ piece_bytes (bytes_of held s.handle.0) o
    other_list t i k s at isnt None found = refl
    other_list t i k s at isnt (Some y) found =
        let held_y = found_number (extents_of s.block) k y found in
        range_elsewhere held a.device_memory.0 a.offset ws s.handle.0 y.offset (y.end - y.offset) has
        (⊎_elim
        (λ is.
        let own = own_block t i s at is in
        let y_in : Contains (extents_of x.found.s.block) y = subst (λ (r : Slot DeviceMemory). Contains (extents_of r.block) y) own.2 held_y.0 in
        let b = sound_at x.found.s t i (at ∙ ap Some own.2) in
        let forward = offset_below x.found.s.block y b y_in in
        let differ : y ≡ x.found.x → ⊥ = λ same.
        let number : k ≡ number_in a.chunk_id = sym held_y.1 ∙ ap (λ (z : Extent). z.chunk_id) same ∙ x.found.numbered ∙ x.chunk_id in
        other_number a.memory_type_index a.memory_block_index (number_in a.chunk_id) k
        (ap (is_same_id (id_of a)) (λ l. place (sym own.0 l) (sym own.1 l) k) ∙ isnt) number in
        inr (⊎_elim
        (λ same. absurd (differ same))
        (λ apart. ⊎_elim
        (λ low. inl (omega (arith, low, forward, x.found.begins, x.offset)))
        (λ high. inr (omega (arith, high, x.found.ends, x.offset, x.size, long)))
        apart)
        (extents_apart x.found.s.block y x.found.x b y_in x.found.held)))
        (λ ne. inl ne)
        (cases_eq s.handle.0 a.device_memory.0))

    other_lists : (t i k : ℕ) (o : Option (Slot DeviceMemory)) → block_at ss t i ≡ o → is_same_id (id_of a) (place t i k) ≡ false → list_in now o k ≡ list_in held o k
    other_lists t i k None at isnt = refl
    other_lists t i k (Some s) at isnt = other_list t i k s at isnt (piece_of_number (extents_of s.block) k) refl

    byte_kept : (xs : List ℕ) (start at : ℕ) → start + length ws ≤ length xs → (at < start) ⊎ (start + length ws ≤ at) → slice_get (put_range xs start ws) at ≡ slice_get xs at
    byte_kept xs start at fits apart =
        let zero_more : at + 0 ≡ at = omega arith in
        let read : (ys : List ℕ) → slice_get ys at ≡ slice_get (take 1 (drop at ys)) 0 = λ ys. ap (slice_get ys) (sym zero_more) ∙ sym (part_get ys at 1 0 (omega arith)) in
        read (put_range xs start ws)
        ∙ ap (λ (l : List ℕ). slice_get l 0) (⊎_elim (λ low. reads_below xs start ws at 1 fits (omega arith)) (λ high. reads_above xs start ws at 1 fits high) apart)
        ∙ sym (read xs)

    byte_in : (o : Option (List ℕ)) (at : ℕ) → HasRange o a.offset (length ws) → (at < a.offset) ⊎ (a.offset + length ws ≤ at) → byte_at (put_bytes o a.offset ws) at ≡ byte_at o at
    byte_in None at fits apart = refl
    byte_in (Some xs) at fits apart = byte_kept xs a.offset at fits apart

    -- a byte that lies in no piece isn't written
    out_of_piece : (at : ℕ) → is_covered (extents_of x.found.s.block) at ≡ false → (at < a.offset) ⊎ (a.offset + length ws ≤ at)
    out_of_piece at out =
        let y = x.found.x in
        ⊎_elim
        (λ low. inl (omega (arith, low, x.found.begins, x.offset)))
        (λ from. ⊎_elim
        (λ below. absurd (false_true (sym out ∙ any_of (λ z. covers z at) (extents_of x.found.s.block) y x.found.held (within_covers y at from below))))
        (λ past. inr (omega (arith, past, x.found.ends, x.offset, x.size, long)))
        (cases_lt at y.end))
        (cases_lt at y.offset)
      where
        false_true : false ≡ true → ⊥
        false_true e = cc

        within_covers : (z : Extent) (k : ℕ) → z.offset ≤ k → k < z.end → covers z k ≡ true
        within_covers z k low high = grind (arith, nat_tests)

    same_byte : (t i at : ℕ) (s : Slot DeviceMemory) → block_at ss t i ≡ Some s → is_covered (extents_of s.block) at ≡ false → byte_at (bytes_of now s.handle.0) at ≡ byte_at
        (bytes_of held s.handle.0) at
    same_byte t i at s here out =
        ⊎_elim
        (λ is.
        let own = own_block t i s here is in
        let out_here : is_covered (extents_of x.found.s.block) at ≡ false = subst (λ (r : Slot DeviceMemory). is_covered (extents_of r.block) at ≡ false) own.2 out in
        ap (λ k. byte_at (bytes_of now k) at) is
        ∙ ap (λ o. byte_at o at) (bytes_there held a.device_memory.0 a.offset ws)
        ∙ byte_in (bytes_of held a.device_memory.0) at has (out_of_piece at out_here)
        ∙ ap (λ k. byte_at (bytes_of held k) at) (sym is))
        (λ ne. ap (λ o. byte_at o at) (bytes_elsewhere held a.device_memory.0 a.offset ws s.handle.0 ne))
        (cases_eq s.handle.0 a.device_memory.0)

    same_rest : (t i at : ℕ) (o : Option (Slot DeviceMemory)) → block_at ss t i ≡ o → rest_in now o at ≡ rest_in held o at
    same_rest t i at None here = refl
    same_rest t i at (Some s) here =
        ⊎_elim
        (λ is. ap (λ b. if b then None else byte_at (bytes_of now s.handle.0) at) is ∙ sym (ap (λ b. if b then None else byte_at (bytes_of held s.handle.0) at) is))
        (λ isnt.
        ap (λ b. if b then None else byte_at (bytes_of now s.handle.0) at) isnt ∙ same_byte t i at s here isnt ∙ sym (ap (λ b. if b then None else byte_at (bytes_of held s.handle.0) at) isnt))
        (cases_Bool (is_covered (extents_of s.block) at))

    pub writes_list : (xs : List ℕ) → bytes_at held a ≡ Some xs → Writes (id_of a) ws (byte_view_of held ss) (byte_view_of now ss)
    writes_list xs was = record {
      was = (xs, list_for held x ∙ was, long ∙ sym (length_of_range (bytes_of held a.device_memory.0) a.offset a.size xs was));
      list = list_for now x ∙ own_written setup.properties first held ss sound h whole a ws live long;
      others = λ q isnt. other_lists q.memory_type q.slot q.chunk_id (block_at ss q.memory_type q.slot) refl isnt;
      unallocated_bytes = λ t i at. same_rest t i at (block_at ss t i) refl;
    }

-- ---- over a device

module _ {D : Type 0} (g : Ghosts D) (first : Held) (s : State D) (sound : BlocksWellFormed s.setup.properties.granularity s.slots)
    (h : HoldsJustLiveBlocks s.setup.properties first (g.held s.device) s.slots) (whole : (n : ℕ) → IsWhole (get (g.held s.device) n)) (a : Allocation) where
  -- a write through what is lent of an allocation is a step
  pub write_step : (written : (n start : ℕ) (ws : List ℕ) → g.held (g.written s.device n start ws) ≡ with_range (g.held s.device) n start ws)
      → ((n start : ℕ) (ws : List ℕ) → g.refused (g.written s.device n start ws) ≡ g.refused s.device)
      → ((n start : ℕ) (ws : List ℕ) → g.latest (g.written s.device n start ws) ≡ g.latest s.device)
      → ((n start : ℕ) (ws : List ℕ) → g.history (g.written s.device n start ws) ≡ g.history s.device)
      → IsMapped s.setup.properties s.slots a → (xs : List ℕ) → bytes_at (g.held s.device) a ≡ Some xs → (ws : List ℕ) → length ws ≡ a.size
      → IsStep g (Write a ws) Done s (written_at g s a ws)
  write_step written counts names records live xs was ws long = record {
    environment = record { first = nothing_met; second = nothing_met };
    step = (
      (refl, refl),
      refl,
      record {
        live = live;
        slots = refl;
        budgets = refl;
        history = records a.device_memory.0 a.offset ws;
        writes = subst (λ k. Writes (id_of a) ws (byte_view_of (g.held s.device) s.slots) (byte_view_of k s.slots)) (sym (written a.device_memory.0 a.offset ws))
            (writes_list s.setup first (g.held s.device) s.slots sound h whole a ws live long xs was);
      },
    );
    count = counts a.device_memory.0 a.offset ws;
    latest = names a.device_memory.0 a.offset ws;
  }

  read_by : (o : Option (List ℕ)) → (IsSome o → IsMapped s.setup.properties s.slots a) → (IsMapped s.setup.properties s.slots a → IsSome o)
      → ((xs : List ℕ) → o ≡ Some xs → bytes_at (g.held s.device) a ≡ Some xs) → IsRead s.setup a (model_of g s) o
  read_by None there mapped value = λ live. none_is (mapped live)
    where
      none_is : IsSome {T = List ℕ} None → ⊥
      none_is e = cc
  read_by (Some xs) there mapped value =
      let live = there refl in
      (live, list_of_live s.setup first (g.held s.device) s.slots sound h whole a live.0 ∙ value xs refl)

  -- a read is a step
  pub read_step : (o : Option (List ℕ)) → (IsSome o → IsMapped s.setup.properties s.slots a) → (IsMapped s.setup.properties s.slots a → IsSome o)
      → ((xs : List ℕ) → o ≡ Some xs → bytes_at (g.held s.device) a ≡ Some xs) → IsStep g (Read a) (Bytes o) s s
  read_step o there mapped value = record {
    environment = record { first = nothing_met; second = nothing_met };
    step = ((refl, refl), o, refl, read_by o there mapped value, refl);
    count = refl;
    latest = refl;
  }

-- ---- what needs no invariant

-- an allocation that isn't live has no bytes
pub dead_read : {D : Type 0} (g : Ghosts D) (s : State D) (a : Allocation) → (IsLive s.slots a → ⊥) → IsStep g (Read a) (Bytes None) s s
dead_read g s a dead = record {
  environment = record { first = nothing_met; second = nothing_met };
  step = ((refl, refl), None, refl, (λ live. dead live.0), refl);
  count = refl;
  latest = refl;
}

pub sum_step : {D : Type 0} (g : Ghosts D) (s : State D) (n : ℕ) → n ≡ total_capacity s.slots → IsStep g Capacity (replies.Capacity n) s s
sum_step g s n is = record {
  environment = record { first = nothing_met; second = nothing_met };
  step = ((refl, refl), ap replies.Capacity is, refl);
  count = refl;
  latest = refl;
}

-- what the device lends of a range is as long as was asked
pub lent_length : (held : Held) (n o size : ℕ) (r : Option (Bor (List ℕ))) → option_copied r ≡ range_of held n o size → IfSome r (λ s. length s.now ≡ size)
lent_length held n o size None told = tt
lent_length held n o size (Some s) told = length_of_range (bytes_of held n) o size s.now (sym told)

pub budget_step : {D : Type 0} (g : Ghosts D) (s : State D) (t : ℕ) (budget : Option ℕ) → budget ≡ budget_at s.budgets t → IsStep g (Budget t) (replies.Budget budget) s s
budget_step g s t budget is = record {
  environment = record { first = nothing_met; second = nothing_met };
  step = ((refl, refl), ap replies.Budget is, refl);
  count = refl;
  latest = refl;
}

pub done_reply : (result : Result (Unit {0}) AllocationError) → reply_of_done result ≡ done_with (result_of result)
done_reply (Ok u) = refl
done_reply (Err e) = refl

same_refusal : (result : Result (Unit {0}) AllocationError) → refusal_in result ≡ pools.refusal_in (result_of result)
same_refusal (Ok u) = refl
same_refusal (Err e) = refl

pub set_step : {D : Type 0} (g : Ghosts D) (old new : State D) (t : ℕ) (budget : Option ℕ) (result : Result (Unit {0}) AllocationError) → new.device ≡ old.device → new.slots ≡ old.slots
    → SetsBudget t budget old.budgets (refusal_in result) new.budgets → IsStep g (SetBudget t budget) (reply_of_done result) old new
set_step g old new t budget result device slots sets = record {
  environment = record { first = nothing_met; second = nothing_met };
  step = (
    (refl, refl),
    result_of result,
    done_reply result,
    record { budgets = subst (λ r. SetsBudget t budget old.budgets r new.budgets) (same_refusal result) sets; state = λ i. unseen old.setup new.budgets (slots i) },
    record { byte_view = λ i. byte_view_of (g.held (device i)) (slots i); history = ap g.history device },
  );
  count = ap g.refused device;
  latest = ap g.latest device;
}
