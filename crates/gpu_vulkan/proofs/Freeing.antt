-- A free is a step of the model.
use Rattle.std.proofs.Common.{◌≡◌, ◌∙◌, ℕ, ◌+◌, ◌<◌, refl, sym, ap, subst, List, [], length, slice_set, Option, Some, None, Ok, Err, Result}
use Rattle.std.specs.FinMap.{get}
use Rattle.std.specs.Prelude.{Contains}
use Rattle.std.specs.Int.NonZero.{non_zero_u64_get}
use Rattle.std.specs.Option.{is_some}
use Rattle.std.proofs.lemmas.Bool.{eqb-true}
use Rattle.gpu_block.specs.Block.{Block, extents_of, ReleasesIn, IsSoundBlock}
use Rattle.gpu_block_pieces.specs.FreeList.{Extent}
use Rattle.gpu_core.specs.Slots.{SlotIsSound}
use Rattle.gpu_core.specs.TypeRelease.{SlotReleases, SlotHolds}
use Rattle.gpu_core.specs.TypeState.{Slot, slot_at}
use Rattle.gpu_core.specs.declared.piece.Piece.{Piece}
use Rattle.gpu_core.proofs.Found.{one_in}
use Rattle.gpu_core.proofs.Slotted.{set_only}
use Rattle.gpu_values.specs.declared.error.AllocationError.{AllocationError}
use Rattle.gpu_device.specs.Held.{Held, Entry, IsWhole, bytes_of, entry_bytes}
use Rattle.gpu_device.specs.declared.vulkan.device.VulkanDevice.{Ghosts}
use Rattle.gpu_device.specs.declared.vulkan.types.DeviceMemory.{DeviceMemory}
use Rattle.gpu_device.proofs.Maps.{get-remove_other}
use Rattle.gpu_core.specs.Budgets.{Budgets}
use Rattle.gpu_vulkan.specs.Types.{is_mapped}
use Rattle.gpu_vulkan.specs.Blocks.{Slots, HoldsJustLiveBlocks, IsBlockEntry}
use Rattle.gpu_core.specs.Blocks.{slots_at, block_at, BlocksWellFormed}
use Rattle.gpu_core.specs.Held.{HasEntry}
use Rattle.gpu_vulkan.specs.ByteView.{ByteView, byte_view_of, JoinsRest}
use Rattle.gpu_vulkan.specs.BlockAnswer.{free_recorded}
use Rattle.gpu_vulkan.specs.Free.{GivesBack, IsReleased}
use Rattle.gpu_vulkan.specs.Free.{FreesPiece, AllocatorFrees}
use Rattle.gpu_vulkan.specs.Live.{is_same_memory, IsLiveIn}
use Rattle.gpu_vulkan.specs.Live.{piece_of}
use Rattle.gpu_vulkan.specs.Setup.{Setup}
use Rattle.gpu_pool.specs.Free as pools
use Rattle.gpu_pool.specs.Free.{GivesBackAny}
use Rattle.gpu_values.specs.Refusal.{Refusal, refusal_of}
use Rattle.gpu_vulkan.specs.Source.{SourceState, GivesMemoryBack}
use Rattle.gpu_vulkan.specs.State.{State, Pool, setup_of, IsConstant}
use Rattle.gpu_vulkan.specs.Reply.{Done, done_with}
use Rattle.gpu_vulkan.specs.Attempt.{unseen, AnyBlockBack}
use Rattle.gpu_vulkan.specs.Step.{ModelState, model_of, Free, id_in, MayDrop, went_recorded, FreedStep, FreeStep, IsStep, nothing_met, freed_as}
use Rattle.gpu_vulkan.specs.declared.allocation.Allocation.{Allocation}
use Rattle.gpu_vulkan.proofs.ByteViews.{released_byte_view, dropped_byte_view, with_back, with_back_puts}
use Rattle.gpu_vulkan.proofs.Joins.{OneMore, one_more_released, found_number}
use Rattle.gpu_vulkan.proofs.Parts.{HasRoom}
use Rattle.gpu_core.proofs.Placed.{only_block, some_below}
use Rattle.gpu_pool.proofs.Freeing.{type_below}
use Rattle.gpu_vulkan.proofs.Stepping.{live_room}
use Rattle.gpu_core.proofs.Options.{none_some, some_same}

-- the piece that goes is the one that is held
goes_as_held : (a : Block) (n o size : ℕ) (after : Block) → IsSoundBlock a → ReleasesIn a n after → (y : Extent) → Contains (extents_of a) y → y.chunk_id ≡ n → y.offset ≡ o → y.end ≡ o + size
    → OneMore (extents_of after) (extents_of a) n o size
goes_as_held a n o size after sound rel y held numbered begins ends =
    let gone = one_more_released a n after sound rel in
    let x = gone.0 in
    let found = found_number (extents_of a) x.chunk_id x gone.1.there in
    let same : x ≡ y = one_in a x y sound found.0 held (gone.2 ∙ sym numbered) in
    record {
      x = x;
      joins = gone.1;
      numbered = gone.2;
      begins = ap (λ (z : Extent). z.offset) same ∙ begins;
      ends = ap (λ (z : Extent). z.end) same ∙ ends;
    }

module _ {D : Type 0} (g : Ghosts D) (setup : Setup) (first : Held) (t : ℕ) (old : Slots) (below : t < length old) (sound : BlocksWellFormed setup.properties.granularity old) (p : Piece DeviceMemory)
  where
    abbrev n : ℕ
    n = non_zero_u64_get p.chunk_id

    abbrev one_less : Block → Slot DeviceMemory → Type 0
    one_less after a = OneMore (extents_of after) (extents_of a.block) n p.offset p.size

    one_from : (a : Slot DeviceMemory) (after : Block) → block_at old t p.slot ≡ Some a → SlotHolds is_same_memory p (Some a) → ReleasesIn a.block n after → one_less after a
    one_from a after at live rel =
        let here : SlotIsSound setup.properties.granularity (Some a) = subst (SlotIsSound setup.properties.granularity) at (sound t p.slot) in
        goes_as_held a.block n p.offset p.size after here.1 rel live.1.0 live.1.1 live.1.2 live.1.3 live.1.4

    -- what is left of the bytes
    pub record Left (went : Option DeviceMemory) (held now : Held) (new : Slots) : Type 0 where
      pub mid : ByteView
      pub back : JoinsRest (id_in t p) p.offset p.size (byte_view_of held old) mid
      pub drops : MayDrop t p.slot went mid (byte_view_of now new)

    settled_bytes : (several : Type 0) (a b : Option (Slot DeviceMemory)) (went : Option DeviceMemory) (device after : D)
        → block_at old t p.slot ≡ a → SlotReleases several n a went b → GivesBack g device went after → SlotHolds is_same_memory p a
        → HoldsJustLiveBlocks setup.properties first (g.held device) old → ((m : ℕ) → IsWhole (get (g.held device) m))
        → Left went (g.held device) (g.held after) (slice_set old t (slice_set (slots_at old t) p.slot b))
    settled_bytes several None b went device after at rel back live h whole = absurd rel
    settled_bytes several (Some a) None None device after at rel back live h whole = absurd (none_some a.handle rel.0)
    settled_bytes several (Some a) (Some b) (Some m) device after at rel back live h whole = absurd (none_some m (sym rel.0))
    settled_bytes several (Some a) (Some b) None device after at rel back live h whole =
        let held = g.held device in
        let slots = slots_at old t in
        let new = slice_set old t (slice_set slots p.slot (Some b)) in
        let inside = some_below slots p.slot a at in
        let only = only_block old t p.slot (Some b) (slice_set slots p.slot (Some b)) below (set_only slots p.slot (Some b) inside) in
        let is_live : IsLiveIn old t (Some p) = subst (SlotHolds is_same_memory p) (sym at) live in
        let room : HasRoom (is_mapped setup.properties t) (bytes_of held a.handle.0) p.offset p.size =
        subst (λ k. HasRoom (is_mapped setup.properties t) (bytes_of held k) p.offset p.size) (sym (eqb-true a.handle.0 p.handle.0 live.0)) (live_room setup first held old sound h whole t p is_live)
        in
        record {
          mid = byte_view_of held new;
          back = released_byte_view held old new t p.slot a b at only rel.1 (is_mapped setup.properties t) n p.offset p.size room (one_from a b.block at live rel.2);
          drops = ap (λ (x : D). byte_view_of (g.held x) new) back;
        }
    settled_bytes several (Some a) None (Some m) device after at rel back live h whole =
        let held = g.held device in
        let slots = slots_at old t in
        let new = slice_set old t (slice_set slots p.slot None) in
        let inside = some_below slots p.slot a at in
        let only = only_block old t p.slot None (slice_set slots p.slot None) below (set_only slots p.slot None inside) in
        let emptied : extents_of rel.1.0 ≡ [] = rel.1.2.0 in
        let one : OneMore [] (extents_of a.block) n p.offset p.size = subst (λ (xs : List Extent). OneMore xs (extents_of a.block) n p.offset p.size) emptied (one_from a rel.1.0 at live rel.1.1) in
        let same : m ≡ a.handle = some_same m a.handle rel.0 in
        record {
          mid = with_back (id_in t p) p.offset p.size (byte_view_of held old);
          back = with_back_puts (id_in t p) p.offset p.size (byte_view_of held old);
          drops = dropped_byte_view held (g.held after) old new t p.slot a at only n p.offset p.size
              (λ u j s away found.
              ap (λ (k : Held). bytes_of k s.handle.0) back.held
              ∙ ap entry_bytes (get-remove_other held m.0 s.handle.0 (λ e. let place = h.one_block u j t p.slot s a found at (e ∙ ap (λ (k : DeviceMemory). k.0) same) in away place.0 place.1)))
              one;
        }

    -- the memory of a block is mapped where its type is
    mapped_as : (a : Slot DeviceMemory) (held : Held) → block_at old t p.slot ≡ Some a → HoldsJustLiveBlocks setup.properties first held old
        → is_some (bytes_of held a.handle.0) ≡ is_mapped setup.properties t
    mapped_as a held at h = by (get held a.handle.0) (h.blocks t p.slot a at)
      where
        by : (e : Option Entry) → HasEntry (IsBlockEntry setup.properties) t a.block e → is_some (entry_bytes e) ≡ is_mapped setup.properties t
        by None has = absurd has
        by (Some e) has = has.2

    -- the memory that goes is given back as it is mapped
    settled_recorded : (several : Type 0) (a b : Option (Slot DeviceMemory)) (went : Option DeviceMemory) (device after : D)
        → block_at old t p.slot ≡ a → SlotReleases several n a went b → GivesBack g device went after → HoldsJustLiveBlocks setup.properties first (g.held device) old
        → g.history after ≡ went_recorded (is_mapped setup.properties t) went (g.history device)
    settled_recorded several a b None device after at rel back h = ap g.history back
    settled_recorded several None b (Some m) device after at rel back h = absurd rel
    settled_recorded several (Some a) (Some b) (Some m) device after at rel back h = absurd (none_some m (sym rel.0))
    settled_recorded several (Some a) None (Some m) device after at rel back h =
        let held = g.held device in
        let same : m ≡ a.handle = some_same m a.handle rel.0 in
        let mapped = ap (λ (k : DeviceMemory). is_some (bytes_of held k.0)) same ∙ mapped_as a held at h in
        back.history ∙ ap (λ mapped. free_recorded mapped m (g.history device)) mapped

    any_back : (went : Option DeviceMemory) → GivesBackAny AnyBlockBack tt went tt
    any_back None = refl
    any_back (Some memory) = tt

    pub released_step : (device : D) (new : Slots) (after : D) → IsReleased g t p old device new after → IsLiveIn old t (Some p)
        → HoldsJustLiveBlocks setup.properties first (g.held device) old → ((m : ℕ) → IsWhole (get (g.held device) m))
        → (before now : Budgets) → now ≡ before
        → FreedStep setup t p (record { slots = old; budgets = before; byte_view = byte_view_of (g.held device) old; history = g.history device })
        (record { slots = new; budgets = now; byte_view = byte_view_of (g.held after) new; history = g.history after })
    released_step device new after r live h whole before now same =
        let left = settled_bytes _ (slot_at (slots_at old t) p.slot) r.releases.slot r.went device after refl r.releases.releases r.gives_back live h whole in
        let new_is : new ≡ slice_set old t (slice_set (slots_at old t) p.slot r.releases.slot) = r.slots ∙ ap (slice_set old t) r.releases.slots in
        record {
          live = live;
          frees = record {
            went = r.went;
            slots = record { left = r.left; releases = r.releases; slots = r.slots };
            source = any_back r.went;
            state = λ i. unseen setup (same i) new;
          };
          mid = left.mid;
          back = left.back;
          drops = subst (λ (ss : Slots). MayDrop t p.slot r.went left.mid (byte_view_of (g.held after) ss)) (sym new_is) left.drops;
          recorded = settled_recorded _ (slot_at (slots_at old t) p.slot) r.releases.slot r.went device after refl r.releases.releases r.gives_back h;
        }

-- ---- from the pool's words

module _ {D : Type 0} (g : Ghosts D) (old new : Pool D) where
  back_of : (went : Option DeviceMemory) → GivesBackAny (GivesMemoryBack g) old.source went new.source → GivesBack g old.source.device went new.source.device
  back_of None is = ap (λ (s : SourceState D). s.device) is
  back_of (Some memory) k = record { held = k.held; history = k.history; count = k.count; latest = k.latest; constant = k.constant }

  module _ (a : Allocation) (p : Piece DeviceMemory) where
    abbrev FreesIt : Result (Unit {0}) Refusal → Type 0
    FreesIt result = pools.PoolFrees (GivesMemoryBack g) is_same_memory a.memory_type_index p old result new

    pub piece_freed : FreesIt (Ok tt) → FreesPiece g a (Some p) old.slots old.source.device (Ok tt) new.slots new.source.device
    piece_freed f =
        let r = f.1.slots in
        (f.0, record { went = f.1.went; left = r.left; releases = r.releases; slots = r.slots; gives_back = back_of f.1.went f.1.source })

    pub piece_kept : (e : AllocationError) → FreesIt (Err (refusal_of e)) → FreesPiece g a (Some p) old.slots old.source.device (Err (e, a)) new.slots new.source.device
    piece_kept e f = (f.0, f.1, refl, ap (λ (s : Pool D). s.slots) f.2, ap (λ (s : Pool D). s.source.device) f.2)

    source_constant : (went : Option DeviceMemory) → GivesBackAny (GivesMemoryBack g) old.source went new.source → (new.source.first ≡ old.source.first) × (new.source.setup ≡ old.source.setup)
    source_constant None is = (ap (λ (s : SourceState D). s.first) is, ap (λ (s : SourceState D). s.setup) is)
    source_constant (Some memory) k = (ap (λ (s : SourceState D). s.first) k.state, ap (λ (s : SourceState D). s.setup) k.state)

    pub constant : (result : Result (Unit {0}) Refusal) → FreesIt result → IsConstant old new
    constant (Ok u) f =
        let source = source_constant f.1.went f.1.source in
        let setups = source.1 in
        let sizes = ap (λ (s : Pool D). s.sizes) f.1.state in
        record { first = source.0; setup = λ i. record (setups i) { sizes = sizes i }; budgets = ap (λ (s : Pool D). s.budgets) f.1.state }
    constant (Err e) f = record { first = ap (λ (s : Pool D). s.source.first) f.2; setup = ap setup_of f.2; budgets = ap (λ (s : Pool D). s.budgets) f.2 }

-- ---- the call

back_counts : {D : Type 0} (g : Ghosts D) (went : Option DeviceMemory) (device after : D) → GivesBack g device went after → (g.refused after ≡ g.refused device) × (g.latest after ≡ g.latest device)
back_counts g None device after back = (ap g.refused back, ap g.latest back)
back_counts g (Some m) device after back = (back.count, back.latest)

module _ {D : Type 0} (g : Ghosts D) (first : Held) (old new : State D) (sound : BlocksWellFormed old.setup.properties.granularity old.slots)
    (h : HoldsJustLiveBlocks old.setup.properties first (g.held old.device) old.slots) (whole : (m : ℕ) → IsWhole (get (g.held old.device) m))
    (budgets : new.budgets ≡ old.budgets) where
  same_model : new.slots ≡ old.slots → new.device ≡ old.device → model_of g new ≡ model_of g old
  same_model slots device = λ i. record { slots = slots i; budgets = budgets i; byte_view = byte_view_of (g.held (device i)) (slots i); history = g.history (device i) }

  -- how a free ends, as the model's, and what the device counts and names
  record Freed (a : Allocation) (o : Option (Piece DeviceMemory)) (result : Result (Unit {0}) (AllocationError × Allocation)) : Type 0 where
    pub answer : Result (Unit {0}) Refusal
    pub reply : freed_as result ≡ done_with answer
    pub step : FreeStep old.setup a.memory_type_index o answer (model_of g old) (model_of g new)
    pub count : g.refused new.device ≡ g.refused old.device
    pub latest : g.latest new.device ≡ g.latest old.device

  frees_as : (a : Allocation) (o : Option (Piece DeviceMemory)) → piece_of a ≡ o → (result : Result (Unit {0}) (AllocationError × Allocation)) → FreesPiece g a o old.slots old.device result new.slots
      new.device → Freed a o result
  frees_as a None is (Ok u) f = record { answer = Ok tt; reply = refl; step = same_model f.0 f.1; count = ap g.refused f.1; latest = ap g.latest f.1 }
  frees_as a None is (Err e) f = absurd f
  frees_as a (Some p) is (Ok u) f =
      let t = a.memory_type_index in
      let counts = back_counts g f.1.went old.device new.device f.1.gives_back in
      record {
        answer = Ok tt;
        reply = refl;
        step = released_step g old.setup first t old.slots (type_below is_same_memory old.slots t p f.0) sound p old.device new.slots new.device f.1 f.0 h whole old.budgets new.budgets budgets;
        count = counts.0;
        latest = counts.1;
      }
  frees_as a (Some p) is (Err e) f = record { answer = Err (refusal_of e.0); reply = refl; step = (f.0, f.1, same_model f.3 f.4); count = ap g.refused f.4; latest = ap g.latest f.4 }

  pub free_step : (a : Allocation) (result : Result (Unit {0}) (AllocationError × Allocation)) → AllocatorFrees g a old.slots old.device result new.slots new.device → IsStep g (Free a) (freed_as result) old
      new
  free_step a result f =
      let s = frees_as a (piece_of a) refl result f in
      record {
        environment = record { first = nothing_met; second = nothing_met };
        step = ((refl, refl), s.answer, s.reply, s.step);
        count = s.count;
        latest = s.latest;
      }

null_frees : (setup : Setup) (o : Option (Piece DeviceMemory)) → o ≡ None → (t : ℕ) (s : ModelState) → FreeStep setup t o (Ok tt) s s
null_frees setup None is t s = refl
null_frees setup (Some p) is t s = absurd (none_some p (sym is))

-- a null allocation is nothing to give back
pub null_step : {D : Type 0} (g : Ghosts D) (s : State D) (a : Allocation) → piece_of a ≡ None → IsStep g (Free a) Done s s
null_step g s a is = record {
  environment = record { first = nothing_met; second = nothing_met };
  step = ((refl, refl), Ok tt, refl, null_frees s.setup (piece_of a) is a.memory_type_index (model_of g s));
  count = refl;
  latest = refl;
}
