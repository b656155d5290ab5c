-- What a device holds, from what its source and its pool say.
use Rattle.std.specs.Prelude.{IsSome}
use Rattle.std.proofs.Common.{◌≡◌, ◌∙◌, refl, sym, ap, subst, ⊎_elim, ℕ, zero, suc, ◌<◌, Bool, [], ◌∷◌, length, Option, Some, None, List, arith}
use Rattle.std.proofs.lemmas.Bool.{cases_lt}
use Rattle.std.proofs.lemmas.List.{length-map}
use Rattle.std.specs.FinMap.{get}
use Rattle.gpu_core.specs.Slots.{AreSound}
use Rattle.gpu_core.specs.TypeState.{Slot, TypeState}
use Rattle.gpu_device.specs.Held.{Held, Entry}
use Rattle.gpu_device.specs.Properties.{Properties}
use Rattle.gpu_device.specs.declared.vulkan.types.DeviceMemory.{DeviceMemory}
use Rattle.gpu_device.specs.declared.vulkan.types.MemoryTypeInfo.{MemoryTypeInfo}
use Rattle.gpu_core.specs.Blocks.{block_at, slots_at, BlocksWellFormed}
use Rattle.gpu_core.specs.Held.{HasEntry}
use Rattle.gpu_core.specs.Types.{Types, slots_of, kinds}
use Rattle.gpu_core.proofs.Options.{none_some, some_same}
use Rattle.gpu_core.proofs.Types.{slots_past}
use Rattle.gpu_vulkan.specs.Types.{is_host_visible, is_mapped, kinds_of_device}
use Rattle.gpu_pool.specs.Held.{HoldsJustBlocks, held_as}
use Rattle.gpu_pool.specs.Source.{HeldBlock}
use Rattle.gpu_pool.specs.State.{kind_at, IsSoundAt}
use Rattle.gpu_vulkan.specs.Blocks.{Slots, IsBlockEntry, HoldsJustLiveBlocks}
use Rattle.gpu_device.specs.declared.vulkan.device.VulkanDevice.{Ghosts}
use Rattle.gpu_pool.specs.Free.{GivesBackAll}
use Rattle.gpu_vulkan.specs.BlockAnswer.{frees_recorded}
use Rattle.gpu_vulkan.specs.Source.{SourceState, GivesMemoryBack, new_block, blocks_of, HoldsFirst}
use Rattle.gpu_vulkan.proofs.Changing.{beside_blocks}

-- ---- memory types

abbrev kind_of : (granularity : ℕ) → MemoryTypeInfo → Bool × ℕ
kind_of granularity info = (is_host_visible info, granularity)

-- what the device told of a memory type that is there
pub kind_told : (p : Properties) (t : ℕ) → t < length p.types → kind_at (kinds_of_device p) t ≡ (is_mapped p t, p.granularity)
kind_told p t below = by p.types t below
  where
    by : (infos : List MemoryTypeInfo) (u : ℕ) → u < length infos → kind_at (kinds_of_device (record p { types = infos })) u ≡ (is_mapped (record p { types = infos }) u, p.granularity)
    by [] u below = absurd (omega (arith, below))
    by (info ∷ infos) zero below = refl
    by (info ∷ infos) (suc u) below = by infos u (omega (arith, below))

-- the blocks of a memory type that is there are sound
pub sound_told : (p : Properties) (t : ℕ) → t < length p.types → (ss : Slots) → BlocksWellFormed p.granularity ss → IsSoundAt (kinds_of_device p) ss t
sound_told p t below ss sound = subst (λ (k : Bool × ℕ). AreSound k.1 (slots_at ss t)) (sym (kind_told p t below)) (sound t)

-- there are as many as the device told
pub as_many : (p : Properties) (types : Types DeviceMemory) → kinds types ≡ kinds_of_device p → length (slots_of types) ≡ length p.types
as_many p types same =
    length-map types (λ (t : TypeState DeviceMemory). t.slots) ∙ sym (length-map types (λ (t : TypeState DeviceMemory). (t.is_host, t.granularity))) ∙ ap (λ (ks : List (Bool × ℕ)). length ks) same
    ∙ length-map p.types (kind_of p.granularity)

pub well_formed : (p : Properties) (types : Types DeviceMemory) → kinds types ≡ kinds_of_device p → ((t : ℕ) → IsSoundAt (kinds_of_device p) (slots_of types) t) → BlocksWellFormed p.granularity (slots_of types)
well_formed p types same sound t =
    ⊎_elim
    (λ below. subst (λ (k : Bool × ℕ). AreSound k.1 (slots_at (slots_of types) t)) (kind_told p t below) (sound t))
    (λ past.
    let many = as_many p types same in
    let long = length-map types (λ (t : TypeState DeviceMemory). t.slots) in
    subst (AreSound p.granularity) (sym (slots_past types t (omega (arith, past, many, long)))) (λ i. tt))
    (cases_lt t (length p.types))

-- ---- blocks as the device's entries

module _ (p : Properties) (first held : Held) (slots : Slots) (h : HoldsFirst p first held) (k : HoldsJustBlocks (λ memory. memory.0) (blocks_of first held) slots) where
  entry_at : (t i : ℕ) (s : Slot DeviceMemory) → block_at slots t i ≡ Some s → (get first s.handle.0 ≡ None) × HasEntry (IsBlockEntry p) t s.block (get held s.handle.0)
  entry_at t i s at = by (get first s.handle.0) refl (get held s.handle.0) refl (k.blocks t i s at)
    where
      by : (x : Option Entry) → get first s.handle.0 ≡ x → (y : Option Entry) → get held s.handle.0 ≡ y → new_block x y ≡ Some (held_as t s)
          → (get first s.handle.0 ≡ None) × HasEntry (IsBlockEntry p) t s.block (get held s.handle.0)
      by None is None at e = absurd (none_some (held_as t s) e)
      by None is (Some x) at e =
          let same : record { memory_type = x.memory_type_index; size = x.size } ≡ held_as t s = some_same _ (held_as t s) e in
          let type = ap (λ (b : HeldBlock). b.memory_type) same in
          (is, subst (HasEntry (IsBlockEntry p) t s.block) (sym at) (ap (λ (b : HeldBlock). b.size) same, type, h.came s.handle.0 x is at ∙ ap (is_mapped p) type))
      by (Some x) is y at e = absurd (none_some (held_as t s) e)

  -- what a source and a pool say is what the allocator says of its device
  pub just_live : HoldsJustLiveBlocks p first held slots
  just_live = record {
    blocks = λ t i s at. (entry_at t i s at).1;
    one_block = k.one_block;
    new = λ t i s at. (entry_at t i s at).0;
    others = λ n none. beside_blocks p first held h n (k.others n none);
  }

-- the memory of a live block is a block of the source
pub is_block : (p : Properties) (first held : Held) (slots : Slots) → HoldsJustLiveBlocks p first held slots → (t i : ℕ) (s : Slot DeviceMemory) → block_at slots t i ≡ Some s
    → IsSome (blocks_of first held s.handle.0)
is_block p first held slots h t i s at = subst (λ x. IsSome (new_block x (get held s.handle.0))) (sym (h.new t i s at)) (by (get held s.handle.0) (h.blocks t i s at))
  where
    by : (y : Option Entry) → HasEntry (IsBlockEntry p) t s.block y → IsSome (new_block None y)
    by None has = absurd has
    by (Some e) has = refl

-- ---- what stays so as blocks go back

-- the device was asked nothing, each memory went back once, and what was there at first is the same
pub record Empties {D : Type 0} (g : Ghosts D) (old : SourceState D) (handles : List DeviceMemory) (new : SourceState D) : Type 0 where
  pub first : new.first ≡ old.first
  pub history : g.history new.device ≡ frees_recorded (g.held old.device) handles (g.history old.device)
  pub count : g.refused new.device ≡ g.refused old.device
  pub latest : g.latest new.device ≡ g.latest old.device

pub empties : {D : Type 0} (g : Ghosts D) (old : SourceState D) (handles : List DeviceMemory) (new : SourceState D) → GivesBackAll (GivesMemoryBack g) old handles new → Empties g old handles new
empties {D} g old [] new is =
    let device = ap (λ (s : SourceState D). s.device) is in
    record { first = ap (λ (s : SourceState D). s.first) is; history = ap g.history device; count = ap g.refused device; latest = ap g.latest device }
empties {D} g old (memory ∷ handles) new is =
    let one = is.1 in
    let rest = empties g is.0 handles new is.2 in
    record {
      first = rest.first ∙ ap (λ (s : SourceState D). s.first) one.state;
      history = rest.history ∙ (λ i. frees_recorded (one.held i) handles (one.history i));
      count = rest.count ∙ one.count;
      latest = rest.latest ∙ one.latest;
    }
