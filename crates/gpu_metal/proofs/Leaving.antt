-- What a device is left with, and what it holds, from what its source and its pool say.
use Rattle.std.specs.Prelude.{IsSome, IsSomeAnd}
use Rattle.std.proofs.Common.{◌≡◌, ◌≢◌, ◌∙◌, refl, sym, ap, subst, ⊎_elim, ℕ, List, [], ◌∷◌, Option, Some, None}
use Rattle.std.proofs.lemmas.Bool.{cases_eq}
use Rattle.std.specs.FinMap.{get, insert}
use Rattle.std.specs.Option.{option_map}
use Rattle.gpu_block.specs.Block.{size_of}
use Rattle.gpu_core.specs.TypeState.{Slot}
use Rattle.gpu_device.specs.Metal.{Held, Entry, Heap, Set}
use Rattle.gpu_device.specs.declared.metal.types.CpuCacheMode.{CpuCacheMode}
use Rattle.gpu_device.specs.declared.metal.types.CpuCacheMode.TheVariants.{DefaultCache, WriteCombined}
use Rattle.gpu_device.specs.declared.metal.types.HeapDescriptor.{HeapDescriptor}
use Rattle.gpu_device.specs.declared.metal.types.MTLHeap.{MTLHeap}
use Rattle.gpu_device.specs.declared.metal.types.MTLResidencySet.{MTLResidencySet}
use Rattle.gpu_device.specs.declared.metal.types.StorageMode.{StorageMode}
use Rattle.gpu_device.specs.declared.metal.types.StorageMode.TheVariants.{Shared, Managed, Private, Memoryless, Other}
use Rattle.gpu_device.proofs.Maps.{get-insert_same, get-insert_other}
use Rattle.gpu_core.specs.Blocks.{block_at}
use Rattle.gpu_core.specs.Held.{HasEntry, HoldsBlocks}
use Rattle.gpu_core.proofs.Options.{none_some, some_same}
use Rattle.gpu_metal.specs.MemoryKinds.{heap_descriptor}
use Rattle.gpu_pool.specs.Free.{GivesBackAll}
use Rattle.gpu_pool.specs.Held.{HoldsJustBlocks}
use Rattle.gpu_pool.specs.Source.{HeldBlock}
use Rattle.gpu_device.specs.declared.metal.device.MetalDevice.{Ghosts}
use Rattle.gpu_metal.specs.Residency.{releases_recorded, ChangesHeld}
use Rattle.gpu_metal.specs.Source.{type_of, heap_type, new_block, blocks_of, HasBlocks, HoldsFirst}
use Rattle.gpu_metal.specs.Source.{SourceState, GivesHeapBack, set_of, left}
use Rattle.gpu_metal.proofs.Changing.{beside_blocks, is_some_none}
use Rattle.gpu_metal.proofs.Numbers.{number_cases, number_heap}
use Rattle.gpu_metal.specs.Blocks.{Residency, left_behind, Slots, location_at, heap_number, IsBlockEntry, AreHeapsOfBlocks, HoldsJustLiveBlocks}

-- ---- what stays so as blocks go back

abbrev pub committed_in : Option Residency → Option (List MTLHeap)
committed_in None = None
committed_in (Some r) = Some r.committed

left_committed : (r : Option Residency) (heap : MTLHeap) → committed_in (left r heap) ≡ committed_in r
left_committed None heap = refl
left_committed (Some r) heap = refl

-- the device was asked nothing, each heap went back once, the set is the same, and so are its committed members
pub record Empties {D : Type 0} (g : Ghosts D) (old : SourceState D) (heaps : List MTLHeap) (new : SourceState D) : Type 0 where
  pub first : new.first ≡ old.first
  pub set : new.set ≡ old.set
  pub changes : ChangesHeld g old.device (g.held new.device) (releases_recorded old.set heaps (g.history old.device)) new.device
  pub committed : committed_in (set_of g new) ≡ committed_in (set_of g old)

pub empties : {D : Type 0} (g : Ghosts D) (old : SourceState D) (heaps : List MTLHeap) (new : SourceState D) → GivesBackAll (GivesHeapBack g) old heaps new → Empties g old heaps new
empties {D} g old [] new is =
    let device = ap (λ (s : SourceState D). s.device) is in
    record {
      first = ap (λ (s : SourceState D). s.first) is;
      set = ap (λ (s : SourceState D). s.set) is;
      changes = record { held_is = refl; history_is = ap g.history device; count = ap g.refused device; latest_heap = ap g.latest_heap device; constant = ap g.properties device };
      committed = ap (λ (s : SourceState D). committed_in (set_of g s)) is;
    }
empties {D} g old (heap ∷ heaps) new is =
    let one = is.1 in
    let rest = empties g is.0 heaps new is.2 in
    let c = rest.changes in
    record {
      first = rest.first ∙ ap (λ (s : SourceState D). s.first) one.state;
      set = rest.set ∙ ap (λ (s : SourceState D). s.set) one.state;
      changes = record {
        held_is = refl;
        history_is = c.history_is ∙ (λ i. releases_recorded (ap (λ (s : SourceState D). s.set) one.state i) heaps (one.gives.history_is i));
        count = c.count ∙ one.gives.count;
        latest_heap = c.latest_heap ∙ one.gives.latest_heap;
        constant = c.constant ∙ one.gives.constant;
      };
      committed = rest.committed ∙ ap committed_in one.residency ∙ left_committed (set_of g old) heap;
    }

-- what is left names the committed members alone
pub left_same : (first : Held) (set : Option MTLResidencySet) (r q : Option Residency) → committed_in r ≡ committed_in q → left_behind first set r ≡ left_behind first set q
left_same first None r q same = refl
left_same first (Some set) None None same = refl
left_same first (Some set) None (Some q) same = absurd (none_some q.committed same)
left_same first (Some set) (Some r) None same = absurd (none_some r.committed (sym same))
left_same first (Some set) (Some r) (Some q) same = ap (λ cs. insert first set.0 (Set [] cs)) (some_same r.committed q.committed same)

-- ---- blocks as the device's entries

abbrev heap_with : StorageMode → CpuCacheMode → HeapDescriptor
heap_with mode cache = record { storage_mode = mode; cpu_cache_mode = cache }

abbrev IsOfType : (t : ℕ) → HeapDescriptor → Type 0
IsOfType t desc = IsSomeAnd (location_at t) (λ l. desc ≡ heap_descriptor l)

kind_by : (mode : StorageMode) (cache : CpuCacheMode) (t : ℕ) → type_of mode cache ≡ Some t → IsOfType t (heap_with mode cache)
kind_by Private DefaultCache t is = subst (λ n. IsOfType n (heap_with Private DefaultCache)) (some_same 0 t is) refl
kind_by Private WriteCombined t is = absurd (none_some t is)
kind_by Shared WriteCombined t is = subst (λ n. IsOfType n (heap_with Shared WriteCombined)) (some_same 1 t is) refl
kind_by Shared DefaultCache t is = subst (λ n. IsOfType n (heap_with Shared DefaultCache)) (some_same 2 t is) refl
kind_by Managed cache t is = absurd (none_some t is)
kind_by Memoryless cache t is = absurd (none_some t is)
kind_by (Other mode) cache t is = absurd (none_some t is)

some_and : {A : Type 0} (o : Option A) (P Q : A → Type 0) → ((x : A) → P x → Q x) → IsSomeAnd o P → IsSomeAnd o Q
some_and None P Q f h = absurd h
some_and (Some x) P Q f h = f x h

abbrev as_block : (t size : ℕ) → HeldBlock
as_block t size = record { memory_type = t; size = size }

mapped : (o : Option ℕ) (size t n : ℕ) → option_map (λ k. as_block k size) o ≡ Some (as_block t n) → (o ≡ Some t) × (size ≡ n)
mapped None size t n is = absurd (none_some (as_block t n) is)
mapped (Some k) size t n is =
    let same : as_block k size ≡ as_block t n = some_same (as_block k size) (as_block t n) is in
    (ap (λ (b : HeldBlock). Some b.memory_type) same, ap (λ (b : HeldBlock). b.size) same)

abbrev IsEntry : (t size : ℕ) → Option Entry → Type 0
IsEntry t size None = ⊥
IsEntry t size (Some e) = IsBlockEntry t size e

entry_by : (x now : Option Entry) (t n : ℕ) → new_block x now ≡ Some (as_block t n) → (x ≡ None) × IsEntry t n now
entry_by None None t n is = absurd (none_some (as_block t n) is)
entry_by None (Some (Heap desc size)) t n is =
    let m = mapped (heap_type desc) size t n is in
    (refl, some_and (location_at t) (λ l. desc ≡ heap_descriptor l) (λ l. Heap desc size ≡ Heap (heap_descriptor l) n) (λ l same i. Heap (same i) (m.1 i)) (kind_by desc.storage_mode desc.cpu_cache_mode t m.0))
entry_by None (Some (Set members committed)) t n is = absurd (none_some (as_block t n) is)
entry_by (Some e) now t n is = absurd (none_some (as_block t n) is)

has_entry : (t : ℕ) (s : Slot MTLHeap) (x : Option Entry) → IsEntry t (size_of s.block) x → HasEntry IsBlockEntry t s.block x
has_entry t s None is = is
has_entry t s (Some e) is = is

heap_no_set : (desc : HeapDescriptor) (size : ℕ) (members committed : List MTLHeap) → Set members committed ≡ Heap desc size → ⊥
heap_no_set desc size members committed e = cc

none_and : {A : Type 0} (o : Option A) (P : A → Type 0) → ((x : A) → P x → ⊥) → IsSomeAnd o P → ⊥
none_and None P f h = h
none_and (Some x) P f h = f x h

no_set : (t : ℕ) (s : Slot MTLHeap) (members committed : List MTLHeap) → HasEntry IsBlockEntry t s.block (Some (Set members committed)) → ⊥
no_set t s members committed is = none_and (location_at t) (λ l. Set members committed ≡ Heap (heap_descriptor l) (size_of s.block)) (λ l e. heap_no_set (heap_descriptor l) (size_of s.block) members committed e) is

module _ (first held : Held) (slots : Slots) (k : HoldsJustBlocks (λ heap. heap.0) (blocks_of first held) slots) where
  entry_at : (t i : ℕ) (s : Slot MTLHeap) → block_at slots t i ≡ Some s → (get first s.handle.0 ≡ None) × HasEntry IsBlockEntry t s.block (get held s.handle.0)
  entry_at t i s at =
      let e = entry_by (get first s.handle.0) (get held s.handle.0) t (size_of s.block) (k.blocks t i s at) in
      (e.0, has_entry t s (get held s.handle.0) e.1)

  -- without a set
  pub holds_alone : HoldsFirst None first held → HoldsBlocks heap_number IsBlockEntry first held slots
  holds_alone h = record {
    blocks = λ t i s at. (entry_at t i s at).1;
    one_block = k.one_block;
    new = λ t i s at. (entry_at t i s at).0;
    others = λ n none. beside_blocks None first held h n tt (k.others n none);
  }

  module _ (set : MTLResidencySet) (h : HoldsFirst (Some set) first held) where
    abbrev r : HasBlocks set first held
    r = h.residency

    abbrev own : Entry
    own = Set r.members r.committed

    abbrev start : Held
    start = insert first set.0 own

    -- a live block isn't the set
    apart : (t i : ℕ) (s : Slot MTLHeap) → block_at slots t i ≡ Some s → s.handle.0 ≢ set.0
    apart t i s at same =
        let e = entry_at t i s at in
        no_set t s r.members r.committed (subst (HasEntry IsBlockEntry t s.block) (ap (get held) same ∙ r.at) e.1)

    pub holds_with_set : HoldsBlocks heap_number IsBlockEntry start held slots
    holds_with_set = record {
      blocks = λ t i s at. (entry_at t i s at).1;
      one_block = k.one_block;
      new = λ t i s at. get-insert_other first set.0 s.handle.0 own (apart t i s at) ∙ (entry_at t i s at).0;
      others = λ n none.
          ⊎_elim
          (λ same. ap (get held) same ∙ r.at ∙ sym (get-insert_same first set.0 own) ∙ ap (get start) (sym same))
          (λ ne. beside_blocks (Some set) first held h n ne (k.others n none) ∙ sym (get-insert_other first set.0 n own ne))
          (cases_eq n set.0);
    }

    abbrev heap_blocks : List MTLHeap → Type 0
    heap_blocks members = AreHeapsOfBlocks members slots

    heaps : heap_blocks r.members
    heaps = record {
      live = λ heap within.
          ⊎_elim
          (λ found. number_heap slots heap found)
          (λ none. absurd (is_some_none (blocks_of first held heap.0) (k.others heap.0 none) (r.live heap within)))
          (number_cases slots heap.0);
      all = λ heap b.
          r.all heap (subst IsSome (sym (ap (λ (x : MTLHeap). blocks_of first held x.0) (sym b.4) ∙ k.blocks b.0 b.1 b.2 b.3)) refl);
      once = r.once;
    }

    pub holds_set_and_blocks : HoldsJustLiveBlocks (Some set) first held slots
    holds_set_and_blocks = record { new = r.new; residency = record { members = r.members; committed = r.committed }; members = heaps; blocks = holds_with_set }

-- what a source and a pool say is what the allocator says of its device
pub just_live : (set : Option MTLResidencySet) (first held : Held) (slots : Slots) → HoldsFirst set first held → HoldsJustBlocks (λ heap. heap.0) (blocks_of first held) slots
    → HoldsJustLiveBlocks set first held slots
just_live None first held slots h k = holds_alone first held slots k h
just_live (Some set) first held slots h k = holds_set_and_blocks first held slots k set h
