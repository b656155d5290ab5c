-- What a device holds, from what its source and its pool say, and what it is left with.
use Rattle.std.specs.Prelude.{IsSome, IsSomeAnd}
use Rattle.std.proofs.Common.{◌≡◌, ◌∙◌, ◌+◌, ◌≤◌, refl, sym, ap, subst, ⊎_elim, ℕ, List, [], ◌∷◌, Option, Some, None, arith}
use Rattle.std.proofs.lemmas.Bool.{eqb-true}
use Rattle.std.specs.FinMap.{get}
use Rattle.gpu_block.specs.Block.{size_of}
use Rattle.gpu_core.specs.TypeState.{Slot}
use Rattle.gpu_device.specs.D3D12.{Held, Entry, Heap}
use Rattle.gpu_device.specs.declared.d3d12.device.D3D12Device.{Ghosts}
use Rattle.gpu_device.specs.declared.d3d12.types.HeapDesc.{HeapDesc}
use Rattle.gpu_device.specs.declared.d3d12.types.ID3D12Heap.{ID3D12Heap}
use Rattle.gpu_device.specs.declared.d3d12.types.ResourceHeapTier.{ResourceHeapTier}
use Rattle.gpu_core.specs.Apart.{EndsInside}
use Rattle.gpu_core.specs.Held.{HasEntry}
use Rattle.gpu_core.proofs.Apart.{found}
use Rattle.gpu_core.proofs.Options.{some_same}
use Rattle.gpu_d3d12.specs.DeviceVersion.{device_of}
use Rattle.gpu_d3d12.specs.Heaps.{heap_desc}
use Rattle.gpu_d3d12.specs.declared.memory_kind.MemoryKind.{MemoryKind}
use Rattle.gpu_pool.specs.Free.{GivesBackAll}
use Rattle.gpu_pool.specs.Held.{HoldsJustBlocks}
use Rattle.gpu_pool.specs.Source.{HeldBlock}
use Rattle.gpu_d3d12.specs.Apart.{IsInside}
use Rattle.gpu_d3d12.specs.Blocks.{Slots, kind_at, is_same_heap, IsBlockEntry, HoldsJustLiveBlocks, AsksNothing, releases_recorded}
use Rattle.gpu_pool.specs.Allocation.{piece_of}
use Rattle.gpu_d3d12.specs.Live.{Allocation, IsLive}
use Rattle.gpu_d3d12.specs.Resource.{LiesInHeap}
use Rattle.gpu_d3d12.specs.Source.{SourceState, heap_type, entry_block, blocks_of, beside, HoldsFirst, source_beside, GivesHeapBack}
use Rattle.gpu_d3d12.proofs.Changing.{new_entry, heap_now, no_first_heap, beside_block, beside_other}

-- ---- blocks as the device's entries

some_and : {A : Type 0} (o : Option A) (P Q : A → Type 0) → ((x : A) → P x → Q x) → IsSomeAnd o P → IsSomeAnd o Q
some_and None P Q f h = absurd h
some_and (Some x) P Q f h = f x h

abbrev as_block : (t size : ℕ) → HeldBlock
as_block t size = record { memory_type = t; size = size }

block_same : (a b : HeldBlock) → Some a ≡ Some b → (a.memory_type ≡ b.memory_type) × (a.size ≡ b.size)
block_same a b is =
    let same = some_same a b is in
    (ap (λ (x : HeldBlock). x.memory_type) same, ap (λ (x : HeldBlock). x.size) same)

module _ (tier : ResourceHeapTier) (first held : Held) (h : HoldsFirst tier first held) (n t size : ℕ) (is : blocks_of first held n ≡ Some (as_block t size)) where
  some : IsSome (blocks_of first held n)
  some = subst IsSome (sym is) refl

  held_heap : (desc : HeapDesc) × (get held n ≡ Some (Heap desc))
  held_heap = heap_now (get first n) (get held n) some

  same : (heap_type (held_heap.0) ≡ t) × (held_heap.0.size ≡ size)
  same = block_same (as_block (heap_type held_heap.0) held_heap.0.size) (as_block t size)
      (sym (ap entry_block held_heap.1) ∙ sym (new_entry (get first n) (get held n) (no_first_heap (get first n) (get held n) some)) ∙ is)

  entry_is : IsBlockEntry tier t size (Heap held_heap.0)
  entry_is =
      let desc = held_heap.0 in
      ⊎_elim
      (λ there. absurd (no_first_heap (get first n) (get held n) some (desc, there)))
      (λ of. subst (λ j. IsBlockEntry tier j size (Heap desc)) same.0
      (some_and (kind_at tier (heap_type desc)) (λ k. desc ≡ heap_desc k desc.size) (λ k. Heap desc ≡ Heap (heap_desc k size))
      (λ k alike. ap Heap alike ∙ ap (λ m. Heap (heap_desc k m)) same.1) of))
      (h.came n desc held_heap.1)

pub just_live : (tier : ResourceHeapTier) (first held : Held) (slots : Slots) → HoldsFirst tier first held → HoldsJustBlocks (λ heap. heap.0) (blocks_of first held) slots
    → HoldsJustLiveBlocks tier (beside first held) held slots
just_live tier first held slots h k = record {
  blocks = λ t i s at.
      let is = k.blocks t i s at in
      subst (HasEntry (IsBlockEntry tier) t s.block) (sym (held_heap tier first held h s.handle.0 t (size_of s.block) is).1) (entry_is tier first held h s.handle.0 t (size_of s.block) is);
  one_block = k.one_block;
  new = λ t i s at. beside_block first held s.handle.0 (subst IsSome (sym (k.blocks t i s at)) refl);
  others = λ n none. sym (beside_other first held n (k.others n none));
}

-- ---- resources in heaps

sized : (o : Option MemoryKind) (e : Entry) (size : ℕ) → IsSomeAnd o (λ k. e ≡ Heap (heap_desc k size)) → (desc : HeapDesc) × (e ≡ Heap desc) × (desc.size ≡ size)
sized None e size h = absurd h
sized (Some k) e size h = (heap_desc k size, h, refl)

held_sized : (tier : ResourceHeapTier) (t : ℕ) (s : Slot ID3D12Heap) (x : Option Entry) → HasEntry (IsBlockEntry tier) t s.block x → (desc : HeapDesc) × (x ≡ Some (Heap desc)) × (desc.size ≡ size_of s.block)
held_sized tier t s None h = absurd h
held_sized tier t s (Some e) h = let k = sized (kind_at tier t) e (size_of s.block) h in (k.0, ap Some k.1, k.2)

-- the heap of a live allocation is held, and as long
pub live_in_heap : (tier : ResourceHeapTier) (aside held : Held) (slots : Slots) → HoldsJustLiveBlocks tier aside held slots → (a : Allocation) → IsLive slots a → IsInside slots a → LiesInHeap held a
live_in_heap tier aside held slots k a live inside =
    let t = a.memory_type_index in
    let f = found is_same_heap slots t (piece_of a) live in
    let heap = held_sized tier t f.s (get held f.s.handle.0) (k.blocks t a.memory_block_index f.s f.at) in
    let number = eqb-true f.s.handle.0 a.heap.0 f.handle in
    let ends : a.offset + a.size ≤ size_of f.s.block = subst (λ o. EndsInside o (a.offset + a.size)) f.at inside in
    let same = heap.2 in
    record { desc = heap.0; heap = ap (get held) (sym number) ∙ heap.1; inside = omega (arith, ends, same) }

-- ---- all blocks go back

-- the device was asked nothing, each heap went back once, and what it holds beside the blocks stays
pub record Empties {D : Type 0} (g : Ghosts D) (old : SourceState D) (heaps : List ID3D12Heap) (new : SourceState D) : Type 0 where
  pub history : g.history (device_of new.device) ≡ releases_recorded heaps (g.history (device_of old.device))
  pub asks_nothing : AsksNothing g (device_of old.device) (device_of new.device)
  pub beside : source_beside g new ≡ source_beside g old

pub empties : {D : Type 0} (g : Ghosts D) (old : SourceState D) (heaps : List ID3D12Heap) (new : SourceState D) → GivesBackAll (GivesHeapBack g) old heaps new → Empties g old heaps new
empties {D} g old [] new is =
    let device = ap (λ (s : SourceState D). device_of s.device) is in
    record {
      history = ap g.history device;
      asks_nothing = record {
        count = ap g.refused device;
        latest_heap = ap g.latest_heap device;
        latest_formats = ap g.latest_formats device;
        latest_clear = ap g.latest_clear device;
        latest_memory = ap g.latest_memory device;
        constant = ap g.properties device;
      };
      beside = ap (source_beside g) is;
    }
empties {D} g old (heap ∷ heaps) new is =
    let one = is.1.gives in
    let rest = empties g is.0 heaps new is.2 in
    let n = rest.asks_nothing in
    record {
      history = rest.history ∙ ap (releases_recorded heaps) one.history;
      asks_nothing = record {
        count = n.count ∙ one.count;
        latest_heap = n.latest_heap ∙ one.latest_heap;
        latest_formats = n.latest_formats ∙ one.latest_formats;
        latest_clear = n.latest_clear ∙ one.latest_clear;
        latest_memory = n.latest_memory ∙ one.latest_memory;
        constant = n.constant ∙ one.constant;
      };
      beside = rest.beside ∙ is.1.beside;
    }
