-- What a write at a live allocation's place leaves.
use Rattle.std.proofs.Common.{◌≡◌, ◌≢◌, ◌⊎◌, refl, sym, ap, subst, ℕ, ◌+◌, ◌≤◌, true, List, length, Option, Some, None, Contains}
use Rattle.std.specs.FinMap.{get}
use Rattle.std.specs.Int.NonZero.{non_zero_u64_get}
use Rattle.std.specs.declared.num.NonZeroU64.{NonZeroU64}
use Rattle.std.proofs.lemmas.Bool.{eqb-true}
use Rattle.gpu_block.specs.Block.{extents_of}
use Rattle.gpu_block_pieces.specs.FreeList.{Extent}
use Rattle.gpu_core.specs.TypeRelease.{SlotHolds}
use Rattle.gpu_core.specs.TypeState.{Slot, slot_at}
use Rattle.gpu_core.specs.declared.piece.Piece.{Piece}
use Rattle.gpu_device.specs.Held.{Held, HasRange, bytes_of, IsWhole, range_of, with_range}
use Rattle.gpu_device.specs.Properties.{Properties}
use Rattle.gpu_device.specs.declared.vulkan.types.DeviceMemory.{DeviceMemory}
use Rattle.gpu_device.proofs.Writes.{range_there, range_elsewhere}
use Rattle.gpu_vulkan.specs.Types.{is_mapped}
use Rattle.gpu_vulkan.specs.Blocks.{Slots, HoldsJustLiveBlocks}
use Rattle.gpu_core.specs.Blocks.{slots_at, block_at, BlocksWellFormed}
use Rattle.gpu_vulkan.specs.Apart.{SharesNoByte}
use Rattle.gpu_vulkan.specs.Lends.{number_in}
use Rattle.gpu_vulkan.specs.Live.{is_same_memory, IsLiveIn}
use Rattle.gpu_vulkan.specs.Live.{IsLive, IsMapped, bytes_at}
use Rattle.gpu_vulkan.specs.declared.allocation.Allocation.{Allocation}
use Rattle.gpu_vulkan.proofs.Inside.{live_range, piece_with}

-- what the slot of a live piece holds
pub record Found (ss : Slots) (t : ℕ) (p : Piece DeviceMemory) : Type 0 where
  pub s : Slot DeviceMemory
  pub at : block_at ss t p.slot ≡ Some s
  pub handle : s.handle.0 ≡ p.handle.0
  pub x : Extent
  pub held : Contains (extents_of s.block) x
  pub numbered : x.chunk_id ≡ non_zero_u64_get p.chunk_id
  pub begins : x.offset ≡ p.offset
  pub ends : x.end ≡ p.offset + p.size

pub found_in : (ss : Slots) (t : ℕ) (p : Piece DeviceMemory) (o : Option (Slot DeviceMemory)) → block_at ss t p.slot ≡ o → SlotHolds is_same_memory p o → Found ss t p
found_in ss t p None at live = absurd live
found_in ss t p (Some s) at live = record {
  s = s;
  at = at;
  handle = eqb-true s.handle.0 p.handle.0 live.0;
  x = live.1.0;
  held = live.1.1;
  numbered = live.1.2;
  begins = live.1.3;
  ends = live.1.4;
}

-- ---- at an allocation

-- the piece that a live allocation stands for, and what its slot holds
pub record Stands (ss : Slots) (a : Allocation) : Type 0 where
  pub piece : Piece DeviceMemory
  pub found : Found ss a.memory_type_index piece
  pub slot : piece.slot ≡ a.memory_block_index
  pub chunk_id : non_zero_u64_get piece.chunk_id ≡ number_in a.chunk_id
  pub offset : piece.offset ≡ a.offset
  pub size : piece.size ≡ a.size
  pub block : piece.handle ≡ a.device_memory

stands_for : (ss : Slots) (a : Allocation) (chunk : Option NonZeroU64) → a.chunk_id ≡ chunk → IsLiveIn ss a.memory_type_index (piece_with a chunk) → Stands ss a
stands_for ss a None is live = absurd live
stands_for ss a (Some n) is live =
    let p : Piece DeviceMemory = record { slot = a.memory_block_index; chunk_id = n; offset = a.offset; size = a.size; handle = a.device_memory } in
    record {
      piece = p;
      found = found_in ss a.memory_type_index p (slot_at (slots_at ss a.memory_type_index) p.slot) refl live;
      slot = refl;
      chunk_id = sym (ap number_in is);
      offset = refl;
      size = refl;
      block = refl;
    }

pub stands : (ss : Slots) (a : Allocation) → IsLive ss a → Stands ss a
stands ss a live = stands_for ss a a.chunk_id refl live

module _ (p : Properties) (first held : Held) (ss : Slots) (sound : BlocksWellFormed p.granularity ss) (h : HoldsJustLiveBlocks p first held ss) where
  range_for : ((n : ℕ) → IsWhole (get held n)) → (a : Allocation) (chunk : Option NonZeroU64) → IsLiveIn ss a.memory_type_index (piece_with a chunk) → is_mapped p a.memory_type_index ≡ true
      → HasRange (bytes_of held a.device_memory.0) a.offset a.size
  range_for whole a None live mapped = absurd live
  range_for whole a (Some n) live mapped =
      live_range p first held ss sound h a.memory_type_index (record { slot = a.memory_block_index; chunk_id = n; offset = a.offset; size = a.size; handle = a.device_memory }) whole mapped live

  pub allocation_range : ((n : ℕ) → IsWhole (get held n)) → (a : Allocation) → IsMapped p ss a → HasRange (bytes_of held a.device_memory.0) a.offset a.size
  allocation_range whole a live = range_for whole a a.chunk_id live.0 live.1

  -- what is read at either kind of place after a write
  pub own_written : ((n : ℕ) → IsWhole (get held n)) → (a : Allocation) (ws : List ℕ) → IsMapped p ss a → length ws ≡ a.size → bytes_at (with_range held a.device_memory.0 a.offset ws) a ≡ Some ws
  own_written whole a ws live long =
      let has : HasRange (bytes_of held a.device_memory.0) a.offset (length ws) = subst (λ k. HasRange (bytes_of held a.device_memory.0) a.offset k) (sym long) (allocation_range whole a live) in
      subst (λ k. range_of (with_range held a.device_memory.0 a.offset ws) a.device_memory.0 a.offset k ≡ Some ws) long (range_there held a.device_memory.0 a.offset ws has)

  pub others_kept : ((n : ℕ) → IsWhole (get held n)) → (a : Allocation) (ws : List ℕ) → IsMapped p ss a → length ws ≡ a.size → (b : Allocation) → SharesNoByte b a
      → bytes_at (with_range held a.device_memory.0 a.offset ws) b ≡ bytes_at held b
  others_kept whole a ws live long b apart =
      let has : HasRange (bytes_of held a.device_memory.0) a.offset (length ws) = subst (λ k. HasRange (bytes_of held a.device_memory.0) a.offset k) (sym long) (allocation_range whole a live) in
      range_elsewhere held a.device_memory.0 a.offset ws b.device_memory.0 b.offset b.size has
      (subst (λ k. (b.device_memory.0 ≢ a.device_memory.0) ⊎ ((b.offset + b.size ≤ a.offset) ⊎ (a.offset + k ≤ b.offset))) (sym long) apart)
