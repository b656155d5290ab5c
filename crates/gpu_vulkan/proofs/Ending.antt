-- A move that ends: what its free leaves.
use Rattle.std.proofs.Common.{◌≡◌, ◌∙◌, refl, sym, ap, subst, ℕ, ◌+◌, ◌<◌, ◌≤◌, List, Option, Some, None, Ok, Err, Result, arith, ⊎_elim}
use Rattle.std.specs.Prelude.{IsTrue}
use Rattle.std.specs.List.{slice_set}
use Rattle.std.specs.Option.{option_map}
use Rattle.std.specs.declared.num.NonZeroU64.{NonZeroU64}
use Rattle.gpu_values.specs.declared.error.AllocationError.{AllocationError}
use Rattle.gpu_core.specs.Blocks.{slots_at}
use Rattle.gpu_core.specs.Moves.{moves_left, slots_above}
use Rattle.gpu_core.specs.TypeRelease.{has_others}
use Rattle.gpu_core.specs.TypeState.{Slot}
use Rattle.gpu_core.specs.declared.piece.Piece.{Piece}
use Rattle.gpu_core.proofs.Moving.{freed_left}
use Rattle.gpu_core.proofs.Types.{slots_after}
use Rattle.gpu_device.specs.declared.vulkan.device.VulkanDevice.{Ghosts}
use Rattle.gpu_device.specs.declared.vulkan.types.DeviceMemory.{DeviceMemory}
use Rattle.gpu_pool.proofs.Freeing.{type_below}
use Rattle.gpu_vulkan.specs.Blocks.{Slots}
use Rattle.gpu_vulkan.specs.Free.{FreesPiece, AllocatorFrees}
use Rattle.gpu_vulkan.specs.Lends.{AreDistinct}
use Rattle.gpu_vulkan.specs.Live.{IsLive, IsLiveIn, is_same_memory}
use Rattle.gpu_vulkan.specs.declared.allocation.Allocation.{Allocation}

-- an allocation in a higher slot is another one
pub ahead_distinct : (from to : Allocation) → from.memory_block_index < to.memory_block_index → AreDistinct to from
ahead_distinct from to ahead type slot number = absurd (omega (arith, ahead, slot))

pub behind_distinct : (from to : Allocation) → from.memory_block_index < to.memory_block_index → AreDistinct from to
behind_distinct from to ahead type slot number = absurd (omega (arith, ahead, slot))

module _ {D : Type 0} (g : Ghosts D) (a : Allocation) (old : Slots) (device : D) (new : Slots) (after : D) where
  abbrev t : ℕ
  t = a.memory_type_index

  piece_left : (p : Piece DeviceMemory) (result : Result (Unit {0}) (AllocationError × Allocation)) → FreesPiece g a (Some p) old device result new after → IsLiveIn old t (Some p)
      → moves_left (slots_at new t) + slots_above (slots_at old t) p.slot ≤ moves_left (slots_at old t)
  piece_left p (Ok u) f live =
      let r = f.1 in
      let set : slots_at (slice_set old t r.left) t ≡ r.left = ⊎_elim (λ h. h.1) (λ h. absurd (h.0 refl)) (slots_after old t r.left t (type_below is_same_memory old t p live)) in
      subst (λ (x : List (Option (Slot DeviceMemory))). moves_left x + slots_above (slots_at old t) p.slot ≤ moves_left (slots_at old t)) (sym (ap (λ (ss : Slots). slots_at ss t) r.slots ∙ set))
      (freed_left (IsTrue (has_others (slots_at old t))) (slots_at old t) p r.went r.left r.releases)
  piece_left p (Err e) f live = absurd (f.0 live)

  abbrev piece_with : Option NonZeroU64 → Option (Piece DeviceMemory)
  piece_with c = option_map (λ n. record { slot = a.memory_block_index; chunk_id = n; offset = a.offset; size = a.size; handle = a.device_memory }) c

  left_with : (c : Option NonZeroU64) (result : Result (Unit {0}) (AllocationError × Allocation)) → FreesPiece g a (piece_with c) old device result new after → IsLiveIn old t (piece_with c)
      → moves_left (slots_at new t) + slots_above (slots_at old t) a.memory_block_index ≤ moves_left (slots_at old t)
  left_with None result f live = absurd live
  left_with (Some n) result f live = piece_left (record { slot = a.memory_block_index; chunk_id = n; offset = a.offset; size = a.size; handle = a.device_memory }) result f live

  -- a live allocation that is freed counts no more
  pub freed_fewer : (result : Result (Unit {0}) (AllocationError × Allocation)) → AllocatorFrees g a old device result new after → IsLive old a
      → moves_left (slots_at new t) + slots_above (slots_at old t) a.memory_block_index ≤ moves_left (slots_at old t)
  freed_fewer result f live = left_with a.chunk_id result f live
