-- A live allocation reads as before where its memory is left.
use Rattle.std.proofs.Common.{◌≡◌, ◌∙◌, refl, sym, ap, subst, ℕ, Option, Some, None, Ok, Err, Result}
use Rattle.std.specs.FinMap.{get}
use Rattle.std.proofs.lemmas.Bool.{eqb-true}
use Rattle.gpu_block.specs.Block.{Block}
use Rattle.gpu_core.specs.TypeRelease.{SlotHolds}
use Rattle.gpu_core.specs.TypeState.{Slot}
use Rattle.gpu_core.specs.Blocks.{block_at}
use Rattle.gpu_core.specs.Held.{HasEntry}
use Rattle.gpu_core.specs.declared.piece.Piece.{Piece}
use Rattle.gpu_device.specs.Held.{Held, Entry, entry_bytes, range_in}
use Rattle.gpu_device.specs.Properties.{Properties}
use Rattle.gpu_device.specs.declared.vulkan.device.VulkanDevice.{Ghosts}
use Rattle.gpu_device.specs.declared.vulkan.types.DeviceMemory.{DeviceMemory}
use Rattle.gpu_values.specs.declared.error.AllocationError.{AllocationError}
use Rattle.gpu_vulkan.specs.Blocks.{Slots, IsBlockEntry, HoldsJustLiveBlocks}
use Rattle.gpu_vulkan.specs.Free.{FreesPiece}
use Rattle.gpu_vulkan.specs.Live.{is_same_memory, IsLiveIn, IsLive, bytes_at}
use Rattle.gpu_vulkan.specs.Untouched.{LeavesMemory}
use Rattle.gpu_vulkan.specs.declared.allocation.Allocation.{Allocation}
use Rattle.gpu_vulkan.proofs.Live.{lives_as, piece_under}

has_some : (p : Properties) (t : ℕ) (b : Block) (o : Option Entry) → HasEntry (IsBlockEntry p) t b o → (e : Entry) × (o ≡ Some e)
has_some p t b None h = absurd h
has_some p t b (Some e) h = (e, refl)

-- the memory of a live piece is held
piece_held : (p : Properties) (first held : Held) (ss : Slots) (t : ℕ) (q : Piece DeviceMemory) (x : Option (Slot DeviceMemory)) → HoldsJustLiveBlocks p first held ss → block_at ss t q.slot ≡ x
    → SlotHolds is_same_memory q x → (e : Entry) × (get held q.handle.0 ≡ Some e)
piece_held p first held ss t q None h at live = absurd live
piece_held p first held ss t q (Some s) h at live =
    let same : s.handle.0 ≡ q.handle.0 = eqb-true s.handle.0 q.handle.0 live.0 in
    has_some p t s.block (get held q.handle.0) (subst (λ n. HasEntry (IsBlockEntry p) t s.block (get held n)) same (h.blocks t q.slot s at))

memory_held : (p : Properties) (first held : Held) (ss : Slots) (a : Allocation) → HoldsJustLiveBlocks p first held ss → IsLive ss a → (e : Entry) × (get held a.device_memory.0 ≡ Some e)
memory_held p first held ss a h live =
    let l = lives_as ss a live in
    piece_held p first held ss a.memory_type_index (piece_under a l.chunk_id) (block_at ss a.memory_type_index a.memory_block_index) h refl l.live

pub reads_same : (p : Properties) (first before after : Held) (old new : Slots) (a : Allocation) → HoldsJustLiveBlocks p first before old → HoldsJustLiveBlocks p first after new → LeavesMemory before after
    → IsLive old a → IsLive new a → bytes_at after a ≡ bytes_at before a
reads_same p first before after old new a holds held leaves live lives =
    let e = memory_held p first before old a holds live in
    let f = memory_held p first after new a held lives in
    let same : get after a.device_memory.0 ≡ get before a.device_memory.0 = f.1 ∙ ap Some (leaves a.device_memory.0 e.0 f.0 e.1 f.1) ∙ sym e.1 in
    ap (λ (o : Option Entry). range_in a.offset a.size (entry_bytes o)) same

-- a free that is done frees a live allocation
pub freed_live : {D : Type 0} (g : Ghosts D) (a : Allocation) (o : Option (Piece DeviceMemory)) (old : Slots) (device : D) (result : Result (Unit {0}) (AllocationError × Allocation)) (new : Slots) (after : D)
    → IsLiveIn old a.memory_type_index o → FreesPiece g a o old device result new after → FreesPiece g a o old device (Ok tt) new after
freed_live g a None old device result new after live f = absurd live
freed_live g a (Some p) old device (Ok u) new after live f = f
freed_live g a (Some p) old device (Err e) new after live f = absurd (f.0 live)
