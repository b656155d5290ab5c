-- Live allocations, as the pieces that they stand for.
use Rattle.std.proofs.Common.{◌≡◌, ◌≢◌, ◌∙◌, ◌⊎◌, ◌<◌, refl, sym, ap, subst, ℕ, length, Option, Some, None}
use Rattle.std.specs.Option.{option_map}
use Rattle.std.specs.Int.NonZero.{non_zero_u64_get}
use Rattle.std.specs.declared.num.NonZeroU64.{NonZeroU64}
use Rattle.gpu_values.specs.declared.allocation_type.AllocationType.{AllocationType}
use Rattle.gpu_core.specs.declared.piece.Piece.{Piece}
use Rattle.gpu_device.specs.declared.vulkan.types.DeviceMemory.{DeviceMemory}
use Rattle.gpu_core.specs.Apart as pieces
use Rattle.gpu_core.proofs.Options.{none_some, some_same}
use Rattle.gpu_pool.proofs.Freeing.{type_below}
use Rattle.gpu_pool.specs.Live as pool
use Rattle.gpu_pool.specs.Live.{AreBytesApart}
use Rattle.gpu_vulkan.specs.Setup.{Setup}
use Rattle.gpu_vulkan.specs.declared.describe.AllocationCreateDesc.{AllocationCreateDesc}
use Rattle.gpu_vulkan.specs.Apart.{IsInside, SharesNoByte, HasKind, KeepsPages}
use Rattle.gpu_vulkan.specs.Blocks.{Slots}
use Rattle.gpu_vulkan.specs.Lends.{AreDistinct, number_in}
use Rattle.gpu_vulkan.specs.Live.{is_same_memory, IsLiveIn, piece_of, IsLive, IsAllocated}
use Rattle.gpu_vulkan.specs.Rename.{StayLive}
use Rattle.gpu_vulkan.specs.declared.allocation.Allocation.{Allocation}

-- the piece under a number
abbrev pub piece_under : Allocation → NonZeroU64 → Piece DeviceMemory
piece_under a n = record { slot = a.memory_block_index; chunk_id = n; offset = a.offset; size = a.size; handle = a.device_memory }

-- a live allocation isn't null, and its piece is live
pub record LivesAs (ss : Slots) (a : Allocation) : Type 0 where
  pub chunk_id : NonZeroU64
  pub is : a.chunk_id ≡ Some chunk_id
  pub live : pool.IsLive is_same_memory ss a.memory_type_index (piece_under a chunk_id)

lives_by : (ss : Slots) (a : Allocation) (o : Option NonZeroU64) → a.chunk_id ≡ o → IsLiveIn ss a.memory_type_index (option_map (piece_under a) o) → LivesAs ss a
lives_by ss a None is live = absurd live
lives_by ss a (Some n) is live = record { chunk_id = n; is = is; live = live }

pub lives_as : (ss : Slots) (a : Allocation) → IsLive ss a → LivesAs ss a
lives_as ss a live = lives_by ss a a.chunk_id refl live

is_live : (ss : Slots) (a : Allocation) (n : NonZeroU64) → a.chunk_id ≡ Some n → pool.IsLive is_same_memory ss a.memory_type_index (piece_under a n) → IsLive ss a
is_live ss a n is live = subst (λ o. IsLiveIn ss a.memory_type_index (option_map (piece_under a) o)) (sym is) live

-- allocations stay live as their pieces do
pub stays : (old new : Slots) → pool.StayLive is_same_memory old new → StayLive old new
stays old new keeps a live = let l = lives_as old a live in is_live new a l.chunk_id l.is (keeps a.memory_type_index (piece_under a l.chunk_id) l.live)

distinct_pieces : (a b : Allocation) (n m : NonZeroU64) → a.chunk_id ≡ Some n → b.chunk_id ≡ Some m → AreDistinct a b
    → pieces.AreDistinct a.memory_type_index (piece_under a n) b.memory_type_index (piece_under b m)
distinct_pieces a b n m is also other types slots numbers = other types slots (ap number_in is ∙ numbers ∙ sym (ap number_in also))

-- what an allocation that stands for a piece has of it
pub record Has (a : Allocation) (p : Piece DeviceMemory) : Type 0 where
  pub slot : a.memory_block_index ≡ p.slot
  pub size : a.size ≡ p.size
  pub chunk_id : number_in a.chunk_id ≡ non_zero_u64_get p.chunk_id
  pub offset : a.offset ≡ p.offset

has_by : (a : Allocation) (chunk : Option NonZeroU64) → a.chunk_id ≡ chunk → (p : Piece DeviceMemory) → option_map (piece_under a) chunk ≡ Some p → Has a p
has_by a None is p e = absurd (none_some p e)
has_by a (Some n) is p e =
    let same : piece_under a n ≡ p = some_same (piece_under a n) p e in
    record {
      slot = ap (λ (z : Piece DeviceMemory). z.slot) same;
      size = ap (λ (z : Piece DeviceMemory). z.size) same;
      chunk_id = ap number_in is ∙ ap (λ (z : Piece DeviceMemory). non_zero_u64_get z.chunk_id) same;
      offset = ap (λ (z : Piece DeviceMemory). z.offset) same;
    }

pub has : (a : Allocation) (p : Piece DeviceMemory) → piece_of a ≡ Some p → Has a p
has a p e = has_by a a.chunk_id refl p e

-- an allocation begins where its piece does
pub given_offset : (setup : Setup) (t : ℕ) (d : AllocationCreateDesc) (p : Piece DeviceMemory) (a : Allocation) → IsAllocated setup t d p a → a.offset ≡ p.offset
given_offset setup t d p a is = (has a p is.piece).offset

-- an allocation is live as its piece is, and as distinct
pub given_live : (old new : Slots) (setup : Setup) (t : ℕ) (d : AllocationCreateDesc) (p : Piece DeviceMemory) (a : Allocation) → IsAllocated setup t d p a → pool.IsNewlyLive is_same_memory old new t p
    → IsLive new a × ((b : Allocation) → IsLive old b → AreDistinct b a)
given_live old new setup t d p a is h =
    let k = has a p is.piece in (
      subst (λ (o : Option (Piece DeviceMemory)). IsLiveIn new a.memory_type_index o) (sym is.piece) (subst (λ u. pool.IsLive is_same_memory new u p) (sym is.memory_type) h.0),
      λ b was types slots numbers.
          let l = lives_as old b was in
          h.1 b.memory_type_index (piece_under b l.chunk_id) l.live (types ∙ is.memory_type) (slots ∙ k.slot) (sym (ap number_in l.is) ∙ numbers ∙ k.chunk_id),
    )

-- a free of its piece leaves every other live allocation live
pub others_stay : (old new : Slots) (a : Allocation) (p : Piece DeviceMemory) → piece_of a ≡ Some p
    → ((t : ℕ) (q : Piece DeviceMemory) → pool.IsLive is_same_memory old t q → pieces.AreDistinct t q a.memory_type_index p → pool.IsLive is_same_memory new t q)
    → (b : Allocation) → IsLive old b → AreDistinct b a → IsLive new b
others_stay old new a p is keeps b live other =
    let l = lives_as old b live in
    let h = has a p is in
    is_live new b l.chunk_id l.is
    (keeps b.memory_type_index (piece_under b l.chunk_id) l.live (λ types slots numbers. other types (slots ∙ sym h.slot) (ap number_in l.is ∙ numbers ∙ sym h.chunk_id)))

-- ---- all live allocations

module _ (ss : Slots) where
  pub all_inside : ((t : ℕ) (p : Piece DeviceMemory) → pool.IsLive is_same_memory ss t p → pieces.IsInside ss t p) → (a : Allocation) → IsLive ss a → IsInside ss a
  all_inside inside a live = let l = lives_as ss a live in inside a.memory_type_index (piece_under a l.chunk_id) l.live

  pub all_apart : ((t : ℕ) (p : Piece DeviceMemory) (u : ℕ) (q : Piece DeviceMemory) → pool.IsLive is_same_memory ss t p → pool.IsLive is_same_memory ss u q → pieces.AreDistinct t p u q
      → (p.handle.0 ≢ q.handle.0) ⊎ AreBytesApart p q) → (a b : Allocation) → IsLive ss a → IsLive ss b → AreDistinct a b → SharesNoByte a b
  all_apart apart a b live_a live_b other =
      let l = lives_as ss a live_a in
      let k = lives_as ss b live_b in
      apart a.memory_type_index (piece_under a l.chunk_id) b.memory_type_index (piece_under b k.chunk_id) l.live k.live (distinct_pieces a b l.chunk_id k.chunk_id l.is k.is other)

  has_kind : (a : Allocation) (n : NonZeroU64) → a.chunk_id ≡ Some n → (k : AllocationType) → HasKind ss a k → pieces.HasKind ss a.memory_type_index (piece_under a n) k
  has_kind a n is k h = (h.0, h.1, h.2 ∙ ap number_in is, h.3)

  pub all_pages : (granularity : ℕ) (a b : Allocation)
      → ((p q : Piece DeviceMemory) → pool.IsLive is_same_memory ss a.memory_type_index p → pool.IsLive is_same_memory ss a.memory_type_index q → pieces.KeepsPages granularity ss a.memory_type_index p q)
      → IsLive ss a → IsLive ss b → KeepsPages granularity ss a b
  all_pages granularity a b pages live_a live_b types slots j k has_j has_k =
      let l = lives_as ss a live_a in
      let m = lives_as ss b live_b in
      let p = piece_under a l.chunk_id in
      let q = piece_under b m.chunk_id in
      pages p q l.live (subst (λ t. pool.IsLive is_same_memory ss t q) (sym types) m.live) slots j k (has_kind a l.chunk_id l.is j has_j)
      (subst (λ t. pieces.HasKind ss t q k) (sym types) (has_kind b m.chunk_id m.is k has_k))

-- the memory type of a live allocation is there
pub type_there : (ss : Slots) (a : Allocation) → IsLive ss a → a.memory_type_index < length ss
type_there ss a live = let l = lives_as ss a live in type_below is_same_memory ss a.memory_type_index (piece_under a l.chunk_id) l.live
