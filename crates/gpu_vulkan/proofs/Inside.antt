-- A live piece lies inside its memory.
use Rattle.std.proofs.Common.{◌≡◌, ◌∙◌, refl, sym, subst, ℕ, ◌+◌, ◌≤◌, Bool, true, false, List, Option, Some, None, IsSome, Bor, arith}
use Rattle.std.specs.Option.{is_some, option_map}
use Rattle.std.specs.FinMap.{get}
use Rattle.gpu_block.specs.Block.{Block, size_of}
use Rattle.gpu_core.specs.Slots.{SlotIsSound}
use Rattle.gpu_core.specs.TypeRelease.{SlotHolds}
use Rattle.gpu_core.specs.TypeState.{Slot, slot_at}
use Rattle.gpu_core.specs.declared.piece.Piece.{Piece}
use Rattle.gpu_device.specs.Held.{Held, Entry, HasRange, bytes_of, entry_bytes, IsWhole, IsAsLong, range_of, range_in}
use Rattle.gpu_device.specs.Properties.{Properties}
use Rattle.gpu_device.specs.declared.vulkan.types.DeviceMemory.{DeviceMemory}
use Rattle.gpu_core.specs.Held.{HasEntry}
use Rattle.gpu_vulkan.specs.Types.{is_mapped}
use Rattle.gpu_vulkan.specs.Blocks.{Slots, IsBlockEntry, HoldsJustLiveBlocks}
use Rattle.gpu_core.specs.Blocks.{slots_at, BlocksWellFormed}
use Rattle.gpu_vulkan.specs.Live.{is_same_memory, IsLiveIn}
use Rattle.gpu_vulkan.specs.Live.{IsLive, IsMapped}
use Rattle.gpu_vulkan.specs.declared.allocation.Allocation.{Allocation}
use Rattle.std.specs.declared.num.NonZeroU64.{NonZeroU64}
use Rattle.std.specs.Prelude.{option_copied}
use Rattle.gpu_device.proofs.Writes.{range_from}
use Rattle.gpu_core.proofs.Apart.{extent_inside}
use Rattle.gpu_core.proofs.Options.{none_some}
use Rattle.std.proofs.lemmas.Bool.{eqb-true}

bytes_range : (o : Option (List ℕ)) (offset size n : ℕ) → is_some o ≡ true → IsAsLong n o → offset + size ≤ n → HasRange o offset size
bytes_range None offset size n some long fits = cc
bytes_range (Some xs) offset size n some long fits = omega (arith, long, fits)

entry_range : (p : Properties) (t : ℕ) (b : Block) (e : Option Entry) (offset size : ℕ) → is_mapped p t ≡ true → HasEntry (IsBlockEntry p) t b e → IsWhole e → offset + size ≤ size_of b → HasRange
    (entry_bytes e) offset size
entry_range p t b None offset size mapped entry whole fits = absurd entry
entry_range p t b (Some e) offset size mapped entry whole fits = bytes_range e.bytes offset size e.size (entry.2 ∙ mapped) whole (omega (arith, entry.0, fits))

no_bytes : (o : Option (List ℕ)) → is_some o ≡ false → o ≡ None
no_bytes None e = refl
no_bytes (Some xs) e = cc

no_entry_range : (p : Properties) (t : ℕ) (b : Block) (e : Option Entry) → is_mapped p t ≡ false → HasEntry (IsBlockEntry p) t b e → entry_bytes e ≡ None
no_entry_range p t b None mapped entry = refl
no_entry_range p t b (Some e) mapped entry = no_bytes e.bytes (entry.2 ∙ mapped)

module _ (p : Properties) (first held : Held) (ss : Slots) (sound : BlocksWellFormed p.granularity ss) (h : HoldsJustLiveBlocks p first held ss) (t : ℕ) (piece : Piece DeviceMemory) where
  number_is : (s : Slot DeviceMemory) → is_same_memory s.handle piece.handle ≡ true → s.handle.0 ≡ piece.handle.0
  number_is s same = eqb-true s.handle.0 piece.handle.0 same

  inside : (x : Option (Slot DeviceMemory)) → slot_at (slots_at ss t) piece.slot ≡ x → ((n : ℕ) → IsWhole (get held n)) → is_mapped p t ≡ true → SlotHolds is_same_memory piece x
      → HasRange (bytes_of held piece.handle.0) piece.offset piece.size
  inside None at whole mapped live = absurd live
  inside (Some s) at whole mapped live =
      let b = s.block in
      let sound_here : SlotIsSound p.granularity (Some s) = subst (SlotIsSound p.granularity) at (sound t piece.slot) in
      let fits = extent_inside b live.1.0 sound_here.1 live.1.1 in
      subst (λ n. HasRange (bytes_of held n) piece.offset piece.size) (number_is s live.0)
      (entry_range p t b (get held s.handle.0) piece.offset piece.size mapped (h.blocks t piece.slot s at) (whole s.handle.0) (omega (arith, fits, live.1.4)))

  -- a live piece's range is there where its memory is mapped
  pub live_range : ((n : ℕ) → IsWhole (get held n)) → is_mapped p t ≡ true → IsLiveIn ss t (Some piece) → HasRange (bytes_of held piece.handle.0) piece.offset piece.size
  live_range whole mapped live = inside (slot_at (slots_at ss t) piece.slot) refl whole mapped live

  unmapped : (x : Option (Slot DeviceMemory)) → slot_at (slots_at ss t) piece.slot ≡ x → is_mapped p t ≡ false → SlotHolds is_same_memory piece x → bytes_of held piece.handle.0 ≡ None
  unmapped None at mapped live = absurd live
  unmapped (Some s) at mapped live =
      subst (λ n. bytes_of held n ≡ None) (number_is s live.0) (no_entry_range p t s.block (get held s.handle.0) mapped (h.blocks t piece.slot s at))

  -- and has no bytes where it isn't
  pub live_unmapped : is_mapped p t ≡ false → IsLiveIn ss t (Some piece) → bytes_of held piece.handle.0 ≡ None
  live_unmapped mapped live = unmapped (slot_at (slots_at ss t) piece.slot) refl mapped live

false_true : false ≡ true → ⊥
false_true e = cc

pub some_copied : (r : Option (Bor (List ℕ))) → IsSome (option_copied r) → IsSome r
some_copied None h = h
some_copied (Some s) h = refl

pub copied_some : (r : Option (Bor (List ℕ))) → IsSome r → IsSome (option_copied r)
copied_some None h = h
copied_some (Some s) h = refl

none_copied : (r : Option (Bor (List ℕ))) → option_copied r ≡ None → IsSome r → ⊥
none_copied None e some = false_true some
none_copied (Some s) e some = none_some s.now (sym e)

no_range : (b : Option (List ℕ)) (o l : ℕ) → b ≡ None → range_in o l b ≡ None
no_range None o l e = refl
no_range (Some xs) o l e = cc

abbrev pub piece_with : Allocation → Option NonZeroU64 → Option (Piece DeviceMemory)
piece_with a chunk = option_map (λ n. record { slot = a.memory_block_index; chunk_id = n; offset = a.offset; size = a.size; handle = a.device_memory }) chunk

module _ (p : Properties) (first held : Held) (ss : Slots) (sound : BlocksWellFormed p.granularity ss) (h : HoldsJustLiveBlocks p first held ss) (whole : (n : ℕ) → IsWhole (get held n))
    (a : Allocation) where
  range_told : (chunk : Option NonZeroU64) (m : Bool) → is_mapped p a.memory_type_index ≡ m → a.chunk_id ≡ chunk → IsLiveIn ss a.memory_type_index (piece_with a chunk)
      → (r : Option (Bor (List ℕ))) → option_copied r ≡ range_of held a.device_memory.0 a.offset a.size
      → (IsSome r → IsMapped p ss a) × (IsMapped p ss a → IsSome r)
  range_told None m mapped chunk live r told = absurd live
  range_told (Some n) true mapped chunk live r told =
      let piece : Piece DeviceMemory = record { slot = a.memory_block_index; chunk_id = n; offset = a.offset; size = a.size; handle = a.device_memory } in
      let there = live_range p first held ss sound h a.memory_type_index piece whole mapped live in (
        λ some. (subst (λ c. IsLiveIn ss a.memory_type_index (piece_with a c)) (sym chunk) live, mapped),
        λ _. some_copied r (subst (λ o. IsSome o) (sym told) (range_from (bytes_of held a.device_memory.0) a.offset a.size there)),
      )
  range_told (Some n) false mapped chunk live r told =
      let piece : Piece DeviceMemory = record { slot = a.memory_block_index; chunk_id = n; offset = a.offset; size = a.size; handle = a.device_memory } in
      let none = live_unmapped p first held ss sound h a.memory_type_index piece mapped live in (
        λ some. absurd (none_copied r (told ∙ no_range (bytes_of held a.device_memory.0) a.offset a.size none) some),
        λ both. absurd (false_true (sym mapped ∙ both.1)),
      )

  -- what the device lends of a live allocation's place is there exactly where its memory is mapped
  pub lent_where_mapped : IsLive ss a → (r : Option (Bor (List ℕ))) → option_copied r ≡ range_of held a.device_memory.0 a.offset a.size
      → (IsSome r → IsMapped p ss a) × (IsMapped p ss a → IsSome r)
  lent_where_mapped live r told = range_told a.chunk_id (is_mapped p a.memory_type_index) refl refl live r told
