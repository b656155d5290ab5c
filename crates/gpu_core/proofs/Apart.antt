-- Live pieces lie inside their blocks, share no byte, and keep to pages of their kind.
use Rattle.std.proofs.Common.{◌≡◌, ◌≢◌, ◌∙◌, ◌⊎◌, refl, sym, ap, subst, ℕ, ◌+◌, ◌-◌, ◌<◌, ◌≤◌, Bool, true, Option, Some, None, Contains, IfSome, arith, inl, inr, ⊎_elim}
use Rattle.std.specs.Option.{option_to_list}
use Rattle.std.specs.Int.NonZero.{non_zero_u64_get}
use Rattle.std.proofs.lemmas.Bool.{cases_eq}
use Rattle.std.proofs.lemmas.List.Elements.{All-contains}
use Rattle.gpu_block.specs.Block.{Block, free_list, dedicated, size_of, extents_of, IsSoundBlock, HasPages, HasPagesApart}
use Rattle.gpu_block_pieces.specs.FreeList.{Extent}
use Rattle.gpu_block_pieces.specs.Place.{page}
use Rattle.gpu_core.specs.Slots.{SlotIsSound}
use Rattle.gpu_core.specs.TypeRelease.{SlotHolds}
use Rattle.gpu_core.specs.TypeState.{Slot, slot_at}
use Rattle.gpu_core.specs.declared.piece.Piece.{Piece}
use Rattle.gpu_core.proofs.Found.{one_in, only_one}
use Rattle.gpu_block_pieces.proofs.Separation.{within_of}
use Rattle.gpu_values.specs.declared.allocation_type.AllocationType.{AllocationType}
use Rattle.gpu_core.specs.Apart.{EndsInside, IsInside, AreDistinct, SharesNoByte, pieces_in, HasKind, KeepsPages}
use Rattle.gpu_core.specs.Blocks.{Slots, slots_at, block_at}
use Rattle.gpu_core.specs.Live.{IsLiveIn}
use Rattle.gpu_core.proofs.Options.{some_same}

-- ---- one block

whole_end : (o : Option Extent) (size : ℕ) (x : Extent) → IfSome o (λ y. (y.start ≡ 0) × (y.offset ≡ 0) × (y.end ≡ size) × (y.chunk_id ≡ 1)) → Contains (option_to_list o) x → x.end ≡ size
whole_end None size x whole h = (let l = h.1 in absurd (omega (arith, l)))
whole_end (Some z) size x whole h = ap (λ (y : Extent). y.end) (only_one (Some z) x z h (0, omega arith, refl)) ∙ whole.2

-- an extent ends inside its block
pub extent_inside : (b : Block) (x : Extent) → IsSoundBlock b → Contains (extents_of b) x → x.end ≤ size_of b
extent_inside (free_list b) x sound within = (All-contains (λ y. (y.start ≤ y.offset) × (y.offset < y.end) × (y.end ≤ b.size)) b.extents x sound.within within).2
extent_inside (dedicated b) x sound within = let end = whole_end b.piece b.size x sound within in omega (arith, end)

-- two extents of a block are one, or share no byte
pub extents_apart : (b : Block) (x y : Extent) → IsSoundBlock b → Contains (extents_of b) x → Contains (extents_of b) y → (x ≡ y) ⊎ ((x.end ≤ y.offset) ⊎ (y.end ≤ x.offset))
extents_apart (dedicated b) x y sound at there = inl (only_one b.piece x y at there)
extents_apart (free_list b) x y sound at there =
    let P : Extent → Type 0 = λ z. (z.start ≤ z.offset) × (z.offset < z.end) × (z.end ≤ b.size) in
    let in_x = All-contains P b.extents x sound.within at in
    let in_y = All-contains P b.extents y sound.within there in
    ⊎_elim
    (λ same. inl same)
    (λ apart. inr (⊎_elim (λ below. inl (omega (arith, below, in_y.0))) (λ above. inr (omega (arith, above, in_x.0))) apart))
    (sound.apart x y at there)

-- extents of different kinds in one block
pub kinds_apart : (g : ℕ) (b : Block) → HasPages b g → IsSoundBlock b → HasPagesApart b → (x y : Extent) → Contains (extents_of b) x → Contains (extents_of b) y → x.kind ≢ y.kind → x.end ≤ y.offset
    → page g (x.end - 1) < page g y.offset
kinds_apart g (dedicated b) pages sound apart x y hx hy ne before = absurd (ne (ap (λ (z : Extent). z.kind) (only_one b.piece x y hx hy)))
kinds_apart g (free_list b) pages sound apart x y hx hy ne before =
    let wx = within_of b x sound hx in
    let wy = within_of b y sound hy in
    let first : x.end ≤ y.start =
    ⊎_elim
    (λ same. absurd (ne (ap (λ (z : Extent). z.kind) same)))
    (λ either. ⊎_elim (λ low. low) (λ high. absurd (omega (arith, high, before, wx.0, wx.1, wy.1))) either)
    (sound.apart x y hx hy) in
    subst (λ k. page k (x.end - 1) < page k y.offset) (sym pages) (apart x y hx hy ne first)

-- ---- live pieces

-- what the slot of a live piece holds
pub record Found {H : Type 0} (eq : H → H → Bool) (ss : Slots H) (t : ℕ) (p : Piece H) : Type 0 where
  pub s : Slot H
  pub at : block_at ss t p.slot ≡ Some s
  pub handle : eq s.handle p.handle ≡ true
  pub x : Extent
  pub held : Contains (extents_of s.block) x
  pub numbered : x.chunk_id ≡ non_zero_u64_get p.chunk_id
  pub begins : x.offset ≡ p.offset
  pub ends : x.end ≡ p.offset + p.size

found_in : {H : Type 0} (eq : H → H → Bool) (ss : Slots H) (t : ℕ) (p : Piece H) (o : Option (Slot H)) → block_at ss t p.slot ≡ o → SlotHolds eq p o → Found eq ss t p
found_in eq ss t p None at live = absurd live
found_in eq ss t p (Some s) at live = record {
  s = s;
  at = at;
  handle = live.0;
  x = live.1.0;
  held = live.1.1;
  numbered = live.1.2;
  begins = live.1.3;
  ends = live.1.4;
}

pub found : {H : Type 0} (eq : H → H → Bool) (ss : Slots H) (t : ℕ) (p : Piece H) → IsLiveIn eq ss t (Some p) → Found eq ss t p
found eq ss t p live = found_in eq ss t p (slot_at (slots_at ss t) p.slot) refl live

module _ {H : Type 0} (eq : H → H → Bool) (granularity : ℕ) (ss : Slots H) (t : ℕ) (sound : (i : ℕ) → SlotIsSound granularity (block_at ss t i)) where
  sound_here : (p : Piece H) (f : Found eq ss t p) → SlotIsSound granularity (Some f.s)
  sound_here p f = subst (SlotIsSound granularity) f.at (sound p.slot)

  pub piece_inside : (p : Piece H) → IsLiveIn eq ss t (Some p) → IsInside ss t p
  piece_inside p live =
      let f = found eq ss t p live in
      let fits = extent_inside f.s.block f.x (sound_here p f).1 f.held in
      subst (λ o. EndsInside o (p.offset + p.size)) (sym f.at) (omega (arith, fits, f.ends))

  -- the blocks of two pieces in one slot are one
  one_block : (p q : Piece H) (f : Found eq ss t p) (g : Found eq ss t q) → p.slot ≡ q.slot → f.s ≡ g.s
  one_block p q f g slot = some_same f.s g.s (sym f.at ∙ (ap (block_at ss t) slot ∙ g.at))

  in_one_slot : (p q : Piece H) → IsLiveIn eq ss t (Some p) → IsLiveIn eq ss t (Some q) → p.slot ≡ q.slot → non_zero_u64_get p.chunk_id ≢ non_zero_u64_get q.chunk_id
      → (p.offset + p.size ≤ q.offset) ⊎ (q.offset + q.size ≤ p.offset)
  in_one_slot p q live_p live_q slot differ =
      let f = found eq ss t p live_p in
      let g = found eq ss t q live_q in
      let y_in : Contains (extents_of f.s.block) g.x = subst (λ (s : Slot H). Contains (extents_of s.block) g.x) (sym (one_block p q f g slot)) g.held in
      ⊎_elim
      (λ alike. absurd (differ (sym f.numbered ∙ ap (λ (z : Extent). z.chunk_id) alike ∙ g.numbered)))
      (λ apart. ⊎_elim
      (λ below. inl (omega (arith, below, f.ends, g.begins)))
      (λ above. inr (omega (arith, above, g.ends, f.begins)))
      apart)
      (extents_apart f.s.block f.x g.x (sound_here p f).1 f.held y_in)

  -- the kind of a piece is that of its extent
  kind_is : (p : Piece H) (f : Found eq ss t p) (k : AllocationType) → HasKind ss t p k → f.x.kind ≡ k
  kind_is p f k has =
      let there : Contains (extents_of f.s.block) has.0 = subst (λ o. Contains (pieces_in o) has.0) f.at has.1 in
      let same : f.x ≡ has.0 = one_in f.s.block f.x has.0 (sound_here p f).1 f.held there (f.numbered ∙ sym has.2) in
      ap (λ (z : Extent). z.kind) same ∙ has.3

  pub pieces_pages : (p q : Piece H) → IsLiveIn eq ss t (Some p) → IsLiveIn eq ss t (Some q) → KeepsPages granularity ss t p q
  pieces_pages p q live_p live_q = λ slot j k has_j has_k ne before.
      let f = found eq ss t p live_p in
      let g = found eq ss t q live_q in
      let y_in : Contains (extents_of f.s.block) g.x = subst (λ (s : Slot H). Contains (extents_of s.block) g.x) (sym (one_block p q f g slot)) g.held in
      let good = sound_here p f in
      let differ : f.x.kind ≢ g.x.kind = λ e. ne (sym (kind_is p f j has_j) ∙ (e ∙ kind_is q g k has_k)) in
      subst (λ n. page granularity (p.offset + p.size - 1) < page granularity n) g.begins
      (subst (λ n. page granularity (n - 1) < page granularity g.x.offset) f.ends
      (kinds_apart granularity f.s.block good.0 good.1 good.2 f.x g.x f.held y_in differ (let ends = f.ends in let begins = g.begins in omega (arith, ends, begins, before))))

-- two live pieces share no byte
pub pieces_apart : {H : Type 0} (eq : H → H → Bool) (ss : Slots H) → ((t : ℕ) → (g : ℕ) × ((i : ℕ) → SlotIsSound g (block_at ss t i)))
    → (t : ℕ) (p : Piece H) (u : ℕ) (q : Piece H) → IsLiveIn eq ss t (Some p) → IsLiveIn eq ss u (Some q) → AreDistinct t p u q → SharesNoByte t p u q
pieces_apart {H} eq ss sound t p u q live_p live_q other =
    ⊎_elim
    (λ types. ⊎_elim
    (λ slots.
    let there : IsLiveIn eq ss t (Some q) = subst (λ v. IsLiveIn eq ss v (Some q)) (sym types) live_q in
    inr (in_one_slot eq (sound t).0 ss t (sound t).1 p q live_p there slots (λ e. other types slots e)))
    (λ away. inl (λ e slot. away slot))
    (cases_eq p.slot q.slot))
    (λ away. inl (λ e slot. away e))
    (cases_eq t u)
