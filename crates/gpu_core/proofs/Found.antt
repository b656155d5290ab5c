-- A look for a piece by its number, and what a release or a renaming that succeeds says of it.
use Rattle.std.proofs.Common.{◌≡◌, ◌≢◌, ℕ, ◌+◌, ◌⊎◌, Bool, List, [], ◌∷◌, refl, sym, ◌∙◌, ap, inl, inr, arith, Option, Some, None}
use Rattle.std.specs.Prelude.{Contains, All, Result, Ok, Err, OnOk, OnErr, IfOk, IfErr, IfSome, IsSome}
use Rattle.std.proofs.lemmas.Bool.{false≢true}
use Rattle.std.specs.Int.NonZero.{non_zero_u64_get}
use Rattle.std.proofs.lemmas.List.Elements.{All-nil, All-cons, All-contains}
use Rattle.std.specs.Option.{option_to_list}
use Rattle.gpu_block_pieces.specs.Changes.{Said}
use Rattle.gpu_block_pieces.specs.FreeList.{Extent}
use Rattle.gpu_block.specs.Dedicated.{Dedicated, held_extents, IsWhole}
use Rattle.gpu_block.specs.Block.{Block, free_list, dedicated, extents_of, IsSoundBlock, HoldsPiece, ReleasesIn, RelabelsIn}
use Rattle.gpu_core.specs.TypeState.{Slot}
use Rattle.gpu_core.specs.TypeRelease.{SlotHolds}
use Rattle.gpu_core.specs.Slots.{Finds}
use Rattle.gpu_core.specs.declared.piece.Piece.{Piece}
use Rattle.gpu_core.specs.declared.slot.Finding.{Finding}
use Rattle.gpu_core.specs.declared.slot.Finding.TheVariants as findings

pub only_one : (o : Option Extent) (x y : Extent) → Contains (option_to_list o) x → Contains (option_to_list o) y → x ≡ y
only_one None x y h k = (let l = h.1 in absurd (omega arith))
only_one (Some z) x y h k =
    let all : All (λ w. w ≡ z) (z ∷ []) = All-cons (λ w. w ≡ z) z [] refl (All-nil (λ w. w ≡ z)) in
    All-contains (λ w. w ≡ z) (z ∷ []) x all h ∙ sym (All-contains (λ w. w ≡ z) (z ∷ []) y all k)

-- a number is one live piece's
pub one_in : (b : Block) (x y : Extent) → IsSoundBlock b → Contains (extents_of b) x → Contains (extents_of b) y → x.chunk_id ≡ y.chunk_id → x ≡ y
one_in (free_list b) x y sound h k e = sound.one_number x y h k e
one_in (dedicated b) x y sound h k e = only_one b.piece x y h k

-- another place under the number is another record
pub other_place : {H : Type 0} (eq : H → H → Bool) (p : Piece H) (s : Slot H) (offset size : ℕ) → IsSoundBlock s.block → HoldsPiece s.block (non_zero_u64_get p.chunk_id) offset size →
    (offset ≢ p.offset) ⊎ (size ≢ p.size) → SlotHolds eq p (Some s) → ⊥
other_place eq p s offset size sound x differ h =
    let y = h.1 in
    let same : x.0 ≡ y.0 = one_in s.block x.0 y.0 sound x.1 y.1 (x.2 ∙ sym y.2) in
    let o : offset ≡ p.offset = sym x.3 ∙ (ap (λ z. z.offset) same ∙ y.3) in
    let e : offset + size ≡ p.offset + p.size = sym x.4 ∙ (ap (λ z. z.end) same ∙ y.4) in
    elim differ [ inl ne ↦ ne o | inr ne ↦ ne (omega arith) ]

held_in : (o : Option Extent) (size n : ℕ) → IfSome o (λ x. (x.start ≡ 0) × (x.offset ≡ 0) × (x.end ≡ size) × (x.chunk_id ≡ 1)) → IsSome o → n ≡ 1 →
    ((x : Extent) → Contains (option_to_list o) x → x.chunk_id ≡ n → ⊥) → ⊥
held_in None size n whole some one none = false≢true some
held_in (Some z) size n whole some one none = none z (0, omega arith, refl) (whole.3 ∙ sym one)

pub dedicated_held : (d : Dedicated) (n : ℕ) → IsWhole d → IsSome d.piece → n ≡ 1 → ((x : Extent) → Contains (held_extents d) x → x.chunk_id ≡ n → ⊥) → ⊥
dedicated_held d n whole some one none = held_in d.piece d.size n whole some one none

released_held : (b : Block) (n : ℕ) (after : Block) → IsSoundBlock b → ReleasesIn b n after → ((x : Extent) → Contains (extents_of b) x → x.chunk_id ≡ n → ⊥) → ⊥
released_held (free_list b) n (free_list after) sound t none = none t.gone t.held t.numbered
released_held (free_list b) n (dedicated after) sound t none = t
released_held (dedicated b) n (free_list after) sound t none = t
released_held (dedicated b) n (dedicated after) sound t none = dedicated_held b n sound t.0 t.1 none

renamed_held : (b : Block) (n : ℕ) (said : Said) (after : Block) → IsSoundBlock b → RelabelsIn b n said after → ((x : Extent) → Contains (extents_of b) x → x.chunk_id ≡ n → ⊥) → ⊥
renamed_held (free_list b) n said (free_list after) sound t none = none t.held.0 t.held.1 t.held.2
renamed_held (free_list b) n said (dedicated after) sound t none = t
renamed_held (dedicated b) n said (free_list after) sound t none = t
renamed_held (dedicated b) n said (dedicated after) sound t none = dedicated_held b n sound t.0 t.1 none

-- what succeeds under a number that was looked for, and not found to be another's, was the piece's own
pub released_live : {H : Type 0} (eq : H → H → Bool) (p : Piece H) (s : Slot H) (f : Finding) (after : Block) → Finds eq p s f → (f ≡ findings.Other → ⊥) → IsSoundBlock s.block → ReleasesIn s.block
    (non_zero_u64_get p.chunk_id) after → SlotHolds eq p (Some s)
released_live eq p s findings.Piece after h other sound t = h
released_live eq p s findings.Other after h other sound t = absurd (other refl)
released_live eq p s findings.Nothing after h other sound t = absurd (released_held s.block (non_zero_u64_get p.chunk_id) after sound t h)

pub renamed_live : {H : Type 0} (eq : H → H → Bool) (p : Piece H) (s : Slot H) (f : Finding) (said : Said) (after : Block) → Finds eq p s f → (f ≡ findings.Other → ⊥) → IsSoundBlock s.block →
    RelabelsIn s.block (non_zero_u64_get p.chunk_id) said after → SlotHolds eq p (Some s)
renamed_live eq p s findings.Piece said after h other sound t = h
renamed_live eq p s findings.Other said after h other sound t = absurd (other refl)
renamed_live eq p s findings.Nothing said after h other sound t = absurd (renamed_held s.block (non_zero_u64_get p.chunk_id) said after sound t h)

-- a look that doesn't find the piece
pub not_found : {H : Type 0} (eq : H → H → Bool) (p : Piece H) (s : Slot H) (f : Finding) → Finds eq p s f → (f ≡ findings.Piece → ⊥) → SlotHolds eq p (Some s) → ⊥
not_found eq p s findings.Piece h other live = other refl
not_found eq p s findings.Other h other live = h.0 live
not_found eq p s findings.Nothing h other live = let x = live.1 in h x.0 x.1 x.2

-- ---- facts of a result

pub on_ok : {V E : Type 0} (r : Result V E) (P Q : Type 0) → OnOk r P → (P → Q) → OnOk r Q
on_ok (Ok v) P Q p f = f p
on_ok (Err e) P Q p f = tt

pub on_error : {V E : Type 0} (r : Result V E) (P Q : Type 0) → OnErr r P → (P → Q) → OnErr r Q
on_error (Ok v) P Q p f = tt
on_error (Err e) P Q p f = f p

pub if_error : {V E : Type 0} (r : Result V E) (P Q : E → Type 0) → IfErr r P → ((e : E) → P e → Q e) → IfErr r Q
if_error (Ok v) P Q p f = tt
if_error (Err e) P Q p f = f e p

pub if_ok : {V E : Type 0} (r : Result V E) (P Q : V → Type 0) → IfOk r P → ((v : V) → P v → Q v) → IfOk r Q
if_ok (Ok v) P Q p f = f v p
if_ok (Err e) P Q p f = tt

-- what holds where a call succeeds, and where it is refused
pub either_way : {V E : Type 0} (r : Result V E) (P Q : Type 0) → OnOk r P → OnErr r Q → (Q → P) → P
either_way (Ok v) P Q p q f = p
either_way (Err e) P Q p q f = f q
