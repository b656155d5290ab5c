-- What a memory type makes of a request, of the device's memory, and of a piece that is given back, has one outcome.
use Rattle.std.proofs.Common.{◌≡◌, ℕ, ◌<◌, Bool, true, false, cond, List, [], ◌∷◌, ◌≤◌, zero, suc, length, slice_index_or, refl, sym, ◌∙◌, ap, subst, inl, inr, arith, Option, Some, None, slice_set}
use Rattle.std.proofs.lemmas.Bool.{false≢true, cases_eq, cases_lt}
use Rattle.std.proofs.Math.Bridge.{le_prop}
use Rattle.std.proofs.Math.Path.{to_path_p}
use Rattle.std.specs.Prelude.{Contains, IfSome}
use Rattle.std.specs.Option.{option_to_list}
use Rattle.std.specs.Int.NonZero.{non_zero_u64_get}
use Rattle.std.specs.declared.num.NonZeroU64.{NonZeroU64}
use Rattle.gpu_block_pieces.specs.Changes.{Said}
use Rattle.gpu_block_pieces.specs.FreeList.{Extent}
use Rattle.gpu_block_pieces.specs.Request.{Request}
use Rattle.gpu_values.specs.Sizes.{Sizes}
use Rattle.gpu_block.specs.Block.{Block, free_list, dedicated, is_shared, TakesIn, IsSoundBlock, IsReleaseRefusalIn, IsRenameRefusalIn, extents_of}
use Rattle.gpu_core.specs.TypeState.{Slot, TypeState, slot_at}
use Rattle.gpu_core.specs.TypeTake.{PreparesPiece, CannotServe, BlockCannotServe, Pending, NeedsBlock, Installs, has_dedicated_block, fresh_block, next_shared_size}
use Rattle.gpu_core.specs.TypeRelease.{IsFreeRefusal, IsNameRefusal, Goes, SlotReleases, ReleasesPiece, SlotRelabels, RelabelsPiece}
use Rattle.gpu_values.specs.Refusal.{Refusal, host_out_of_memory}
use Rattle.gpu_core.specs.Slots.{AreSound, SlotIsSound}
use Rattle.gpu_core.proofs.Found.{only_one}
use Rattle.gpu_core.specs.declared.piece.Piece.{Piece}
use Rattle.gpu_block.proofs.Blocks.{take_once_in, release_once_in, relabel_once_in}
use Rattle.gpu_block_pieces.proofs.OneOutcome.{takes_or_none}

numbers_alike : (a b : NonZeroU64) → non_zero_u64_get a ≡ non_zero_u64_get b → a ≡ b
numbers_alike a b e = λ i. record { value = e i; ok = to_path_p (λ j. 1 ≤ e j) {a = a.ok} {b = b.ok} (le_prop _ b.ok) i }

pieces_alike : {H : Type 0} (p q : Piece H) → p.slot ≡ q.slot → non_zero_u64_get p.chunk_id ≡ non_zero_u64_get q.chunk_id → p.offset ≡ q.offset → p.size ≡ q.size → p.handle ≡ q.handle → p ≡ q
pieces_alike p q s n o z b =
    let m = numbers_alike p.chunk_id q.chunk_id n in
    λ i. record { slot = s i; chunk_id = m i; offset = o i; size = z i; handle = b i }

some_alike : {X : Type 0} (x y : X) → Some x ≡ Some y → x ≡ y
some_alike x y e = cc

-- ---- a shared block serves

block_of_sound : {H : Type 0} (g : ℕ) (slots : List (Option (Slot H))) (i : ℕ) (s : Slot H) → AreSound g slots → slot_at slots i ≡ Some s → IsSoundBlock s.block
block_of_sound g slots i s sound at = (subst (SlotIsSound g) at (sound i)).1

-- a block that takes the request can serve it
served_or_not : (b : Block) (r : Request) (o n : ℕ) (new : Block) → is_shared b ≡ true → TakesIn b r o n new → BlockCannotServe r b → ⊥
served_or_not (free_list b) r o n (free_list new) shared t none = takes_or_none b r o n new t none
served_or_not (free_list b) r o n (dedicated new) shared t none = t
served_or_not (dedicated b) r o n new shared t none = false≢true shared

pub slot_served : {H : Type 0} (old : List (Option (Slot H))) (r : Request) (p : Piece H) (new : List (Option (Slot H))) → PreparesPiece old r p new → CannotServe r (slot_at old p.slot) → ⊥
slot_served old r p new t none = served_or_not t.slot.block r p.offset (non_zero_u64_get p.chunk_id) t.after t.shared t.takes (subst (CannotServe r) t.at none)

one_slot : {H : Type 0} (old : List (Option (Slot H))) (r : Request) (p q : Piece H) (new next : List (Option (Slot H))) → PreparesPiece old r p new → PreparesPiece old r q next → p.slot ≡ q.slot
one_slot old r p q new next t u =
    elim (cases_eq p.slot q.slot) [
      | inl e ↦ e
      | inr ne ↦
          elim (cases_lt p.slot q.slot) [
            | inl lt ↦ absurd (slot_served old r q next u (t.highest q.slot lt))
            | inr ge ↦ absurd (slot_served old r p new t (u.highest p.slot (omega arith)))
          ]
    ]

pub prepared_once : {H : Type 0} (g : ℕ) (old : List (Option (Slot H))) (r : Request) (p q : Piece H) (new next : List (Option (Slot H))) → AreSound g old → PreparesPiece old r p new → PreparesPiece
    old r q next → (p ≡ q) × (new ≡ next)
prepared_once {H} g old r p q new next sound t u =
    let at = one_slot old r p q new next t u in
    let same : t.slot ≡ u.slot = some_alike t.slot u.slot (sym t.at ∙ (ap (slot_at old) at ∙ u.at)) in
    let other : TakesIn t.slot.block r q.offset (non_zero_u64_get q.chunk_id) u.after = subst (λ (s : Slot H). TakesIn s.block r q.offset (non_zero_u64_get q.chunk_id) u.after) (sym same) u.takes in
    let once = take_once_in t.slot.block r p.offset q.offset (non_zero_u64_get p.chunk_id) (non_zero_u64_get q.chunk_id) t.after u.after (block_of_sound g old p.slot t.slot sound t.at) t.takes other in
    let after = once.2 in (
      pieces_alike p q at once.1 once.0 (t.size ∙ sym u.size) (t.handle ∙ (ap (λ (s : Slot H). s.handle) same ∙ sym u.handle)),
      t.slots ∙ ((λ i. slice_set old (at i) (Some (record { handle = (same i).handle; block = after i }))) ∙ sym u.slots),
    )

-- ---- a block is needed

one_element : (x y : ℕ × ℕ) (i : ℕ) → i < length (x ∷ []) → slice_index_or (x ∷ []) i y ≡ y → y.1 ≡ x.1
one_element x y zero h e = ap (λ (p : ℕ × ℕ). p.1) (sym e)
one_element x y (suc i) h e = absurd (omega arith)

number_of_one : (s k : ℕ) → Contains {X = ℕ × ℕ} ((0, 1) ∷ []) (s, k) → k ≡ 1
number_of_one s k h = one_element (0, 1) (s, k) h.0 h.1 h.2

pub fresh_sound : (is_dedicated : Bool) (size g : ℕ) → IsSoundBlock (fresh_block is_dedicated size g)
fresh_sound true size g = tt
fresh_sound false size g =
    record {
      within = λ k x h. absurd (omega arith);
      apart = λ x y h k. absurd (let l = h.1 in omega arith);
      one_number = λ x y h k e. absurd (let l = h.1 in omega arith);
      one_gap = λ s k m a b. number_of_one s k a ∙ sym (number_of_one s m b);
    }

ready_alike : (a b : Pending) → a.block ≡ b.block → a.offset ≡ b.offset → a.chunk_id ≡ b.chunk_id → a.size ≡ b.size → a ≡ b
ready_alike a b x o n z = λ i. record { block = x i; offset = o i; chunk_id = n i; size = z i }

pub needed_once : {H : Type 0} (t : TypeState H) (sizes : Sizes) (own : Bool) (r : Request) (size other : ℕ) (is_dedicated kind : Bool) (ready next : Pending) → NeedsBlock t sizes own r size
    is_dedicated ready → NeedsBlock t sizes own r other kind next → (size ≡ other) × (is_dedicated ≡ kind) × (ready ≡ next)
needed_once t sizes own r size other is_dedicated kind ready next a b =
    let kinds = a.kind ∙ sym b.kind in
    let sized : size ≡ other = a.size_is ∙ (ap (λ k. cond k r.size (next_shared_size t sizes)) kinds ∙ sym b.size_is) in
    let fresh : fresh_block is_dedicated size t.granularity ≡ fresh_block kind other t.granularity = λ i. fresh_block (kinds i) (sized i) t.granularity in
    let taken : TakesIn (fresh_block is_dedicated size t.granularity) r next.offset next.chunk_id next.block = subst (λ x. TakesIn x r next.offset next.chunk_id next.block) (sym fresh) b.takes in
    let once = take_once_in (fresh_block is_dedicated size t.granularity) r ready.offset next.offset ready.chunk_id next.chunk_id ready.block next.block (fresh_sound is_dedicated size t.granularity)
    a.takes taken in
    (sized, kinds, ready_alike ready next once.2 once.0 once.1 (a.piece ∙ sym b.piece))

pub serves_or_needs : {H : Type 0} (t : TypeState H) (sizes : Sizes) (own : Bool) (r : Request) (p : Piece H) (new : List (Option (Slot H))) (size : ℕ) (is_dedicated : Bool) (ready : Pending) →
    has_dedicated_block t sizes own r.size ≡ false → PreparesPiece t.slots r p new → NeedsBlock t sizes own r size is_dedicated ready → ⊥
serves_or_needs t sizes own r p new size is_dedicated ready shared s n = slot_served t.slots r p new s (n.none (n.kind ∙ shared) p.slot)

pub installed_once : {H : Type 0} (old : List (Option (Slot H))) (is_dedicated : Bool) (ready : Pending) (handle : H) (p q : Piece H) (new next : List (Option (Slot H))) → Installs old is_dedicated
    ready handle p new → Installs old is_dedicated ready handle q next → (p ≡ q) × (new ≡ next)
installed_once old is_dedicated ready handle p q new next a b = (
  pieces_alike p q (a.slot ∙ sym b.slot) (a.piece.1 ∙ sym b.piece.1) (a.piece.0 ∙ sym b.piece.0) (a.piece.2 ∙ sym b.piece.2) (a.piece.3 ∙ sym b.piece.3),
  a.slots ∙ sym b.slots,
)

-- ---- a piece is given back

slots_alike : {H : Type 0} (s q : Slot H) → s.handle ≡ q.handle → s.block ≡ q.block → s ≡ q
slots_alike s q n b = λ i. record { handle = n i; block = b i }

slot_released_once : {H : Type 0} (g : ℕ) (several : Type 0) (n : ℕ) (old : Option (Slot H)) (went goes : Option H) (new next : Option (Slot H)) → SlotIsSound g old → SlotReleases several n old went
    new → SlotReleases several n old goes next → (went ≡ goes) × (new ≡ next)
slot_released_once g several n None went goes new next sound t u = absurd t
slot_released_once g several n (Some old) went goes (Some new) (Some next) sound t u =
    (t.0 ∙ sym u.0, ap Some (slots_alike new next (t.1 ∙ sym u.1) (release_once_in old.block n new.block next.block sound.1 t.2 u.2)))
slot_released_once g several n (Some old) went goes (Some new) None sound t u =
    absurd (t.3 (subst (Goes several) (release_once_in old.block n u.1.0 new.block sound.1 u.1.1 t.2) u.1.2))
slot_released_once g several n (Some old) went goes None (Some next) sound t u =
    absurd (u.3 (subst (Goes several) (release_once_in old.block n t.1.0 next.block sound.1 t.1.1 u.2) t.1.2))
slot_released_once g several n (Some old) went goes None None sound t u = (t.0 ∙ sym u.0, refl)

pub released_once : {H : Type 0} (g : ℕ) (several : Type 0) (old : List (Option (Slot H))) (p : Piece H) (went goes : Option H) (new next : List (Option (Slot H))) → AreSound g old → ReleasesPiece
    several old p went new → ReleasesPiece several old p goes next → (went ≡ goes) × (new ≡ next)
released_once g several old p went goes new next sound t u =
    let once = slot_released_once g several (non_zero_u64_get p.chunk_id) (slot_at old p.slot) went goes t.slot u.slot (sound p.slot) t.releases u.releases in
    (once.0, t.slots ∙ (ap (slice_set old p.slot) once.1 ∙ sym u.slots))

-- ---- a piece has another name

slot_renamed_once : {H : Type 0} (n : ℕ) (said : Said) (old new next : Option (Slot H)) → SlotRelabels n said old new → SlotRelabels n said old next → new ≡ next
slot_renamed_once n said None new next t u = absurd t
slot_renamed_once n said (Some old) (Some new) (Some next) t u =
    ap Some (slots_alike new next (t.0 ∙ sym u.0) (relabel_once_in old.block n said new.block next.block t.1 u.1))
slot_renamed_once n said (Some old) (Some new) None t u = absurd u
slot_renamed_once n said (Some old) None next t u = absurd t

pub renamed_once : {H : Type 0} (old : List (Option (Slot H))) (p : Piece H) (said : Said) (new next : List (Option (Slot H))) → RelabelsPiece old p said new → RelabelsPiece old p said next → new ≡
    next
renamed_once old p said new next t u =
    t.slots ∙ (ap (slice_set old p.slot) (slot_renamed_once (non_zero_u64_get p.chunk_id) said (slot_at old p.slot) t.slot u.slot t.renames u.renames) ∙ sym u.slots)

-- ---- why a piece isn't given back

some_in : (o : Option Extent) (n : ℕ) → IfSome o (λ x. x.chunk_id ≡ 1) → (x : Extent) → Contains (option_to_list o) x → x.chunk_id ≡ n → (n ≡ 1) × (o ≡ None → ⊥)
some_in None n whole x h e = let l = h.1 in absurd (omega arith)
some_in (Some y) n whole x h e = (sym e ∙ ap (λ (z : Extent). z.chunk_id) (only_one (Some y) x y h (0, omega arith, refl)) ∙ whole, λ none. some_none y none)
  where
    some_none : (z : Extent) → Some z ≡ None → ⊥
    some_none z k = cc

whole_number : (o : Option Extent) (size : ℕ) → IfSome o (λ x. (x.start ≡ 0) × (x.offset ≡ 0) × (x.end ≡ size) × (x.chunk_id ≡ 1)) → IfSome o (λ x. x.chunk_id ≡ 1)
whole_number None size w = tt
whole_number (Some x) size w = w.3

-- no number is both refused by the block and that of a live piece
refused_not_held : (b : Block) (n : NonZeroU64) (r : Refusal) → IsSoundBlock b → IsReleaseRefusalIn b (Some n) r → (x : Extent) → Contains (extents_of b) x → x.chunk_id ≡ non_zero_u64_get n → ⊥
refused_not_held (free_list b) n r sound h x held e = h.1 (x, held, e)
refused_not_held (dedicated b) n r sound h x held e =
    let w = some_in b.piece (non_zero_u64_get n) (whole_number b.piece b.size sound) x held e in
    elim h [ inl a ↦ a.0 w.0 | inr a ↦ w.1 a.1 ]

block_refusal_once : (b : Block) (n : NonZeroU64) (r s : Refusal) → IsReleaseRefusalIn b (Some n) r → IsReleaseRefusalIn b (Some n) s → r ≡ s
block_refusal_once (free_list b) n r s h k = h.0 ∙ sym k.0
block_refusal_once (dedicated b) n r s h k =
    elim h [
      | inl a ↦ elim k [ inl c ↦ a.1 ∙ sym c.1 | inr c ↦ absurd (a.0 c.0) ]
      | inr a ↦ elim k [ inl c ↦ absurd (c.0 a.0) | inr c ↦ a.2 ∙ sym c.2 ]
    ]

pub refusal_once : {H : Type 0} (eq : H → H → Bool) (g : ℕ) (p : Piece H) (old : Option (Slot H)) (r s : Refusal) → SlotIsSound g old → IsFreeRefusal eq p old r → IsFreeRefusal eq p old s → r ≡ s
refusal_once eq g p None r s sound h k = h ∙ sym k
refusal_once eq g p (Some o) r s sound h k =
    elim h [
      | inl a ↦ elim k [ inl c ↦ block_refusal_once o.block p.chunk_id r s a c | inr c ↦ absurd (refused_not_held o.block p.chunk_id r sound.1 a c.1.0 c.1.1 c.1.2) ]
      | inr a ↦ elim k [ inl c ↦ absurd (refused_not_held o.block p.chunk_id s sound.1 c a.1.0 a.1.1 a.1.2) | inr c ↦ a.2 ∙ sym c.2 ]
    ]

-- ---- why a piece isn't named, where host memory isn't why

block_name_refusal_once : (b : Block) (n : NonZeroU64) (r s : Refusal) → (r ≡ host_out_of_memory → ⊥) → (s ≡ host_out_of_memory → ⊥) → IsRenameRefusalIn b (Some n) r → IsRenameRefusalIn b (Some n) s
    → r ≡ s
block_name_refusal_once (free_list b) n r s nr ns h k =
    elim h [
      | inl a ↦ elim k [ inl c ↦ a.1 ∙ sym c.1 | inr c ↦ absurd (ns c.1) ]
      | inr a ↦ absurd (nr a.1)
    ]
block_name_refusal_once (dedicated b) n r s nr ns h k =
    elim h [
      | inr a ↦ absurd (nr a.2)
      | inl a ↦ elim k [
        | inr c ↦ absurd (ns c.2)
        | inl c ↦ elim a [
          | inl x ↦ elim c [ inl y ↦ x.1 ∙ sym y.1 | inr y ↦ absurd (x.0 y.0) ]
          | inr x ↦ elim c [ inl y ↦ absurd (y.0 x.0) | inr y ↦ x.2 ∙ sym y.2 ]
        ]
      ]
    ]

name_not_held : (b : Block) (n : NonZeroU64) (r : Refusal) → IsSoundBlock b → (r ≡ host_out_of_memory → ⊥) → IsRenameRefusalIn b (Some n) r → (x : Extent) → Contains (extents_of b) x → x.chunk_id ≡
    non_zero_u64_get n → ⊥
name_not_held (free_list b) n r sound nr h x held e = elim h [ inl a ↦ a.0 (x, held, e) | inr a ↦ nr a.1 ]
name_not_held (dedicated b) n r sound nr h x held e =
    let w = some_in b.piece (non_zero_u64_get n) (whole_number b.piece b.size sound) x held e in
    elim h [
      | inr a ↦ nr a.2
      | inl a ↦ elim a [ inl y ↦ y.0 w.0 | inr y ↦ w.1 y.1 ]
    ]

pub name_refusal_once : {H : Type 0} (eq : H → H → Bool) (g : ℕ) (p : Piece H) (old : Option (Slot H)) (r s : Refusal) → SlotIsSound g old → (r ≡ host_out_of_memory → ⊥) →
    (s ≡ host_out_of_memory → ⊥) → IsNameRefusal eq p old r → IsNameRefusal eq p old s → r ≡ s
name_refusal_once eq g p None r s sound nr ns h k = h ∙ sym k
name_refusal_once eq g p (Some o) r s sound nr ns h k =
    elim h [
      | inl a ↦ elim k [ inl c ↦ block_name_refusal_once o.block p.chunk_id r s nr ns a c | inr c ↦ absurd (name_not_held o.block p.chunk_id r sound.1 nr a c.1.0 c.1.1 c.1.2) ]
      | inr a ↦ elim k [ inl c ↦ absurd (name_not_held o.block p.chunk_id s sound.1 ns c a.1.0 a.1.1 a.1.2) | inr c ↦ a.2 ∙ sym c.2 ]
    ]
