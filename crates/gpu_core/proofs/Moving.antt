-- What a move leaves of a memory type, and that moves come to an end.
use Rattle.std.proofs.Common.{◌≡◌, ◌∙◌, refl, sym, ap, subst, ℕ, zero, suc, ◌+◌, ◌-◌, ◌*◌, ◌^◌, ◌<◌, ◌≤◌, Bool, true, false, cond, ltb, eqb, List, [], ◌∷◌, length, slice_get, slice_set, get_or, Option, Some, None, Ok, Err, Result, arith, inl, inr}
use Rattle.std.specs.Prelude.{filter, not, OnErr, IfOk, IfSome, IsNone, IsSome}
use Rattle.std.specs.Option.{option_to_list}
use Rattle.std.specs.Int.{IsPowerOfTwo}
use Rattle.std.specs.Int.NonZero.{non_zero_u64_get}
use Rattle.std.proofs.lemmas.Bool.{false≢true}
use Rattle.std.proofs.lemmas.List.{length-set}
use Rattle.gpu_values.specs.declared.error.AllocationError.{AllocationError}
use Rattle.gpu_block_pieces.specs.FreeList.{FreeList, Extent, IsGap}
use Rattle.gpu_block_pieces.specs.Request.{Request}
use Rattle.gpu_block_pieces.specs.Changes.{placed}
use Rattle.gpu_block_pieces.specs.Laws.{IsSound, IsLongEnough}
use Rattle.gpu_block_pieces.specs.Place.{HasNoPlace}
use Rattle.gpu_block_pieces.proofs.FitLaw.{fit_law}
use Rattle.gpu_block_pieces.proofs.Live.{piece_of}
use Rattle.gpu_block_pieces.proofs.OrderedLists.{eq_true}
use Rattle.gpu_block.specs.Dedicated.{Dedicated, held_extents}
use Rattle.gpu_block.specs.Block.{Block, free_list, dedicated, extents_of, is_shared, TakesIn, ReleasesIn}
use Rattle.gpu_core.specs.TypeState.{TypeState, Slot, slot_at}
use Rattle.gpu_core.specs.Blocks.{slots_at}
use Rattle.gpu_core.specs.Types.{Types, slots_of}
use Rattle.gpu_core.specs.TypeTake.{CannotServe, PreparesPiece}
use Rattle.gpu_core.specs.TypeRelease.{SlotReleases, ReleasesPiece}
use Rattle.gpu_core.specs.TypeInvariant.{AreKept}
use Rattle.gpu_core.specs.Slots.{AreSound, SlotIsSound}
use Rattle.gpu_core.specs.Moves.{ProposesMove, ProposesMoveAt, NoneAhead, slots_above, piece_count, moves_left}
use Rattle.gpu_core.specs.declared.piece.Piece.{Piece}
use Rattle.gpu_core.proofs.Kept.{prepared_kept, same_kept}
use Rattle.gpu_core.proofs.OneOutcome.{prepared_once, slot_served}
use Rattle.gpu_core.proofs.Passing.{none_behind}
use Rattle.gpu_core.proofs.Placed.{some_below}
use Rattle.gpu_core.proofs.Types.{slots_are, slots_set}
use Rattle.gpu_core.proofs.Changed.{same_slots}

-- ---- what a memory type keeps

pub proposed_kept : {H : Type 0} (g : ℕ) (slots : List (Option (Slot H))) (capacity shared : ℕ) (r : Request) (first : ℕ) (None' : Type 0) (result : Result (Option (Piece H)) AllocationError) (new : List (Option (Slot H)))
    → AreKept g slots capacity shared → AreSound g new
    → IfOk result (λ o. IfSome o (λ p. PreparesPiece slots r p new × (first ≤ p.slot)))
    → IfOk result (λ o. IsNone o → None' × (new ≡ slots))
    → OnErr result (new ≡ slots) → AreKept g new capacity shared
proposed_kept g slots capacity shared r first None' (Ok (Some p)) new kept sound took none refused = prepared_kept g slots capacity shared r p new kept sound took.0
proposed_kept g slots capacity shared r first None' (Ok None) new kept sound took none refused = same_kept g slots capacity shared new kept (none refl).1
proposed_kept g slots capacity shared r first None' (Err e) new kept sound took none refused = same_kept g slots capacity shared new kept refused

pub proposed : {H : Type 0} (slots : List (Option (Slot H))) (r : Request) (from : Piece H) (result : Result (Option (Piece H)) AllocationError) (new : List (Option (Slot H)))
    → IfOk result (λ o. IfSome o (λ p. PreparesPiece slots r p new × (from.slot + 1 ≤ p.slot)))
    → IfOk result (λ o. IfSome o (λ to. ProposesMove slots r from to new))
proposed slots r from (Ok (Some p)) new took = record { takes = took.0; ahead = (let a = took.1 in omega (arith, a)) }
proposed slots r from (Ok None) new took = tt
proposed slots r from (Err e) new took = tt

-- behind the last slot there is none ahead
pub none_past : {H : Type 0} (slots : List (Option (Slot H))) (r : Request) (slot : ℕ) → length slots ≤ slot → NoneAhead slots r slot
none_past slots r slot past i from = none_behind slots r i (omega (arith, past, from))

-- ---- how many pieces a block has

length_placed : {A : Type 0} (key : A → ℕ) (x : A) (xs : List A) → length (placed key x xs) ≡ length xs + 1
length_placed key x [] = refl
length_placed key x (y ∷ ys) =
    elim (ltb (key y) (key x)) as (λ b. length (cond b (y ∷ placed key x ys) (x ∷ y ∷ ys)) ≡ length (y ∷ ys) + 1) [
      | true ↦ (let rest = length_placed key x ys in omega (arith, rest))
      | false ↦ omega arith
    ]

filter_short : {A : Type 0} (p : A → Bool) (xs : List A) → length (filter p xs) ≤ length xs
filter_short p [] = omega arith
filter_short p (y ∷ ys) =
    elim (p y) as (λ b. length (cond b (y ∷ filter p ys) (filter p ys)) ≤ length (y ∷ ys)) [
      | true ↦ (let rest = filter_short p ys in omega (arith, rest))
      | false ↦ (let rest = filter_short p ys in omega (arith, rest))
    ]

-- one that fails the test is left out
filter_fewer : {A : Type 0} (p : A → Bool) (x : A) (xs : List A) (i : ℕ) → i < length xs → get_or xs i x ≡ x → p x ≡ false → length (filter p xs) + 1 ≤ length xs
filter_fewer p x [] i below at fails = absurd (omega (arith, below))
filter_fewer p x (y ∷ ys) zero below at fails =
    let short = filter_short p ys in
    subst (λ b. length (cond b (y ∷ filter p ys) (filter p ys)) + 1 ≤ length (y ∷ ys)) (sym (ap p at ∙ fails)) (omega (arith, short))
filter_fewer p x (y ∷ ys) (suc i) below at fails =
    let rest = filter_fewer p x ys i (omega (arith, below)) at fails in
    elim (p y) as (λ b. length (cond b (y ∷ filter p ys) (filter p ys)) + 1 ≤ length (y ∷ ys)) [
      | true ↦ omega (arith, rest)
      | false ↦ omega (arith, rest)
    ]

takes_one : (old : Block) (r : Request) (o n : ℕ) (new : Block) → is_shared old ≡ true → TakesIn old r o n new → length (extents_of new) ≡ length (extents_of old) + 1
takes_one (free_list old) r o n (free_list new) shared t = ap length t.extent ∙ length_placed (λ y. y.start) (piece_of old r o n new t) old.extents
takes_one (free_list old) r o n (dedicated new) shared t = absurd t
takes_one (dedicated old) r o n new shared t = absurd (false≢true shared)

held_one : (o : Option Extent) → IsSome o → length (option_to_list o) ≡ 1
held_one None some = absurd (false≢true some)
held_one (Some x) some = refl

releases_one : (old : Block) (n : ℕ) (new : Block) → ReleasesIn old n new → length (extents_of new) + 1 ≤ length (extents_of old)
releases_one (free_list old) n (free_list new) t =
    let k = t.gone.start in
    let fewer = filter_fewer (λ (y : Extent). not (eqb y.start k)) t.gone old.extents t.held.0 t.held.1 t.held.2 (ap not (eq_true k k refl)) in
    subst (λ (xs : List Extent). length xs + 1 ≤ length old.extents) (sym t.extents) fewer
releases_one (free_list old) n (dedicated new) t = absurd t
releases_one (dedicated old) n (free_list new) t = absurd t
releases_one (dedicated old) n (dedicated new) t =
    let one = held_one old.piece t.0 in
    let none : length (held_extents new) ≡ 0 = ap (λ (d : Dedicated). length (held_extents d)) t.2 in
    omega (arith, one, none)

-- ---- how many moves are left

above_head : {H : Type 0} (x : Option (Slot H)) (xs : List (Option (Slot H))) → slots_above (x ∷ xs) 0 ≡ length xs
above_head x xs = omega arith

above_tail : {H : Type 0} (x : Option (Slot H)) (xs : List (Option (Slot H))) (i : ℕ) → slots_above (x ∷ xs) (suc i) ≡ slots_above xs i
above_tail x xs i = omega arith

left_set : {H : Type 0} (slots : List (Option (Slot H))) (i : ℕ) (s : Option (Slot H)) → i < length slots
    → moves_left (slice_set slots i s) + piece_count (slot_at slots i) * slots_above slots i ≡ moves_left slots + piece_count s * slots_above slots i
left_set [] i s below = absurd (omega (arith, below))
left_set (x ∷ xs) zero s below =
    let m = ap (λ k. piece_count x * k) (above_head x xs) in
    let n = ap (λ k. piece_count s * k) (above_head x xs) in
    omega (arith, m, n)
left_set (x ∷ xs) (suc i) s below =
    let rest = left_set xs i s (omega (arith, below)) in
    let m = ap (λ k. piece_count (slot_at xs i) * k) (above_tail x xs i) in
    let n = ap (λ k. piece_count s * k) (above_tail x xs i) in
    let long = ap (λ k. piece_count x * k) (length-set xs i s) in
    omega (arith, rest, m, n, long)

-- a second place counts the slots above it
pub proposed_left : {H : Type 0} (old : List (Option (Slot H))) (r : Request) (p : Piece H) (new : List (Option (Slot H))) → PreparesPiece old r p new → moves_left new ≡ moves_left old + slots_above old p.slot
proposed_left {H} old r p new t =
    let s : Option (Slot H) = Some (record t.slot { block = t.after }) in
    let a = slots_above old p.slot in
    let n = length (extents_of t.slot.block) in
    let set = left_set old p.slot s (some_below old p.slot t.slot t.at) in
    let was : piece_count (slot_at old p.slot) * a ≡ n * a = ap (λ o. piece_count o * a) t.at in
    let now : piece_count s * a ≡ (n + 1) * a = ap (λ k. k * a) (takes_one t.slot.block r p.offset (non_zero_u64_get p.chunk_id) t.after t.shared t.takes) in
    ap moves_left t.slots ∙ omega (arith, set, was, now)

fewer_left : (m n a : ℕ) → m + 1 ≤ n → m * a + a ≤ n * a
fewer_left m n a less =
    let d = n - (m + 1) in
    let is : n ≡ m + 1 + d = omega (arith, less) in
    let e : n * a ≡ (m + 1 + d) * a = ap (λ k. k * a) is in
    omega (arith, e)

slot_fewer : {H : Type 0} (several : Type 0) (n : ℕ) (old : Option (Slot H)) (went : Option H) (new : Option (Slot H)) → SlotReleases several n old went new → piece_count new + 1 ≤ piece_count old
slot_fewer several n None went new r = absurd r
slot_fewer several n (Some old) went (Some new) r = releases_one old.block n new.block r.2
slot_fewer several n (Some old) went None r = let one = releases_one old.block n r.1.0 r.1.1 in omega (arith, one)

slot_some : {H : Type 0} (several : Type 0) (n : ℕ) (slots : List (Option (Slot H))) (i : ℕ) (old : Option (Slot H)) (went : Option H) (new : Option (Slot H)) → slot_at slots i ≡ old → SlotReleases several n old went new → i < length slots
slot_some several n slots i None went new at r = absurd r
slot_some several n slots i (Some old) went new at r = some_below slots i old at

-- a place that is freed counts no more
pub freed_left : {H : Type 0} (several : Type 0) (old : List (Option (Slot H))) (p : Piece H) (went : Option H) (new : List (Option (Slot H))) → ReleasesPiece several old p went new
    → moves_left new + slots_above old p.slot ≤ moves_left old
freed_left several old p went new t =
    let n = non_zero_u64_get p.chunk_id in
    let a = slots_above old p.slot in
    let set = left_set old p.slot t.slot (slot_some several n old p.slot (slot_at old p.slot) went t.slot refl t.releases) in
    let fewer = fewer_left (piece_count t.slot) (piece_count (slot_at old p.slot)) a (slot_fewer several n (slot_at old p.slot) went t.slot t.releases) in
    let is = ap moves_left t.slots in
    omega (arith, set, fewer, is)

-- a move that is carried out leaves fewer
pub move_left : {H : Type 0} (several : Type 0) (old : List (Option (Slot H))) (r : Request) (from to : Piece H) (mid : List (Option (Slot H))) (went : Option H) (new : List (Option (Slot H)))
    → ProposesMove old r from to mid → ReleasesPiece several mid from went new → moves_left new < moves_left old
move_left {H} several old r from to mid went new p t =
    let more = proposed_left old r to mid p.takes in
    let less = freed_left several mid from went new t in
    let long : length mid ≡ length old = ap length p.takes.slots ∙ length-set old to.slot (Some (record p.takes.slot { block = p.takes.after })) in
    let below = some_below old to.slot p.takes.slot p.takes.at in
    let ahead = p.ahead in
    omega (arith, more, less, long, below, ahead)

-- ---- what stays where it is

-- a shared block that has no place has no gap that is long enough, unless its numbers are used up
lacks_gaps : (b : FreeList) (r : Request) → IsSound b → IsPowerOfTwo b.granularity → IsPowerOfTwo r.alignment → 0 < r.size → HasNoPlace b r
    → (s e : ℕ) → IsGap b s e → IsLongEnough b r s e → b.counter ≡ 2 ^ 64 - 1
lacks_gaps b r sound pg pa some none s e gap long =
    let f = fit_law b r s e sound pg pa some gap long in
    elim none [ inl nowhere ↦ absurd (nowhere s e f.0 f.1) | inr last ↦ last.5 ]

pub stays_for_lack_of_gaps : {H : Type 0} (g : ℕ) (slots : List (Option (Slot H))) (r : Request) (slot i : ℕ) (s : Slot H) (b : FreeList) (start end : ℕ)
    → AreSound g slots → IsPowerOfTwo g → IsPowerOfTwo r.alignment → 0 < r.size → NoneAhead slots r slot → slot < i → slot_at slots i ≡ Some s → s.block ≡ free_list b
    → IsGap b start end → IsLongEnough b r start end → b.counter ≡ 2 ^ 64 - 1
stays_for_lack_of_gaps {H} g slots r slot i s b start end sound pg pa some none above at is gap long =
    let whole : slot_at slots i ≡ Some (record { handle = s.handle; block = free_list b }) = at ∙ ap (λ (x : Block). Some (record { handle = s.handle; block = x })) is in
    let kept : SlotIsSound g (Some (record { handle = s.handle; block = free_list b })) = subst (SlotIsSound g) whole (sound i) in
    let no_place : CannotServe r (Some (record { handle = s.handle; block = free_list b })) = subst (CannotServe r) whole (none i (omega (arith, above))) in
    lacks_gaps b r kept.1 (subst IsPowerOfTwo kept.0 pg) pa some no_place start end gap long

pub one_proposal : {H : Type 0} (g : ℕ) (old new next : List (Option (Slot H))) (r : Request) (from to other : Piece H) → AreSound g old → ProposesMove old r from to new → ProposesMove old r from other next
    → (to ≡ other) × (new ≡ next)
one_proposal g old new next r from to other sound p q = prepared_once g old r to other new next sound p.takes q.takes

pub proposal_or_none : {H : Type 0} (old new : List (Option (Slot H))) (r : Request) (from to : Piece H) → ProposesMove old r from to new → NoneAhead old r from.slot → ⊥
proposal_or_none old new r from to p none =
    let ahead = p.ahead in
    slot_served old r to new p.takes (none to.slot (omega (arith, ahead)))

-- ---- one memory type among all

module _ {H : Type 0} (types : Types H) (i : ℕ) (old new : TypeState H) (at : slice_get types i ≡ Some old) where
  here : old.slots ≡ slots_at (slots_of types) i
  here = slots_are types i old at

  pub proposed_at : (r : Request) (from : Piece H) (result : Result (Option (Piece H)) AllocationError)
      → IfOk result (λ o. IfSome o (λ to. ProposesMove old.slots r from to new.slots))
      → IfOk result (λ o. IfSome o (λ to. ProposesMoveAt i (slots_of types) r from to (slots_of (slice_set types i new))))
  proposed_at r from (Ok (Some to)) p = record {
    left = new.slots;
    proposes = subst (λ (ss : List (Option (Slot H))). ProposesMove ss r from to new.slots) here p;
    slots = slots_set types i new;
  }
  proposed_at r from (Ok None) p = tt
  proposed_at r from (Err e) p = tt

  pub none_at : (r : Request) (slot : ℕ) (result : Result (Option (Piece H)) AllocationError)
      → IfOk result (λ o. IsNone o → NoneAhead old.slots r slot × (new.slots ≡ old.slots))
      → IfOk result (λ o. IsNone o → NoneAhead (slots_at (slots_of types) i) r slot × (slots_of (slice_set types i new) ≡ slots_of types))
  none_at r slot (Ok (Some to)) n = λ no. absurd (false≢true (sym no))
  none_at r slot (Ok None) n = λ no.
      (subst (λ (ss : List (Option (Slot H))). NoneAhead ss r slot) here (n no).0, same_slots types i old new at (n no).1)
  none_at r slot (Err e) n = tt

  pub refused_at : (result : Result (Option (Piece H)) AllocationError) → OnErr result (new.slots ≡ old.slots) → OnErr result (slots_of (slice_set types i new) ≡ slots_of types)
  refused_at (Ok o) same = tt
  refused_at (Err e) same = same_slots types i old new at same
