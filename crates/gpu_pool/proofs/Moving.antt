-- What a proposal leaves of requests and of a pool, and that moves end.
use Rattle.std.proofs.Common.{◌≡◌, ◌∙◌, refl, sym, ap, subst, ℕ, ◌+◌, ◌<◌, ◌≤◌, Bool, true, List, length, slice_set, Option, Some, None, Ok, Err, Result, arith, ⊎_elim}
use Rattle.std.specs.Prelude.{IfOk, IfErr, OnOk, OnErr, IfSome, IsNone, IsTrue}
use Rattle.gpu_values.specs.Refusal.{Refusal, refusal_of}
use Rattle.gpu_values.specs.Sizes.{Sizes}
use Rattle.gpu_values.specs.declared.error.AllocationError.{AllocationError}
use Rattle.gpu_values.specs.declared.error.AllocationError.TheVariants.{HostOutOfMemory}
use Rattle.gpu_block_pieces.specs.Request.{Request}
use Rattle.gpu_core.specs.Slots.{AreSound}
use Rattle.gpu_core.specs.TypeState.{Slot}
use Rattle.gpu_core.specs.TypeRelease.{has_others}
use Rattle.gpu_core.specs.TypeTake.{PreparesPiece}
use Rattle.gpu_core.specs.declared.piece.Piece.{Piece}
use Rattle.gpu_core.specs.Apart.{AreDistinct}
use Rattle.gpu_core.specs.Blocks.{Slots, slots_at}
use Rattle.gpu_core.specs.Budgets.{budgets}
use Rattle.gpu_core.specs.Moves.{NoneAhead, ProposesMoveAt, slots_above, moves_left}
use Rattle.gpu_core.specs.Types.{Types, slots_of, kinds, MemoryTypesInvariant}
use Rattle.gpu_core.proofs.Aligned.{takes_aligned}
use Rattle.gpu_core.proofs.Moving.{freed_left, move_left}
use Rattle.gpu_core.proofs.Placed.{only_block, prepares_only}
use Rattle.gpu_core.proofs.Sizes.{takes_size}
use Rattle.gpu_core.proofs.StayLive.{IsNewPiece, served_keeps}
use Rattle.gpu_core.proofs.Types.{slots_after}
use Rattle.gpu_pool.specs.Allocate.{Environment, NothingMet, NoHostMemory, Answered}
use Rattle.gpu_pool.specs.Free.{PoolFrees}
use Rattle.gpu_pool.specs.Held.{HoldsJustBlocks}
use Rattle.gpu_pool.specs.Live.{IsLive, StayLive}
use Rattle.gpu_pool.specs.Move.{GivesSecondPlace, ProposesIn, ProposesIdle, ProposesBy, Proposes, GivesPlace}
use Rattle.gpu_pool.specs.RequestState.{RequestState, requests_of, pool_of}
use Rattle.gpu_pool.specs.Source.{HeldBlocks, result_of}
use Rattle.gpu_pool.specs.State.{State, kind_at, over}
use Rattle.gpu_pool.specs.declared.requests.Awaited.{Awaited}
use Rattle.gpu_pool.proofs.Agreeing.{IsClosed}
use Rattle.gpu_pool.proofs.Freeing.{type_below}
use Rattle.gpu_pool.proofs.Holding.{changed_holds}
use Rattle.gpu_pool.proofs.Owning.{sound_at}

-- what a proposal answers, and what it makes of live pieces
pub record Outcome {H : Type 0} (eq : H → H → Bool) (t : ℕ) (from : Piece H) (r : Request) (old : RequestState H) (result : Result (Option (Piece H)) AllocationError) (new : RequestState H) : Type 0 where
  pub proposes : ProposesIdle eq t from r old result new
  pub gives : GivesPlace eq t r.alignment r.size old.slots new.slots result
  pub keeps : StayLive eq old.slots new.slots

module _ {H : Type 0} (eq : H → H → Bool) (same : (h : H) → eq h h ≡ true) (sizes : Sizes) (t : ℕ) (from : Piece H) (r : Request) (types : Types H) (kept : MemoryTypesInvariant types)
    (a : Option Awaited) (shut : a ≡ None) (new : Types H) (kinds_are : kinds new ≡ kinds types) (budgets_are : budgets new ≡ budgets types) (after : MemoryTypesInvariant new) where
  abbrev was : RequestState H
  was = requests_of sizes types a

  abbrev now : RequestState H
  now = requests_of sizes new a

  abbrev Made : Result (Option (Piece H)) AllocationError → Type 0
  Made result = Outcome eq t from r was result now

  made : (result : Result (Option (Piece H)) AllocationError) → ProposesIn eq t from r None was result now → GivesPlace eq t r.alignment r.size (slots_of types) (slots_of new) result
      → StayLive eq (slots_of types) (slots_of new) → Made result
  made result p g k = record { proposes = subst (λ (o : Option Awaited). ProposesIn eq t from r o was result now) (sym shut) p; gives = g; keeps = k }

  -- where the slots are as they were
  unchanged : slots_of new ≡ slots_of types → now ≡ was
  unchanged is i = record { kinds = kinds_are i; sizes = sizes; slots = is i; budgets = budgets_are i; awaited = a }

  stay : slots_of new ≡ slots_of types → StayLive eq (slots_of types) (slots_of new)
  stay is u p live = subst (λ (ss : Slots H). IsLive eq ss u p) (sym is) live

  given : IsLive eq (slots_of types) t from → (to : Piece H) → ProposesMoveAt t (slots_of types) r from to (slots_of new) → Made (Ok (Some to))
  given live to p =
      let slots = slots_of types in
      let ks = kinds types in
      let takes = p.proposes.takes in
      let below : t < length slots = type_below eq slots t from live in
      let sound_after : AreSound (kind_at ks t).1 (slots_at (slice_set slots t p.left) t) =
      subst (λ (ss : Slots H). AreSound (kind_at ks t).1 (slots_at ss t)) p.slots (sound_at new ks kinds_are after t) in
      let k : IsNewPiece eq t slots (slots_of new) to =
      subst (λ (ss : Slots H). IsNewPiece eq t slots ss to) (sym p.slots) (served_keeps eq same (kind_at ks t).1 t r slots below (sound_at types ks refl kept t) to p.left takes sound_after) in
      made (Ok (Some to))
      (record { live = live; proposes = p }, λ i. record { kinds = kinds_are i; sizes = sizes; slots = slots_of new; budgets = budgets_are i; awaited = a })
      ((k.live, k.other), takes_aligned _ r to.offset _ _ takes.takes, takes.size)
      k.keeps

  pub outcome : IsLive eq (slots_of types) t from → (result : Result (Option (Piece H)) AllocationError)
      → IfOk result (λ o. IfSome o (λ to. ProposesMoveAt t (slots_of types) r from to (slots_of new)))
      → IfOk result (λ o. IsNone o → NoneAhead (slots_at (slots_of types) t) r from.slot × (slots_of new ≡ slots_of types))
      → IfErr result (λ e. e ≡ HostOutOfMemory) → OnErr result (slots_of new ≡ slots_of types) → Made result
  outcome live (Ok (Some to)) proposed none cause refused = given live to proposed
  outcome live (Ok None) proposed none cause refused = let n = none refl in made (Ok None) ((λ _. n.0), unchanged n.1) tt (stay n.1)
  outcome live (Err e) proposed none cause refused = made (Err e) (ap refusal_of cause, unchanged refused) tt (stay refused)

-- a piece that isn't live stays
pub not_live : {H : Type 0} (eq : H → H → Bool) (t : ℕ) (from : Piece H) (r : Request) (s : RequestState H) → s.awaited ≡ None → (IsLive eq s.slots t from → ⊥) → ProposesIdle eq t from r s (Ok None) s
not_live eq t from r s shut dead = subst (λ (o : Option Awaited). ProposesIn eq t from r o s (Ok None) s) (sym shut) ((λ live. absurd (dead live)), refl)

-- ---- a pool

-- the source holds the same blocks
pub proposed_holds : {H : Type 0} (number : H → ℕ) (held : HeldBlocks) (eq : H → H → Bool) (t : ℕ) (from : Piece H) (r : Request) (old : Slots H) (to : Piece H) (new : Slots H)
    → GivesSecondPlace eq t from r old to new → HoldsJustBlocks number held old → HoldsJustBlocks number held new
proposed_holds {H} number held eq t from r old to new g h =
    let p = g.proposes in
    let takes = p.proposes.takes in
    let b : Slot H = record takes.slot { block = takes.after } in
    subst (HoldsJustBlocks number held) (sym p.slots)
    (changed_holds number held old (slice_set old t p.left) t to.slot takes.slot b takes.at
    (only_block old t to.slot (Some b) p.left (type_below eq old t from g.live) (prepares_only (slots_at old t) r to p.left takes)) refl (takes_size _ _ _ _ _ takes.takes) h)

module _ {S H : Type 0} (number : H → ℕ) (held : HeldBlocks) (eq : H → H → Bool) (t : ℕ) (from : Piece H) (r : Request) (source : S) (old new : RequestState H) (shut : old.awaited ≡ None)
    (holds : HoldsJustBlocks number held old.slots) where
  -- what requests without an open question make of it is what a pool makes of it
  pub record Left (result : Result (Option (Piece H)) AllocationError) : Type 0 where
    pub proposes : Proposes eq t from r (pool_of source old) (result_of result) (pool_of source new)
    pub closed : IsClosed old new
    pub holds_still : HoldsJustBlocks number held new.slots

  shut_still : (slots : Slots H) → new ≡ record old { slots = slots } → IsClosed old new
  shut_still slots is = record { awaited = ap (λ (k : RequestState H). k.awaited) is ∙ shut; kinds = ap (λ (k : RequestState H). k.kinds) is }

  same_closed : new ≡ old → IsClosed old new
  same_closed is = record { awaited = ap (λ (k : RequestState H). k.awaited) is ∙ shut; kinds = ap (λ (k : RequestState H). k.kinds) is }

  same_held : new ≡ old → HoldsJustBlocks number held new.slots
  same_held is = subst (λ (k : RequestState H). HoldsJustBlocks number held k.slots) (sym is) holds

  left_in : (result : Result (Option (Piece H)) AllocationError) → ProposesIn eq t from r None old result new → Left result
  left_in (Ok (Some to)) p = record {
    proposes = (NothingMet, (p.0, ap (λ (k : RequestState H). pool_of source k) p.1));
    closed = shut_still new.slots p.1;
    holds_still = proposed_holds number held eq t from r old.slots to new.slots p.0 holds;
  }
  left_in (Ok None) p = record { proposes = (NothingMet, (p.0, ap (λ (k : RequestState H). pool_of source k) p.1)); closed = same_closed p.1; holds_still = same_held p.1 }
  left_in (Err e) p = record { proposes = (NoHostMemory, (p.0, ap (λ (k : RequestState H). pool_of source k) p.1)); closed = same_closed p.1; holds_still = same_held p.1 }

  pub left : (result : Result (Option (Piece H)) AllocationError) → ProposesIdle eq t from r old result new → Left result
  left result p = left_in result (subst (λ (o : Option Awaited). ProposesIn eq t from r o old result new) shut p)

-- a piece in a higher slot is another one
pub ahead_distinct : {H : Type 0} (t : ℕ) (from to : Piece H) → from.slot < to.slot → AreDistinct t to t from
ahead_distinct t from to ahead type slot number = absurd (omega (arith, ahead, slot))

pub behind_distinct : {H : Type 0} (t : ℕ) (from to : Piece H) → from.slot < to.slot → AreDistinct t from t to
behind_distinct t from to ahead type slot number = absurd (omega (arith, ahead, slot))

slots_set_at : {H : Type 0} (ss : Slots H) (t : ℕ) (x : List (Option (Slot H))) → t < length ss → slots_at (slice_set ss t x) t ≡ x
slots_set_at ss t x below = ⊎_elim (λ h. h.1) (λ h. absurd (h.0 refl)) (slots_after ss t x t below)

-- a piece that is freed counts no more
pub frees_left : {S H : Type 0} (gives_back : S → H → S → Type 0) (eq : H → H → Bool) (t : ℕ) (p : Piece H) (old : State S H) (result : Result (Unit {0}) AllocationError) (new : State S H)
    → PoolFrees gives_back eq t p old (result_of result) new
    → OnOk result (moves_left (slots_at new.slots t) + slots_above (slots_at old.slots t) p.slot ≤ moves_left (slots_at old.slots t))
frees_left gives_back eq t p old (Err e) new f = tt
frees_left {S} {H} gives_back eq t p old (Ok _) new f =
    let r = f.1.slots in
    let is : slots_at new.slots t ≡ r.left = ap (λ (ss : Slots H). slots_at ss t) r.slots ∙ slots_set_at old.slots t r.left (type_below eq old.slots t p f.0) in
    subst (λ (x : List (Option (Slot H))). moves_left x + slots_above (slots_at old.slots t) p.slot ≤ moves_left (slots_at old.slots t)) (sym is)
    (freed_left (IsTrue (has_others (slots_at old.slots t))) (slots_at old.slots t) p f.1.went r.left r.releases)

-- a move that is carried out leaves fewer
pub moved_left : {S H : Type 0} (gives_back : S → H → S → Type 0) (eq : H → H → Bool) (t : ℕ) (from to : Piece H) (r : Request) (old mid new : State S H) (u : Unit {0})
    → GivesSecondPlace eq t from r old.slots to mid.slots → PoolFrees gives_back eq t from mid (Ok u) new → moves_left (slots_at new.slots t) < moves_left (slots_at old.slots t)
moved_left {S} {H} gives_back eq t from to r old mid new u p f =
    let q = p.proposes in
    let k = f.1.slots in
    let below : t < length old.slots = type_below eq old.slots t from p.live in
    let mid_is : slots_at mid.slots t ≡ q.left = ap (λ (ss : Slots H). slots_at ss t) q.slots ∙ slots_set_at old.slots t q.left below in
    let new_is : slots_at new.slots t ≡ k.left = ap (λ (ss : Slots H). slots_at ss t) k.slots ∙ slots_set_at mid.slots t k.left (type_below eq mid.slots t from f.0) in
    subst (λ (x : List (Option (Slot H))). moves_left x < moves_left (slots_at old.slots t)) (sym new_is)
    (move_left (IsTrue (has_others (slots_at mid.slots t))) (slots_at old.slots t) r from to (slots_at mid.slots t) f.1.went k.left
    (record { takes = subst (λ (x : List (Option (Slot H))). PreparesPiece (slots_at old.slots t) r to x) (sym mid_is) q.proposes.takes; ahead = q.proposes.ahead }) k.releases)

-- ---- what a proposal leaves

module _ {S H : Type 0} (eq : H → H → Bool) (t : ℕ) (p : Piece H) (r : Request) (old new : State S H) where
  placed_by : (q : Piece H) (met : Environment H) → ProposesBy eq t p r old met (Ok (Some q)) new → GivesSecondPlace eq t p r old.slots q new.slots
  placed_by q NothingMet g = g.0
  placed_by q NoHostMemory g = absurd g
  placed_by q (Answered size answer) g = absurd g

  -- a place that is proposed is a second one
  pub placed : (q : Piece H) → Proposes eq t p r old (Ok (Some q)) new → GivesSecondPlace eq t p r old.slots q new.slots
  placed q g = placed_by q g.0 g.1

  none_by : (met : Environment H) → ProposesBy eq t p r old met (Ok None) new → new ≡ old
  none_by NothingMet g = g.1
  none_by NoHostMemory g = absurd g
  none_by (Answered size answer) g = absurd g

  -- where there is none, nothing changes
  pub unplaced : Proposes eq t p r old (Ok None) new → new ≡ old
  unplaced g = none_by g.0 g.1

  refused_by : (e : Refusal) (met : Environment H) → ProposesBy eq t p r old met (Err e) new → new ≡ old
  refused_by e NothingMet g = absurd g
  refused_by e NoHostMemory g = g.1
  refused_by e (Answered size answer) g = absurd g

  -- nor where it is refused
  pub refused : (e : Refusal) → Proposes eq t p r old (Err e) new → new ≡ old
  refused e g = refused_by e g.0 g.1

  only_slots : new ≡ old → new ≡ record old { slots = new.slots }
  only_slots is i = record { source = (is i).source; sizes = (is i).sizes; slots = new.slots; budgets = (is i).budgets }

  others_by : (met : Environment H) (answer : Result (Option (Piece H)) Refusal) → ProposesBy eq t p r old met answer new → new ≡ record old { slots = new.slots }
  others_by NothingMet (Ok (Some q)) g = g.1
  others_by NothingMet (Ok None) g = only_slots g.1
  others_by NothingMet (Err e) g = absurd g
  others_by NoHostMemory (Ok o) g = absurd g
  others_by NoHostMemory (Err e) g = only_slots g.1
  others_by (Answered size answer) result g = absurd g

  -- nothing but the blocks changes
  pub others : (answer : Result (Option (Piece H)) Refusal) → Proposes eq t p r old answer new → new ≡ record old { slots = new.slots }
  others answer g = others_by g.0 answer g.1

-- the same over a model of the source
pub proposes_over : {S T H : Type 0} (view : S → T) (eq : H → H → Bool) (t : ℕ) (p : Piece H) (r : Request) (old : State S H) (met : Environment H) (answer : Result (Option (Piece H)) Refusal)
    (new : State S H) → ProposesBy eq t p r old met answer new → ProposesBy eq t p r (over view old) met answer (over view new)
proposes_over view eq t p r old NothingMet (Ok (Some q)) new g = (g.0, ap (over view) g.1)
proposes_over view eq t p r old NothingMet (Ok None) new g = (g.0, ap (over view) g.1)
proposes_over view eq t p r old NothingMet (Err e) new g = absurd g
proposes_over view eq t p r old NoHostMemory (Ok o) new g = absurd g
proposes_over view eq t p r old NoHostMemory (Err e) new g = (g.0, ap (over view) g.1)
proposes_over view eq t p r old (Answered size answer) result new g = absurd g
