-- What requests that wait for their answer make of live pieces.
use Rattle.std.proofs.Common.{◌≡◌, ◌∙◌, refl, sym, ap, subst, ℕ, ◌<◌, Bool, true, List, length, Option, Some, None, Ok, Err, Result, arith}
use Rattle.std.proofs.lemmas.List.{length-map}
use Rattle.gpu_values.specs.Sizes.{Sizes}
use Rattle.gpu_values.specs.declared.error.AllocationError.{AllocationError}
use Rattle.gpu_block_pieces.specs.Changes as changes
use Rattle.gpu_core.specs.declared.memory_type.Prepared.TheVariants as prepared
use Rattle.gpu_core.specs.declared.need.NeedBlock.{NeedBlock}
use Rattle.gpu_core.specs.declared.piece.Piece.{Piece}
use Rattle.gpu_core.specs.declared.piece.Request.{Request}
use Rattle.gpu_core.specs.Apart.{AreDistinct}
use Rattle.gpu_core.specs.Blocks.{Slots}
use Rattle.gpu_core.specs.Budgets.{budgets}
use Rattle.gpu_core.specs.Requests.{PreparesAt, InstallsAt}
use Rattle.gpu_core.specs.TypeState.{TypeState}
use Rattle.gpu_core.specs.Types.{Types, slots_of, type_of, kinds, MemoryTypesInvariant}
use Rattle.gpu_core.proofs.StayLive.{IsNewPiece, installed_keeps, released_keeps_others}
use Rattle.gpu_core.proofs.Types.{type_sound}
use Rattle.gpu_pool.specs.Allocate.{request_at, NothingMet}
use Rattle.gpu_pool.specs.Begin.{NoneAsked, Gives}
use Rattle.gpu_pool.specs.Idle.{FreesIn, FreesIdle, RenamesIn, RenamesIdle, SetsWordIn, SetsWordIdle}
use Rattle.gpu_pool.specs.Live.{IsLive, StayLive}
use Rattle.gpu_pool.specs.RequestState.{RequestState, requests_of, with_sizes, pool_of, CanAnswer}
use Rattle.gpu_pool.specs.State.{State, kind_at, IsSoundAt}
use Rattle.gpu_pool.specs.declared.requests.Awaited.{Awaited}
use Rattle.gpu_pool.specs.declared.requests.Begun.{Begun}
use Rattle.gpu_pool.specs.declared.requests.Begun.TheVariants as begun
use Rattle.gpu_pool.proofs.Freeing.{type_below}
use Rattle.gpu_pool.proofs.Naming.{named_stay}
use Rattle.gpu_pool.proofs.Owning.{sound_at, allocates_owns, allocates_at}
use Rattle.gpu_pool.proofs.Preparing.{inside, taken, waiting}

-- requests are the same where they are with other sizes, and their own are
pub sized_back : {H : Type 0} (sizes : Sizes) (a b : RequestState H) → a.sizes ≡ b.sizes → with_sizes sizes a ≡ with_sizes sizes b → a ≡ b
sized_back sizes a b own same = λ i. record (same i) { sizes = own i }

-- what a request makes of live pieces
pub record Owned {H : Type 0} (eq : H → H → Bool) (t alignment : ℕ) (old new : Slots H) (result : Result (Begun H) AllocationError) : Type 0 where
  pub gives : Gives eq t alignment old new result
  pub keeps : StayLive eq old new

stays : {H : Type 0} (eq : H → H → Bool) (old new : Slots H) → new ≡ old → StayLive eq old new
stays {H} eq old new is u q live = subst (λ (ss : Slots H). IsLive eq ss u q) (sym is) live

module _ {H : Type 0} (eq : H → H → Bool) (same : (h : H) → eq h h ≡ true) (now : RequestState H) (sizes : Sizes) (t : ℕ) (r : Request) (types : Types H) (a : Option Awaited)
    (view : requests_of sizes types a ≡ now) (there : t < length now.kinds) (kept : MemoryTypesInvariant types) where
  abbrev Gets : Types H → Result (Begun H) AllocationError → Type 0
  Gets new result = Owned eq t r.alignment now.slots (slots_of new) result

  as_seen : (new : Types H) (result : Result (Begun H) AllocationError) → Owned eq t r.alignment (slots_of types) (slots_of new) result → Gets new result
  as_seen new result o = subst (λ (s : RequestState H). Owned eq t r.alignment s.slots (slots_of new) result) view o

  pub denied_owns : (e : AllocationError) (new : Types H) → slots_of new ≡ slots_of types → Gets new (Err e)
  denied_owns e new ss = as_seen new (Err e) (record { gives = tt; keeps = stays eq (slots_of types) (slots_of new) ss })

  pub taken_owns : (p : Piece H) (new : Types H) → PreparesAt t types sizes r (prepared.Taken p) new → budgets new ≡ budgets types → kinds new ≡ kinds types → MemoryTypesInvariant new
      → Gets new (Ok (begun.Piece p))
  taken_owns p new h bs ks after =
      let in_code = inside now sizes t types a view there in
      let long = length-map types (λ (k : TypeState H). k.slots) in
      let below : t < length (slots_of types) = omega (arith, in_code, long) in
      let shared = (taken sizes t r types a in_code p new h bs ks).0 in
      let before : State (Unit {0}) H = pool_of tt (requests_of sizes types a) in
      let left : State (Unit {0}) H = pool_of tt (requests_of sizes new a) in
      let o = allocates_owns (kinds types) NoneAsked (request_at t r tt) before eq same below (sound_at types (kinds types) refl kept t) left (sound_at new (kinds types) ks after t) (Ok p) (NothingMet, shared) in
      as_seen new (Ok (begun.Piece p)) (record {
        gives = (o.gives, allocates_at (kinds types) NoneAsked (request_at t r tt) before (Ok p) left (NothingMet, shared));
        keeps = o.keeps;
      })

  pub asked_owns : (need : NeedBlock) (mid : Types H) (question : _) → PreparesAt t types sizes r (prepared.NeedBlock need) mid → budgets mid ≡ budgets types → kinds mid ≡ kinds types
      → Gets mid (Ok (begun.Question question))
  asked_owns need mid question h bs ks =
      let in_code = inside now sizes t types a view there in
      as_seen mid (Ok (begun.Question question)) (record { gives = tt; keeps = stays eq (slots_of types) (slots_of mid) (waiting sizes t r types a in_code need mid h bs ks) })

-- the piece of a block that is put in
pub record IsPutIn {H : Type 0} (eq : H → H → Bool) (old new : Slots H) (t : ℕ) (p : Piece H) : Type 0 where
  pub new_piece : IsNewPiece eq t old new p
  pub begins : p.offset ≡ 0

pub put_in : {H : Type 0} (eq : H → H → Bool) (same : (h : H) → eq h h ≡ true) (types : Types H) (new : Slots H) (a : Awaited) (handle : H) (p : Piece H) → MemoryTypesInvariant types
    → CanAnswer types (Some a) → InstallsAt a.memory_type (slots_of types) a.need.dedicated a.need.room handle p new → IsPutIn eq (slots_of types) new a.memory_type p
put_in {H} eq same types new a handle p kept can made =
    let holds = can.3 in
    let there = can.0 in
    let long = length-map types (λ (k : TypeState H). k.slots) in
    let below : a.memory_type < length (slots_of types) = omega (arith, there, long) in
    record {
      new_piece = subst (λ (ss : Slots H). IsNewPiece eq a.memory_type (slots_of types) ss p) (sym made.slots)
          (installed_keeps eq same (type_of types a.memory_type).granularity a.memory_type holds.request (slots_of types) below (type_sound types kept a.memory_type)
          a.need.dedicated a.need.size a.need.room handle p made.left holds.takes holds.size made.installs);
      begins = made.installs.piece.0 ∙ holds.begins;
    }

-- a free leaves every other live piece
module _ {H : Type 0} (eq : H → H → Bool) (old new : RequestState H) (index : ℕ) (piece : Piece H) (sound : IsSoundAt old.kinds old.slots index) where
  freed_in : (o : Option Awaited) (result : Result (Option H) AllocationError) → FreesIn eq o old index piece result new → (t : ℕ) (p : Piece H) → IsLive eq old.slots t p
      → AreDistinct t p index piece → IsLive eq new.slots t p
  freed_in (Some a) result h t p live other = stays eq old.slots new.slots (ap (λ (s : RequestState H). s.slots) h.1) t p live
  freed_in None (Err e) h t p live other = stays eq old.slots new.slots (ap (λ (s : RequestState H). s.slots) h.2) t p live
  freed_in None (Ok went) h t p live other =
      let r = h.1 in
      subst (λ (ss : Slots H). IsLive eq ss t p) (sym r.slots)
      (released_keeps_others eq (kind_at old.kinds index).1 index old.slots (type_below eq old.slots index piece h.0) sound piece _ went r.left r.releases t p other live)

  pub freed_stay : (result : Result (Option H) AllocationError) → FreesIdle eq old index piece result new → (t : ℕ) (p : Piece H) → IsLive eq old.slots t p
      → AreDistinct t p index piece → IsLive eq new.slots t p
  freed_stay result h = freed_in old.awaited result h

-- a new name leaves every live piece
module _ {H : Type 0} (eq : H → H → Bool) (old new : RequestState H) (index : ℕ) (piece : Piece H) (name : List ℕ) where
  renamed_in : (o : Option Awaited) (result : Result (Unit {0}) AllocationError) → RenamesIn eq o old index piece name result new → StayLive eq old.slots new.slots
  renamed_in (Some a) result h = stays eq old.slots new.slots (ap (λ (s : RequestState H). s.slots) h.1)
  renamed_in None (Err e) h = stays eq old.slots new.slots (ap (λ (s : RequestState H). s.slots) h.1)
  renamed_in None (Ok u) h = named_stay eq index piece (changes.named name) old.slots new.slots h.0

  pub renamed_stay : (result : Result (Unit {0}) AllocationError) → RenamesIdle eq old index piece name result new → StayLive eq old.slots new.slots
  renamed_stay result h = renamed_in old.awaited result h

-- and so does a new word
module _ {H : Type 0} (eq : H → H → Bool) (old new : RequestState H) (index : ℕ) (piece : Piece H) (word : ℕ) where
  worded_in : (o : Option Awaited) (result : Result (Unit {0}) AllocationError) → SetsWordIn eq o old index piece word result new → StayLive eq old.slots new.slots
  worded_in (Some a) result h = stays eq old.slots new.slots (ap (λ (s : RequestState H). s.slots) h.1)
  worded_in None (Err e) h = stays eq old.slots new.slots (ap (λ (s : RequestState H). s.slots) h.1)
  worded_in None (Ok u) h = named_stay eq index piece (changes.worded word) old.slots new.slots h.0

  pub worded_stay : (result : Result (Unit {0}) AllocationError) → SetsWordIdle eq old index piece word result new → StayLive eq old.slots new.slots
  worded_stay result h = worded_in old.awaited result h
