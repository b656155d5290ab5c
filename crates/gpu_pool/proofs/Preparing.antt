-- What preparing a request is, as its state is seen.
use Rattle.std.proofs.Common.{◌≡◌, ◌∙◌, refl, sym, ap, subst, inl, inr, ⊎_elim, ℕ, ◌+◌, ◌^◌, ◌<◌, Bool, List, length, slice_set, Option, Some, None, Ok, Err, Result, arith}
use Rattle.gpu_values.specs.Refusal.{Refusal, refusal_of}
use Rattle.gpu_values.specs.declared.error.AllocationError.{AllocationError}
use Rattle.std.proofs.lemmas.List.{length-map}
use Rattle.gpu_values.specs.Sizes.{Sizes}
use Rattle.gpu_core.specs.TypeState.{TypeState, Slot, capacity_of}
use Rattle.gpu_block.specs.Block.{TakesIn}
use Rattle.gpu_core.specs.TypeTake.{asked, Pending, NeedsBlock, PreparesPiece, has_dedicated_block, fresh_block}
use Rattle.gpu_core.specs.declared.memory_type.Prepared.TheVariants as prepared
use Rattle.gpu_core.specs.declared.need.NeedBlock.{NeedBlock}
use Rattle.gpu_core.specs.declared.piece.Piece.{Piece}
use Rattle.gpu_core.specs.declared.piece.Request.{Request}
use Rattle.gpu_core.specs.Blocks.{Slots, slots_at, total_capacity}
use Rattle.gpu_core.specs.Budgets.{budgets, budget_at, block_refusal}
use Rattle.gpu_core.specs.Requests.{refusal_in_type, PreparesAt, IsPrepareRefusal, NeedsTooMuch}
use Rattle.gpu_core.specs.Types.{Types, slots_of, type_of, kinds}
use Rattle.gpu_core.proofs.Budgets.{budget_is, sum_fits}
use Rattle.gpu_core.proofs.Types.{slots_same, slots_here}
use Rattle.gpu_pool.specs.Allocate.{RequestAt, request_at, type_asked, AllocatesShared}
use Rattle.gpu_pool.specs.State.{kind_at}
use Rattle.gpu_pool.proofs.TypeKinds.{kind_is}
use Rattle.gpu_pool.specs.Begin.{NoneAsked, Asks, Denies, BeginsIn, Begins}
use Rattle.gpu_pool.specs.declared.requests.Begun.{Begun}
use Rattle.gpu_pool.specs.declared.requests.Begun.TheVariants as begun
use Rattle.gpu_pool.specs.RequestState.{RequestState, requests_of, pool_of, CanAnswer, HoldsRequest}
use Rattle.gpu_pool.specs.declared.requests.Awaited.{Awaited}

module _ {H : Type 0} (sizes : Sizes) (t : ℕ) (r : Request) (types : Types H) (a : Option Awaited) (below : t < length types) where
  abbrev q : RequestAt (Unit {0})
  q = request_at t r tt

  abbrev old : RequestState H
  old = requests_of sizes types a

  abbrev here : TypeState H
  here = type_of types t

  slots_are : here.slots ≡ slots_at (slots_of types) t
  slots_are = slots_here types t below

  -- the memory type, as its code keeps it, but for how much room it has for slots
  type_is : record here { room = 0 } ≡ type_asked (kinds types) NoneAsked q (pool_of tt old)
  type_is =
      let kind = kind_is types t in
      λ i. record { is_host = (kind i).0; granularity = (kind i).1; slots = slots_are i; room = 0; budget = budget_is types t i }

  needs_here : (size : ℕ) (own : Bool) (pending : Pending) → NeedsBlock here sizes r.dedicated (asked r) size own pending
      → NeedsBlock (type_asked (kinds types) NoneAsked q (pool_of tt old)) sizes r.dedicated (asked r) size own pending
  needs_here size own pending h =
      let roomless : NeedsBlock (record here { room = 0 }) sizes r.dedicated (asked r) size own pending =
      record { kind = h.kind; size_is = h.size_is; none = h.none; takes = h.takes; piece = h.piece; begins = h.begins } in
      subst (λ (k : TypeState H). NeedsBlock k sizes r.dedicated (asked r) size own pending) type_is roomless

  refusal_here : (size : ℕ) → block_refusal (total_capacity (slots_of types)) (budget_at (budgets types) t) (capacity_of (slots_at (slots_of types) t)) size
      ≡ refusal_in_type (total_capacity (slots_of types)) here size
  refusal_here size i = block_refusal (total_capacity (slots_of types)) (sym (budget_is types t) i) (capacity_of (sym slots_are i)) size

  -- a state whose slots and budgets are as before
  pub as_before : (new : Types H) (b : Option Awaited) → slots_of new ≡ slots_of types → budgets new ≡ budgets types → kinds new ≡ kinds types → requests_of sizes new b ≡ record old { awaited = b }
  as_before new b ss bs ks i = record { kinds = ks i; sizes = sizes; slots = ss i; budgets = bs i; awaited = b }

  pub denied : (e : Refusal) → IsPrepareRefusal t types sizes r e → Denies q old e
  denied e cause =
      ⊎_elim
      (λ starved. inl starved)
      (λ (much : NeedsTooMuch t types sizes r e).
      inr (
        much.size,
        record {
          is_dedicated = much.is_dedicated;
          pending = much.ready;
          needs = needs_here much.size much.is_dedicated much.ready much.needs;
          limits = refusal_here much.size ∙ much.above;
        },
      ))
      cause

  pub taken : (p : Piece H) (new : Types H) → PreparesAt t types sizes r (prepared.Taken p) new → budgets new ≡ budgets types → kinds new ≡ kinds types
      → AllocatesShared (kinds types) NoneAsked q (pool_of tt old) p (pool_of tt (requests_of sizes new a)) × (requests_of sizes new a ≡ record old { slots = slots_of new })
  taken p new h bs ks =
      let after = (type_of new t).slots in
      let ss = h.slots in (
        record {
          shared = ap (λ (k : TypeState H). has_dedicated_block k sizes r.dedicated r.size) (sym type_is) ∙ h.prepares.0;
          left = after;
          takes = subst (λ (xs : List (Option (Slot H))). PreparesPiece xs (asked r) p after) slots_are h.prepares.1;
          state = λ i. record { source = tt; sizes = sizes; slots = ss i; budgets = bs i };
        },
        λ i. record { kinds = ks i; sizes = sizes; slots = slots_of new; budgets = bs i; awaited = a },
      )

  module _ (need : NeedBlock) (mid : Types H) (h : PreparesAt t types sizes r (prepared.NeedBlock need) mid) (bs : budgets mid ≡ budgets types) (ks : kinds mid ≡ kinds types) where
    pub waiting : slots_of mid ≡ slots_of types
    waiting = h.slots ∙ ap (slice_set (slots_of types) t) (h.prepares.2 ∙ slots_are) ∙ slots_same (slots_of types) t

    room_left : total_capacity (slots_of mid) + need.size < 2 ^ 64
    room_left =
        let total = ap (λ (ss : Slots H). total_capacity ss) waiting in
        let fits = sum_fits (total_capacity (slots_of types)) here.budget (capacity_of here.slots) need.size h.fits in
        omega (arith, total, fits)

    abbrev awaits : Option Awaited
    awaits = Some (record { memory_type = t; need = need })

    pub asks : Asks q old (record { memory_type = t; size = need.size; dedicated = need.dedicated }) (requests_of sizes mid awaits)
    asks = record {
      need = need;
      needs = needs_here need.size need.dedicated need.room h.prepares.0;
      limits = refusal_here need.size ∙ h.fits;
      question_is = refl;
      state = as_before mid awaits waiting bs ks;
    }

    holds_request : HoldsRequest (type_of mid t).granularity need
    holds_request =
        let pages : here.granularity ≡ (type_of mid t).granularity = ap (λ (k : Bool × ℕ). k.1) (kind_is types t ∙ ap (λ (x : List (Bool × ℕ)). kind_at x t) (sym ks) ∙ sym (kind_is mid t)) in
        let n = h.prepares.0 in
        record {
          request = asked r;
          takes = subst (λ (g : ℕ). TakesIn (fresh_block need.dedicated need.size g) (asked r) need.room.offset need.room.chunk_id need.room.block) pages n.takes;
          size = n.piece;
          begins = n.begins;
        }

    pub can_answer : t < length mid → CanAnswer mid awaits
    can_answer there = (there, h.prepares.1, room_left, holds_request)

-- ---- as the code comes to it

pub inside : {H : Type 0} (now : RequestState H) (sizes : Sizes) (t : ℕ) (types : Types H) (a : Option Awaited) → requests_of sizes types a ≡ now → t < length now.kinds → t < length types
inside {H} now sizes t types a view there =
    let long = length-map {B = Bool × ℕ} types (λ (k : TypeState H). (k.is_host, k.granularity)) in
    let alike = ap (λ (s : RequestState H). length s.kinds) view in
    omega (arith, there, long, alike)

module _ {H : Type 0} (now : RequestState H) (sizes : Sizes) (t : ℕ) (r : Request) (types : Types H) (a : Option Awaited) (view : requests_of sizes types a ≡ now) (there : t < length now.kinds) (shut : a ≡ None) where
  below_types : t < length types
  below_types = inside now sizes t types a view there

  started : (result : Result (Begun H) AllocationError) (new : RequestState H) → BeginsIn (request_at t r tt) None (requests_of sizes types a) result new → Begins (request_at t r tt) now result new
  started result new h =
      subst (λ (s : RequestState H). Begins (request_at t r tt) s result new) view
      (subst (λ (o : Option Awaited). BeginsIn (request_at t r tt) o (requests_of sizes types a) result new) (sym shut) h)

  pub denied_at : (e : AllocationError) (new : Types H) → IsPrepareRefusal t types sizes r (refusal_of e) → slots_of new ≡ slots_of types → budgets new ≡ budgets types → kinds new ≡ kinds types
      → Begins (request_at t r tt) now (Err e) (requests_of sizes new a)
  denied_at e new cause ss bs ks =
      started (Err e) (requests_of sizes new a) (denied sizes t r types a below_types (refusal_of e) cause, as_before sizes t r types a below_types new a ss bs ks)

  pub taken_at : (p : Piece H) (new : Types H) → PreparesAt t types sizes r (prepared.Taken p) new → budgets new ≡ budgets types → kinds new ≡ kinds types
      → Begins (request_at t r tt) now (Ok (begun.Piece p)) (requests_of sizes new a)
  taken_at p new h bs ks = started (Ok (begun.Piece p)) (requests_of sizes new a) (taken sizes t r types a below_types p new h bs ks)

  module _ (need : NeedBlock) (mid : Types H) (h : PreparesAt t types sizes r (prepared.NeedBlock need) mid) (bs : budgets mid ≡ budgets types) (ks : kinds mid ≡ kinds types) where
    pub asks_at : Begins (request_at t r tt) now (Ok (begun.Question (record { memory_type = t; size = need.size; dedicated = need.dedicated }))) (requests_of sizes mid (Some (record { memory_type = t; need = need })))
    asks_at = started _ _ (asks sizes t r types a below_types need mid h bs ks)

    pub answers_at : CanAnswer mid (Some (record { memory_type = t; need = need }))
    answers_at =
        let long = length-map {B = Bool × ℕ} types (λ (k : TypeState H). (k.is_host, k.granularity)) in
        let after = length-map {B = Bool × ℕ} mid (λ (k : TypeState H). (k.is_host, k.granularity)) in
        let alike = ap (λ (x : List (Bool × ℕ)). length x) ks in
        let was = below_types in
        can_answer sizes t r types a below_types need mid h bs ks (omega (arith, was, long, after, alike))
