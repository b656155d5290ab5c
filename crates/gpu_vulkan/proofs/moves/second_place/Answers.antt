use Rattle.std.specs.Prelude.{IsSomeAnd}
use Rattle.std.proofs.Common.{rules, ◌≡◌, ◌∙◌, ◌%◌, ◌<◌, sym, ap, subst, refl, true, false, Ok, Err, Option, Some, None, ℕ, slice_get, length, arith}
use Rattle.gpu_values.specs.Refusal.{host_out_of_memory, refusal_of}
use Rattle.gpu_block_pieces.specs.Request.{Request}
use Rattle.gpu_core.specs.TypeTake.{asked}
use Rattle.gpu_core.specs.declared.piece.Piece.{Piece}
use Rattle.gpu_device.specs.declared.vulkan.types.DeviceMemory.{DeviceMemory}
use Rattle.gpu_pool.specs.Live as pool
use Rattle.gpu_pool.specs.Move as pool_moves
use Rattle.gpu_pool.specs.Move.{GivesSecondPlace}
use Rattle.gpu_pool.proofs.Freeing.{type_below}
use Rattle.gpu_pool.proofs.Moving.{placed, unplaced, refused, others}
use Rattle.gpu_vulkan.specs.Live.{is_same_memory, piece_of, IsAllocated}
use Rattle.gpu_vulkan.specs.Setup.{Setup}
use Rattle.gpu_vulkan.specs.Source.{SourceState}
use Rattle.gpu_vulkan.specs.State.{Pool, setup_of}
use Rattle.gpu_vulkan.specs.Step.{Proposes}
use Rattle.gpu_vulkan.specs.Types.{is_host_visible}
use Rattle.gpu_vulkan.specs.declared.allocation.Allocation.{Allocation}
use Rattle.gpu_vulkan.proofs.Live.{stays}
use Rattle.gpu_vulkan.proofs.Moving.{asks_again, proposed, second_place}
use Rattle.gpu_vulkan.proofs.moves.second_place.Goals as goal
use Rattle.gpu_vulkan.proofs.moves.second_place.Goals.{After-allocation_of, In-Ok-Some}

pub returns-in_default-clause-proposed : goal.returns-in_default-clause-proposed
returns-in_default-clause-proposed g c =
    let a = c.args in
    let none : piece_of a.from.now ≡ None = search rules in
    let here : Proposes a.from.now.memory_type_index None a.desc.now true a.pool.now (Ok None) a.pool.now = (refl, refl, refl) in
    record {
      host = true;
      answer = Ok None;
      proposes = subst (λ (o : Option (Piece DeviceMemory)). Proposes a.from.now.memory_type_index o a.desc.now true a.pool.now (Ok None) a.pool.now) (sym none) here;
      replies = tt;
    }

pub returns-in-Err-clause-proposed : goal.returns-in-Err-clause-proposed
returns-in-Err-clause-proposed g c =
    let a = c.args in
    let here : Proposes a.from.now.memory_type_index (Some c.in-Some.piece) a.desc.now false a.pool.now (Err host_out_of_memory) a.pool.now = (refl, refl) in
    record {
      host = false;
      answer = Err host_out_of_memory;
      proposes = subst (λ (o : Option (Piece DeviceMemory)). Proposes a.from.now.memory_type_index o a.desc.now false a.pool.now (Err host_out_of_memory) a.pool.now) (sym c.in-Some.is ∙ c.piece.ensures) here;
      replies = refl;
    }

-- ---- a refusal

pub returns-in-Err-propose_move-clause-proposed : goal.returns-in-Err-propose_move-clause-proposed
returns-in-Err-propose_move-clause-proposed g c =
    let a = c.args in
    let e = c.in-Err-propose_move in
    proposed a.from.now a.desc.now a.pool.now c.propose_move.new.self c.in-Some.piece (asked c.request_of.result) c.request_of.ensures.asks (sym c.piece.ensures ∙ c.in-Some.is) (Err (refusal_of e.error))
    (Err e.error) e.ensures.proposes refl

pub returns-in-Err-propose_move-clause-others : goal.returns-in-Err-propose_move-clause-others
returns-in-Err-propose_move-clause-others g c =
    let a = c.args in
    let e = c.in-Err-propose_move in
    others is_same_memory a.from.now.memory_type_index c.in-Some.piece (asked c.request_of.result) a.pool.now c.propose_move.new.self (Err (refusal_of e.error)) e.ensures.proposes

pub returns-in-Err-propose_move-clause-refused : goal.returns-in-Err-propose_move-clause-refused
returns-in-Err-propose_move-clause-refused g c =
    let a = c.args in
    let e = c.in-Err-propose_move in
    refused is_same_memory a.from.now.memory_type_index c.in-Some.piece (asked c.request_of.result) a.pool.now c.propose_move.new.self (refusal_of e.error) e.ensures.proposes

pub returns-in-Err-propose_move-clause-keeps : goal.returns-in-Err-propose_move-clause-keeps
returns-in-Err-propose_move-clause-keeps g c = stays c.args.pool.now.slots c.propose_move.new.self.slots c.propose_move.ensures.keeps

-- ---- none

pub returns-in-Ok-None-clause-proposed : goal.returns-in-Ok-None-clause-proposed
returns-in-Ok-None-clause-proposed g c =
    let a = c.args in
    let proposes : pool_moves.Proposes is_same_memory a.from.now.memory_type_index c.in-Some.piece (asked c.request_of.result) a.pool.now (Ok None) c.propose_move.new.self =
    rw c.in-Ok-None.field-0-is at c.in-Ok-None.ensures.proposes in
    proposed a.from.now a.desc.now a.pool.now c.propose_move.new.self c.in-Some.piece (asked c.request_of.result) c.request_of.ensures.asks (sym c.piece.ensures ∙ c.in-Some.is) (Ok None) (Ok None) proposes tt

pub returns-in-Ok-None-clause-none : goal.returns-in-Ok-None-clause-none
returns-in-Ok-None-clause-none g c =
    let a = c.args in
    let proposes : pool_moves.Proposes is_same_memory a.from.now.memory_type_index c.in-Some.piece (asked c.request_of.result) a.pool.now (Ok None) c.propose_move.new.self =
    rw c.in-Ok-None.field-0-is at c.in-Ok-None.ensures.proposes in
    λ _. unplaced is_same_memory a.from.now.memory_type_index c.in-Some.piece (asked c.request_of.result) a.pool.now c.propose_move.new.self proposes

pub returns-in-Ok-None-clause-others : goal.returns-in-Ok-None-clause-others
returns-in-Ok-None-clause-others g c =
    let a = c.args in
    others is_same_memory a.from.now.memory_type_index c.in-Some.piece (asked c.request_of.result) a.pool.now c.propose_move.new.self (Ok c.in-Ok-None.field-0) c.in-Ok-None.ensures.proposes

pub returns-in-Ok-None-clause-keeps : goal.returns-in-Ok-None-clause-keeps
returns-in-Ok-None-clause-keeps g c = stays c.args.pool.now.slots c.propose_move.new.self.slots c.propose_move.ensures.keeps

-- ---- a second place

proposes : (g : _) (c : In-Ok-Some g)
    → pool_moves.Proposes is_same_memory c.args.from.now.memory_type_index c.in-Some.piece (asked c.request_of.result) c.args.pool.now (Ok (Some c.in-Ok-Some.to)) c.propose_move.new.self
proposes g c = rw c.in-Ok-Some.field-0-is at c.in-Ok-Some.ensures.proposes

others_stay : (g : _) (c : In-Ok-Some g) → c.propose_move.new.self ≡ record c.args.pool.now { slots = c.propose_move.new.self.slots }
others_stay g c =
    others is_same_memory c.args.from.now.memory_type_index c.in-Some.piece (asked c.request_of.result) c.args.pool.now c.propose_move.new.self (Ok (Some c.in-Ok-Some.to)) (proposes g c)

second : (g : _) (c : In-Ok-Some g)
    → GivesSecondPlace is_same_memory c.args.from.now.memory_type_index c.in-Some.piece (asked c.request_of.result) c.args.pool.now.slots c.in-Ok-Some.to c.propose_move.new.self.slots
second g c =
    placed is_same_memory c.args.from.now.memory_type_index c.in-Some.piece (asked c.request_of.result) c.args.pool.now c.propose_move.new.self c.in-Ok-Some.to (proposes g c)

pub allocation_of-requires : goal.allocation_of-requires
allocation_of-requires g c =
    let a = c.args in
    let later = (goal.at.allocation_of-requires g c).In-Ok-Some in
    let below = type_below is_same_memory a.pool.now.slots a.from.now.memory_type_index c.in-Some.piece (second g later).live in
    let many = c.blocks_are_held.ensures.types in
    let lent : c.setup.result.now ≡ a.pool.now.source.setup =
    c.setup.ensures.lent ∙ ap (λ (s : SourceState g.row.D.Denot). s.setup) c.source.ensures.lent ∙ ap (λ (p : Pool g.row.D.Denot). p.source.setup) (others_stay g later) in
    subst (λ (s : Setup). a.from.now.memory_type_index < length s.properties.types) (sym lent) (omega (arith, below, many))

-- the memory type that an allocation tells of
abbrev IsOfType : Setup → (t : ℕ) → Allocation → Type 0
IsOfType s t a = IsSomeAnd (slice_get s.properties.types t) (λ info. (a.memory_properties ≡ info.property_flags) × (a.mapped ≡ is_host_visible info))

allocated : (g : _) (c : After-allocation_of g) → c.propose_move.new.self ≡ record c.args.pool.now { slots = c.propose_move.new.self.slots }
    → IsAllocated (setup_of c.args.pool.now) c.args.from.now.memory_type_index c.args.desc.now c.in-Ok-Some.to c.allocation_of.result
allocated g c same =
    let a = c.args in
    let is = c.allocation_of.ensures c.in-Ok.ensures.ok in
    let lent : c.setup.result.now ≡ a.pool.now.source.setup =
    c.setup.ensures.lent ∙ ap (λ (s : SourceState g.row.D.Denot). s.setup) c.source.ensures.lent ∙ ap (λ (p : Pool g.row.D.Denot). p.source.setup) same in
    record {
      piece = is.piece;
      memory_type = is.memory_type;
      memory = subst (λ (s : Setup). IsOfType s a.from.now.memory_type_index c.allocation_of.result) lent is.memory;
      dedicated = is.dedicated;
      name = is.name;
    }

pub returns-in-Ok-Some-clause-proposed : goal.returns-in-Ok-Some-clause-proposed
returns-in-Ok-Some-clause-proposed g c =
    let a = c.args in
    proposed a.from.now a.desc.now a.pool.now c.propose_move.new.self c.in-Some.piece (asked c.request_of.result) c.request_of.ensures.asks (sym c.piece.ensures ∙ c.in-Some.is) (Ok (Some c.in-Ok-Some.to))
    (Ok (Some c.allocation_of.result)) (proposes g (goal.at.returns-in-Ok-Some-clause-proposed g c).In-Ok-Some) (allocated g (goal.at.returns-in-Ok-Some-clause-proposed g c).After-allocation_of
    (others_stay g (goal.at.returns-in-Ok-Some-clause-proposed g c).In-Ok-Some))

pub returns-in-Ok-Some-clause-gives : goal.returns-in-Ok-Some-clause-gives
returns-in-Ok-Some-clause-gives g c =
    let a = c.args in
    let later = goal.at.returns-in-Ok-Some-clause-gives g c in
    let q = c.in-Ok-Some.to in
    let t = a.from.now.memory_type_index in
    let r = c.request_of.result in
    let asks = c.request_of.ensures.asks in
    let again = asks_again a.from.now.size a.desc.now c.requires.again in
    let gives : pool.IsNewlyLive is_same_memory a.pool.now.slots c.propose_move.new.self.slots t q × (q.offset % r.alignment ≡ 0) × (q.size ≡ r.size) = rw c.in-Ok-Some.field-0-is at c.in-Ok-Some.ensures.gives in
    let aligned : q.offset % a.desc.now.requirements.alignment ≡ 0 = subst (λ n. q.offset % n ≡ 0) (ap (λ (k : Request). k.alignment) asks) gives.1 in
    second_place (setup_of a.pool.now) a.desc.now a.desc.now.requirements.alignment a.pool.now.slots c.propose_move.new.self.slots a.from.now c.allocation_of.result c.in-Some.piece q
    (sym c.piece.ensures ∙ c.in-Some.is) (allocated g later.After-allocation_of (others_stay g later.In-Ok-Some)) gives.0 (gives.2 ∙ ap (λ (k : Request). k.size) asks ∙ again.whole) aligned
    (second g later.In-Ok-Some).proposes.proposes.ahead

pub returns-in-Ok-Some-clause-others : goal.returns-in-Ok-Some-clause-others
returns-in-Ok-Some-clause-others g c = others_stay g (goal.at.returns-in-Ok-Some-clause-others g c).In-Ok-Some

pub returns-in-Ok-Some-clause-keeps : goal.returns-in-Ok-Some-clause-keeps
returns-in-Ok-Some-clause-keeps g c = stays c.args.pool.now.slots c.propose_move.new.self.slots c.propose_move.ensures.keeps
