-- A second place for an allocation: the pool's proposal as a step of the model.
use Rattle.std.proofs.Common.{◌≡◌, ◌∙◌, refl, sym, ap, subst, ℕ, zero, suc, ◌<◌, ◌%◌, Bool, true, false, Option, Some, None, Ok, Err, Result, IsTrue, arith}
use Rattle.std.specs.Prelude.{◌==◌, ◌&&◌, not}
use Rattle.std.specs.FinMap.{get}
use Rattle.std.specs.Int.{is_power_of_two}
use Rattle.std.proofs.lemmas.Bool.{eqb-true}
use Rattle.gpu_values.specs.Refusal.{refusal_of, invalid_allocation_create_desc}
use Rattle.gpu_values.specs.declared.error.AllocationError.{AllocationError}
use Rattle.gpu_block_pieces.specs.Request.{Request}
use Rattle.gpu_core.specs.declared.piece.Piece.{Piece}
use Rattle.gpu_core.specs.Blocks.{BlocksWellFormed}
use Rattle.gpu_device.specs.Held.{Held, IsWhole}
use Rattle.gpu_device.specs.declared.vulkan.device.VulkanDevice.{Ghosts}
use Rattle.gpu_device.specs.declared.vulkan.types.DeviceMemory.{DeviceMemory}
use Rattle.gpu_pool.specs.Allocate.{Environment, NothingMet, NoHostMemory, Answered}
use Rattle.gpu_pool.specs.Live as pool
use Rattle.gpu_pool.specs.Move as pool_moves
use Rattle.gpu_pool.specs.Move.{GivesSecondPlace, ProposesBy}
use Rattle.gpu_pool.specs.State as pools
use Rattle.gpu_pool.proofs.Freeing.{type_below}
use Rattle.gpu_vulkan.specs.Allocate.{is_valid}
use Rattle.gpu_vulkan.specs.Attempt.{unseen}
use Rattle.gpu_vulkan.specs.Blocks.{Slots, HoldsJustLiveBlocks}
use Rattle.gpu_vulkan.specs.ByteView.{byte_view_of, SplitsRest}
use Rattle.gpu_vulkan.specs.Describe.{requests_dedicated, request_of}
use Rattle.gpu_vulkan.specs.Live.{is_same_memory, piece_of, IsAllocated}
use Rattle.gpu_vulkan.specs.Move.{IsSecondPlace, IsProposed}
use Rattle.gpu_vulkan.specs.Reply.{Error, placed_with}
use Rattle.gpu_vulkan.specs.Setup.{Setup}
use Rattle.gpu_vulkan.specs.State.{State, Pool, setup_of, state_of}
use Rattle.gpu_vulkan.specs.Step.{Place, is_again, Proposes, BytesPlaced, MoveStep, RefuseStep, IsMoveStep, RepliesPlace, CallEnvironment, nothing_met, host_met, id_in, model_of}
use Rattle.gpu_vulkan.specs.Types.{is_mapped}
use Rattle.gpu_vulkan.specs.declared.allocation.Allocation.{Allocation}
use Rattle.gpu_vulkan.specs.declared.describe.AllocationCreateDesc.{AllocationCreateDesc}
use Rattle.gpu_vulkan.proofs.Live.{has, given_live}
use Rattle.gpu_vulkan.proofs.Stepping.{served_bytes}

-- ---- the request again

both_true : (a b : Bool) → (a && b) ≡ true → (a ≡ true) × (b ≡ true)
both_true true true e = (refl, refl)
both_true true false e = cc
both_true false b e = cc

not_true : (b : Bool) → not b ≡ true → b ≡ false
not_true true e = cc
not_true false e = refl

above_zero : (n : ℕ) → not (n == 0) ≡ true → 0 < n
above_zero zero e = cc
above_zero (suc n) e = omega arith

-- what the request again is
pub record IsAgain (size : ℕ) (d : AllocationCreateDesc) : Type 0 where
  pub sized : 0 < d.requirements.size
  pub aligned : IsTrue (is_power_of_two d.requirements.alignment)
  pub whole : d.requirements.size ≡ size
  pub shared : requests_dedicated d.allocation_scheme ≡ false

pub asks_again : (size : ℕ) (d : AllocationCreateDesc) → is_again size d ≡ true → IsAgain size d
asks_again size d is =
    let k = both_true (is_valid d) ((d.requirements.size == size) && not (requests_dedicated d.allocation_scheme)) is in
    let v = both_true (not (d.requirements.size == 0)) (is_power_of_two d.requirements.alignment) k.0 in
    let s = both_true (d.requirements.size == size) (not (requests_dedicated d.allocation_scheme)) k.1 in
    record {
      sized = above_zero d.requirements.size v.0;
      aligned = v.1;
      whole = eqb-true d.requirements.size size s.0;
      shared = not_true (requests_dedicated d.allocation_scheme) s.1;
    }

-- ---- what the pool proposes

-- the allocation of a second place
pub second_place : (setup : Setup) (d : AllocationCreateDesc) (alignment : ℕ) (old new : Slots) (from to : Allocation) (p q : Piece DeviceMemory) → piece_of from ≡ Some p
    → IsAllocated setup from.memory_type_index d q to → pool.IsNewlyLive is_same_memory old new from.memory_type_index q → q.size ≡ from.size → q.offset % alignment ≡ 0 → p.slot < q.slot
    → IsSecondPlace alignment old from to new
second_place setup d alignment old new from to p q from_is is live sized aligned ahead =
    let f = has from p from_is in
    let t = has to q is.piece in
    let lives = given_live old new setup from.memory_type_index d q to is live in
    record {
      live = lives.0;
      other = lives.1;
      memory_type = is.memory_type;
      size = t.size ∙ sized;
      aligned = ap (λ n. n % alignment) t.offset ∙ aligned;
      ahead = omega (arith, f.slot, t.slot, ahead);
    }

module _ {D : Type 0} (from : Allocation) (d : AllocationCreateDesc) (old new : Pool D) where
  abbrev t : ℕ
  t = from.memory_type_index

  -- it meets with nothing but the host
  met_host : (p : Piece DeviceMemory) (met : Environment DeviceMemory) (answer : Place) → ProposesBy is_same_memory t p (request_of d) old met answer new
      → (host : Bool) × ProposesBy is_same_memory t p (request_of d) old (host_met host) answer new
  met_host p NothingMet answer k = (true, k)
  met_host p NoHostMemory answer k = (false, k)
  met_host p (Answered size a) answer k = absurd k

  pub proposed : (p : Piece DeviceMemory) (r : Request) → r ≡ request_of d → piece_of from ≡ Some p → (answer : Place) (result : Result (Option Allocation) AllocationError)
      → pool_moves.Proposes is_same_memory t p r old answer new → RepliesPlace (setup_of old) d result (placed_with t answer) → IsProposed from d old result new
  proposed p r asks is answer result k replies =
      let h = met_host p k.0 answer (subst (λ (q : Request). ProposesBy is_same_memory t p q old k.0 answer new) asks k.1) in
      record { host = h.0; answer = answer; proposes = subst (λ (o : Option (Piece DeviceMemory)). Proposes t o d h.0 old answer new) (sym is) h.1; replies = replies }

  -- ---- without its source

  abbrev before : pools.State (Unit {0}) DeviceMemory
  before = unseen (setup_of old) old.budgets old.slots

  abbrev after : pools.State (Unit {0}) DeviceMemory
  after = unseen (setup_of old) new.budgets new.slots

  same_unseen : new ≡ old → after ≡ before
  same_unseen is = ap (λ (s : Pool D). unseen (setup_of old) s.budgets s.slots) is

  by_pool : (p : Piece DeviceMemory) (met : Environment DeviceMemory) (answer : Place) → ProposesBy is_same_memory t p (request_of d) old met answer new
      → ProposesBy is_same_memory t p (request_of d) before met answer after
  by_pool p NothingMet (Ok (Some q)) k = let budgets : new.budgets ≡ old.budgets = ap (λ (s : Pool D). s.budgets) k.1 in (k.0, λ i. unseen (setup_of old) (budgets i) new.slots)
  by_pool p NothingMet (Ok None) k = (k.0, same_unseen k.1)
  by_pool p NothingMet (Err e) k = absurd k
  by_pool p NoHostMemory (Ok o) k = absurd k
  by_pool p NoHostMemory (Err e) k = (k.0, same_unseen k.1)
  by_pool p (Answered size a) answer k = absurd k

  unseen_proposes : (o : Option (Piece DeviceMemory)) (host : Bool) (answer : Place) → Proposes t o d host old answer new → Proposes t o d host before answer after
  unseen_proposes None host answer k = (k.0, k.1, same_unseen k.2)
  unseen_proposes (Some p) host answer k = by_pool p (host_met host) answer k

  -- ---- over a device

  module _ (g : Ghosts D) (first : Held) (whole : (n : ℕ) → IsWhole (get (g.held old.source.device) n)) (device : new.source.device ≡ old.source.device)
      (sound : BlocksWellFormed (setup_of old).properties.granularity old.slots) (sound_after : BlocksWellFormed (setup_of old).properties.granularity new.slots)
      (holds : HoldsJustLiveBlocks (setup_of old).properties first (g.held old.source.device) new.slots) where
    abbrev Bytes : Place → Type 0
    Bytes answer = BytesPlaced (is_mapped (setup_of old).properties t) t answer (byte_view_of (g.held old.source.device) old.slots) (byte_view_of (g.held new.source.device) new.slots)

    -- the second place's list comes out of the rest
    placed_bytes : (p q : Piece DeviceMemory) → GivesSecondPlace is_same_memory t p (request_of d) old.slots q new.slots → Bytes (Ok (Some q))
    placed_bytes p q k =
        let m = k.proposes in
        let held = g.held old.source.device in
        let here = served_bytes g (setup_of old) old.budgets d first t old.slots (type_below is_same_memory old.slots t p k.live) sound q m.left (request_of d) held m.proposes.takes
        (subst (BlocksWellFormed (setup_of old).properties.granularity) m.slots sound_after)
        (subst (λ (ss : Slots). HoldsJustLiveBlocks (setup_of old).properties first held ss) m.slots holds) whole in
        subst (λ (x : D). SplitsRest (is_mapped (setup_of old).properties t) (id_in t q) q.offset q.size (byte_view_of held old.slots) (byte_view_of (g.held x) new.slots)) (sym device)
        (subst (λ (ss : Slots). SplitsRest (is_mapped (setup_of old).properties t) (id_in t q) q.offset q.size (byte_view_of held old.slots) (byte_view_of held ss)) (sym m.slots) here)

    same_bytes : new ≡ old → byte_view_of (g.held new.source.device) new.slots ≡ byte_view_of (g.held old.source.device) old.slots
    same_bytes is = ap (λ (s : Pool D). byte_view_of (g.held s.source.device) s.slots) is

    bytes_by : (p : Piece DeviceMemory) (met : Environment DeviceMemory) (answer : Place) → ProposesBy is_same_memory t p (request_of d) old met answer new → Bytes answer
    bytes_by p NothingMet (Ok (Some q)) k = placed_bytes p q k.0
    bytes_by p NothingMet (Ok None) k = same_bytes k.1
    bytes_by p NothingMet (Err e) k = absurd k
    bytes_by p NoHostMemory (Ok o) k = absurd k
    bytes_by p NoHostMemory (Err e) k = same_bytes k.1
    bytes_by p (Answered size a) answer k = absurd k

    bytes : (o : Option (Piece DeviceMemory)) (host : Bool) (answer : Place) → Proposes t o d host old answer new → Bytes answer
    bytes None host answer k = subst Bytes (sym k.1) (same_bytes k.2)
    bytes (Some p) host answer k = bytes_by p (host_met host) answer k

    -- what the pool proposes is a step of the model
    pub move_step : (result : Result (Option Allocation) AllocationError) → is_again from.size d ≡ true → IsProposed from d old result new → IsMoveStep g from d result (state_of old) (state_of new)
    move_step result again k =
        let environment : CallEnvironment = record { first = record { host = k.host; asked = None }; second = nothing_met } in
        let here : MoveStep (setup_of old) from d true environment (placed_with t k.answer) (model_of g (state_of old)) (model_of g (state_of new)) = (
          (refl, refl),
          k.answer,
          refl,
          record {
            proposes = unseen_proposes (piece_of from) k.host k.answer k.proposes;
            bytes = bytes (piece_of from) k.host k.answer k.proposes;
            recorded = ap g.history device;
          },
        ) in
        record {
          reply = placed_with t k.answer;
          step = record {
            environment = environment;
            step = subst (λ v. MoveStep (setup_of old) from d v environment (placed_with t k.answer) (model_of g (state_of old)) (model_of g (state_of new))) (sym again) here;
            count = ap g.refused device;
            latest = ap g.latest device;
          };
          replies = k.replies;
        }

-- what isn't the request again is refused
pub refuse_step : {D : Type 0} (g : Ghosts D) (from : Allocation) (d : AllocationCreateDesc) (s : State D) (e : AllocationError) → refusal_of e ≡ invalid_allocation_create_desc → is_again from.size d ≡ false
    → IsMoveStep g from d (Err e) s s
refuse_step g from d s e is other =
    let environment : CallEnvironment = record { first = nothing_met; second = nothing_met } in
    let here : RefuseStep invalid_allocation_create_desc environment (Error invalid_allocation_create_desc) (model_of g s) (model_of g s) =
    record { met = (refl, refl); reply_is = refl; same = refl } in
    record {
      reply = Error invalid_allocation_create_desc;
      step = record {
        environment = environment;
        step = subst (λ v. MoveStep s.setup from d v environment (Error invalid_allocation_create_desc) (model_of g s) (model_of g s)) (sym other) here;
        count = refl;
        latest = refl;
      };
      replies = is;
    }
