-- What the session's calls cite.
use Rattle.std.proofs.Common.{◌≡◌, ◌∙◌, ℕ, List, [], ◌∷◌, Option, Some, None, true, false, Result, Ok, Err, Global, refl, sym, ap, subst}
use Rattle.std.specs.Prelude.{IfOk, OnErr, Vec}
use Rattle.gpu_values.specs.declared.error.AllocationError.{AllocationError}
use Rattle.gpu_device.specs.D3D12History.{refused_in}
use Rattle.gpu_device.specs.declared.d3d12.device.D3D12Device.{Ghosts}
use Rattle.gpu_d3d12.specs.DeviceVersion.{device_of, with_device}
use Rattle.gpu_d3d12.specs.declared.device_version.ID3D12DeviceVersion.{ID3D12DeviceVersion}
use Rattle.gpu_d3d12.specs.declared.device_version.ID3D12DeviceVersion.TheVariants.{Device, Device10, Device12}
use Rattle.gpu_pool.specs.Allocation.{AreDistinct}
use Rattle.gpu_d3d12.specs.Live.{Allocation}
use Rattle.gpu_d3d12.specs.Reply as module_replies
use Rattle.gpu_d3d12.specs.ResourceAnswer.{ResourceAnswer}
use Rattle.gpu_d3d12.specs.Source.{SourceState}
use Rattle.gpu_d3d12.specs.State.{State, Basis, interface_of, basis_of, model_of, pool_of}
use Rattle.gpu_d3d12.specs.Step as model
use Rattle.gpu_d3d12.specs.Step.{Step, IsStep, IsReasonMet, TellsReason, nothing_met}
use Rattle.gpu_d3d12.specs.declared.resource.Resource.{Resource}
use Rattle.gpu_run.specs.Bindings.{bindings_of}
use Rattle.gpu_block_session.specs.CommandList.{IsRun}
use Rattle.gpu_run.specs.D3D12Command.{KeyCommand, ResourceCommand, SessionCommand, Under, UnderResource}
use Rattle.gpu_run.specs.D3D12Reply.{SessionReply}
use Rattle.gpu_run.specs.D3D12Session.{SessionState, CommandEnvironment, refused_after, ServesAt, ServesResourceAt, SessionServes, Asks, reply_by}
use Rattle.gpu_run.specs.D3D12Served.{SessionValue, session_of, IsConstant, IsAnswered, ServesCommand, journal_after}
use Rattle.gpu_run.specs.D3D12Command.{Command}
use Rattle.gpu_run.specs.declared.d3d12.reply.Reply.{Reply}
use Rattle.gpu_run.proofs.D3D12Counting.{refusals, Leaves}

-- nothing is met with
abbrev pub quiet : CommandEnvironment
quiet = record { room = true; met = nothing_met }

-- no room for the session's own
abbrev pub short : CommandEnvironment
short = record { room = false; met = nothing_met }

pub serves_at : (b : Basis) (s new : SessionState) (key : ℕ) (command : KeyCommand) (o : CommandEnvironment) (reply : SessionReply) (found : Option Allocation) → s.bound key ≡ found
    → ServesAt b key found command o reply s new → SessionServes b (Under key command) o reply s new
serves_at b s new key command o reply found e h = subst (λ f. ServesAt b key f command o reply s new) (sym e) h

pub serves_resource_at : (b : Basis) (s new : SessionState) (key : ℕ) (command : ResourceCommand) (o : CommandEnvironment) (reply : SessionReply) (found : Option Resource) → s.resources key ≡ found
    → ServesResourceAt b key found command o reply s new → SessionServes b (UnderResource key command) o reply s new
serves_resource_at b s new key command o reply found e h = subst (λ f. ServesResourceAt b key f command o reply s new) (sym e) h

pub distinct_sym : (a b : Allocation) → AreDistinct a b → AreDistinct b a
distinct_sym a b h = λ x y z. h (sym x) (sym y) (sym z)

pub same_interface : {D : Type 0} (v : ID3D12DeviceVersion D) (d : D) → interface_of (with_device v d) ≡ interface_of v
same_interface (Device old) d = refl
same_interface (Device10 old) d = refl
same_interface (Device12 old) d = refl

module _ {D : Type 0} (g : Ghosts D) where
  -- a call keeps the device's interface
  pub constant_by : (old new : SessionValue D) → new.allocator.first ≡ old.allocator.first → new.allocator.setup ≡ old.allocator.setup
      → new.allocator.device ≡ with_device old.allocator.device (device_of new.allocator.device) → IsConstant g old new
  constant_by old new first setup version = record {
    first = first;
    setup = setup;
    interface = ap interface_of version ∙ same_interface old.allocator.device (device_of new.allocator.device);
  }

  -- where no resource was asked for, there is no reason to tell
  pub no_reason : (asked : Option ResourceAnswer) (s : SourceState D) → asked ≡ None → TellsReason g asked s
  no_reason asked s none = record {
    answered = s;
    told = subst (λ a. IsReasonMet g a (device_of s.device)) (sym none) tt;
    went = None;
    gives_back = refl;
  }

  -- the allocator isn't called
  pub answered_quietly : (old new : SessionValue D) (command : SessionCommand) (reply : SessionReply) (o : CommandEnvironment) → new.allocator ≡ old.allocator → o.met ≡ nothing_met
      → SessionServes (basis_of g old.allocator) command o reply (session_of g old) (session_of g new)
      → journal_after command reply (bindings_of old.resources) old.allocator.journal ≡ old.allocator.journal
      → IsAnswered g command reply old new
  answered_quietly old new command reply o same unmet serves journal = record {
    served = record {
      environment = o;
      serves = serves;
      count = ap (λ (a : State D). g.refused (device_of a.device)) same ∙ ap (λ m. refused_after m (g.refused (device_of old.allocator.device))) (sym unmet);
    };
    reason = no_reason o.met.resource (pool_of new.allocator).source (ap (λ (m : model.Environment). m.resource) unmet);
    constant = record { first = ap (λ (a : State D). a.first) same; setup = ap (λ (a : State D). a.setup) same; interface = ap (λ (a : State D). interface_of a.device) same };
    journal = ap (λ (a : State D). a.journal) same ∙ sym journal;
  }

  -- the allocator's call is a step, of which the refusals are counted
  pub answered_by : ((d : D) → g.refused d ≡ refused_in (g.history d)) → (command : SessionCommand) (reply : SessionReply) (o : CommandEnvironment) (old new : SessionValue D)
      → refusals (model_of g new.allocator) ≡ refused_after o.met (refusals (model_of g old.allocator))
      → TellsReason g o.met.resource (pool_of new.allocator).source → IsConstant g old new
      → SessionServes (basis_of g old.allocator) command o reply (session_of g old) (session_of g new)
      → new.allocator.journal ≡ journal_after command reply (bindings_of old.resources) old.allocator.journal
      → IsAnswered g command reply old new
  answered_by law command reply o old new count reason constant serves journal = record {
    served = record {
      environment = o;
      serves = serves;
      count = law (device_of new.allocator.device) ∙ count ∙ ap (refused_after o.met) (sym (law (device_of old.allocator.device)));
    };
    reason = reason;
    constant = constant;
    journal = journal;
  }

  -- the same of a call that asks for no resource
  pub answered_apart : ((d : D) → g.refused d ≡ refused_in (g.history d)) → (command : SessionCommand) (reply : SessionReply) (o : CommandEnvironment) (old new : SessionValue D)
      → Leaves (basis_of g old.allocator) o.met (model_of g old.allocator) (model_of g new.allocator) → IsConstant g old new
      → SessionServes (basis_of g old.allocator) command o reply (session_of g old) (session_of g new)
      → new.allocator.journal ≡ journal_after command reply (bindings_of old.resources) old.allocator.journal
      → IsAnswered g command reply old new
  answered_apart law command reply o old new leaves constant serves journal =
      answered_by law command reply o old new leaves.count (no_reason o.met.resource (pool_of new.allocator).source leaves.unasked) constant serves journal

  -- what the allocator replied to a call that is no one number's is handed on
  pub told : ((d : D) → g.refused d ≡ refused_in (g.history d)) → (call : model.Call) (model_reply : module_replies.Reply) (reply : SessionReply) (command : SessionCommand) (old new : SessionValue D)
      → reply_by model_reply ≡ Some reply → new.bound ≡ old.bound → new.resources ≡ old.resources → new.allocator.first ≡ old.allocator.first → new.allocator.setup ≡ old.allocator.setup
      → (step : IsStep g call model_reply old.allocator new.allocator)
      → Leaves (basis_of g old.allocator) step.environment (model_of g old.allocator) (model_of g new.allocator)
      → (Asks (basis_of g old.allocator) call step.environment reply (session_of g old) (session_of g new)
      → SessionServes (basis_of g old.allocator) command (record { room = true; met = step.environment }) reply (session_of g old) (session_of g new))
      → new.allocator.journal ≡ journal_after command reply (bindings_of old.resources) old.allocator.journal
      → IsAnswered g command reply old new
  told law call model_reply reply command old new is same also first setup step leaves serves journal =
      answered_apart law command reply (record { room = true; met = step.environment }) old new leaves (constant_by old new first setup step.same_version)
      (serves (record {
        model_reply = model_reply;
        step = step.step;
        reply_is = is;
        bound = ap (λ b. bindings_of b) same;
        resources = ap (λ b. bindings_of b) also;
      })) journal

  -- ---- runs

  -- what a run keeps
  pub record Keeps (old new : SessionValue D) : Type 0 where
    pub constant : IsConstant g old new
    pub basis : basis_of g new.allocator ≡ basis_of g old.allocator

  kept_same : (old new : SessionValue D) → new ≡ old → Keeps old new
  kept_same old new same = record {
    constant = record { first = ap (λ s. s.allocator.first) same; setup = ap (λ s. s.allocator.setup) same; interface = ap (λ s. interface_of s.allocator.device) same };
    basis = ap (λ s. basis_of g s.allocator) same;
  }

  run_keeps : (commands : List Command) (replies : List Reply) (old new : SessionValue D) → IsRun (ServesCommand g) commands replies old new → Keeps old new
  run_keeps [] [] old new same = kept_same old new same
  run_keeps [] (reply ∷ replies) old new run = absurd run
  run_keeps (command ∷ commands) [] old new run = absurd run
  run_keeps (command ∷ commands) (reply ∷ replies) old new run =
      let here = run.1.answered.constant in
      let rest = run_keeps commands replies run.0 new run.2 in
      record {
        constant = record {
          first = rest.constant.first ∙ here.first;
          setup = rest.constant.setup ∙ here.setup;
          interface = rest.constant.interface ∙ here.interface;
        };
        basis = rest.basis ∙ run.1.basis;
      }

  pub run_kept : (commands : List Command) (old new : SessionValue D) (result : Result (Vec Reply Global) AllocationError) → IfOk result (λ replies. IsRun (ServesCommand g) commands replies.items old new)
      → OnErr result (new ≡ old) → Keeps old new
  run_kept commands old new (Ok replies) run nothing = run_keeps commands replies.items old new run
  run_kept commands old new (Err e) run same = kept_same old new same
