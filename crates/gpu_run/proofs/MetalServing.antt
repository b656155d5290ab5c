-- What the session's calls cite.
use Rattle.std.proofs.Common.{◌≡◌, ◌∙◌, ℕ, List, [], ◌∷◌, Option, Some, Bool, true, false, Result, Ok, Err, Global, refl, sym, ap, subst}
use Rattle.std.specs.Prelude.{IfOk, OnErr, Vec}
use Rattle.gpu_values.specs.declared.error.AllocationError.{AllocationError}
use Rattle.gpu_device.specs.Metal.{Properties}
use Rattle.gpu_device.specs.MetalHistory.{refused_in}
use Rattle.gpu_device.specs.declared.metal.device.MetalDevice.{Ghosts}
use Rattle.gpu_device.specs.declared.metal.types.MTLHeap.{MTLHeap}
use Rattle.gpu_core.specs.Blocks.{BlocksWellFormed}
use Rattle.gpu_pool.specs.Allocate.{NothingMet}
use Rattle.gpu_pool.specs.Reply as answers
use Rattle.gpu_pool.specs.Allocation.{AreDistinct}
use Rattle.gpu_metal.specs.Live.{Allocation}
use Rattle.gpu_metal.specs.State.{State, model_of}
use Rattle.gpu_metal.specs.Step as model
use Rattle.gpu_metal.specs.Step.{Step, IsStep}
use Rattle.gpu_run.specs.Bindings.{bindings_of}
use Rattle.gpu_block_session.specs.CommandList.{IsRun}
use Rattle.gpu_run.specs.MetalCommand.{KeyCommand, SessionCommand, Under, Heaps}
use Rattle.gpu_run.specs.MetalReply.{SessionReply}
use Rattle.gpu_run.specs.MetalSession.{SessionState, SessionInvariant, IsOwn, CommandEnvironment, refused_after, ServesAt, SessionServes, Asks, reply_by, reply_to_heaps}
use Rattle.gpu_run.specs.MetalServed.{SessionValue, session_of, IsConstant, IsAnswered, ServesCommand}
use Rattle.gpu_run.specs.MetalCommand.{Command}
use Rattle.gpu_run.specs.declared.metal.reply.Reply.{Reply}
use Rattle.gpu_run.proofs.MetalCounting.{step_counts}

-- nothing is met with
abbrev pub quiet : CommandEnvironment
quiet = record { room = true; met = NothingMet }

-- no room for the session's own
abbrev pub short : CommandEnvironment
short = record { room = false; met = NothingMet }

pub serves_at : (p : Properties) (s new : SessionState) (key : ℕ) (command : KeyCommand) (o : CommandEnvironment) (reply : SessionReply) (found : Option Allocation) → s.bound key ≡ found
    → ServesAt p key found command o reply s new → SessionServes p (Under key command) o reply s new
serves_at p s new key command o reply found e h = subst (λ f. ServesAt p key f command o reply s new) (sym e) h

pub distinct_sym : (a b : Allocation) → AreDistinct a b → AreDistinct b a
distinct_sym a b h = λ x y z. h (sym x) (sym y) (sym z)

module _ {D : Type 0} (g : Ghosts D) where
  -- the allocator isn't called
  pub answered_quietly : (allocator : State D) (bound after : List (ℕ × Allocation)) (command : SessionCommand) (reply : SessionReply) (o : CommandEnvironment) → o.met ≡ NothingMet
      → SessionServes (g.properties allocator.first) command o reply (session_of g (record { allocator = allocator; bound = bound })) (session_of g (record { allocator = allocator; bound = after }))
      → IsAnswered g command reply (record { allocator = allocator; bound = bound }) (record { allocator = allocator; bound = after })
  answered_quietly allocator bound after command reply o unmet serves = record {
    served = record { environment = o; serves = serves; count = ap (λ m. refused_after m (g.refused allocator.device)) (sym unmet) };
    constant = (refl, refl);
  }

  -- the allocator's call is a step
  pub answered_by : ((d : D) → g.refused d ≡ refused_in (g.history d)) → (call : model.Call) (model_reply : answers.Reply MTLHeap) (command : SessionCommand) (reply : SessionReply) (o : CommandEnvironment) (old new : SessionValue D)
      → Step call o.met model_reply (model_of g old.allocator) (model_of g new.allocator) → IsConstant g old new
      → SessionServes (g.properties old.allocator.first) command o reply (session_of g old) (session_of g new) → IsAnswered g command reply old new
  answered_by law call model_reply command reply o old new step constant serves = record {
    served = record {
      environment = o;
      serves = serves;
      count = law new.allocator.device ∙ step_counts call o.met model_reply (model_of g old.allocator) (model_of g new.allocator) step
          ∙ ap (refused_after o.met) (sym (law old.allocator.device));
    };
    constant = constant;
  }

  -- a call that is no one number's
  pub asks : (call : model.Call) (model_reply : answers.Reply MTLHeap) (reply : SessionReply) (old new : SessionValue D) → reply_by model_reply ≡ Some reply
      → new.bound ≡ old.bound → (step : IsStep g call model_reply old.allocator new.allocator) → Asks call step.0 reply (session_of g old) (session_of g new)
  asks call model_reply reply old new is same step = record {
    model_reply = model_reply;
    step = step.1;
    reply_is = is;
    bound = ap (λ b. bindings_of b) same;
  }

  -- the blocks are sound and the numbers own their pieces, in the words of callers
  pub kept_at : (allocator : State D) (bound : List (ℕ × Allocation)) (s : SessionValue D) → record { allocator = allocator; bound = bound } ≡ s
      → BlocksWellFormed 1 allocator.slots → IsOwn (session_of g (record { allocator = allocator; bound = bound })) → SessionInvariant (session_of g s)
  kept_at allocator bound s is sound own = subst (λ x. SessionInvariant (session_of g x)) is (record { sound = sound; own = own })

  -- a run keeps what the allocator was made with
  pub run_constant : (commands : List Command) (replies : List Reply) (old new : SessionValue D) → IsRun (ServesCommand g) commands replies old new → IsConstant g old new
  run_constant [] [] old new same = (ap (λ s. s.allocator.first) same, ap (λ s. s.allocator.setup) same)
  run_constant [] (reply ∷ replies) old new run = absurd run
  run_constant (command ∷ commands) [] old new run = absurd run
  run_constant (command ∷ commands) (reply ∷ replies) old new run =
      let here = run.1.answered.constant in
      let rest = run_constant commands replies run.0 new run.2 in
      (rest.0 ∙ here.0, rest.1 ∙ here.1)

  -- what the allocator replied to a call that is no one number's is handed on
  pub told : ((d : D) → g.refused d ≡ refused_in (g.history d)) → (call : model.Call) (model_reply : answers.Reply MTLHeap) (reply : SessionReply) (command : SessionCommand) (old new : SessionValue D)
      → reply_by model_reply ≡ Some reply → new.bound ≡ old.bound → IsConstant g old new → (step : IsStep g call model_reply old.allocator new.allocator)
      → (Asks call step.0 reply (session_of g old) (session_of g new) → SessionServes (g.properties old.allocator.first) command (record { room = true; met = step.0 }) reply (session_of g old) (session_of g new))
      → IsAnswered g command reply old new
  told law call model_reply reply command old new is same constant step serves =
      answered_by law call model_reply command reply (record { room = true; met = step.0 }) old new step.1 constant (serves (asks call model_reply reply old new is same step))

  -- the heaps, where there is room for them or isn't
  pub heaps_told : ((d : D) → g.refused d ≡ refused_in (g.history d)) → (room : Bool) (heaps : List MTLHeap) (s : SessionValue D) → IsStep g model.LiveHeaps (answers.Handles heaps) s.allocator s.allocator
      → IsAnswered g Heaps (reply_to_heaps room heaps) s s
  heaps_told law room heaps s step =
      answered_by law model.LiveHeaps (answers.Handles heaps) Heaps (reply_to_heaps room heaps) (record { room = room; met = step.0 }) s s step.1 (refl, refl)
      (record { heaps = heaps; step = step.1; reply_is = refl; bound = refl })

  pub run_kept : (commands : List Command) (old new : SessionValue D) (result : Result (Vec Reply Global) AllocationError) → IfOk result (λ replies. IsRun (ServesCommand g) commands replies.items old new)
      → OnErr result (new ≡ old) → IsConstant g old new
  run_kept commands old new (Ok replies) run nothing = run_constant commands replies.items old new run
  run_kept commands old new (Err e) run same = (ap (λ s. s.allocator.first) same, ap (λ s. s.allocator.setup) same)
