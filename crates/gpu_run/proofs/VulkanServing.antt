-- What the session's calls cite.
use Rattle.std.proofs.Common.{◌≡◌, ℕ, List, [], ◌∷◌, map, Option, Some, Ok, Err, Result, IfOk, true, false, refl, ap, sym, subst, ◌∙◌}
use Rattle.std.specs.Prelude.{Vec}
use Rattle.std.specs.Global.{Global}
use Rattle.gpu_values.specs.declared.error.AllocationError.{AllocationError}
use Rattle.gpu_run.specs.declared.vulkan.reply.Reply.{Reply}
use Rattle.gpu_block_session.specs.CommandList.{IsRun as IsRunOf}
use Rattle.gpu_device.specs.declared.vulkan.device.VulkanDevice.{Ghosts}
use Rattle.gpu_core.specs.Blocks.{BlocksWellFormed}
use Rattle.gpu_vulkan.specs.Setup.{Setup}
use Rattle.gpu_vulkan.specs.State.{State}
use Rattle.gpu_vulkan.specs.Reply as answers
use Rattle.gpu_vulkan.specs.Step as model
use Rattle.gpu_vulkan.specs.Step.{CallEnvironment, nothing_met, MeetsNothing, count_after, latest_after, IsStep}
use Rattle.gpu_vulkan.proofs.Untouched.{same_leaves}
use Rattle.gpu_vulkan.specs.declared.allocation.Allocation.{Allocation}
use Rattle.gpu_run.specs.Bindings.{bindings_of}
use Rattle.gpu_run.specs.VulkanCommand.{KeyCommand, SessionCommand, Under}
use Rattle.gpu_run.specs.VulkanReply.{SessionReply}
use Rattle.gpu_run.specs.VulkanSession.{SessionState, IsOwn, SessionInvariant, CommandEnvironment, Stays, ServesAt, SessionServes, Runs, Asks, reply_by}
use Rattle.gpu_run.specs.VulkanServed.{Command, SessionValue, session_of, command_of, reply_of, count_over, latest_over, IsCommandServed, ServesCommand, IsRun, ServesEach}

-- nothing is met with
abbrev pub quiet : CommandEnvironment
quiet = record { room = true; call = record { first = nothing_met; second = nothing_met } }

-- no room for the session's own
abbrev pub short : CommandEnvironment
short = record { room = false; call = record { first = nothing_met; second = nothing_met } }

pub stayed : (s : SessionState) → Stays quiet s s
stayed s = ((refl, refl), refl)

pub serves_at : (setup : Setup) (s new : SessionState) (key : ℕ) (command : KeyCommand) (o : CommandEnvironment) (reply : SessionReply) (found : Option Allocation) → s.bound key ≡ found → ServesAt
    setup key found command o reply s new → SessionServes setup (Under key command) o reply s new
serves_at setup s new key command o reply found e h = subst (λ f. ServesAt setup key f command o reply s new) (sym e) h

module _ {D : Type 0} (g : Ghosts D) where
  -- nothing is asked and nothing changes
  pub served_quietly : (key : ℕ) (command : KeyCommand) (reply : SessionReply) (old : SessionValue D) (o : CommandEnvironment) (found : Option Allocation) → o.call ≡ quiet.call →
      (session_of g old).bound key ≡ found
      → ServesAt old.allocator.setup key found command o reply (session_of g old) (session_of g old) → IsCommandServed g (Under key command) reply old old
  served_quietly key command reply old o found met e h = record {
    environment = o;
    serves = serves_at old.allocator.setup (session_of g old) (session_of g old) key command o reply found e h;
    count = ap (λ c. count_after (count_after (g.refused old.allocator.device) c.first.asked) c.second.asked) (sym met);
    latest = ap (λ c. latest_after (latest_after (g.latest old.allocator.device) c.first.asked) c.second.asked) (sym met);
    untouched = λ e. same_leaves (g.held old.allocator.device) (g.held old.allocator.device) refl;
    constant = (refl, refl);
  }

  -- a call that is no one number's, and changes budgets at most
  pub told : (call : model.Call) (model_reply : answers.Reply) (command : SessionCommand) (reply : SessionReply) (old new : SessionValue D) → reply_by model_reply ≡ Some reply → new.bound ≡ old.bound
      → new.allocator ≡ record old.allocator { budgets = new.allocator.budgets } → (step : IsStep g call model_reply old.allocator new.allocator)
      → (Asks old.allocator.setup call step.environment reply (session_of g old) (session_of g new)
      → SessionServes old.allocator.setup command (record { room = true; call = step.environment }) reply (session_of g old) (session_of g new))
      → IsCommandServed g command reply old new
  told call model_reply command reply old new is bound others step serves = record {
    environment = record { room = true; call = step.environment };
    serves = serves (record { model_reply = model_reply; step = step.step; reply_is = is; bound = ap (λ b. bindings_of b) bound });
    count = step.count;
    latest = step.latest;
    untouched = λ e. same_leaves (g.held old.allocator.device) (g.held new.allocator.device) (ap (λ (a : State D). g.held a.device) others);
    constant = (ap (λ (a : State D). a.setup) others, ap (λ (a : State D). a.first) others);
  }

-- the blocks are sound and the numbers own their pieces, in the words of callers
pub kept_at : {D : Type 0} (g : Ghosts D) (allocator : State D) (bound : List (ℕ × Allocation)) (s : SessionValue D) (setup : Setup) → record { allocator = allocator; bound = bound } ≡ s →
    s.allocator.setup ≡ setup
    → BlocksWellFormed allocator.setup.properties.granularity allocator.slots → IsOwn (session_of g (record { allocator = allocator; bound = bound })) → SessionInvariant setup (session_of g s)
kept_at g allocator bound s setup is same sound own =
    subst (λ x. SessionInvariant setup (session_of g x)) is (record {
      sound = subst (λ z. BlocksWellFormed z.properties.granularity allocator.slots) (ap (λ x. x.allocator.setup) is ∙ same) sound;
      own = own;
    })

-- ---- runs

module _ {D : Type 0} (g : Ghosts D) where
  -- command by command
  each_of : (commands : List Command) (replies : List Reply) (old new : SessionValue D) → IsRunOf (ServesCommand g) commands replies old new
      → ServesEach g (map command_of commands) (map reply_of replies) old new
  each_of [] [] old new same = same
  each_of [] (r ∷ rs) old new run = absurd run
  each_of (c ∷ cs) [] old new run = absurd run
  each_of (c ∷ cs) (r ∷ rs) old new run = (run.0, run.1.served, each_of cs rs run.0 new run.2)

  -- as one run of the model
  run_of : (commands : List Command) (replies : List Reply) (old new : SessionValue D) → IsRunOf (ServesCommand g) commands replies old new
      → IsRun g (map command_of commands) (map reply_of replies) old new
  run_of [] [] old new same = record {
    environment = [];
    runs = ap (session_of g) same;
    count = ap (λ (s : SessionValue D). g.refused s.allocator.device) same;
    latest = ap (λ (s : SessionValue D). g.latest s.allocator.device) same;
    constant = (ap (λ (s : SessionValue D). s.allocator.setup) same, ap (λ (s : SessionValue D). s.allocator.first) same);
  }
  run_of [] (r ∷ rs) old new run = absurd run
  run_of (c ∷ cs) [] old new run = absurd run
  run_of (c ∷ cs) (r ∷ rs) old new run =
      let mid = run.0 in
      let step = run.1.served in
      let rest = run_of cs rs mid new run.2 in
      let setup = step.constant.0 in
      record {
        environment = step.environment ∷ rest.environment;
        runs = (
          session_of g mid,
          step.serves,
          subst (λ s. SessionInvariant s (session_of g mid)) setup run.1.kept,
          subst (λ s. Runs s (session_of g mid) (map command_of cs) rest.environment (map reply_of rs) (session_of g new)) setup rest.runs,
        );
        count = rest.count ∙ ap (λ n. count_over n rest.environment) step.count;
        latest = rest.latest ∙ ap (λ q. latest_over q rest.environment) step.latest;
        constant = (rest.constant.0 ∙ step.constant.0, rest.constant.1 ∙ step.constant.1);
      }

  -- the same of what a run returns
  pub each_served : (commands : List Command) (old new : SessionValue D) (result : Result (Vec Reply Global) AllocationError)
      → IfOk result (λ replies. IsRunOf (ServesCommand g) commands replies.items old new) → IfOk result (λ replies. ServesEach g (map command_of commands) (map reply_of replies.items) old new)
  each_served commands old new (Ok replies) run = each_of commands replies.items old new run
  each_served commands old new (Err e) run = tt

  pub run_served : (commands : List Command) (old new : SessionValue D) (result : Result (Vec Reply Global) AllocationError)
      → IfOk result (λ replies. IsRunOf (ServesCommand g) commands replies.items old new) → IfOk result (λ replies. IsRun g (map command_of commands) (map reply_of replies.items) old new)
  run_served commands old new (Ok replies) run = run_of commands replies.items old new run
  run_served commands old new (Err e) run = tt
