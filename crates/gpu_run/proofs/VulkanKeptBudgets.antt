-- What a command makes of the budgets of memory types.
use Rattle.std.proofs.Common.{◌≡◌, ◌∙◌, ◌+◌, ℕ, List, length, Option, Some, None, Bool, true, false, refl, sym, ap, subst}
use Rattle.std.specs.Prelude.{nat_le}
use Rattle.gpu_vulkan.specs.Reply as answers
use Rattle.gpu_vulkan.specs.Step as model
use Rattle.gpu_vulkan.specs.Step.{CallEnvironment}
use Rattle.gpu_vulkan.specs.EqualButBytes.{EqualButBytesCall}
use Rattle.gpu_core.specs.Blocks.{BlocksWellFormed}
use Rattle.gpu_vulkan.specs.Setup.{Setup}
use Rattle.gpu_vulkan.specs.declared.allocation.Allocation.{Allocation}
use Rattle.gpu_vulkan.proofs.KeptBudgets.{keeps_budgets}
use Rattle.gpu_vulkan.proofs.EqualButBytes.{step_alike}
use Rattle.gpu_run.specs.VulkanCommand.{Wanted, KeyCommand, Alloc, Move, Null, Free, Rename, Write, Read, SessionCommand, Under, Report, Leaks, Capacity, SetBudget}
use Rattle.gpu_run.specs.VulkanReply.{SessionReply}
use Rattle.gpu_run.specs.VulkanSession.{SessionState, CommandEnvironment, ServesAlloc, ServesMoveTo, ServesMove, ServesNull, Asks, WritesIn, WritesOver, ServesBound, ServesUnbound, ServesAt, SessionServes}
use Rattle.gpu_run.specs.VulkanLaws.{EqualButBytesCommand, EqualButBytesCommandEnvironment}

abbrev budgets_of : SessionState → List (Option ℕ)
budgets_of s = s.model.budgets

taken : (setup : Setup) (key : ℕ) (w : Wanted) (room : Bool) (o : CallEnvironment) (reply : SessionReply) (s new : SessionState) → ServesAlloc setup key w room o reply s new → new.model.budgets ≡
    s.model.budgets
taken setup key w false o reply s new h = ap budgets_of h.2
taken setup key w true o reply s new h = keeps_budgets setup (model.Allocate h.description) o h.model_reply s.model new.model tt h.step

moved_in_room : (setup : Setup) (to : ℕ) (a : Allocation) (w : Wanted) (room : Bool) (o : CallEnvironment) (reply : SessionReply) (s new : SessionState)
    → ServesMoveTo setup to a w room o reply s new → new.model.budgets ≡ s.model.budgets
moved_in_room setup to a w false o reply s new h = ap budgets_of h.2
moved_in_room setup to a w true o reply s new h = keeps_budgets setup (model.ProposeMove a h.description) o h.model_reply s.model new.model tt h.step

moved : (setup : Setup) (to : ℕ) (found : Option Allocation) (a : Allocation) (w : Wanted) (o : CommandEnvironment) (reply : SessionReply) (s new : SessionState)
    → ServesMove setup to found a w o reply s new → new.model.budgets ≡ s.model.budgets
moved setup to (Some b) a w o reply s new h = ap budgets_of h.1.1
moved setup to None a w o reply s new h = moved_in_room setup to a w o.room o.call reply s new h

null_taken : (key : ℕ) (room : Bool) (reply : SessionReply) (s new : SessionState) → ServesNull key room reply s new → new.model.budgets ≡ s.model.budgets
null_taken key false reply s new h = ap budgets_of h.1
null_taken key true reply s new h = ap budgets_of h.1

put_in : (setup : Setup) (a : Allocation) (at : ℕ) (others bytes : List ℕ) (fits : Bool) (o : CommandEnvironment) (reply : SessionReply) (s new : SessionState) → WritesIn setup a at others bytes fits
    o reply s new
    → new.model.budgets ≡ s.model.budgets
put_in setup a at others bytes false o reply s new h = ap budgets_of h.1.1
put_in setup a at others bytes true o reply s new h = keeps_budgets setup (model.Write a _) o.call answers.Done s.model new.model tt h.1

put_over : (setup : Setup) (a : Allocation) (at : ℕ) (others : List ℕ) (x : Option (List ℕ)) (o : CommandEnvironment) (reply : SessionReply) (s new : SessionState) → WritesOver setup a at others x o
    reply s new
    → new.model.budgets ≡ s.model.budgets
put_over setup a at others None o reply s new h = ap budgets_of h.1.1
put_over setup a at others (Some bytes) o reply s new h = put_in setup a at others bytes (nat_le (at + length others) (length bytes)) o reply s new h

bound_kept : (setup : Setup) (key : ℕ) (a : Allocation) (command : KeyCommand) (o : CommandEnvironment) (reply : SessionReply) (s new : SessionState) → ServesBound setup key a command o reply s new →
    new.model.budgets ≡ s.model.budgets
bound_kept setup key a (Alloc w) o reply s new h = ap budgets_of h.1.1
bound_kept setup key a (Move to w) o reply s new h = moved setup to (s.bound to) a w o reply s new h
bound_kept setup key a Null o reply s new h = ap budgets_of h.1.1
bound_kept setup key a Free o reply s new h = keeps_budgets setup (model.Free a) o.call answers.Done s.model new.model tt h.step
bound_kept setup key a (Rename name) o reply s new h = keeps_budgets setup (model.Rename a name) o.call h.model_reply s.model new.model tt h.step
bound_kept setup key a (Write at bytes) o reply s new h = put_over setup a at bytes h.0 o reply s new h.2
bound_kept setup key a (Read at size) o reply s new h = ap budgets_of h.3.1

free_kept : (setup : Setup) (key : ℕ) (command : KeyCommand) (o : CommandEnvironment) (reply : SessionReply) (s new : SessionState) → ServesUnbound setup key command o reply s new → new.model.budgets
    ≡ s.model.budgets
free_kept setup key (Alloc w) o reply s new h = taken setup key w o.room o.call reply s new h
free_kept setup key Null o reply s new h = null_taken key o.room reply s new h.1
free_kept setup key command o reply s new h = ap budgets_of h.1.1

under_kept : (setup : Setup) (key : ℕ) (found : Option Allocation) (command : KeyCommand) (o : CommandEnvironment) (reply : SessionReply) (s new : SessionState) → ServesAt setup key found command o
    reply s new
    → new.model.budgets ≡ s.model.budgets
under_kept setup key None command o reply s new h = free_kept setup key command o reply s new h
under_kept setup key (Some a) command o reply s new h = bound_kept setup key a command o reply s new h

module _ (ours : ℕ → Bool) (setup : Setup) (s t new next : SessionState) (o p : CommandEnvironment) (reply other_reply : SessionReply)
    (sound : BlocksWellFormed setup.properties.granularity s.model.slots)
    (slots : s.model.slots ≡ t.model.slots) (budgets : s.model.budgets ≡ t.model.budgets) (met : EqualButBytesCommandEnvironment o p) where
  same_call : (call : model.Call) → ((other : model.Call) → call ≡ other → EqualButBytesCall call other) → Asks setup call o.call reply s new → Asks setup call p.call other_reply t next →
      new.model.budgets ≡ next.model.budgets
  same_call call alike h k =
      (step_alike setup o.call p.call h.model_reply k.model_reply s.model new.model t.model next.model sound slots budgets met.call call call (alike call refl) h.step k.step).1.1

  -- commands that differ at most in bytes leave the same budgets
  pub budgets_next : (command other : SessionCommand) → EqualButBytesCommand ours command other → SessionServes setup command o reply s new → SessionServes setup other p other_reply t next → new.model.budgets ≡
      next.model.budgets
  budgets_next (Under key command) (Under to other) e h k =
      under_kept setup key (s.bound key) command o reply s new h ∙ budgets ∙ sym (under_kept setup to (t.bound to) other p other_reply t next k)
  budgets_next Report other e h k = same_call model.Report (λ z f. f) h (subst (λ z. SessionServes setup z p other_reply t next) (sym e) k)
  budgets_next Leaks other e h k = same_call model.Leaks (λ z f. f) h (subst (λ z. SessionServes setup z p other_reply t next) (sym e) k)
  budgets_next Capacity other e h k = same_call model.Capacity (λ z f. f) h (subst (λ z. SessionServes setup z p other_reply t next) (sym e) k)
  budgets_next (SetBudget u budget) other e h k = same_call (model.SetBudget u budget) (λ z f. f) h (subst (λ z. SessionServes setup z p other_reply t next) (sym e) k)
  budgets_next command call e h k = absurd (cc)
