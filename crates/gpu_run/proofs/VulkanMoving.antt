-- What a proposed move under a number results in.
use Rattle.std.proofs.Common.{◌≡◌, ◌∙◌, ℕ, Some, None, Ok, Err, true, refl, sym, ap, subst}
use Rattle.gpu_values.specs.Refusal.{refusal_of}
use Rattle.gpu_values.specs.declared.error.AllocationError.{AllocationError}
use Rattle.gpu_core.specs.declared.piece.Piece.{Piece}
use Rattle.gpu_device.specs.declared.vulkan.device.VulkanDevice.{Ghosts}
use Rattle.gpu_device.specs.declared.vulkan.types.DeviceMemory.{DeviceMemory}
use Rattle.gpu_vulkan.specs.Live.{IsAllocated}
use Rattle.gpu_vulkan.specs.Setup.{Setup}
use Rattle.gpu_vulkan.specs.State.{State}
use Rattle.gpu_vulkan.specs.Reply as answers
use Rattle.gpu_vulkan.specs.Step as model
use Rattle.gpu_vulkan.specs.Step.{IsMoveStep, IsStep, RepliesPlace}
use Rattle.gpu_vulkan.specs.declared.allocation.Allocation.{Allocation}
use Rattle.gpu_vulkan.specs.declared.describe.AllocationCreateDesc.{AllocationCreateDesc}
use Rattle.gpu_vulkan.proofs.Untouched.{same_leaves}
use Rattle.gpu_run.specs.VulkanReply as replies
use Rattle.gpu_run.specs.VulkanCommand.{Wanted, Describes, Move, Under}
use Rattle.gpu_run.specs.VulkanReply.{SessionReply}
use Rattle.gpu_run.specs.Bindings.{bind, bindings_of}
use Rattle.gpu_run.specs.VulkanSession.{CommandEnvironment, BindsPlace, ServesMove}
use Rattle.gpu_run.specs.VulkanServed.{SessionValue, session_of, shown_allocation, IsCommandServed}
use Rattle.gpu_run.proofs.VulkanServing.{serves_at}
use Rattle.gpu_run.proofs.VulkanTaking.{shown_same}

-- the model's reply, where there is a second place
place_reply : (setup : Setup) (d : AllocationCreateDesc) (a : Allocation) (model_reply : answers.Reply) → RepliesPlace setup d (Ok (Some a)) model_reply → (t : ℕ) × (p : Piece DeviceMemory) ×
    (model_reply ≡ answers.SecondPlace t (Some p)) × IsAllocated setup t d p a
place_reply setup d a (answers.SecondPlace t (Some p)) h = (t, p, refl, h)
place_reply setup d a reply h = absurd h

-- where there is none
none_reply : (setup : Setup) (d : AllocationCreateDesc) (model_reply : answers.Reply) → RepliesPlace setup d (Ok None) model_reply → (t : ℕ) × (model_reply ≡ answers.SecondPlace t None)
none_reply setup d (answers.SecondPlace t None) h = (t, refl)
none_reply setup d reply h = absurd h

-- where it was refused
failed_reply : (setup : Setup) (d : AllocationCreateDesc) (e : AllocationError) (model_reply : answers.Reply) → RepliesPlace setup d (Err e) model_reply → model_reply ≡ answers.Error (refusal_of e)
failed_reply setup d e (answers.Error r) h = ap answers.Error (sym h)
failed_reply setup d e reply h = absurd h

-- one number stands for the allocation, and the other for nothing
module _ {D : Type 0} (g : Ghosts D) (old new : SessionValue D) (key to : ℕ) (w : Wanted) (d : AllocationCreateDesc) (wants : Describes d w) (a : Allocation)
    (found : bindings_of old.bound key ≡ Some a) (none : bindings_of old.bound to ≡ None) (others : new.allocator ≡ record old.allocator { slots = new.allocator.slots }) where
  proposed : (model_reply : answers.Reply) (reply : SessionReply) → IsStep g (model.ProposeMove a d) model_reply old.allocator new.allocator
      → BindsPlace old.allocator.setup to w d model_reply reply (bindings_of old.bound) (bindings_of new.bound) → IsCommandServed g (Under key (Move to w)) reply old new
  proposed model_reply reply step binds =
      let o : CommandEnvironment = record { room = true; call = step.environment } in
      let serves : ServesMove old.allocator.setup to None a w o reply (session_of g old) (session_of g new) =
      record { description = d; describes = wants; model_reply = model_reply; step = step.step; binds = binds } in
      record {
        environment = o;
        serves = serves_at old.allocator.setup (session_of g old) (session_of g new) key (Move to w) o reply (Some a) found
            (subst (λ f. ServesMove old.allocator.setup to f a w o reply (session_of g old) (session_of g new)) (sym none) serves);
        count = step.count;
        latest = step.latest;
        untouched = λ e. same_leaves (g.held old.allocator.device) (g.held new.allocator.device) (ap (λ (s : State D). g.held s.device) others);
        constant = (ap (λ (s : State D). s.setup) others, ap (λ (s : State D). s.first) others);
      }

  -- the allocator refused it
  pub not_proposed : (e : AllocationError) → bindings_of new.bound ≡ bindings_of old.bound → IsMoveStep g a d (Err e) old.allocator new.allocator
      → IsCommandServed g (Under key (Move to w)) (replies.Error (refusal_of e)) old new
  not_proposed e same s =
      proposed (answers.Error (refusal_of e)) (replies.Error (refusal_of e))
      (subst (λ r. IsStep g (model.ProposeMove a d) r old.allocator new.allocator) (failed_reply old.allocator.setup d e s.reply s.replies) s.step) (refl, same)

  -- no block ahead has a place
  pub no_place : bindings_of new.bound ≡ bindings_of old.bound → IsMoveStep g a d (Ok None) old.allocator new.allocator → IsCommandServed g (Under key (Move to w)) replies.NoPlace old new
  no_place same s =
      let is = none_reply old.allocator.setup d s.reply s.replies in
      proposed (answers.SecondPlace is.0 None) replies.NoPlace
      (subst (λ r. IsStep g (model.ProposeMove a d) r old.allocator new.allocator) is.1 s.step) (refl, same)

  -- one has
  pub placed : (b : Allocation) (reply : SessionReply) → bindings_of new.bound ≡ bind (bindings_of old.bound) to (Some b) → IsMoveStep g a d (Ok (Some b)) old.allocator new.allocator
      → reply ≡ replies.Allocated (shown_allocation b) → IsCommandServed g (Under key (Move to w)) reply old new
  placed b reply same s is_told =
      let is = place_reply old.allocator.setup d b s.reply s.replies in
      proposed (answers.SecondPlace is.0 (Some is.1)) reply
      (subst (λ r. IsStep g (model.ProposeMove a d) r old.allocator new.allocator) is.2 s.step)
      (b, is.3, is_told ∙ ap replies.Allocated (shown_same old.allocator.setup d w is.0 is.1 b wants is.3), same)
