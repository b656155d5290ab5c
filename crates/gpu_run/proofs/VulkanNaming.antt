-- What a new name under a number results in.
use Rattle.std.proofs.Common.{◌≡◌, ◌∙◌, ℕ, List, Option, Some, None, Ok, Err, true, sym, ap}
use Rattle.gpu_values.specs.Refusal.{refusal_of}
use Rattle.gpu_core.specs.declared.piece.Piece.{Piece}
use Rattle.gpu_values.specs.declared.error.AllocationError.{AllocationError}
use Rattle.gpu_device.specs.declared.vulkan.device.VulkanDevice.{Ghosts}
use Rattle.gpu_device.specs.declared.vulkan.types.DeviceMemory.{DeviceMemory}
use Rattle.gpu_vulkan.specs.Blocks.{Slots}
use Rattle.gpu_vulkan.specs.Rename.{IsNamed, RenamesBy}
use Rattle.gpu_vulkan.specs.Reply as answers
use Rattle.gpu_vulkan.specs.Step as model
use Rattle.gpu_vulkan.specs.Step.{IsStep}
use Rattle.gpu_vulkan.specs.declared.allocation.Allocation.{Allocation}
use Rattle.gpu_vulkan.proofs.Untouched.{same_leaves}
use Rattle.gpu_run.specs.VulkanReply as replies
use Rattle.gpu_run.specs.VulkanCommand.{Under, Rename}
use Rattle.gpu_run.specs.VulkanReply.{SessionReply}
use Rattle.gpu_run.specs.Bindings.{bind}
use Rattle.gpu_run.specs.VulkanSession.{CommandEnvironment}
use Rattle.gpu_run.specs.VulkanServed.{SessionValue, session_of, IsCommandServed}
use Rattle.gpu_run.specs.Bindings.{bindings_of}
use Rattle.gpu_run.proofs.Binding.{bind_same}
use Rattle.gpu_run.proofs.VulkanServing.{serves_at}

pub named_of : (a b : Allocation) (p : Option (Piece DeviceMemory)) (name : List ℕ) (u : Unit {0}) (old new : Slots) → RenamesBy a p name old (Ok u) b new → IsNamed a name b
named_of a b None name u old new h = h.0
named_of a b (Some p) name u old new h = h.0

pub same_of : (a b : Allocation) (p : Option (Piece DeviceMemory)) (name : List ℕ) (e : AllocationError) (old new : Slots) → RenamesBy a p name old (Err e) b new → b ≡ a
same_of a b None name e old new h = h.1
same_of a b (Some p) name e old new h = h.1

module _ {D : Type 0} (g : Ghosts D) (old new : SessionValue D) (key : ℕ) (name : List ℕ) (a b : Allocation) (reply : SessionReply) (found : bindings_of old.bound key ≡ Some a)
    (is : bindings_of new.bound ≡ bind (bindings_of old.bound) key (Some b)) (constant : (new.allocator.setup ≡ old.allocator.setup) × (new.allocator.first ≡ old.allocator.first))
    (device : new.allocator.device ≡ old.allocator.device) where
  pub renamed : IsNamed a name b → reply ≡ replies.Done → IsStep g (model.Rename a name) answers.Done old.allocator new.allocator → IsCommandServed g (Under key (Rename name)) reply old new
  renamed named fine step =
      let o : CommandEnvironment = record { room = true; call = step.environment } in
      record {
        environment = o;
        serves = serves_at old.allocator.setup (session_of g old) (session_of g new) key (Rename name) o reply (Some a) found
            (record { model_reply = answers.Done; step = step.step; binds = (fine, (b, named, is)) });
        count = step.count;
        latest = step.latest;
        untouched = λ e2. same_leaves (g.held old.allocator.device) (g.held new.allocator.device) (ap g.held device);
        constant = constant;
      }

  pub not_renamed : (e : AllocationError) → b ≡ a → reply ≡ replies.Error (refusal_of e) → IsStep g (model.Rename a name) (answers.Error (refusal_of e)) old.allocator new.allocator → IsCommandServed g
      (Under key (Rename name)) reply old new
  not_renamed e same fails step =
      let o : CommandEnvironment = record { room = true; call = step.environment } in
      let unchanged : bindings_of new.bound ≡ bindings_of old.bound = is ∙ bind_same (bindings_of old.bound) key (Some b) (found ∙ ap Some (sym same)) in
      record {
        environment = o;
        serves = serves_at old.allocator.setup (session_of g old) (session_of g new) key (Rename name) o reply (Some a) found
            (record { model_reply = answers.Error (refusal_of e); step = step.step; binds = (fails, unchanged) });
        count = step.count;
        latest = step.latest;
        untouched = λ e2. same_leaves (g.held old.allocator.device) (g.held new.allocator.device) (ap g.held device);
        constant = constant;
      }
