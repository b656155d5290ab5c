-- What an allocation under a free number results in.
use Rattle.std.proofs.Common.{◌≡◌, ◌∙◌, ℕ, Option, Some, None, Ok, Err, true, refl, sym, ap, subst}
use Rattle.std.specs.Prelude.{IsSomeAnd, slice_get}
use Rattle.std.specs.Int.NonZero.{non_zero_u64_get}
use Rattle.gpu_values.specs.Refusal.{refusal_of}
use Rattle.gpu_core.specs.declared.piece.Piece.{Piece}
use Rattle.gpu_values.specs.declared.error.AllocationError.{AllocationError}
use Rattle.gpu_device.specs.declared.vulkan.device.VulkanDevice.{Ghosts}
use Rattle.gpu_device.specs.declared.vulkan.types.DeviceMemory.{DeviceMemory}
use Rattle.gpu_device.specs.declared.vulkan.types.MemoryTypeInfo.{MemoryTypeInfo}
use Rattle.gpu_vulkan.specs.Allocate.{AllocatorAllocates}
use Rattle.gpu_vulkan.specs.Types.{is_mapped, mapped_by, is_host_visible}
use Rattle.gpu_vulkan.specs.Describe.{requests_dedicated}
use Rattle.gpu_vulkan.specs.Lends.{number_in}
use Rattle.gpu_vulkan.specs.Live.{piece_of, IsAllocated}
use Rattle.gpu_vulkan.specs.Setup.{Setup}
use Rattle.gpu_vulkan.specs.Reply as answers
use Rattle.gpu_vulkan.specs.Step as model
use Rattle.gpu_vulkan.specs.Step.{IsAllocateStep, IsStep, Replies}
use Rattle.gpu_vulkan.specs.declared.allocation.Allocation.{Allocation}
use Rattle.gpu_vulkan.specs.declared.describe.AllocationCreateDesc.{AllocationCreateDesc}
use Rattle.gpu_vulkan.proofs.Untouched.{allocate_leaves}
use Rattle.gpu_run.specs.VulkanReply as replies
use Rattle.gpu_run.specs.VulkanCommand.{Wanted, Describes, Alloc, Under}
use Rattle.gpu_run.specs.VulkanReply.{Shown}
use Rattle.gpu_run.specs.Bindings.{bind}
use Rattle.gpu_run.specs.VulkanSession.{shown}
use Rattle.gpu_run.specs.VulkanServed.{SessionValue, session_of, shown_allocation, IsCommandServed}
use Rattle.gpu_run.specs.Bindings.{bindings_of}
use Rattle.gpu_run.proofs.VulkanServing.{serves_at}

-- the model_reply of the model, where an allocation is given
allocated_reply : (setup : Setup) (d : AllocationCreateDesc) (a : Allocation) (model_reply : answers.Reply) → Replies setup d (Ok a) model_reply → (t : ℕ) × (p : Piece DeviceMemory) ×
    (model_reply ≡ answers.Allocated t p) × IsAllocated setup t d p a
allocated_reply setup d a (answers.Allocated t p) h = (t, p, refl, h)
allocated_reply setup d a reply h = absurd h

failed_reply : (setup : Setup) (d : AllocationCreateDesc) (e : AllocationError) (model_reply : answers.Reply) → Replies setup d (Err e) model_reply → model_reply ≡ answers.Error (refusal_of e)
failed_reply setup d e (answers.Error r) h = ap answers.Error (sym h)
failed_reply setup d e reply h = absurd h

mapped_is : (found : Option MemoryTypeInfo) (a : Allocation) → IsSomeAnd found (λ info. (a.memory_properties ≡ info.property_flags) × (a.mapped ≡ is_host_visible info)) → a.mapped ≡ mapped_by found
mapped_is None a h = absurd h
mapped_is (Some info) a h = h.1

-- what the allocation shows is what the model shows
pub shown_same : (setup : Setup) (d : AllocationCreateDesc) (w : Wanted) (t : ℕ) (p : Piece DeviceMemory) (a : Allocation) → Describes d w → IsAllocated setup t d p a → shown_allocation a ≡ shown setup w t p
shown_same setup d w t p a wants given =
    let mapped = mapped_is (slice_get setup.properties.types t) a given.memory in
    let own = given.dedicated ∙ ap requests_dedicated wants.scheme in
    by (a.chunk_id) refl mapped own
  where
    by : (chunk : Option _) → a.chunk_id ≡ chunk → a.mapped ≡ is_mapped setup.properties t → a.dedicated ≡ requests_dedicated w.scheme → shown_allocation a ≡ shown setup w t p
    by None e mapped own = absurd (let f = sym (ap (λ n. piece_of (record a { chunk_id = n })) e) ∙ given.piece in cc)
    by (Some n) e mapped own =
        let is : Some (record { slot = a.memory_block_index; chunk_id = n; offset = a.offset; size = a.size; handle = a.device_memory }) ≡ Some p =
        sym (ap (λ n. piece_of (record a { chunk_id = n })) e) ∙ given.piece in
        let same : record { slot = a.memory_block_index; chunk_id = n; offset = a.offset; size = a.size; handle = a.device_memory } ≡ p = cc in
        let number : number_in a.chunk_id ≡ non_zero_u64_get p.chunk_id = ap number_in e ∙ ap (λ q. non_zero_u64_get q.chunk_id) same in
        λ i. record {
          memory_type = given.memory_type i;
          slot = (same i).slot;
          offset = (same i).offset;
          size = (same i).size;
          chunk_id = number i;
          dedicated = own i;
          mapped = mapped i;
        }

module _ {D : Type 0} (g : Ghosts D) (old new : SessionValue D) (key : ℕ) (w : Wanted) (d : AllocationCreateDesc) (wants : Describes d w) where
  pub not_taken : (e : AllocationError) → bindings_of old.bound key ≡ None → bindings_of new.bound ≡ bindings_of old.bound → IsAllocateStep g d (Err e) old.allocator new.allocator → AllocatorAllocates g
      old.allocator.setup old.allocator.budgets d old.allocator.slots old.allocator.device (Err e) new.allocator.slots new.allocator.device
      → (new.allocator.first ≡ old.allocator.first) × (new.allocator.setup ≡ old.allocator.setup) → IsCommandServed g (Under key (Alloc w)) (replies.Error (refusal_of e)) old new
  not_taken e none same s allocates constant =
      let is = failed_reply old.allocator.setup d e s.reply s.replies in
      let step = subst (λ r. IsStep g (model.Allocate d) r old.allocator new.allocator) is s.step in
      record {
        environment = record { room = true; call = step.environment };
        serves = serves_at old.allocator.setup (session_of g old) (session_of g new) key (Alloc w) (record { room = true; call = step.environment }) (replies.Error (refusal_of e)) None none (record {
          description = d;
          describes = wants;
          model_reply = answers.Error (refusal_of e);
          step = step.step;
          binds = (refl, same);
        });
        count = step.count;
        latest = step.latest;
        untouched = λ w2. allocate_leaves g old.allocator.setup old.allocator.budgets d old.allocator.slots new.allocator.slots old.allocator.device new.allocator.device (Err e) allocates;
        constant = (constant.1, constant.0);
      }

  pub taken : (a : Allocation) (reply : replies.SessionReply) → bindings_of old.bound key ≡ None → bindings_of new.bound ≡ bind (bindings_of old.bound) key (Some a) → IsAllocateStep g d (Ok a) old.allocator
      new.allocator → AllocatorAllocates g old.allocator.setup old.allocator.budgets d old.allocator.slots old.allocator.device (Ok a) new.allocator.slots new.allocator.device
      → (new.allocator.first ≡ old.allocator.first) × (new.allocator.setup ≡ old.allocator.setup) → reply ≡ replies.Allocated (shown_allocation a) → IsCommandServed g (Under key (Alloc w)) reply old new
  taken a reply none same s allocates constant is_told =
      let is = allocated_reply old.allocator.setup d a s.reply s.replies in
      let step = subst (λ r. IsStep g (model.Allocate d) r old.allocator new.allocator) is.2 s.step in
      record {
        environment = record { room = true; call = step.environment };
        serves = serves_at old.allocator.setup (session_of g old) (session_of g new) key (Alloc w) (record { room = true; call = step.environment }) reply None none (record {
          description = d;
          describes = wants;
          model_reply = answers.Allocated is.0 is.1;
          step = step.step;
          binds = (a, is.3, is_told ∙ ap replies.Allocated (shown_same old.allocator.setup d w is.0 is.1 a wants is.3), same);
        });
        count = step.count;
        latest = step.latest;
        untouched = λ w2. allocate_leaves g old.allocator.setup old.allocator.budgets d old.allocator.slots new.allocator.slots old.allocator.device new.allocator.device (Ok a) allocates;
        constant = (constant.1, constant.0);
      }
