-- What a request under a free number, and a new name, come to.
use Rattle.std.proofs.Common.{◌≡◌, ◌∙◌, ℕ, List, Some, None, Ok, Err, true, refl, sym, ap, subst}
use Rattle.gpu_values.specs.Refusal.{refusal_of}
use Rattle.gpu_values.specs.declared.error.AllocationError.{AllocationError}
use Rattle.gpu_core.specs.declared.piece.Piece.{Piece}
use Rattle.gpu_device.specs.D3D12History.{refused_in}
use Rattle.gpu_device.specs.declared.d3d12.device.D3D12Device.{Ghosts}
use Rattle.gpu_device.specs.declared.d3d12.types.ID3D12Heap.{ID3D12Heap}
use Rattle.gpu_d3d12.specs.declared.describe.AllocationCreateDesc.{AllocationCreateDesc}
use Rattle.gpu_pool.specs.Reply as answers
use Rattle.gpu_pool.specs.Step as calls
use Rattle.gpu_pool.specs.Allocation.{IsAllocated, piece_of}
use Rattle.gpu_d3d12.specs.Live.{Allocation}
use Rattle.gpu_pool.specs.Allocation.{IsNamed}
use Rattle.gpu_d3d12.specs.Reply as module_replies
use Rattle.gpu_d3d12.specs.State.{basis_of, model_of}
use Rattle.gpu_d3d12.specs.Step as model
use Rattle.gpu_d3d12.specs.Step.{IsStep, IsAllocateStep, Replies}
use Rattle.gpu_run.specs.Bindings.{bind, bindings_of}
use Rattle.gpu_run.proofs.Binding.{bind_same}
use Rattle.gpu_run.specs.D3D12Command.{Alloc, Rename, Under}
use Rattle.gpu_run.specs.D3D12Describe.{Wanted, AsksFor}
use Rattle.gpu_run.specs.D3D12Reply as replies
use Rattle.gpu_run.specs.D3D12Reply.{SessionReply}
use Rattle.gpu_run.specs.Shown.{shown}
use Rattle.gpu_run.specs.D3D12Session.{Binds, Names}
use Rattle.gpu_run.specs.D3D12Served.{SessionValue, session_of, IsAnswered}
use Rattle.gpu_run.proofs.D3D12Counting.{allocate_leaves, pool_leaves}
use Rattle.gpu_run.proofs.D3D12Serving.{serves_at, constant_by, answered_apart}

-- the model's reply, where an allocation is given
allocated_reply : (d : AllocationCreateDesc) (a : Allocation) (reply : answers.Reply ID3D12Heap) → Replies d (Ok a) reply
    → (t : ℕ) × (p : Piece ID3D12Heap) × (reply ≡ answers.Allocated t p) × IsAllocated t d.name.now p a
allocated_reply d a (answers.Allocated t p) h = (t, p, refl, h)
allocated_reply d a reply h = absurd h

failed_reply : (d : AllocationCreateDesc) (e : AllocationError) (reply : answers.Reply ID3D12Heap) → Replies d (Err e) reply → reply ≡ answers.Error (refusal_of e)
failed_reply d e (answers.Error r) h = ap answers.Error (sym h)
failed_reply d e reply h = absurd h

module _ {D : Type 0} (g : Ghosts D) (law : (d : D) → g.refused d ≡ refused_in (g.history d)) (old new : SessionValue D) (key : ℕ) (first : new.allocator.first ≡ old.allocator.first)
    (setup : new.allocator.setup ≡ old.allocator.setup) (resources : new.resources ≡ old.resources) (journal : new.allocator.journal ≡ old.allocator.journal) where
  module _ (w : Wanted) (d : AllocationCreateDesc) (asks : AsksFor w d) (none : bindings_of old.bound key ≡ None) where
    answered : (model_reply : answers.Reply ID3D12Heap) (reply : SessionReply) → (step : IsStep g (model.Allocate d) (module_replies.Pool model_reply) old.allocator new.allocator)
        → Binds key w.name model_reply reply (bindings_of old.bound) (bindings_of new.bound) → IsAnswered g (Under key (Alloc w)) reply old new
    answered model_reply reply step binds =
        answered_apart g law (Under key (Alloc w)) reply (record { room = true; met = step.environment }) old new
        (allocate_leaves (basis_of g old.allocator) d step.environment (module_replies.Pool model_reply) (model_of g old.allocator) (model_of g new.allocator) step.step)
        (constant_by g old new first setup step.same_version)
        (serves_at (basis_of g old.allocator) (session_of g old) (session_of g new) key (Alloc w) (record { room = true; met = step.environment }) reply None none
        (record { description = d; asks = asks; model_reply = model_reply; step = step.step; binds = binds; resources = ap (λ b. bindings_of b) resources })) journal

    -- the allocator refused it
    pub not_allocated : (e : AllocationError) → bindings_of new.bound ≡ bindings_of old.bound → IsAllocateStep g d (Err e) old.allocator new.allocator
        → IsAnswered g (Under key (Alloc w)) (replies.Error (refusal_of e)) old new
    not_allocated e same s =
        answered (answers.Error (refusal_of e)) (replies.Error (refusal_of e))
        (subst (λ r. IsStep g (model.Allocate d) (module_replies.Pool r) old.allocator new.allocator) (failed_reply d e s.reply s.replies) s.step) (refl, same)

    -- the allocator allocated it
    pub allocated : (a : Allocation) (reply : SessionReply) → bindings_of new.bound ≡ bind (bindings_of old.bound) key (Some a) → IsAllocateStep g d (Ok a) old.allocator new.allocator
        → reply ≡ replies.Allocated (shown a.memory_type_index (piece_of a)) → IsAnswered g (Under key (Alloc w)) reply old new
    allocated a reply same s is_told =
        let given = allocated_reply d a s.reply s.replies in
        let is : IsAllocated given.0 w.name given.1 a = subst (λ n. IsAllocated given.0 n given.1 a) asks.has_name given.3 in
        let told : reply ≡ replies.Allocated (shown given.0 given.1) =
        is_told ∙ ap (λ t. replies.Allocated (shown t (piece_of a))) is.memory_type ∙ ap (λ p. replies.Allocated (shown given.0 p)) is.piece in
        answered (answers.Allocated given.0 given.1) reply
        (subst (λ r. IsStep g (model.Allocate d) (module_replies.Pool r) old.allocator new.allocator) given.2 s.step) (a, is, told, same)

  module _ (name : List ℕ) (a b : Allocation) (reply : SessionReply) (found : bindings_of old.bound key ≡ Some a) (is : bindings_of new.bound ≡ bind (bindings_of old.bound) key (Some b)) where
    named_by : (model_reply : answers.Reply ID3D12Heap) → (step : IsStep g (model.Rename a name) (module_replies.Pool model_reply) old.allocator new.allocator)
        → Names key a name model_reply reply (bindings_of old.bound) (bindings_of new.bound) → IsAnswered g (Under key (Rename name)) reply old new
    named_by model_reply step names =
        answered_apart g law (Under key (Rename name)) reply (record { room = true; met = step.environment }) old new
        (pool_leaves (basis_of g old.allocator) (calls.Rename a.memory_type_index (piece_of a) name) step.environment (module_replies.Pool model_reply) (model_of g old.allocator) (model_of g new.allocator) step.step)
        (constant_by g old new first setup step.same_version)
        (serves_at (basis_of g old.allocator) (session_of g old) (session_of g new) key (Rename name) (record { room = true; met = step.environment }) reply (Some a) found
        (record { model_reply = model_reply; step = step.step; names = names; resources = ap (λ b. bindings_of b) resources })) journal

    -- it has the name
    pub renamed : IsNamed a name b → reply ≡ replies.Done → IsStep g (model.Rename a name) (module_replies.Pool answers.Done) old.allocator new.allocator → IsAnswered g (Under key (Rename name)) reply old new
    renamed named fine step = named_by answers.Done step (b, named, fine, is)

    -- it hasn't
    pub not_renamed : (e : AllocationError) → b ≡ a → reply ≡ replies.Error (refusal_of e) → IsStep g (model.Rename a name) (module_replies.Pool (answers.Error (refusal_of e))) old.allocator new.allocator
        → IsAnswered g (Under key (Rename name)) reply old new
    not_renamed e same fails step =
        named_by (answers.Error (refusal_of e)) step (fails, is ∙ bind_same (bindings_of old.bound) key (Some b) (found ∙ ap Some (sym same)))
