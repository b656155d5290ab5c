-- What a proposed move under a number results in.
use Rattle.std.proofs.Common.{◌≡◌, ◌∙◌, ℕ, Some, None, Ok, Err, true, refl, sym, ap, subst}
use Rattle.gpu_values.specs.Refusal.{refusal_of}
use Rattle.gpu_values.specs.declared.error.AllocationError.{AllocationError}
use Rattle.gpu_core.specs.declared.piece.Piece.{Piece}
use Rattle.gpu_device.specs.D3D12History.{refused_in}
use Rattle.gpu_device.specs.declared.d3d12.device.D3D12Device.{Ghosts}
use Rattle.gpu_device.specs.declared.d3d12.types.ID3D12Heap.{ID3D12Heap}
use Rattle.gpu_d3d12.specs.declared.describe.AllocationCreateDesc.{AllocationCreateDesc}
use Rattle.gpu_pool.specs.Reply as answers
use Rattle.gpu_pool.specs.Allocation.{IsAllocated, piece_of}
use Rattle.gpu_d3d12.specs.Live.{Allocation}
use Rattle.gpu_d3d12.specs.Reply as module_replies
use Rattle.gpu_d3d12.specs.State.{basis_of, model_of}
use Rattle.gpu_d3d12.specs.Step as model
use Rattle.gpu_d3d12.specs.Step.{IsStep, IsMoveStep, RepliesPlace}
use Rattle.gpu_run.specs.Bindings.{bind, bindings_of}
use Rattle.gpu_run.specs.D3D12Command.{Move, Under}
use Rattle.gpu_run.specs.D3D12Describe.{Wanted, AsksFor}
use Rattle.gpu_run.specs.D3D12Reply as replies
use Rattle.gpu_run.specs.D3D12Reply.{SessionReply}
use Rattle.gpu_run.specs.Shown.{shown}
use Rattle.gpu_run.specs.D3D12Session.{CommandEnvironment, BindsPlace, ServesMove}
use Rattle.gpu_run.specs.D3D12Served.{SessionValue, session_of, IsAnswered}
use Rattle.gpu_run.proofs.D3D12Counting.{move_leaves}
use Rattle.gpu_run.proofs.D3D12Serving.{serves_at, constant_by, answered_apart}

-- the model's reply, where there is a second place
place_reply : (d : AllocationCreateDesc) (a : Allocation) (reply : answers.Reply ID3D12Heap) → RepliesPlace d (Ok (Some a)) reply
    → (t : ℕ) × (p : Piece ID3D12Heap) × (reply ≡ answers.SecondPlace t (Some p)) × IsAllocated t d.name.now p a
place_reply d a (answers.SecondPlace t (Some p)) h = (t, p, refl, h)
place_reply d a reply h = absurd h

-- where there is none
none_reply : (d : AllocationCreateDesc) (reply : answers.Reply ID3D12Heap) → RepliesPlace d (Ok None) reply → (t : ℕ) × (reply ≡ answers.SecondPlace t None)
none_reply d (answers.SecondPlace t None) h = (t, refl)
none_reply d reply h = absurd h

-- where it was refused
failed_reply : (d : AllocationCreateDesc) (e : AllocationError) (reply : answers.Reply ID3D12Heap) → RepliesPlace d (Err e) reply → reply ≡ answers.Error (refusal_of e)
failed_reply d e (answers.Error r) h = ap answers.Error (sym h)
failed_reply d e reply h = absurd h

-- one number stands for the allocation, and the other for nothing
module _ {D : Type 0} (g : Ghosts D) (law : (d : D) → g.refused d ≡ refused_in (g.history d)) (old new : SessionValue D) (key to : ℕ) (first : new.allocator.first ≡ old.allocator.first)
    (setup : new.allocator.setup ≡ old.allocator.setup) (resources : new.resources ≡ old.resources) (journal : new.allocator.journal ≡ old.allocator.journal)
    (w : Wanted) (d : AllocationCreateDesc) (asks : AsksFor w d) (a : Allocation) (found : bindings_of old.bound key ≡ Some a) (none : bindings_of old.bound to ≡ None) where
  proposed : (model_reply : answers.Reply ID3D12Heap) (reply : SessionReply) → (step : IsStep g (model.ProposeMove a d) (module_replies.Pool model_reply) old.allocator new.allocator)
      → BindsPlace to w.name model_reply reply (bindings_of old.bound) (bindings_of new.bound) → IsAnswered g (Under key (Move to w)) reply old new
  proposed model_reply reply step binds =
      let o : CommandEnvironment = record { room = true; met = step.environment } in
      let serves : ServesMove (basis_of g old.allocator) to None a w o reply (session_of g old) (session_of g new) =
      record { description = d; asks = asks; model_reply = model_reply; step = step.step; binds = binds; resources = ap (λ b. bindings_of b) resources } in
      answered_apart g law (Under key (Move to w)) reply o old new
      (move_leaves (basis_of g old.allocator) a d step.environment (module_replies.Pool model_reply) (model_of g old.allocator) (model_of g new.allocator) step.step)
      (constant_by g old new first setup step.same_version)
      (serves_at (basis_of g old.allocator) (session_of g old) (session_of g new) key (Move to w) o reply (Some a) found
      (subst (λ f. ServesMove (basis_of g old.allocator) to f a w o reply (session_of g old) (session_of g new)) (sym none) serves)) journal

  -- the allocator refused it
  pub not_proposed : (e : AllocationError) → bindings_of new.bound ≡ bindings_of old.bound → IsMoveStep g a d (Err e) old.allocator new.allocator
      → IsAnswered g (Under key (Move to w)) (replies.Error (refusal_of e)) old new
  not_proposed e same s =
      proposed (answers.Error (refusal_of e)) (replies.Error (refusal_of e))
      (subst (λ r. IsStep g (model.ProposeMove a d) (module_replies.Pool r) old.allocator new.allocator) (failed_reply d e s.reply s.replies) s.step) (refl, same)

  -- no block ahead has a place
  pub no_place : bindings_of new.bound ≡ bindings_of old.bound → IsMoveStep g a d (Ok None) old.allocator new.allocator → IsAnswered g (Under key (Move to w)) replies.NoPlace old new
  no_place same s =
      let given = none_reply d s.reply s.replies in
      proposed (answers.SecondPlace given.0 None) replies.NoPlace
      (subst (λ r. IsStep g (model.ProposeMove a d) (module_replies.Pool r) old.allocator new.allocator) given.1 s.step) (refl, same)

  -- one has
  pub placed : (b : Allocation) (reply : SessionReply) → bindings_of new.bound ≡ bind (bindings_of old.bound) to (Some b) → IsMoveStep g a d (Ok (Some b)) old.allocator new.allocator
      → reply ≡ replies.Allocated (shown b.memory_type_index (piece_of b)) → IsAnswered g (Under key (Move to w)) reply old new
  placed b reply same s is_told =
      let given = place_reply d b s.reply s.replies in
      let there : IsAllocated given.0 w.name given.1 b = subst (λ n. IsAllocated given.0 n given.1 b) asks.has_name given.3 in
      let told : reply ≡ replies.Allocated (shown given.0 given.1) =
      is_told ∙ ap (λ t. replies.Allocated (shown t (piece_of b))) there.memory_type ∙ ap (λ p. replies.Allocated (shown given.0 p)) there.piece in
      proposed (answers.SecondPlace given.0 (Some given.1)) reply
      (subst (λ r. IsStep g (model.ProposeMove a d) (module_replies.Pool r) old.allocator new.allocator) given.2 s.step) (b, there, told, same)
