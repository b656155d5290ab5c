-- What a proposed move under a number results in.
use Rattle.std.proofs.Common.{◌≡◌, ◌∙◌, ℕ, List, Some, None, Ok, Err, true, refl, sym, ap, subst}
use Rattle.gpu_values.specs.Refusal.{refusal_of}
use Rattle.gpu_values.specs.declared.error.AllocationError.{AllocationError}
use Rattle.gpu_core.specs.declared.piece.Piece.{Piece}
use Rattle.gpu_device.specs.MetalHistory.{refused_in}
use Rattle.gpu_device.specs.declared.metal.device.MetalDevice.{Ghosts}
use Rattle.gpu_device.specs.declared.metal.types.MTLHeap.{MTLHeap}
use Rattle.gpu_pool.specs.Reply as answers
use Rattle.gpu_pool.specs.Allocation.{IsAllocated, piece_of}
use Rattle.gpu_metal.specs.Live.{Allocation}
use Rattle.gpu_metal.specs.Step as model
use Rattle.gpu_metal.specs.Step.{IsStep, IsMoveStep, RepliesPlace}
use Rattle.gpu_metal.specs.declared.describe.AllocationCreateDesc.{AllocationCreateDesc}
use Rattle.gpu_run.specs.Bindings.{bind, bindings_of}
use Rattle.gpu_run.specs.MetalCommand.{Move, Under}
use Rattle.gpu_run.specs.MetalDescribe.{Described, AsksFor}
use Rattle.gpu_run.specs.MetalReply as replies
use Rattle.gpu_run.specs.MetalReply.{SessionReply}
use Rattle.gpu_run.specs.Shown.{shown}
use Rattle.gpu_run.specs.MetalSession.{CommandEnvironment, BindsPlace, ServesMove}
use Rattle.gpu_run.specs.MetalServed.{SessionValue, session_of, IsConstant, IsAnswered}
use Rattle.gpu_run.proofs.MetalServing.{serves_at, answered_by}

-- the model's reply, where there is a second place
place_reply : (d : AllocationCreateDesc) (a : Allocation) (reply : answers.Reply MTLHeap) → RepliesPlace d (Ok (Some a)) reply
    → (t : ℕ) × (p : Piece MTLHeap) × (reply ≡ answers.SecondPlace t (Some p)) × IsAllocated t d.name.now p a
place_reply d a (answers.SecondPlace t (Some p)) h = (t, p, refl, h)
place_reply d a reply h = absurd h

-- where there is none
none_reply : (d : AllocationCreateDesc) (reply : answers.Reply MTLHeap) → RepliesPlace d (Ok None) reply → (t : ℕ) × (reply ≡ answers.SecondPlace t None)
none_reply d (answers.SecondPlace t None) h = (t, refl)
none_reply d reply h = absurd h

-- where it was refused
failed_reply : (d : AllocationCreateDesc) (e : AllocationError) (reply : answers.Reply MTLHeap) → RepliesPlace d (Err e) reply → reply ≡ answers.Error (refusal_of e)
failed_reply d e (answers.Error r) h = ap answers.Error (sym h)
failed_reply d e reply h = absurd h

-- one number stands for the allocation, and the other for nothing
module _ {D : Type 0} (g : Ghosts D) (law : (d : D) → g.refused d ≡ refused_in (g.history d)) (old new : SessionValue D) (key to : ℕ) (is : Described) (name : List ℕ) (d : AllocationCreateDesc)
    (asks : AsksFor is name d) (a : Allocation) (found : bindings_of old.bound key ≡ Some a) (none : bindings_of old.bound to ≡ None) (constant : IsConstant g old new) where
  proposed : (model_reply : answers.Reply MTLHeap) (reply : SessionReply) → (step : IsStep g (model.ProposeMove a d) model_reply old.allocator new.allocator)
      → BindsPlace to name model_reply reply (bindings_of old.bound) (bindings_of new.bound) → IsAnswered g (Under key (Move to is name)) reply old new
  proposed model_reply reply step binds =
      let o : CommandEnvironment = record { room = true; met = step.0 } in
      let serves : ServesMove to None a is name o reply (session_of g old) (session_of g new) =
      record { description = d; asks = asks; model_reply = model_reply; step = step.1; binds = binds } in
      answered_by g law (model.ProposeMove a d) model_reply (Under key (Move to is name)) reply o old new step.1 constant
      (serves_at (g.properties old.allocator.first) (session_of g old) (session_of g new) key (Move to is name) o reply (Some a) found
      (subst (λ f. ServesMove to f a is name o reply (session_of g old) (session_of g new)) (sym none) serves))

  -- the allocator refused it
  pub not_proposed : (e : AllocationError) → bindings_of new.bound ≡ bindings_of old.bound → IsMoveStep g a d (Err e) old.allocator new.allocator
      → IsAnswered g (Under key (Move to is name)) (replies.Error (refusal_of e)) old new
  not_proposed e same s =
      proposed (answers.Error (refusal_of e)) (replies.Error (refusal_of e))
      (subst (λ r. IsStep g (model.ProposeMove a d) r old.allocator new.allocator) (failed_reply d e s.reply s.replies) s.step) (refl, same)

  -- no block ahead has a place
  pub no_place : bindings_of new.bound ≡ bindings_of old.bound → IsMoveStep g a d (Ok None) old.allocator new.allocator → IsAnswered g (Under key (Move to is name)) replies.NoPlace old new
  no_place same s =
      let given = none_reply d s.reply s.replies in
      proposed (answers.SecondPlace given.0 None) replies.NoPlace (subst (λ r. IsStep g (model.ProposeMove a d) r old.allocator new.allocator) given.1 s.step) (refl, same)

  -- one has
  pub placed : (b : Allocation) (reply : SessionReply) → bindings_of new.bound ≡ bind (bindings_of old.bound) to (Some b) → IsMoveStep g a d (Ok (Some b)) old.allocator new.allocator
      → reply ≡ replies.Allocated (shown b.memory_type_index (piece_of b)) → IsAnswered g (Under key (Move to is name)) reply old new
  placed b reply same s is_told =
      let given = place_reply d b s.reply s.replies in
      let there : IsAllocated given.0 name given.1 b = subst (λ n. IsAllocated given.0 n given.1 b) asks.has_name given.3 in
      let told : reply ≡ replies.Allocated (shown given.0 given.1) =
      is_told ∙ ap (λ t. replies.Allocated (shown t (piece_of b))) there.memory_type ∙ ap (λ p. replies.Allocated (shown given.0 p)) there.piece in
      proposed (answers.SecondPlace given.0 (Some given.1)) reply
      (subst (λ r. IsStep g (model.ProposeMove a d) r old.allocator new.allocator) given.2 s.step) (b, there, told, same)
