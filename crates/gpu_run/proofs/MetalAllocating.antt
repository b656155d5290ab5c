-- What a request under a free number results in.
use Rattle.std.proofs.Common.{◌≡◌, ◌∙◌, ℕ, List, Some, None, Result, Ok, Err, true, refl, sym, ap, subst}
use Rattle.gpu_values.specs.Refusal.{Refusal, refusal_of}
use Rattle.gpu_values.specs.declared.error.AllocationError.{AllocationError}
use Rattle.gpu_core.specs.declared.piece.Piece.{Piece}
use Rattle.gpu_device.specs.MetalHistory.{refused_in}
use Rattle.gpu_device.specs.declared.metal.device.MetalDevice.{Ghosts}
use Rattle.gpu_device.specs.declared.metal.types.MTLHeap.{MTLHeap}
use Rattle.gpu_pool.specs.Allocate.{Environment}
use Rattle.gpu_pool.specs.Reply as answers
use Rattle.gpu_pool.specs.Allocation.{IsAllocated, piece_of}
use Rattle.gpu_metal.specs.Live.{Allocation}
use Rattle.gpu_metal.specs.State.{State, model_of}
use Rattle.gpu_metal.specs.Step as model
use Rattle.gpu_metal.specs.Step.{IsStep, IsAllocateStep, Replies, Step}
use Rattle.gpu_metal.specs.declared.describe.AllocationCreateDesc.{AllocationCreateDesc}
use Rattle.gpu_run.specs.Bindings.{bind, bindings_of}
use Rattle.gpu_run.specs.MetalCommand.{Alloc, Under}
use Rattle.gpu_run.specs.MetalDescribe.{Described, described, Describes}
use Rattle.gpu_run.specs.MetalReply as replies
use Rattle.gpu_run.specs.MetalReply.{SessionReply}
use Rattle.gpu_run.specs.Shown.{shown}
use Rattle.gpu_run.specs.MetalSession.{SessionState, Binds, AllocatesBy}
use Rattle.gpu_run.specs.MetalServed.{SessionValue, session_of, IsConstant, IsAnswered}
use Rattle.gpu_run.specs.declared.metal.describe.Wanted.{Wanted}
use Rattle.gpu_run.proofs.MetalServing.{quiet, serves_at, answered_quietly, answered_by}

-- the model's reply, where an allocation is given
allocated_reply : (d : AllocationCreateDesc) (a : Allocation) (reply : answers.Reply MTLHeap) → Replies d (Ok a) reply
    → (t : ℕ) × (p : Piece MTLHeap) × (reply ≡ answers.Allocated t p) × IsAllocated t d.name.now p a
allocated_reply d a (answers.Allocated t p) h = (t, p, refl, h)
allocated_reply d a reply h = absurd h

failed_reply : (d : AllocationCreateDesc) (e : AllocationError) (reply : answers.Reply MTLHeap) → Replies d (Err e) reply → reply ≡ answers.Error (refusal_of e)
failed_reply d e (answers.Error r) h = ap answers.Error (sym h)
failed_reply d e reply h = absurd h

-- what was described is asked for
allocates_by : (key : ℕ) (name : List ℕ) (is : Result Described Refusal) (d : AllocationCreateDesc) → Describes is name d
    → (met : Environment MTLHeap) (model_reply : answers.Reply MTLHeap) (reply : SessionReply) (old new : SessionState)
    → Step (model.Allocate d) met model_reply old.model new.model → Binds key name model_reply reply old.bound new.bound → AllocatesBy key name is met reply old new
allocates_by key name (Ok is) d asks met model_reply reply old new step binds = record { description = d; asks = asks; model_reply = model_reply; step = step; binds = binds }
allocates_by key name (Err why) d asks met model_reply reply old new step binds = absurd asks

named : (is : Result Described Refusal) (name : List ℕ) (d : AllocationCreateDesc) → Describes is name d → d.name.now ≡ name
named (Ok is) name d h = h.has_name
named (Err why) name d h = absurd h

module _ {D : Type 0} (g : Ghosts D) (law : (d : D) → g.refused d ≡ refused_in (g.history d)) (old new : SessionValue D) (key : ℕ) (wanted : Wanted) (name : List ℕ) (d : AllocationCreateDesc)
    (describes : Describes (described (g.properties old.allocator.device) wanted) name d) (is_constant : g.properties old.allocator.device ≡ g.properties old.allocator.first)
    (none : bindings_of old.bound key ≡ None) (constant : IsConstant g old new) where
  describes_first : Describes (described (g.properties old.allocator.first) wanted) name d
  describes_first = subst (λ p. Describes (described p wanted) name d) is_constant describes

  answered : (model_reply : answers.Reply MTLHeap) (reply : SessionReply) → (step : IsStep g (model.Allocate d) model_reply old.allocator new.allocator)
      → Binds key name model_reply reply (bindings_of old.bound) (bindings_of new.bound) → IsAnswered g (Under key (Alloc wanted name)) reply old new
  answered model_reply reply step binds =
      answered_by g law (model.Allocate d) model_reply (Under key (Alloc wanted name)) reply (record { room = true; met = step.0 }) old new step.1 constant
      (serves_at (g.properties old.allocator.first) (session_of g old) (session_of g new) key (Alloc wanted name) (record { room = true; met = step.0 }) reply None none
      (allocates_by key name (described (g.properties old.allocator.first) wanted) d describes_first step.0 model_reply reply (session_of g old) (session_of g new) step.1 binds))

  -- the allocator refused it
  pub not_allocated : (e : AllocationError) → bindings_of new.bound ≡ bindings_of old.bound → IsAllocateStep g d (Err e) old.allocator new.allocator
      → IsAnswered g (Under key (Alloc wanted name)) (replies.Error (refusal_of e)) old new
  not_allocated e same s =
      answered (answers.Error (refusal_of e)) (replies.Error (refusal_of e))
      (subst (λ r. IsStep g (model.Allocate d) r old.allocator new.allocator) (failed_reply d e s.reply s.replies) s.step) (refl, same)

  -- the allocator allocated it
  pub allocated : (a : Allocation) (reply : SessionReply) → bindings_of new.bound ≡ bind (bindings_of old.bound) key (Some a) → IsAllocateStep g d (Ok a) old.allocator new.allocator
      → reply ≡ replies.Allocated (shown a.memory_type_index (piece_of a)) → IsAnswered g (Under key (Alloc wanted name)) reply old new
  allocated a reply same s is_told =
      let given = allocated_reply d a s.reply s.replies in
      let is : IsAllocated given.0 name given.1 a = subst (λ n. IsAllocated given.0 n given.1 a) (named (described (g.properties old.allocator.device) wanted) name d describes) given.3 in
      let told : reply ≡ replies.Allocated (shown given.0 given.1) =
      is_told ∙ ap (λ t. replies.Allocated (shown t (piece_of a))) is.memory_type ∙ ap (λ p. replies.Allocated (shown given.0 p)) is.piece in
      answered (answers.Allocated given.0 given.1) reply
      (subst (λ r. IsStep g (model.Allocate d) r old.allocator new.allocator) given.2 s.step) (a, is, told, same)

-- what is asked for can't be described
pub not_described : {D : Type 0} (g : Ghosts D) (allocator : State D) (bound after : List (ℕ × Allocation)) (key : ℕ) (wanted : Wanted) (name : List ℕ) (why : Refusal)
    → described (g.properties allocator.device) wanted ≡ Err why → g.properties allocator.device ≡ g.properties allocator.first → bindings_of bound key ≡ None
    → bindings_of after ≡ bindings_of bound
    → IsAnswered g (Under key (Alloc wanted name)) (replies.Error why) (record { allocator = allocator; bound = bound }) (record { allocator = allocator; bound = after })
not_described {D} g allocator bound after key wanted name why is constant none same =
    let old : SessionValue D = record { allocator = allocator; bound = bound } in
    let new : SessionValue D = record { allocator = allocator; bound = after } in
    let unchanged : session_of g new ≡ session_of g old = ap (λ b. record { bound = b; model = model_of g allocator; refused = g.refused allocator.device }) same in
    let first : described (g.properties allocator.first) wanted ≡ Err why = ap (λ p. described p wanted) (sym constant) ∙ is in
    answered_quietly g allocator bound after (Under key (Alloc wanted name)) (replies.Error why) quiet refl
    (serves_at (g.properties allocator.first) (session_of g old) (session_of g new) key (Alloc wanted name) quiet (replies.Error why) None none
    (subst (λ d. AllocatesBy key name d quiet.met (replies.Error why) (session_of g old) (session_of g new)) (sym first) (refl, (refl, unchanged))))
