-- What a request for a resource under a free number results in.
use Rattle.std.proofs.Common.{◌≡◌, ◌∙◌, ℕ, Option, Some, None, Ok, Err, true, refl, sym, ap, subst}
use Rattle.std.specs.Option.{option_map}
use Rattle.gpu_values.specs.Refusal.{refusal_of}
use Rattle.gpu_values.specs.declared.error.AllocationError.{AllocationError}
use Rattle.gpu_core.specs.declared.piece.Piece.{Piece}
use Rattle.gpu_device.specs.D3D12History.{refused_in}
use Rattle.gpu_device.specs.declared.d3d12.device.D3D12Device.{Ghosts}
use Rattle.gpu_device.specs.declared.d3d12.types.ID3D12Heap.{ID3D12Heap}
use Rattle.gpu_d3d12.specs.declared.question.ResourceCreateDesc.{ResourceCreateDesc}
use Rattle.gpu_pool.specs.Reply as answers
use Rattle.gpu_d3d12.specs.Journal.{with_made}
use Rattle.gpu_pool.specs.Allocation.{piece_of}
use Rattle.gpu_d3d12.specs.Live.{Allocation}
use Rattle.gpu_d3d12.specs.Reply.{Reply, Pool, Made}
use Rattle.gpu_d3d12.specs.Resource.{IsMade, LiesIn, IsNewIn}
use Rattle.gpu_d3d12.specs.State.{Model, basis_of, model_of, pool_of}
use Rattle.gpu_d3d12.specs.Step as model
use Rattle.gpu_d3d12.specs.Step.{IsStep, IsCreateStep, RepliesResource, TellsReason}
use Rattle.gpu_d3d12.specs.declared.resource.Resource.{Resource}
use Rattle.gpu_run.specs.Bindings.{bind, bindings_of}
use Rattle.gpu_run.specs.D3D12Command.{Create, UnderResource}
use Rattle.gpu_run.specs.D3D12Describe.{AsksForResource}
use Rattle.gpu_run.specs.D3D12Reply as replies
use Rattle.gpu_run.specs.D3D12Reply.{SessionReply, ShownResource, shown_resource}
use Rattle.gpu_run.specs.Shown.{Shown, shown}
use Rattle.gpu_run.specs.D3D12Session.{BindsResource, IsKept}
use Rattle.gpu_run.specs.D3D12Served.{SessionValue, session_of, IsAnswered, journal_after}
use Rattle.gpu_run.specs.declared.d3d12.command.WantedResource.{WantedResource}
use Rattle.gpu_run.proofs.D3D12Growing.{create_grows}
use Rattle.gpu_run.proofs.D3D12Serving.{serves_resource_at, constant_by, answered_by}

-- what is shown of the piece that a resource lies in
abbrev pub shown_piece : Option Allocation → Option (Shown ID3D12Heap)
shown_piece piece = option_map (λ a. shown a.memory_type_index (piece_of a)) piece

piece_shown : (t : ℕ) (d : ResourceCreateDesc) (piece : Option (Piece ID3D12Heap)) (a : Option Allocation) → LiesIn t d piece a → shown_piece a ≡ option_map (shown t) piece
piece_shown t d None None h = refl
piece_shown t d None (Some a) h = absurd h
piece_shown t d (Some p) None h = absurd h
piece_shown t d (Some p) (Some a) h = ap Some (ap (λ u. shown u (piece_of a)) h.memory_type ∙ ap (shown t) h.piece)

-- the model's reply, where a resource is given
record IsMadeReply (d : ResourceCreateDesc) (r : Resource) (reply : Reply) : Type 0 where
  pub t : ℕ
  pub piece : Option (Piece ID3D12Heap)
  pub number : ℕ
  pub size : ℕ
  pub is : reply ≡ Made t piece number size
  pub made : IsMade d t piece number size r

made_reply_is : (d : ResourceCreateDesc) (r : Resource) (reply : Reply) → RepliesResource d (Ok r) reply → IsMadeReply d r reply
made_reply_is d r (Made t piece number size) h = record { t = t; piece = piece; number = number; size = size; is = refl; made = h }
made_reply_is d r reply h = absurd h

failed_reply : (d : ResourceCreateDesc) (e : AllocationError) (reply : Reply) → RepliesResource d (Err e) reply → reply ≡ Pool (answers.Error (refusal_of e))
failed_reply d e (Pool (answers.Error r)) h = ap (λ x. Pool (answers.Error x)) (sym h)
failed_reply d e reply h = absurd h

-- a resource that is given is live
pub live_made : (old new : Model) (r : Resource) (piece : Option Allocation) → r.allocation ≡ piece → IsNewIn old.pool.slots new.pool.slots piece
    → (r.allocation ≡ None → IsKept new.pool.slots new.committed r None) → IsKept new.pool.slots new.committed r piece
live_made old new r None is gives recorded = recorded is
live_made old new r (Some a) is gives recorded = gives.0

module _ {D : Type 0} (g : Ghosts D) (law : (d : D) → g.refused d ≡ refused_in (g.history d)) (old new : SessionValue D) (key : ℕ) (w : WantedResource) (d : ResourceCreateDesc)
    (asks : AsksForResource w d) (none : bindings_of old.resources key ≡ None) (first : new.allocator.first ≡ old.allocator.first) (setup : new.allocator.setup ≡ old.allocator.setup)
    (bound : new.bound ≡ old.bound) where
  -- the allocator's step, and the reason that was met with
  abbrev Steps : Reply → Type 0
  Steps model_reply = (step : IsStep g (model.CreateResource d) model_reply old.allocator new.allocator) × TellsReason g step.environment.resource (pool_of new.allocator).source

  answered : (model_reply : Reply) (reply : SessionReply) → Steps model_reply
      → BindsResource key d model_reply reply (bindings_of old.resources) (bindings_of new.resources)
      → new.allocator.journal ≡ journal_after (UnderResource key (Create w)) reply (bindings_of old.resources) old.allocator.journal → IsAnswered g (UnderResource key (Create w)) reply old new
  answered model_reply reply (step, reason) binds journal =
      answered_by g law (UnderResource key (Create w)) reply (record { room = true; met = step.environment }) old new
      (create_grows (basis_of g old.allocator) d step.environment model_reply (model_of g old.allocator) (model_of g new.allocator) step.step).count reason
      (constant_by g old new first setup step.same_version)
      (serves_resource_at (basis_of g old.allocator) (session_of g old) (session_of g new) key (Create w) (record { room = true; met = step.environment }) reply None none
      (record { description = d; asks = asks; model_reply = model_reply; step = step.step; binds = binds; bound = ap (λ b. bindings_of b) bound })) journal

  -- the allocator refused it
  pub not_created : (e : AllocationError) → bindings_of new.resources ≡ bindings_of old.resources → IsCreateStep g d (Err e) old.allocator new.allocator
      → new.allocator.journal ≡ old.allocator.journal → IsAnswered g (UnderResource key (Create w)) (replies.Error (refusal_of e)) old new
  not_created e same s journal =
      answered (Pool (answers.Error (refusal_of e))) (replies.Error (refusal_of e))
      (subst (λ r. Steps r) (failed_reply d e s.reply s.replies) (s.step, s.reason)) (refl, same) journal

  -- the allocator made it
  pub created : (r : Resource) (told : ShownResource) → told ≡ record { number = r.resource.0; size = r.size; piece = shown_piece r.allocation }
      → bindings_of new.resources ≡ bind (bindings_of old.resources) key (Some r) → IsCreateStep g d (Ok r) old.allocator new.allocator
      → new.allocator.journal ≡ with_made (Some r.resource.0) old.allocator.journal → IsAnswered g (UnderResource key (Create w)) (replies.Made told) old new
  created r told shows same s journal =
      let m = made_reply_is d r s.reply s.replies in
      let pieces = piece_shown m.t d m.piece r.allocation m.made.allocation in
      let is : told ≡ shown_resource m.t m.piece m.number m.size = shows ∙ (λ i. record { number = m.made.resource i; size = m.made.size_is i; piece = pieces i }) in
      answered (Made m.t m.piece m.number m.size) (replies.Made told)
      (subst (λ k. Steps k) m.is (s.step, s.reason)) (r, m.made, ap replies.Made is, same)
      (journal ∙ ap (λ n. with_made (Some n) old.allocator.journal) (sym (ap (λ k. k.number) shows)))
