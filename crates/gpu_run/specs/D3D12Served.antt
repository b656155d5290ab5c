-- What a session's calls say in the model.
use Rattle.std.specs.Prelude.{◌≡◌, ℕ, List, ◌∷◌, Option, Some, None}
use Rattle.gpu_device.specs.declared.d3d12.device.D3D12Device.{Ghosts}
use Rattle.gpu_d3d12.specs.DeviceVersion.{device_of}
use Rattle.gpu_d3d12.specs.State.{State, basis_of, interface_of, model_of, pool_of}
use Rattle.gpu_d3d12.specs.Step.{TellsReason}
use Rattle.gpu_d3d12.specs.Live.{Allocation}
use Rattle.gpu_d3d12.specs.declared.journal.ResourceEvent.{ResourceEvent}
use Rattle.gpu_d3d12.specs.declared.journal.ResourceEvent.TheVariants as events
use Rattle.gpu_d3d12.specs.declared.resource.Resource.{Resource}
use Rattle.gpu_run.specs.Bindings.{Bindings, bindings_of}
use Rattle.gpu_run.specs.D3D12Command.{Command, Create, Release, SessionCommand, Under, UnderResource, Leaks, Report, Capacity, Committed, SetBudget, command_of}
use Rattle.gpu_run.specs.D3D12Reply as replies
use Rattle.gpu_run.specs.D3D12Reply.{SessionReply, reply_of}
use Rattle.gpu_run.specs.D3D12Session.{SessionState, SessionInvariant, IsCommandServed}
use Rattle.gpu_run.specs.declared.d3d12.reply.Reply.{Reply}

-- what callers see of a session: the allocator, and what the numbers stand for
pub record SessionValue (D : Type 0) : Type 0 where
  pub allocator : State D
  pub bound : List (ℕ × Allocation)
  pub resources : List (ℕ × Resource)

-- the journal once a resource was asked for: one that is given is made
abbrev pub with_reply : SessionReply → List ResourceEvent → List ResourceEvent
with_reply (replies.Made shown) journal = events.Made (record { 0 = shown.number }) ∷ journal
with_reply _ journal = journal

-- the journal once the resource that a number stands for was given back
abbrev pub without : Option Resource → List ResourceEvent → List ResourceEvent
without None journal = journal
without (Some r) journal = events.Released r.resource ∷ journal

-- which resources were made and released, after a command
abbrev pub journal_after : SessionCommand → SessionReply → Bindings Resource → List ResourceEvent → List ResourceEvent
journal_after (UnderResource key (Create w)) reply resources journal = with_reply reply journal
journal_after (UnderResource key Release) reply resources journal = without (resources key) journal
journal_after (Under key command) reply resources journal = journal
journal_after Leaks reply resources journal = journal
journal_after Report reply resources journal = journal
journal_after Capacity reply resources journal = journal
journal_after (Committed t) reply resources journal = journal
journal_after (SetBudget t budget) reply resources journal = journal

module _ {D : Type 0} (g : Ghosts D) where
  -- the session's state in the model
  abbrev pub session_of : SessionValue D → SessionState
  session_of s = record {
    bound = bindings_of s.bound;
    resources = bindings_of s.resources;
    model = model_of g s.allocator;
    refused = g.refused (device_of s.allocator.device);
  }

  -- the allocator keeps what it was made with, and its device the interface
  pub record IsConstant (old new : SessionValue D) : Type 0 where
    pub first : new.allocator.first ≡ old.allocator.first
    pub setup : new.allocator.setup ≡ old.allocator.setup
    pub interface : interface_of new.allocator.device ≡ interface_of old.allocator.device

  -- a command of the model is served; where the device refused a resource, the reason that was met with is the one that it told
  pub record IsAnswered (command : SessionCommand) (reply : SessionReply) (old new : SessionValue D) : Type 0 where
    pub served : IsCommandServed (basis_of g old.allocator) command reply (session_of old) (session_of new)
    pub reason : TellsReason g served.environment.met.resource (pool_of new.allocator).source
    pub constant : IsConstant old new
    pub journal : new.allocator.journal ≡ journal_after command reply (bindings_of old.resources) old.allocator.journal

  -- a command is served, and the numbers own their pieces and resources afterwards; the basis of the model is as before
  pub record ServesCommand (old : SessionValue D) (command : Command) (reply : Reply) (new : SessionValue D) : Type 0 where
    pub answered : IsAnswered (command_of command) (reply_of reply) old new
    pub basis : basis_of g new.allocator ≡ basis_of g old.allocator
    pub kept : SessionInvariant (session_of new)
