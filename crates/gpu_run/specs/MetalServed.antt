-- What a session's calls say in the model.
use Rattle.std.specs.Prelude.{◌≡◌, ℕ, List}
use Rattle.gpu_device.specs.declared.metal.device.MetalDevice.{Ghosts}
use Rattle.gpu_metal.specs.State.{State, model_of}
use Rattle.gpu_metal.specs.Live.{Allocation}
use Rattle.gpu_run.specs.Bindings.{bindings_of}
use Rattle.gpu_run.specs.MetalCommand.{Command, SessionCommand, command_of}
use Rattle.gpu_run.specs.MetalReply.{SessionReply, reply_of}
use Rattle.gpu_run.specs.MetalSession.{SessionState, SessionInvariant, IsCommandServed}
use Rattle.gpu_run.specs.declared.metal.reply.Reply.{Reply}

-- what callers see of a session: the allocator, and what the numbers stand for
pub record SessionValue (D : Type 0) : Type 0 where
  pub allocator : State D
  pub bound : List (ℕ × Allocation)

module _ {D : Type 0} (g : Ghosts D) where
  -- the session's state in the model
  abbrev pub session_of : SessionValue D → SessionState
  session_of s = record { bound = bindings_of s.bound; model = model_of g s.allocator; refused = g.refused s.allocator.device }

  -- the allocator keeps what it was made with
  abbrev pub IsConstant : (old new : SessionValue D) → Type 0
  IsConstant old new = (new.allocator.first ≡ old.allocator.first) × (new.allocator.setup ≡ old.allocator.setup)

  -- a command of the model is served
  pub record IsAnswered (command : SessionCommand) (reply : SessionReply) (old new : SessionValue D) : Type 0 where
    pub served : IsCommandServed (g.properties old.allocator.first) command reply (session_of old) (session_of new)
    pub constant : IsConstant old new

  -- a command is served, and the numbers own their pieces afterwards
  pub record ServesCommand (old : SessionValue D) (command : Command) (reply : Reply) (new : SessionValue D) : Type 0 where
    pub answered : IsAnswered (command_of command) (reply_of reply) old new
    pub kept : SessionInvariant (session_of new)
