-- What a session is asked for.
use Rattle.std.specs.Prelude.{ℕ, List, Option, string_bytes}
use Rattle.gpu_run.specs.MetalDescribe.{Described, described_piece}
use Rattle.gpu_run.specs.declared.metal.describe.Wanted.{Wanted}
use Rattle.gpu_run.specs.declared.metal.describe.Wanted.TheVariants.{Piece, Buffer, AccelerationStructure, Texture}
use Rattle.gpu_run.specs.declared.command.Command as commands
use Rattle.gpu_run.specs.declared.command.Command.TheVariants as asked
use Rattle.gpu_run.specs.declared.metal.command.Other.{Other}
use Rattle.gpu_run.specs.declared.metal.command.Other.TheVariants as others
use Rattle.gpu_run.specs.declared.metal.command.Request.{Request}

-- a command under a number of the caller's
pub data KeyCommand : Type 0 where
  Alloc : (wanted : Wanted) (name : List ℕ) → KeyCommand
  -- a second place, under another number
  Move : (to : ℕ) (is : Described) (name : List ℕ) → KeyCommand
  Free : KeyCommand

-- a command under a number, or one of the whole allocator
pub data SessionCommand : Type 0 where
  Under : (key : ℕ) (command : KeyCommand) → SessionCommand
  Heaps : SessionCommand
  Commit : SessionCommand
  Report : SessionCommand
  Capacity : SessionCommand
  SetBudget : (memory_type : ℕ) (budget : Option ℕ) → SessionCommand

-- a command to a session
abbrev pub Command : Type 0
Command = commands.Command Request Other

-- what this API's sessions alone are asked for, in the words of the model
abbrev pub other_of : Other → SessionCommand
other_of (others.Buffer key length location name) = Under key (Alloc (Buffer length location) (string_bytes name))
other_of (others.AccelerationStructure key size location name) = Under key (Alloc (AccelerationStructure size location) (string_bytes name))
other_of (others.Texture key texture name) = Under key (Alloc (Texture texture) (string_bytes name))
other_of others.Heaps = Heaps
other_of others.Commit = Commit

-- a command without what is of its Rust form alone: a piece and a resource ask for an allocation alike
abbrev pub command_of : Command → SessionCommand
command_of (asked.Alloc key r) = Under key (Alloc (Piece r.size r.alignment r.location) (string_bytes r.name))
command_of (asked.Move key to r) = Under key (Move to (described_piece r) (string_bytes r.name))
command_of (asked.Free key) = Under key Free
command_of asked.Report = Report
command_of asked.Capacity = Capacity
command_of (asked.SetBudget t budget) = SetBudget t budget
command_of (asked.Other other) = other_of other
