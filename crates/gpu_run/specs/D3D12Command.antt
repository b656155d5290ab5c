-- What a session is asked for.
use Rattle.std.specs.Prelude.{ℕ, List, Option, string_bytes}
use Rattle.gpu_run.specs.D3D12Describe.{Wanted, wanted_of}
use Rattle.gpu_run.specs.declared.command.Command as commands
use Rattle.gpu_run.specs.declared.command.Command.TheVariants as asked
use Rattle.gpu_run.specs.declared.d3d12.command.Other.{Other}
use Rattle.gpu_run.specs.declared.d3d12.command.Other.TheVariants as others
use Rattle.gpu_run.specs.declared.d3d12.command.Request.{Request}
use Rattle.gpu_run.specs.declared.d3d12.command.WantedResource.{WantedResource}

-- a command under a number of an allocation
pub data KeyCommand : Type 0 where
  Alloc : (wanted : Wanted) → KeyCommand
  -- a second place, under another number
  Move : (to : ℕ) (wanted : Wanted) → KeyCommand
  Free : KeyCommand
  Rename : (name : List ℕ) → KeyCommand

-- a command under a number of a resource
pub data ResourceCommand : Type 0 where
  Create : (wanted : WantedResource) → ResourceCommand
  Release : ResourceCommand

-- a command to a session
pub data SessionCommand : Type 0 where
  Under : (key : ℕ) (command : KeyCommand) → SessionCommand
  UnderResource : (key : ℕ) (command : ResourceCommand) → SessionCommand
  Leaks : SessionCommand
  Report : SessionCommand
  Capacity : SessionCommand
  Committed : (memory_type : ℕ) → SessionCommand
  SetBudget : (memory_type : ℕ) (budget : Option ℕ) → SessionCommand

-- a command to a session
abbrev pub Command : Type 0
Command = commands.Command Request Other

-- what this API's sessions alone are asked for, in the words of the model
abbrev pub other_of : Other → SessionCommand
other_of (others.Rename key name) = Under key (Rename (string_bytes name))
other_of (others.Create key wanted) = UnderResource key (Create wanted)
other_of (others.Release key) = UnderResource key Release
other_of others.Leaks = Leaks
other_of (others.Committed t) = Committed t

-- the command in the words of the model
abbrev pub command_of : Command → SessionCommand
command_of (asked.Alloc key request) = Under key (Alloc (wanted_of request))
command_of (asked.Move key to request) = Under key (Move to (wanted_of request))
command_of (asked.Free key) = Under key Free
command_of asked.Report = Report
command_of asked.Capacity = Capacity
command_of (asked.SetBudget t budget) = SetBudget t budget
command_of (asked.Other other) = other_of other
