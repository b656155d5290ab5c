-- What a session is asked for.
use Rattle.std.specs.Prelude.{◌≡◌, ℕ, Bool, List, Option, string_bytes}
use Rattle.gpu_values.specs.declared.memory_location.MemoryLocation.{MemoryLocation}
use Rattle.gpu_device.specs.declared.vulkan.types.AllocationScheme.{AllocationScheme}
use Rattle.gpu_device.specs.declared.vulkan.types.MemoryRequirements.{MemoryRequirements}
use Rattle.gpu_vulkan.specs.declared.describe.AllocationCreateDesc.{AllocationCreateDesc}
use Rattle.gpu_run.specs.declared.vulkan.command.Request.{Request}

-- what an allocation is asked for
pub record Wanted : Type 0 where
  pub requirements : MemoryRequirements
  pub location : MemoryLocation
  pub linear : Bool
  pub scheme : AllocationScheme
  pub name : List ℕ

-- the description asks for it
pub record Describes (d : AllocationCreateDesc) (w : Wanted) : Type 0 where
  pub requirements : d.requirements ≡ w.requirements
  pub location : d.location ≡ w.location
  pub linear : d.linear ≡ w.linear
  pub scheme : d.allocation_scheme ≡ w.scheme
  pub name : d.name.now ≡ w.name

-- what a request asks for
abbrev pub wanted_of : Request → Wanted
wanted_of r = record { requirements = r.requirements; location = r.location; linear = r.linear; scheme = r.scheme; name = string_bytes r.name }

-- a command under a number of the caller's
pub data KeyCommand : Type 0 where
  Alloc : (wanted : Wanted) → KeyCommand
  -- a second place, under another number
  Move : (to : ℕ) (wanted : Wanted) → KeyCommand
  Null : KeyCommand
  Free : KeyCommand
  Rename : (name : List ℕ) → KeyCommand
  Write : (at : ℕ) (bytes : List ℕ) → KeyCommand
  Read : (at size : ℕ) → KeyCommand

pub data SessionCommand : Type 0 where
  Under : (key : ℕ) (command : KeyCommand) → SessionCommand
  Report : SessionCommand
  Leaks : SessionCommand
  Capacity : SessionCommand
  SetBudget : (memory_type : ℕ) (budget : Option ℕ) → SessionCommand
