-- What an allocation is asked for, as the device tells it.
use Rattle.std.specs.Prelude.{◌≡◌, ℕ, List, pos, Some, Result, Ok, Err, codes}
use Rattle.gpu_values.specs.Refusal.{Refusal, internal}
use Rattle.gpu_values.specs.declared.memory_location.MemoryLocation.{MemoryLocation}
use Rattle.gpu_values.specs.declared.memory_location.MemoryLocation.TheVariants.{Unknown, GpuOnly}
use Rattle.gpu_device.specs.Metal.{Properties}
use Rattle.gpu_device.specs.declared.metal.types.SizeAndAlign.{SizeAndAlign}
use Rattle.gpu_device.specs.declared.metal.types.StorageMode.{StorageMode}
use Rattle.gpu_device.specs.declared.metal.types.StorageMode.TheVariants.{Shared, Managed, Private, Memoryless, Other}
use Rattle.gpu_metal.specs.Describe.{buffer_storage_mode}
use Rattle.gpu_metal.specs.declared.describe.AllocationCreateDesc.{AllocationCreateDesc}
use Rattle.gpu_run.specs.declared.metal.command.Request.{Request}
use Rattle.gpu_run.specs.declared.metal.describe.Wanted.{Wanted}
use Rattle.gpu_run.specs.declared.metal.describe.Wanted.TheVariants.{Piece, Buffer, AccelerationStructure, Texture}

-- the size, alignment and location of a piece
pub record Described : Type 0 where
  pub size : ℕ
  pub alignment : ℕ
  pub location : MemoryLocation

-- the piece that a request asks for
abbrev pub described_piece : Request → Described
described_piece r = record { size = r.size; alignment = r.alignment; location = r.location }

-- at this location, of the size and alignment that the device tells
abbrev pub told_at : SizeAndAlign → MemoryLocation → Described
told_at told location = record { size = told.size; alignment = told.align; location = location }

-- a texture lies where its storage mode says: a private one in the GPU's own memory, a nameless one nowhere
abbrev pub texture_at : SizeAndAlign → StorageMode → Result Described Refusal
texture_at told Private = Ok (told_at told GpuOnly)
texture_at told Shared = Ok (told_at told Unknown)
texture_at told Managed = Ok (told_at told Unknown)
texture_at told Memoryless = Ok (told_at told Unknown)
texture_at told (Other mode) = Err (internal (codes "Unknown storage mode") (Some (pos mode)))

-- what is wanted, with the size and alignment that the device tells of a resource
abbrev pub described : Properties → Wanted → Result Described Refusal
described p (Piece size alignment location) = Ok (record { size = size; alignment = alignment; location = location })
described p (Buffer length location) = Ok (told_at (p.buffer_size length (buffer_storage_mode location)) location)
described p (AccelerationStructure size location) = Ok (told_at (p.acceleration_structure_size size) location)
described p (Texture desc) = texture_at (p.texture_size desc) desc.storage_mode

-- the description asks for this, under this name
pub record AsksFor (is : Described) (name : List ℕ) (d : AllocationCreateDesc) : Type 0 where
  pub size : d.size ≡ is.size
  pub alignment : d.alignment ≡ is.alignment
  pub location : d.location ≡ is.location
  pub has_name : d.name.now ≡ name

-- what is asked for can be described, and the description asks for it
abbrev pub Describes : Result Described Refusal → (name : List ℕ) → AllocationCreateDesc → Type 0
Describes (Ok is) name d = AsksFor is name d
Describes (Err refusal) name d = ⊥
