-- What an allocation and a resource are asked for, and the descriptions that ask for it.
use Rattle.std.specs.Prelude.{◌≡◌, ℕ, List, string_bytes}
use Rattle.std.specs.Option.{option_copied}
use Rattle.gpu_values.specs.declared.memory_location.MemoryLocation.{MemoryLocation}
use Rattle.gpu_d3d12.specs.declared.category.ResourceCategory.{ResourceCategory}
use Rattle.gpu_d3d12.specs.declared.describe.AllocationCreateDesc.{AllocationCreateDesc}
use Rattle.gpu_d3d12.specs.declared.question.ResourceCreateDesc.{ResourceCreateDesc}
use Rattle.gpu_d3d12.specs.declared.question.ResourceType.{ResourceType}
use Rattle.gpu_d3d12.specs.declared.question.ResourceType.TheVariants.{Committed, Placed}
use Rattle.gpu_run.specs.declared.d3d12.command.Memory.{Memory}
use Rattle.gpu_run.specs.declared.d3d12.command.Memory.TheVariants as memories
use Rattle.gpu_run.specs.declared.d3d12.command.Request.{Request}
use Rattle.gpu_run.specs.declared.d3d12.command.WantedResource.{WantedResource}

-- the size, alignment, location, category and name of a piece
pub record Wanted : Type 0 where
  pub size : ℕ
  pub alignment : ℕ
  pub location : MemoryLocation
  pub category : ResourceCategory
  pub name : List ℕ

-- what a request asks for
abbrev pub wanted_of : Request → Wanted
wanted_of r = record { size = r.size; alignment = r.alignment; location = r.location; category = r.category; name = string_bytes r.name }

-- the description asks for this piece
pub record AsksFor (w : Wanted) (d : AllocationCreateDesc) : Type 0 where
  pub size : d.size ≡ w.size
  pub alignment : d.alignment ≡ w.alignment
  pub location : d.location ≡ w.location
  pub category : d.resource_category ≡ w.category
  pub has_name : d.name.now ≡ w.name

-- where the memory of a resource comes from
abbrev pub memory_of : ResourceType → Memory
memory_of (Committed properties flags) = memories.Own properties.now flags
memory_of Placed = memories.Placed

-- the description asks for this resource
pub record AsksForResource (w : WantedResource) (d : ResourceCreateDesc) : Type 0 where
  pub has_name : d.name.now ≡ string_bytes w.name
  pub location : d.memory_location ≡ w.location
  pub category : d.resource_category ≡ w.category
  pub is : d.resource_desc.now ≡ w.desc
  pub formats : d.castable_formats.now ≡ w.castable_formats.items
  pub clear_value : option_copied d.clear_value ≡ w.clear_value
  pub initial : d.initial_state_or_layout ≡ w.initial
  pub memory : memory_of d.resource_type.now ≡ w.memory
