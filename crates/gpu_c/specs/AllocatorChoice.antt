-- The memory type that a location takes, as C asks for it.
use Rattle.std.specs.Prelude.{◌≡◌, ℕ, Option, Some, None}
use Rattle.std.specs.Option.{option_map}
use Rattle.gpu_vulkan.specs.Choice.{best_type}
use Rattle.gpu_c.specs.Allocator.{State}
use Rattle.gpu_c.specs.Request.{location_named}
use Rattle.gpu_c.specs.Status as status

-- the memory type at which a request with these bits begins, if there is one, at the location of that number, if there is one
abbrev pub type_named : State → (bits location : ℕ) → Option (Option ℕ)
type_named s bits location = option_map (best_type s.setup.properties.types bits) (location_named location)

-- the memory type is told, or why there is none, and then nothing
abbrev pub TellsType : Option (Option ℕ) → (code old new : ℕ) → Type 0
TellsType None code old new = (code ≡ status.invalid) × (new ≡ old)
TellsType (Some None) code old new = (code ≡ status.no_memory_type) × (new ≡ old)
TellsType (Some (Some t)) code old new = (code ≡ status.ok) × (new ≡ t)
