-- Of which category a resource is.
use Rattle.std.specs.Prelude.{ℕ, ◌==◌, ◌||◌, not, Bool, if◌then◌else◌}
use Rattle.std.specs.Int.RustNames.{bit_and}
use Rattle.gpu_device.specs.declared.d3d12.types.ResourceDesc.{ResourceDesc}
use Rattle.gpu_device.specs.declared.d3d12.types.ResourceDimension.{ResourceDimension}
use Rattle.gpu_device.specs.declared.d3d12.types.ResourceDimension.TheVariants as dimensions
use Rattle.gpu_d3d12.specs.declared.category.ResourceCategory.{ResourceCategory}
use Rattle.gpu_d3d12.specs.declared.category.ResourceCategory.TheVariants.{Buffer, RtvDsvTexture, OtherTexture}

-- the flag of textures that may be render targets, as Direct3D numbers it
abbrev pub render_target_flag : ℕ
render_target_flag = 1

-- the flag of textures that may be depth stencils
abbrev pub depth_stencil_flag : ℕ
depth_stencil_flag = 2

abbrev pub has_flag : (flags flag : ℕ) → Bool
has_flag flags flag = not (bit_and flags flag == 0)

-- the texture may be a render target or a depth stencil
abbrev pub texture_category : (flags : ℕ) → ResourceCategory
texture_category flags = if has_flag flags render_target_flag || has_flag flags depth_stencil_flag then RtvDsvTexture else OtherTexture

abbrev pub category_by : ResourceDimension → (flags : ℕ) → ResourceCategory
category_by dimensions.Buffer flags = Buffer
category_by dimensions.Unknown flags = texture_category flags
category_by dimensions.Texture1D flags = texture_category flags
category_by dimensions.Texture2D flags = texture_category flags
category_by dimensions.Texture3D flags = texture_category flags

-- the category by dimension and flags
abbrev pub category_of : ResourceDesc → ResourceCategory
category_of d = category_by d.dimension d.flags
