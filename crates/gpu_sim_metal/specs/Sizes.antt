-- What resources take of a heap.
use Rattle.std.specs.Prelude.{ℕ, ◌*◌, ◌-◌, ◌^◌, min}
use Rattle.gpu_device.specs.declared.metal.types.SizeAndAlign.{SizeAndAlign}
use Rattle.gpu_device.specs.declared.metal.types.TextureDescriptor.{TextureDescriptor}
use Rattle.gpu_sim_base.specs.Sizes.{rounded_up}

-- what a resource of so many bytes takes of a heap
abbrev pub told_size : ℕ → SizeAndAlign
told_size bytes = record { size = rounded_up bytes 256; align = 256 }

-- a texture's bytes: all its texels', at most as many as 64 bits hold
abbrev pub texture_bytes : TextureDescriptor → ℕ
texture_bytes desc = min (desc.width * desc.height * desc.bytes_per_texel) (2 ^ 64 - 1)
