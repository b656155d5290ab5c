-- What a description of an allocation asks of a memory type.
use Rattle.gpu_block_pieces.specs.Request.{Request}
use Rattle.gpu_values.specs.declared.allocation_type.AllocationType.TheVariants.{Linear}
use Rattle.gpu_d3d12.specs.declared.describe.AllocationCreateDesc.{AllocationCreateDesc}

-- what a block sees of the description
abbrev pub request_of : AllocationCreateDesc → Request
request_of d = record { size = d.size; alignment = d.alignment; kind = Linear; name = d.name.now }
