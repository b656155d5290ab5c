-- The block that a sub-allocator holds.
use Rattle.gpu_block.specs.declared.sub_allocator.SubAllocator.{SubAllocator}
use Rattle.gpu_block.specs.declared.sub_allocator.SubAllocator.TheVariants as variants
use Rattle.gpu_cost.specs.Cost.{Counts}
use Rattle.gpu_block.specs.Block.{Block, free_list, dedicated}

-- by its form
abbrev pub block_of : SubAllocator → Block
block_of (variants.FreeList b) = free_list b.block
block_of (variants.Dedicated b) = dedicated b

-- what its searches cost so far; a dedicated block has none
abbrev pub cost_of : SubAllocator → Counts
cost_of (variants.FreeList b) = b.cost
cost_of (variants.Dedicated b) = record { comparisons = 0; tests = 0; lookups = 0 }
