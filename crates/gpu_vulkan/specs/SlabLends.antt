-- What an allocator ends as, once a slab of an allocation's bytes has ended, and a slab, once a slice of its bytes has.
use mir.Syntax.{named}
use Rattle.std.specs.Prelude.{Option, ℕ, List, []}
use Rattle.std.specs.Borrow.{Lends, Fml, RattleType, MutBor, Array, u8, follows_if, name_if_some}
use Rattle.gpu_device.specs.declared.vulkan.device.VulkanDevice.{Ghosts}
use Rattle.gpu_vulkan.specs.Lends.{written_at}
use Rattle.gpu_vulkan.specs.State.{State}
use Rattle.gpu_vulkan.specs.contracts.allocator.Allocator.{the_row}
use Rattle.gpu_vulkan.specs.declared.allocation.Allocation.{Allocation}
use Rattle.gpu_vulkan.specs.contracts.slab.MappedAllocationSlab as slab
use Rattle.gpu_vulkan.specs.declared.slab.MappedAllocationSlab.{MappedAllocationSlab}

-- what the slab's bytes then hold is written at the allocation's place; without a slab the allocator stays as it is
abbrev pub lends_slab_if : (D : RattleType) (g : Ghosts D.Denot) → MutBor (State D.Denot) → Allocation → Option MappedAllocationSlab → Fml
lends_slab_if D g s a r = follows_if (the_row D g) (Array u8 0) s.ghost_name (name_if_some (λ p. p.bytes.ghost_name) r) (written_at g s.now a) s.now

-- what the slice then holds is what the slab's bytes are; which bytes of which memory they are stays
abbrev pub lends_slab : MutBor MappedAllocationSlab → MutBor (List ℕ) → Fml
lends_slab s r = Lends (slab.the_row (record { mir = named 1; lft = [] })) (Array u8 0) s r (λ ws. record s.now { bytes = record s.now.bytes { now = ws } })
