-- A rank has the parts of a resource's key at fixed places, and 0 for those that the order doesn't compare.
use Rattle.std.specs.Prelude.{◌≡◌, ℕ, ◌-◌, ◌*◌, List}
use Rattle.gpu_plan.specs.declared.resource.Resource.{Resource}
use Rattle.gpu_plan.specs.declared.order.Order.{Order}
use Rattle.gpu_plan.specs.declared.order.Order.TheVariants.{Size, Area, Alignment, Magnitude, Breadth}
use Rattle.gpu_plan.specs.declared.order.Rank.{Rank}
use Rattle.gpu_plan.specs.Plan.{resource_at}
use Rattle.gpu_plan.specs.Passes.{bytes_alive, IsBusiest}
use Rattle.gpu_plan.specs.Order.{passes_of, IsLog2}

-- the rank has these parts
abbrev pub Has : Rank → (most pass second third : ℕ) → Type 0
Has x most pass second third = (x.most.0 ≡ most) × (x.pass ≡ pass) × (x.second.0 ≡ second) × (x.third.0 ≡ third)

-- the rank is that of its resource in an order
abbrev pub Ranks : Order → List Resource → Rank → Type 0
Ranks Size resources x = let r = resource_at resources x.index in Has x r.size 0 0 0
Ranks Area resources x = let r = resource_at resources x.index in Has x (r.size * passes_of r) 0 0 0
Ranks Alignment resources x = let r = resource_at resources x.index in Has x r.alignment 0 r.size 0
Ranks Magnitude resources x = let r = resource_at resources x.index in (n : ℕ) × IsLog2 r.size n × Has x n 0 (r.last - r.first) r.size
Ranks Breadth resources x = let r = resource_at resources x.index in (pass : ℕ) × IsBusiest resources r pass × Has x (bytes_alive resources pass) pass r.size 0
