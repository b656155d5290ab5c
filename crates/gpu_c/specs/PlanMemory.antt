-- Which transient resources share an allocation, and the memory of their heap, as C tells and sees them.
use Rattle.std.specs.Prelude.{◌≡◌, ℕ, List, map}
use Rattle.gpu_plan.specs.declared.resource.Kind.{Kind}
use Rattle.gpu_plan.specs.declared.resource.Kind.TheVariants.{Linear, Optimal}
use Rattle.gpu_plan.specs.declared.sets.MemoryNeeds.{MemoryNeeds}
use Rattle.gpu_plan.specs.declared.memory.Memory.{Memory}
use Rattle.gpu_plan.specs.Memory.{IsMemoryFor}
use Rattle.gpu_c.specs.Request.{linear, non_linear}
use Rattle.gpu_c.specs.Plan.{resource_told}
use Rattle.gpu_c.specs.declared.plan_values.PlanResource.{PlanResource}
use Rattle.gpu_c.specs.declared.plan_values.PlanNeeds.{PlanNeeds}
use Rattle.gpu_c.specs.declared.plan_values.HeapMemory.{HeapMemory}

-- what memory is needed, as plans know it
abbrev pub needs_told : PlanNeeds → MemoryNeeds
needs_told n = record { memory_type_bits = n.memory_type_bits; dedicated = n.dedicated }

-- the number of a kind
abbrev pub kind_number : Kind → ℕ
kind_number Linear = linear
kind_number Optimal = non_linear

abbrev pub memory_told : Memory → HeapMemory
memory_told m = record { size = m.size; alignment = m.alignment; kind = kind_number m.kind }

-- the memory for a heap with these resources is told
pub record TellsMemory (page_size : ℕ) (resources : List PlanResource) (heap_size : ℕ) (told : HeapMemory) : Type 0 where
  pub memory : Memory
  pub told_is : told ≡ memory_told memory
  pub serves : IsMemoryFor page_size (map resource_told resources) heap_size memory
