-- How a device answers when the heap of a block is asked for.
use Rattle.std.specs.Prelude.{◌≡◌, ℕ, List, ◌∷◌, Option, Some, None, codes}
use Rattle.std.specs.FinMap.{insert}
use Rattle.gpu_device.specs.Granted.{IsNew, counted}
use Rattle.gpu_device.specs.Metal.{Held, Heap, granted_heap}
use Rattle.gpu_device.specs.declared.metal.device.MetalDevice.{Ghosts}
use Rattle.gpu_device.specs.declared.metal.event.Event.{Event}
use Rattle.gpu_device.specs.declared.metal.event.Event.TheVariants.{AskedHeap}
use Rattle.gpu_device.specs.declared.metal.types.HeapDescriptor.{HeapDescriptor}
use Rattle.gpu_device.specs.declared.metal.types.MTLHeap.{MTLHeap}
use Rattle.gpu_device.specs.declared.metal.types.MTLResidencySet.{MTLResidencySet}
use Rattle.gpu_values.specs.Refusal.{Refusal, internal}
use Rattle.gpu_metal.specs.Residency.{with_joined, join_recorded}

-- what is held after the answer: a granted heap is held, and a member of the set, where there is one
abbrev pub with_answer : Held → Option MTLResidencySet → HeapDescriptor → (size : ℕ) → Option MTLHeap → Held
with_answer held set desc size None = held
with_answer held set desc size (Some heap) = with_joined (insert held heap.0 (Heap desc size)) set heap

-- what the history has more then
abbrev pub question_recorded : Option MTLResidencySet → HeapDescriptor → (size : ℕ) → Option MTLHeap → List Event → List Event
question_recorded set desc size None before = AskedHeap desc size None ∷ before
question_recorded set desc size (Some heap) before = join_recorded set heap (AskedHeap desc size (Some heap) ∷ before)

-- the device was asked once for a heap, and granted or refused it
pub record AsksHeap {D : Type 0} (g : Ghosts D) (set : Option MTLResidencySet) (old : D) (desc : HeapDescriptor) (size : ℕ) (answer : Option MTLHeap) (new : D) : Type 0 where
  pub number : IsNew (g.held old) (granted_heap answer)
  pub held : g.held new ≡ with_answer (g.held old) set desc size answer
  pub history : g.history new ≡ question_recorded set desc size answer (g.history old)
  pub count : g.refused new ≡ counted (g.refused old) (granted_heap answer)
  pub latest_heap : g.latest_heap new ≡ Some (desc, size)
  pub constant : g.properties new ≡ g.properties old

-- why there is no heap
abbrev pub heap_refusal : Refusal
heap_refusal = internal (codes "No MTLHeap was returned") None
