-- How a device answers when the heap of a block is asked for, and what it is after one went.
use Rattle.std.specs.Prelude.{◌≡◌, ℕ, ℤ, pos, neg_ℤ, ◌∷◌, Option, Some, None, Result, Ok, Err, codes, cond}
use Rattle.std.specs.Ordering.{int_eq}
use Rattle.gpu_values.specs.Refusal.{Refusal, refusal_of, out_of_memory, internal}
use Rattle.gpu_values.specs.declared.error.AllocationError.{AllocationError}
use Rattle.gpu_device.specs.D3D12.{Heap, without_heap}
use Rattle.gpu_device.specs.Granted.{IsNew, with_granted, counted}
use Rattle.gpu_device.specs.declared.d3d12.device.D3D12Device.{Ghosts}
use Rattle.gpu_device.specs.declared.d3d12.event.Event.TheVariants.{AskedHeap, ReleasedHeap}
use Rattle.gpu_device.specs.declared.d3d12.types.ID3D12Heap.{ID3D12Heap}
use Rattle.gpu_device.specs.declared.d3d12.types.HeapDesc.{HeapDesc}

pub data HeapAnswer : Type 0 where
  -- a heap was granted, under this number
  Granted : (number : ℕ) → HeapAnswer
  -- it was refused, with a code
  Declined : (code : ℤ) → HeapAnswer
  -- there was no error, and no heap
  Null : HeapAnswer

-- the number of the new heap, where there is one
abbrev pub heap_number : HeapAnswer → Option ℕ
heap_number (Granted number) = Some number
heap_number (Declined code) = None
heap_number Null = None

-- the answer in the device's own words
abbrev pub told_answer : HeapAnswer → Result (Option ID3D12Heap) ℤ
told_answer (Granted number) = Ok (Some (record { 0 = number }))
told_answer (Declined code) = Err code
told_answer Null = Ok None

-- the device was asked once for a heap, and answered so
pub record AsksHeap {D : Type 0} (g : Ghosts D) (old : D) (desc : HeapDesc) (answer : HeapAnswer) (new : D) : Type 0 where
  pub number : IsNew (g.held old) (heap_number answer)
  pub held : g.held new ≡ with_granted (g.held old) (heap_number answer) (Heap desc)
  pub history : g.history new ≡ AskedHeap desc (told_answer answer) ∷ g.history old
  pub count : g.refused new ≡ counted (g.refused old) (heap_number answer)
  pub latest_heap : g.latest_heap new ≡ Some desc
  pub latest_formats : g.latest_formats new ≡ g.latest_formats old
  pub latest_clear : g.latest_clear new ≡ g.latest_clear old
  pub latest_memory : g.latest_memory new ≡ g.latest_memory old
  pub constant : g.properties new ≡ g.properties old

-- why a heap is refused with a code: for lack of memory (`E_OUTOFMEMORY`, 0x8007000e), or for another cause
abbrev pub code_refusal : ℤ → Refusal
code_refusal code = cond (int_eq code (neg_ℤ (pos 2147024882))) out_of_memory (internal (codes "ID3D12Device::CreateHeap failed") (Some code))

abbrev pub null_refusal : Refusal
null_refusal = internal (codes "ID3D12Heap pointer is null, but should not be.") None

-- why there is no heap, by the device's code, or by none where there was no error, and no heap
abbrev pub answer_refusal : Option ℤ → Refusal
answer_refusal (Some code) = code_refusal code
answer_refusal None = null_refusal

-- why there is no heap, where the answer is a refusal
abbrev pub heap_refusal : HeapAnswer → Option Refusal
heap_refusal (Granted number) = None
heap_refusal (Declined code) = Some (code_refusal code)
heap_refusal Null = Some null_refusal

-- what the asker makes of the answer
abbrev pub IsResultOf : Result ID3D12Heap AllocationError → HeapAnswer → Type 0
IsResultOf (Ok heap) answer = answer ≡ Granted heap.0
IsResultOf (Err e) answer = heap_refusal answer ≡ Some (refusal_of e)

-- a heap was given back, once, and the device was asked nothing
pub record IsWithoutHeap {D : Type 0} (g : Ghosts D) (old : D) (number : ℕ) (new : D) : Type 0 where
  pub held : g.held new ≡ without_heap (g.held old) number
  pub history : g.history new ≡ ReleasedHeap (record { 0 = number }) ∷ g.history old
  pub count : g.refused new ≡ g.refused old
  pub latest_heap : g.latest_heap new ≡ g.latest_heap old
  pub latest_formats : g.latest_formats new ≡ g.latest_formats old
  pub latest_clear : g.latest_clear new ≡ g.latest_clear old
  pub latest_memory : g.latest_memory new ≡ g.latest_memory old
  pub constant : g.properties new ≡ g.properties old
