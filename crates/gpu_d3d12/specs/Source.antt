-- A DirectX 12 device as a source of blocks: what it holds, and what its calls are in DirectX 12's own words.
use Rattle.std.specs.Prelude.{◌≡◌, ◌⊎◌, ℕ, ◌+◌, ◌*◌, true, not, is_some, nat_eq, Option, Some, None, Result, Ok, Err, IsSomeAnd, List, ◌∷◌}
use Rattle.std.specs.FinMap.{get, retain_keys}
use Rattle.std.proofs.lemmas.Bool.{eqb-true}
use Rattle.gpu_values.specs.Refusal.{Refusal}
use Rattle.gpu_device.specs.declared.d3d12.event.ResourcePlace.{ResourcePlace}
use Rattle.gpu_device.specs.D3D12.{Held, Entry, Heap, Committed, Placed, without_resource}
use Rattle.gpu_device.specs.Granted.{with_granted}
use Rattle.gpu_device.specs.declared.d3d12.device.D3D12Device.{Ghosts}
use Rattle.gpu_device.specs.declared.d3d12.types.CpuPageProperty.{CpuPageProperty}
use Rattle.gpu_device.specs.declared.d3d12.types.CpuPageProperty.TheVariants as pages
use Rattle.gpu_device.specs.declared.d3d12.types.HeapContent.{HeapContent}
use Rattle.gpu_device.specs.declared.d3d12.types.HeapContent.TheVariants.{All, Buffers, RtDsTextures, NonRtDsTextures}
use Rattle.gpu_device.specs.declared.d3d12.types.HeapDesc.{HeapDesc}
use Rattle.gpu_device.specs.declared.d3d12.types.ID3D12Heap.{ID3D12Heap}
use Rattle.gpu_device.specs.declared.d3d12.types.ResourceHeapTier.{ResourceHeapTier}
use Rattle.gpu_d3d12.specs.DeviceVersion.{device_of, with_device}
use Rattle.gpu_d3d12.specs.HeapAnswer.{HeapAnswer, Granted, Declined, Null, AsksHeap, IsWithoutHeap, code_refusal, null_refusal}
use Rattle.gpu_d3d12.specs.Heaps.{heap_desc}
use Rattle.gpu_d3d12.specs.ResourceAnswer.{ResourceAnswer, AsksResource, resource_number}
use Rattle.gpu_d3d12.specs.declared.device_version.ID3D12DeviceVersion.{ID3D12DeviceVersion}
use Rattle.gpu_d3d12.specs.declared.memory_kind.MemoryKind.{MemoryKind}
use Rattle.gpu_d3d12.specs.declared.question.ResourceCreateDesc.{ResourceCreateDesc}
use Rattle.gpu_d3d12.specs.declared.question.CreateCall.{CreateCall}
use Rattle.gpu_pool.specs.Source.{HeldBlock, HeldBlocks}
use Rattle.gpu_d3d12.specs.Journal.{with_made}
use Rattle.gpu_d3d12.specs.declared.journal.ResourceEvent.{ResourceEvent}
use Rattle.gpu_d3d12.specs.declared.journal.ResourceEvent.TheVariants.{Released}
use Rattle.gpu_d3d12.specs.Blocks.{kind_at, IsWithoutResource}

-- the device, what it was when it was handed in, its heap tier, and which resources were made and released since
pub record SourceState (D : Type 0) : Type 0 where
  pub device : ID3D12DeviceVersion D
  pub first : ID3D12DeviceVersion D
  pub tier : ResourceHeapTier
  pub journal : List ResourceEvent

-- ---- heaps as blocks

-- where the location of heaps with these pages stands among the locations
abbrev pub page_location : CpuPageProperty → ℕ
page_location pages.Unknown = 0
page_location pages.NotAvailable = 0
page_location pages.WriteCombine = 1
page_location pages.WriteBack = 2

-- the memory type of heaps of this content, of the location that stands there
abbrev pub content_type : HeapContent → (location : ℕ) → ℕ
content_type All location = location
content_type Buffers location = 3 * location
content_type RtDsTextures location = 3 * location + 1
content_type NonRtDsTextures location = 3 * location + 2

-- the memory type of such heaps
abbrev pub heap_type : HeapDesc → ℕ
heap_type desc = content_type desc.content (page_location desc.properties.cpu_page_property)

-- an entry as a block: resources are none
abbrev pub entry_block : Option Entry → Option HeldBlock
entry_block None = None
entry_block (Some (Heap desc)) = Some (record { memory_type = heap_type desc; size = desc.size })
entry_block (Some (Committed size)) = None
entry_block (Some (Placed heap offset size)) = None

-- heaps that were there at first are no blocks
abbrev pub new_block : (at_first now : Option Entry) → Option HeldBlock
new_block None now = entry_block now
new_block (Some (Heap desc)) now = None
new_block (Some (Committed size)) now = entry_block now
new_block (Some (Placed heap offset size)) now = entry_block now

-- the heaps that came since, as blocks
abbrev pub blocks_of : (first held : Held) → HeldBlocks
blocks_of first held n = new_block (get first n) (get held n)

-- what is held beside the blocks
abbrev pub beside : (first held : Held) → Held
beside first held = retain_keys held (λ n. not (is_some (blocks_of first held n)))

-- heaps that compare alike have one number
pub one_number : (a b : ID3D12Heap) → nat_eq a.0 b.0 ≡ true → a.0 ≡ b.0
one_number a b same = eqb-true a.0 b.0 same

-- ---- what the device holds

-- a heap of a memory type's blocks, as it is asked for
abbrev pub IsHeapOf : ResourceHeapTier → (t : ℕ) → HeapDesc → Type 0
IsHeapOf tier t desc = IsSomeAnd (kind_at tier t) (λ k. desc ≡ heap_desc k desc.size)

-- the device holds the heaps that it held at first; each that came since is one of a memory type's blocks
pub record HoldsFirst (tier : ResourceHeapTier) (first held : Held) : Type 0 where
  pub stays : (n : ℕ) (desc : HeapDesc) → get first n ≡ Some (Heap desc) → get held n ≡ Some (Heap desc)
  pub came : (n : ℕ) (desc : HeapDesc) → get held n ≡ Some (Heap desc) → (get first n ≡ Some (Heap desc)) ⊎ IsHeapOf tier (heap_type desc) desc

-- ---- what its calls are

-- the heap of a device's answer, or why there is none
abbrev pub heap_result : HeapAnswer → Result ID3D12Heap Refusal
heap_result (Granted number) = Ok (record { 0 = number })
heap_result (Declined code) = Err (code_refusal code)
heap_result Null = Err null_refusal

-- the same source, its device so
abbrev pub with_source_device : {D : Type 0} → SourceState D → D → SourceState D
with_source_device s device = record s { device = with_device s.device device }

module _ {D : Type 0} (g : Ghosts D) where
  -- what a source's device holds
  abbrev pub held_by : SourceState D → Held
  held_by s = g.held (device_of s.device)

  -- its blocks
  abbrev pub source_blocks : SourceState D → HeldBlocks
  source_blocks s = blocks_of (g.held (device_of s.first)) (held_by s)

  -- what it holds beside the blocks
  abbrev pub source_beside : SourceState D → Held
  source_beside s = beside (g.held (device_of s.first)) (held_by s)

  -- the device was asked once for a heap of the memory type and this size
  pub record AsksBlock (old : SourceState D) (t size : ℕ) (extra : Unit {0}) (answer : Result ID3D12Heap Refusal) (new : SourceState D) : Type 0 where
    pub kind : MemoryKind
    pub at : kind_at old.tier t ≡ Some kind
    pub heap_answer : HeapAnswer
    pub answered : answer ≡ heap_result heap_answer
    pub asks : AsksHeap g (device_of old.device) (heap_desc kind size) heap_answer (device_of new.device)
    pub beside : source_beside new ≡ source_beside old
    pub state : new ≡ with_source_device old (device_of new.device)

  -- a heap went back, once
  pub record GivesHeapBack (old : SourceState D) (heap : ID3D12Heap) (new : SourceState D) : Type 0 where
    pub gives : IsWithoutHeap g (device_of old.device) heap.0 (device_of new.device)
    pub beside : source_beside new ≡ source_beside old
    pub state : new ≡ with_source_device old (device_of new.device)

  -- the device was asked once for a resource that lies there, by this question; a new one has this entry
  pub record MakesResource (d : ResourceCreateDesc) (old : SourceState D) (question : CreateCall) (place : ResourcePlace) (entry : Entry) (answer : ResourceAnswer)
      (new : SourceState D) : Type 0 where
    pub asks : AsksResource g (device_of old.device) question d place entry answer (device_of new.device)
    pub beside : source_beside new ≡ with_granted (source_beside old) (resource_number answer) entry
    pub state : new ≡ record (with_source_device old (device_of new.device)) { journal = with_made (resource_number answer) old.journal }

  -- the device released a resource, once
  pub record ReleasesResource (old : SourceState D) (number : ℕ) (new : SourceState D) : Type 0 where
    pub releases : IsWithoutResource g (device_of old.device) number (device_of new.device)
    pub beside : source_beside new ≡ without_resource (source_beside old) number
    pub state : new ≡ record (with_source_device old (device_of new.device)) { journal = Released (record { 0 = number }) ∷ old.journal }
