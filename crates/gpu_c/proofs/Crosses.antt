-- What lies behind the handles of the C library may go to another thread: each of its types names no thread's token.
use denote.RattleType.{RattleType}
use denote.Param.Send.{IsSend, sendable, array_send, recorded_send, struct_send}
use denote.Struct.Declared.{shape}
use denote.Builtin.{bool, u8, u64, usize}
use Rattle.core.specs.declared.cmp.PartialEq as eq
use Rattle.core.specs.contracts.option.Option as Option
use Rattle.std.proofs.Crossing as heap
use Rattle.std.proofs.Crossing.{Vec-send, Box-send, Deque-send}
use Rattle.std_alloc.specs.contracts.string.String as String
use Rattle.std_alloc.specs.contracts.vec.Vec as Vec
use Rattle.std_heap.specs.contracts.Global as Heap
use Rattle.std_heap.specs.contracts.GlobalAllocator.TheImpl.{ghosts}
use Rattle.gpu_rows.specs.contracts.rows.Rows as Paged
use Rattle.gpu_block_gaps.specs.contracts.class_set.ClassSet as ClassSet
use Rattle.gpu_block_gaps.specs.contracts.classed.ClassedGaps as ClassedGaps
use Rattle.gpu_block_gaps.specs.contracts.forest.Forest as Forest
use Rattle.gpu_block_gaps.specs.contracts.tree.Fork as Fork
use Rattle.gpu_block_gaps.specs.contracts.tree.Node as Node
use Rattle.gpu_block_gaps.specs.contracts.index.GapIndex as GapIndex
use Rattle.gpu_block_gaps.specs.contracts.packed_record.PackedRecord as PackedRecord
use Rattle.gpu_block_gaps.specs.contracts.tagged_slot.TaggedSlot as TaggedSlot
use Rattle.gpu_block_gaps.specs.contracts.thread.Thread as Thread
use Rattle.gpu_block_chunks.specs.contracts.label.Label as Label
use Rattle.gpu_block_chunks.specs.contracts.name.Name as Name
use Rattle.gpu_block_chunks.specs.contracts.chunk.Chunk as Chunk
use Rattle.gpu_block_chunks.specs.contracts.chain.chunk_ids.ChunkIds as ChunkIds
use Rattle.gpu_block_chunks.specs.contracts.chain.eras.Eras as Eras
use Rattle.gpu_cost.specs.contracts.cost.Cost as Cost
use Rattle.gpu_block_chunks.specs.contracts.chain.slot_link.SlotLink as SlotLink
use Rattle.gpu_block_chunks.specs.contracts.chain.slots.Cell as Cell
use Rattle.gpu_block_chunks.specs.contracts.chain.slots.Slots as Slots
use Rattle.gpu_block_chunks.specs.contracts.chain.nodes.Nodes as Nodes
use Rattle.gpu_block_chunks.specs.contracts.chain.Chain as Chain
use Rattle.gpu_block_pieces.specs.contracts.chunks.Chunks as Chunks
use Rattle.gpu_block_pieces.specs.contracts.free_list.FreeListAllocator as FreeList
use Rattle.gpu_block.specs.contracts.dedicated_block.DedicatedBlockAllocator as Dedicated
use Rattle.gpu_block.specs.contracts.sub_allocator.SubAllocator as SubAllocator
use Rattle.gpu_core.specs.contracts.slot.LiveBlock as Live
use Rattle.gpu_core.specs.contracts.slots.Slots as Rows
use Rattle.gpu_core.specs.contracts.slots.Notes as Notes
use Rattle.gpu_core.specs.contracts.marks.Marks as Marks
use Rattle.gpu_core.specs.contracts.need.PendingBlock as PendingBlock
use Rattle.gpu_core.specs.contracts.need.NeedBlock as NeedBlock
use Rattle.gpu_core.specs.contracts.memory_type.MemoryType as MemoryType
use Rattle.gpu_values.specs.contracts.allocation_sizes.AllocationSizes as AllocationSizes
use Rattle.gpu_c.specs.contracts.mapped_memory.MappedMemory as MappedMemory
use Rattle.gpu_c.specs.contracts.mapped_memory.MappedMemoryPartialEq.TheImpl as memory_eq
use Rattle.gpu_device.specs.contracts.vulkan.types.AllocationScheme as AllocationScheme
use Rattle.gpu_device.specs.contracts.vulkan.types.MemoryRequirements as MemoryRequirements
use Rattle.gpu_values.specs.contracts.memory_location.MemoryLocation as MemoryLocation
use Rattle.gpu_device.specs.contracts.vulkan.types.MemoryHeap as MemoryHeap
use Rattle.gpu_device.specs.contracts.vulkan.types.MemoryTypeInfo as MemoryTypeInfo
use Rattle.gpu_core.specs.contracts.memory_types.MemoryTypes as MemoryTypes
use Rattle.gpu_vulkan.specs.contracts.preference.Preference as Preference
use Rattle.gpu_vulkan.specs.contracts.setup.Settings as Settings
use Rattle.gpu_vulkan.specs.contracts.setup.Setup as Setup
use Rattle.gpu_pool.specs.contracts.requests.Awaited as Awaited
use Rattle.gpu_pool.specs.contracts.requests.Requests as Requests
use Rattle.gpu_device.specs.contracts.d3d12.types.ID3D12Heap as ID3D12Heap
use Rattle.gpu_device.specs.contracts.d3d12.types.ID3D12HeapPartialEq.TheImpl as heap_eq
use Rattle.gpu_device.specs.contracts.d3d12.types.ID3D12Resource as ID3D12Resource
use Rattle.gpu_device.specs.contracts.d3d12.types.ResourceHeapTier as ResourceHeapTier
use Rattle.gpu_device.specs.contracts.metal.types.MTLHeap as MTLHeap
use Rattle.gpu_device.specs.contracts.metal.types.MTLHeapPartialEq.TheImpl as metal_heap_eq
use Rattle.gpu_d3d12.specs.contracts.committed_record.CommittedRecord as CommittedRecord
use Rattle.gpu_d3d12.specs.contracts.committed_requests.AwaitedResource as AwaitedResource
use Rattle.gpu_d3d12.specs.contracts.committed_requests.CommittedRequests as CommittedRequests
use Rattle.gpu_machine.specs.contracts.d3d12.machine.Machine as D3D12Machine
use Rattle.gpu_machine.specs.contracts.metal.machine.Machine as MetalMachine
use Rattle.gpu_machine.specs.contracts.vulkan.asking.Asking as Asking
use Rattle.gpu_machine.specs.contracts.vulkan.smaller_blocks.Portion as Portion
use Rattle.gpu_machine.specs.contracts.vulkan.description.Description as Description
use Rattle.gpu_machine.specs.contracts.vulkan.machine.Machine as Machine
use Rattle.gpu_capture.specs.contracts.capture.Capture as Capture
use Rattle.gpu_capture.specs.contracts.capture.CaptureEnd as CaptureEnd
use Rattle.gpu_ring.specs.contracts.ring.FrameStatistics as FrameStatistics
use Rattle.gpu_ring.specs.contracts.ring.Ring as Ring
use Rattle.gpu_c.specs.contracts.memory_type.AwaitingType as AwaitingType
use Rattle.gpu_c.specs.contracts.virtual_block.VirtualBlock as VirtualBlock

paged_send : (T : RattleType) → IsSend T → IsSend (Paged.the_row T)
paged_send T s = search (sendable, Vec-send) depth 20

name_send : IsSend Name.the_row
name_send = search (sendable, Vec-send, Box-send) depth 20

label_send : IsSend (Label.the_field).row
label_send = let n = name_send in search sendable depth 20

chunk_send : IsSend (Chunk.the_field).row
chunk_send = let l = label_send in search sendable depth 20

tagged_send : IsSend TaggedSlot.the_row
tagged_send = search sendable depth 20

record_send : IsSend PackedRecord.the_row
record_send = let t = tagged_send in search sendable depth 20

thread_send : IsSend Thread.the_row
thread_send = let r = record_send in search (sendable, paged_send) depth 20

classes_send : IsSend ClassSet.the_row
classes_send = search (sendable, Vec-send) depth 20

node_send : IsSend (Node.the_field).row
node_send = search sendable depth 20

fork_send : IsSend (Fork.the_field).row
fork_send = let n = node_send in search sendable depth 20

root_send : IsSend (Option.the_field (Node.the_field).row).row
root_send = let n = node_send in search sendable depth 20

forest_send : IsSend (Forest.the_field).row
forest_send = let f = fork_send in let r = root_send in let c = classes_send in search (sendable, paged_send, Vec-send) depth 20

classed_send : IsSend ClassedGaps.the_row
classed_send = let t = thread_send in let f = forest_send in search sendable depth 20

last_send : IsSend (Option.the_field PackedRecord.the_row).row
last_send = let r = record_send in search sendable depth 20

index_send : IsSend GapIndex.the_row
index_send = let c = classed_send in let l = last_send in search sendable depth 20

link_send : IsSend SlotLink.the_row
link_send = search sendable depth 20

cell_send : IsSend (Cell.the_field).row
cell_send = let l = link_send in search sendable depth 20

slots_send : IsSend Slots.the_row
slots_send = let c = cell_send in let n = label_send in let l = link_send in search (sendable, paged_send) depth 20

pub key_send : IsSend u64
key_send = search sendable

pub place_send : IsSend usize
place_send = search sendable

eras_send : IsSend (Eras.the_field).row
eras_send = let k = key_send in search (sendable, Vec-send) depth 20

ids_send : IsSend (ChunkIds.the_field).row
ids_send = let l = link_send in let e = eras_send in search (sendable, paged_send, Vec-send) depth 20

nodes_send : IsSend Nodes.the_row
nodes_send = let s = slots_send in let i = ids_send in search sendable depth 20

chain_send : IsSend Chain.the_row
chain_send = let n = nodes_send in search sendable depth 20

chunks_send : IsSend Chunks.the_row
chunks_send = let c = chain_send in let i = index_send in search sendable depth 20

cost_send : IsSend Cost.the_row
cost_send = search sendable depth 20

list_send : IsSend FreeList.the_row
list_send = let c = chunks_send in let k = cost_send in search sendable depth 20

dedicated_send : IsSend Dedicated.the_row
dedicated_send = let c = chunk_send in search sendable depth 20

pub sub_send : IsSend (SubAllocator.the_field).row
sub_send = let l = list_send in let d = dedicated_send in search sendable depth 20

pub block_send : IsSend VirtualBlock.the_row
block_send = let s = sub_send in search sendable depth 20

-- ---- a memory type
marks_send : IsSend Marks.the_row
marks_send = search (sendable, Vec-send) depth 20

notes_send : IsSend (Notes.the_field).row
notes_send = let m = marks_send in search sendable depth 20

module _ (H : RattleType) (s : IsSend H) where
  live_send : IsSend (Live.the_field H).row
  live_send = let a = sub_send in search sendable depth 20

  rows_send : IsSend (Rows.the_row H)
  rows_send = let l = live_send in let n = notes_send in search (sendable, Vec-send) depth 20

room_send : IsSend PendingBlock.the_row
room_send = let a = sub_send in search (sendable, Box-send) depth 20

need_send : IsSend (NeedBlock.the_field).row
need_send = let r = room_send in search sendable depth 20

sizes_send : IsSend AllocationSizes.the_row
sizes_send = search sendable depth 20

bool_send : IsSend bool
bool_send = search sendable

budget_send : IsSend (Option.the_field u64).row
budget_send = search sendable depth 20

module _ (H : RattleType) (e : eq.Ghosts H.Denot) (s : IsSend H) where
  pub type_send : IsSend (MemoryType.the_row H e)
  type_send =
      let r = rows_send H s in let u = key_send in let n = place_send in let b = budget_send in let g = heap.send in let i = bool_send in
      record {
        owned = λ d vs x. (
          (λ vss. (
            tt,
            (
              i.owned x.0.is_host vss.0,
              (
                u.owned x.0.granularity vss.1.0,
                (
                  r.owned _ vss.1.1.0,
                  (u.owned x.0.capacity vss.1.1.1.0, (n.owned x.0.shared vss.1.1.1.1.0, (b.owned _ vss.1.1.1.1.1.0, (g.owned _ vss.1.1.1.1.1.1.0, tt)))),
                ),
              ),
            ),
          )),
          tt,
        );
        leaving = λ k d w. tt;
      }

awaiting_of : ((e : eq.Ghosts u64.Denot) → IsSend (MemoryType.the_row u64 e)) → IsSend AwaitingType.the_row
awaiting_of t = let n = need_send in let z = sizes_send in search (t, sendable) depth 20

pub awaiting_send : IsSend AwaitingType.the_row
awaiting_send = awaiting_of (λ e. type_send u64 e key_send)

-- ---- an allocator
infos_send : IsSend MemoryTypeInfo.the_row
infos_send = search sendable depth 20

heaps_send : IsSend MemoryHeap.the_row
heaps_send = search sendable depth 20

settings_send : IsSend (Settings.the_field).row
settings_send = let z = sizes_send in search sendable depth 20

setup_send : IsSend Setup.the_row
setup_send = let t = infos_send in let h = heaps_send in let s = settings_send in search (sendable, Vec-send) depth 20

requirements_send : IsSend MemoryRequirements.the_row
requirements_send = search sendable depth 20

location_send : IsSend MemoryLocation.the_row
location_send = search sendable depth 20

scheme_send : IsSend AllocationScheme.the_row
scheme_send = search sendable depth 20

text_send : IsSend (String.the_row Heap.the_row ghosts)
text_send = search (sendable, Vec-send) depth 20

description_send : IsSend Description.the_row
description_send =
    let t = text_send in let r = requirements_send in let l = location_send in let b = bool_send in let k = scheme_send in
    record {
      owned = λ d vs x. (
        (λ vss. (tt, (t.owned x.0.name vss.0, (r.owned x.0.requirements vss.1.0, (l.owned x.0.location vss.1.1.0, (b.owned x.0.linear vss.1.1.1.0, (k.owned x.0.scheme vss.1.1.1.1.0, tt))))))),
        tt,
      );
      leaving = λ k d w. tt;
    }

preference_send : IsSend Preference.the_row
preference_send = let b = bool_send in search sendable depth 20

preference_option_send : IsSend (Option.the_field Preference.the_row).row
preference_option_send = let p = preference_send in search sendable depth 20

portion_send : IsSend (Portion.the_field).row
portion_send = search sendable depth 20

asking_send : IsSend Asking.the_row
asking_send = recorded_send (Asking.the_field).row _ _ (Asking.the_type).to_one (struct_send (shape Asking.the_type) (description_send, (bool_send, (preference_option_send, (portion_send, tt)))))

limit_send : IsSend (Option.the_row u64)
limit_send = search sendable depth 20

limits_send : IsSend (Vec.the_row (Option.the_row u64) Heap.the_row ghosts)
limits_send = let l = limit_send in search (sendable, Vec-send) depth 20

most_send : IsSend (Option.the_row usize)
most_send = search sendable depth 20

asking_option_send : IsSend (Option.the_row Asking.the_row)
asking_option_send = let a = asking_send in search sendable depth 20

awaited_send : IsSend Awaited.the_row
awaited_send = let n = need_send in let u = place_send in search sendable depth 20

awaiting_answer_send : IsSend (Option.the_row Awaited.the_row)
awaiting_answer_send = let a = awaited_send in search sendable depth 20

memory_send : IsSend MappedMemory.the_row
memory_send = search sendable depth 20

module _ (H : RattleType) where
  types_of : ((e : eq.Ghosts H.Denot) → IsSend (MemoryType.the_row H e)) → (e : eq.Ghosts H.Denot) → IsSend (MemoryTypes.the_row H e)
  types_of t e = let m = t e in search (sendable, Vec-send) depth 20

  requests_of : ((e : eq.Ghosts H.Denot) → IsSend (MemoryType.the_row H e)) → (e : eq.Ghosts H.Denot) → IsSend (Requests.the_row H e)
  requests_of t e =
      let z = sizes_send in let a = awaiting_answer_send in
      record {
        owned = λ d vs x. ((λ vss. (tt, (z.owned x.0.sizes vss.0, ((types_of t e).owned x.0.types vss.1.0, (a.owned x.0.awaited vss.1.1.0, tt))))), tt);
        leaving = λ k d w. tt;
      }

machine_of : ((e : eq.Ghosts MappedMemory.the_row.Denot) → IsSend (MemoryType.the_row MappedMemory.the_row e)) → IsSend (Machine.the_row MappedMemory.the_row memory_eq.ghosts)
machine_of t =
    let s = setup_send in let l = limits_send in let m = most_send in let b = bool_send in let a = asking_option_send in let g = heap.send in
    record {
      owned = λ d vs x. (
        (λ vss. (tt, (g.owned _ vss.0, (s.owned x.0.setup vss.1.0, (l.owned x.0.limits vss.1.1.0, (m.owned x.0.most_blocks vss.1.1.1.0, (b.owned x.0.smaller_blocks vss.1.1.1.1.0, ((requests_of MappedMemory.the_row t memory_eq.ghosts).owned x.0.requests vss.1.1.1.1.1.0, (a.owned x.0.asking vss.1.1.1.1.1.1.0, tt))))))))),
        tt,
      );
      leaving = λ k d w. tt;
    }

pub machine_send : IsSend (Machine.the_row MappedMemory.the_row memory_eq.ghosts)
machine_send = machine_of (λ e. type_send MappedMemory.the_row e memory_send)

-- ---- an allocator of DirectX 12's memory
heap_number_send : IsSend ID3D12Heap.the_row
heap_number_send = search sendable depth 20

tier_send : IsSend ResourceHeapTier.the_row
tier_send = search sendable depth 20

resource_send : IsSend ID3D12Resource.the_row
resource_send = search sendable depth 20

committed_record_send : IsSend CommittedRecord.the_row
committed_record_send = let r = resource_send in search sendable depth 20

awaited_resource_send : IsSend AwaitedResource.the_row
awaited_resource_send = search sendable depth 20

awaiting_resource_send : IsSend (Option.the_row AwaitedResource.the_row)
awaiting_resource_send = let a = awaited_resource_send in search sendable depth 20

records_send : IsSend (Vec.the_row CommittedRecord.the_row Heap.the_row ghosts)
records_send = Vec-send CommittedRecord.the_row committed_record_send

committed_send : IsSend CommittedRequests.the_row
committed_send =
    let r = Vec-send (Vec.the_row CommittedRecord.the_row Heap.the_row ghosts) records_send in let a = awaiting_resource_send in
    record {
      owned = λ d vs x. ((λ vss. (tt, (r.owned x.0.types vss.0, (a.owned x.0.awaited vss.1.0, tt)))), tt);
      leaving = λ k d w. tt;
    }

d3d12_of : ((e : eq.Ghosts ID3D12Heap.the_row.Denot) → IsSend (MemoryType.the_row ID3D12Heap.the_row e)) → IsSend D3D12Machine.the_row
d3d12_of t =
    let g = heap.send in let i = tier_send in let c = committed_send in
    record {
      owned = λ d vs x. (
        (λ vss. (tt, (g.owned _ vss.0, ((requests_of ID3D12Heap.the_row t heap_eq.ghosts).owned x.0.requests vss.1.0, (i.owned x.0.tier vss.1.1.0, (c.owned x.0.committed vss.1.1.1.0, tt)))))),
        tt,
      );
      leaving = λ k d w. tt;
    }

pub d3d12_send : IsSend D3D12Machine.the_row
d3d12_send = d3d12_of (λ e. type_send ID3D12Heap.the_row e heap_number_send)

-- ---- an allocator of Metal's memory
metal_heap_send : IsSend MTLHeap.the_row
metal_heap_send = search sendable depth 20

metal_of : ((e : eq.Ghosts MTLHeap.the_row.Denot) → IsSend (MemoryType.the_row MTLHeap.the_row e)) → IsSend MetalMachine.the_row
metal_of t =
    let g = heap.send in let b = bool_send in
    record {
      owned = λ d vs x. ((λ vss. (tt, (g.owned _ vss.0, ((requests_of MTLHeap.the_row t metal_heap_eq.ghosts).owned x.0.requests vss.1.0, (b.owned x.0.has_set vss.1.1.0, tt))))), tt);
      leaving = λ k d w. tt;
    }

pub metal_send : IsSend MetalMachine.the_row
metal_send = metal_of (λ e. type_send MTLHeap.the_row e metal_heap_send)

-- ---- a ring
frame_send : IsSend FrameStatistics.the_row
frame_send = search sendable depth 20

pub ring_send : IsSend Ring.the_row
ring_send =
    let u = key_send in let q = Deque-send FrameStatistics.the_row frame_send in let f = frame_send in
    record {
      owned = λ d vs x. (
        (λ vss. (
          tt,
          (
            u.owned x.0.size vss.0,
            (u.owned x.0.tail vss.1.0, (u.owned x.0.taken vss.1.1.0, (u.owned x.0.first vss.1.1.1.0, (q.owned x.0.frames vss.1.1.1.1.0, (f.owned x.0.current vss.1.1.1.1.1.0, tt))))),
          ),
        )),
        tt,
      );
      leaving = λ k d w. tt;
    }

-- ---- a capture
end_send : IsSend CaptureEnd.the_row
end_send = search sendable depth 20

bytes_send : IsSend (Vec.the_row u8 Heap.the_row ghosts)
bytes_send = search (sendable, Vec-send) depth 20

pub capture_send : IsSend Capture.the_row
capture_send =
    let b = bytes_send in let e = end_send in let u = key_send in let l = limit_send in
    let budgets = array_send (Option.the_row u64) 32 l in
    record {
      owned = λ d vs x. (
        (λ vss. (
          tt,
          (b.owned x.0.device vss.0, (b.owned x.0.calls vss.1.0, (e.owned x.0.end vss.1.1.0, (u.owned x.0.questions vss.1.1.1.0, (budgets.owned x.0.budgets vss.1.1.1.1.0, tt))))),
        )),
        tt,
      );
      leaving = λ k d w. tt;
    }
