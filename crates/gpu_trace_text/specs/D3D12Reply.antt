-- What replies to a DirectX 12 trace look like.
use Rattle.std.specs.Prelude.{ℕ, List, [], ◌∷◌, ◌++◌, map, Option, Some, None, codes, string_bytes}
use Rattle.std.specs.Fmt.{decimal}
use Rattle.std.specs.Int.NonZero.{non_zero_u64_get}
use Rattle.gpu_block_session.specs.ErrorNumber.{number_of, number_text}
use Rattle.gpu_device.specs.declared.d3d12.types.ClearValue.{ClearValue}
use Rattle.gpu_device.specs.declared.d3d12.types.CpuPageProperty.{CpuPageProperty}
use Rattle.gpu_device.specs.declared.d3d12.types.CpuPageProperty.TheVariants as pages
use Rattle.gpu_device.specs.declared.d3d12.types.HeapContent.{HeapContent}
use Rattle.gpu_device.specs.declared.d3d12.types.HeapContent.TheVariants.{All, Buffers, RtDsTextures, NonRtDsTextures}
use Rattle.gpu_device.specs.declared.d3d12.types.HeapDesc.{HeapDesc}
use Rattle.gpu_device.specs.declared.d3d12.types.HeapType.{HeapType}
use Rattle.gpu_device.specs.declared.d3d12.types.ID3D12Heap.{ID3D12Heap}
use Rattle.gpu_device.specs.declared.d3d12.types.HeapType.TheVariants.{Default, Upload, Readback, Custom}
use Rattle.gpu_device.specs.declared.d3d12.types.MemoryPool.{MemoryPool}
use Rattle.gpu_device.specs.declared.d3d12.types.MemoryPool.TheVariants as pools
use Rattle.gpu_d3d12.specs.declared.question.CommittedAllocationStatistics.{CommittedAllocationStatistics}
use Rattle.gpu_d3d12.specs.declared.question.ResourceStateOrBarrierLayout.{ResourceStateOrBarrierLayout}
use Rattle.gpu_run.specs.declared.allocated.Allocated.{Allocated}
use Rattle.gpu_run.specs.declared.d3d12.reply.Made.{Made as MadeResource}
use Rattle.gpu_run.specs.declared.d3d12.reply.Reply as told
use Rattle.gpu_run.specs.declared.d3d12.reply.Reply.TheVariants as replies
use Rattle.gpu_trace_text.specs.DeviceReply.{leaks_text, place_in_heap, report_text}
use Rattle.gpu_trace_text.specs.D3D12Resource.{clear_word, initial_word}
use Rattle.gpu_trace_text.specs.declared.d3d12.reply.Reply.{Reply}
use Rattle.gpu_trace_text.specs.declared.d3d12.reply.Reply.TheVariants.{Made, Refused, Served, Asked, Held}

-- ---- pieces and resources

-- where a placed resource lies
abbrev pub place_text : Option (Allocated ID3D12Heap) → List ℕ
place_text None = []
place_text (Some g) =
    codes " type " ++ (decimal g.memory_type ++ (codes " slot " ++ (decimal g.slot ++ (codes " offset " ++ (decimal g.offset
    ++ (codes " chunk " ++ decimal (non_zero_u64_get g.chunk)))))))

-- the number and size of a new resource, and its place
abbrev pub made_text : MadeResource → List ℕ
made_text m = codes "ok resource " ++ (decimal m.resource.0 ++ (codes " size " ++ (decimal m.size ++ place_text m.piece)))

-- the count of committed resources, and their sizes' sum
abbrev pub statistics_text : Option CommittedAllocationStatistics → List ℕ
statistics_text None = codes "none"
statistics_text (Some s) = codes "committed " ++ (decimal s.num_allocations ++ (codes " " ++ decimal s.total_size))

-- ---- questions

-- the word for a heap type
abbrev pub type_text : HeapType → List ℕ
type_text Default = codes "default"
type_text Upload = codes "upload"
type_text Readback = codes "readback"
type_text Custom = codes "custom"

-- the word for a page property
abbrev pub page_text : CpuPageProperty → List ℕ
page_text pages.Unknown = codes "unknown"
page_text pages.NotAvailable = codes "notavailable"
page_text pages.WriteCombine = codes "writecombine"
page_text pages.WriteBack = codes "writeback"

-- the word for a memory pool
abbrev pub pool_text : MemoryPool → List ℕ
pool_text pools.Unknown = codes "unknown"
pool_text pools.L0 = codes "l0"
pool_text pools.L1 = codes "l1"

-- the word for what a heap may hold
abbrev pub content_text : HeapContent → List ℕ
content_text All = codes "all"
content_text Buffers = codes "buffers"
content_text RtDsTextures = codes "rtdstextures"
content_text NonRtDsTextures = codes "nonrtdstextures"

-- a heap as it was asked for: its size, its properties, its alignment and what it may hold
abbrev pub heap_text : Option HeapDesc → List ℕ
heap_text None = codes "none"
heap_text (Some d) =
    decimal d.size ++ (codes " " ++ (type_text d.properties.heap_type ++ (codes " " ++ (page_text d.properties.cpu_page_property
    ++ (codes " " ++ (pool_text d.properties.memory_pool_preference ++ (codes " " ++ (decimal d.alignment ++ (codes " " ++ content_text d.content)))))))))

-- how many formats were handed on, where a list of them was
abbrev pub count_text : Option ℕ → List ℕ
count_text None = codes "none"
count_text (Some count) = decimal count

-- the same behind its name
abbrev pub formats_text : Option ℕ → List ℕ
formats_text formats = codes " formats " ++ count_text formats

-- the clear value behind its name
abbrev pub clear_text : Option ClearValue → List ℕ
clear_text clear = codes " clear " ++ clear_word clear

-- how the resource was to begin
abbrev pub begins_text : Option ResourceStateOrBarrierLayout → List ℕ
begins_text None = codes "none"
begins_text (Some initial) = initial_word initial

-- the same behind its name
abbrev pub initial_text : Option ResourceStateOrBarrierLayout → List ℕ
initial_text initial = codes " initial " ++ begins_text initial

-- how many questions came, and what the latest ones were for
abbrev pub asked_text : (questions : ℕ) → Option HeapDesc → Option ℕ → Option ClearValue → Option ResourceStateOrBarrierLayout → List ℕ
asked_text questions heap formats clear initial =
    codes "asked " ++ (decimal questions ++ (codes " heap " ++ (heap_text heap ++ (formats_text formats ++ (clear_text clear ++ initial_text initial)))))

-- ---- replies

-- what a session answered to a command
abbrev pub served_text : told.Reply → List ℕ
served_text (replies.Allocated g) = place_in_heap g g.heap.0
served_text (replies.Made m) = made_text m
served_text replies.Done = codes "ok"
served_text (replies.Leaks texts) = leaks_text (map string_bytes texts.items)
served_text (replies.Report r) = report_text r
served_text (replies.Capacity bytes) = decimal bytes
served_text (replies.Committed statistics) = statistics_text statistics
served_text replies.NoPlace = codes "none"
served_text replies.Busy = codes "busy"
served_text replies.Unbound = codes "unbound"
served_text (replies.Error e) = codes "error " ++ number_text (number_of e)

-- a reply without the end of its line
abbrev pub reply_text : Reply → List ℕ
reply_text Made = codes "ok"
reply_text (Refused number) = codes "error " ++ number_text number
reply_text (Served r) = served_text r
reply_text (Asked questions heap formats clear initial) = asked_text questions heap formats clear initial
reply_text (Held count) = codes "held " ++ decimal count

-- the text and the end of its line
abbrev pub reply_line : Reply → List ℕ
reply_line r = reply_text r ++ 10 ∷ []
