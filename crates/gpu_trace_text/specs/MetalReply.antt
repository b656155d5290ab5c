-- What replies to a Metal trace look like.
use Rattle.std.specs.Prelude.{ℕ, List, [], ◌∷◌, ◌++◌, length, Option, Some, None, codes}
use Rattle.std.specs.List.{flat_map}
use Rattle.std.specs.Fmt.{decimal}
use Rattle.gpu_block_session.specs.ErrorNumber.{number_of, number_text}
use Rattle.gpu_device.specs.declared.metal.types.CpuCacheMode.{CpuCacheMode}
use Rattle.gpu_device.specs.declared.metal.types.CpuCacheMode.TheVariants.{DefaultCache, WriteCombined}
use Rattle.gpu_device.specs.declared.metal.types.HeapDescriptor.{HeapDescriptor}
use Rattle.gpu_device.specs.declared.metal.types.MTLHeap.{MTLHeap}
use Rattle.gpu_run.specs.declared.metal.reply.Reply as told
use Rattle.gpu_run.specs.declared.metal.reply.Reply.TheVariants as replies
use Rattle.gpu_trace_text.specs.DeviceReply.{place_in_heap, report_text}
use Rattle.gpu_trace_text.specs.MetalCommand.{mode_word}
use Rattle.gpu_trace_text.specs.declared.metal.reply.Reply.{Reply}
use Rattle.gpu_trace_text.specs.declared.metal.reply.Reply.TheVariants.{Made, Refused, Served, Members, Committed, NoSet, Asked, Held}

-- a heap and the end of its line
abbrev pub heap_line : MTLHeap → List ℕ
heap_line heap = codes "heap " ++ (decimal heap.0 ++ 10 ∷ [])

-- the heaps, a line each, and then their count
abbrev pub heaps_text : List MTLHeap → List ℕ
heaps_text heaps = flat_map heap_line heaps ++ (codes "heaps " ++ decimal (length heaps))

-- a heap's number behind a space
abbrev pub number_word : MTLHeap → List ℕ
number_word heap = codes " " ++ decimal heap.0

-- the count of the heaps, and then each, in one line
abbrev pub listed_text : List MTLHeap → List ℕ
listed_text heaps = decimal (length heaps) ++ flat_map number_word heaps

-- the word for a cache mode
abbrev pub cache_text : CpuCacheMode → List ℕ
cache_text DefaultCache = codes "defaultcache"
cache_text WriteCombined = codes "writecombined"

-- how many questions came, and of the latest one for a heap its size and modes
abbrev pub asked_text : (questions : ℕ) → Option (HeapDescriptor × ℕ) → List ℕ
asked_text questions None = codes "asked " ++ (decimal questions ++ codes " heap none")
asked_text questions (Some q) =
    codes "asked " ++ (decimal questions ++ (codes " heap " ++ (decimal q.1 ++ (codes " " ++ (mode_word q.0.storage_mode ++ (codes " " ++ cache_text q.0.cpu_cache_mode))))))

-- what a session answered to a command
abbrev pub served_text : told.Reply → List ℕ
served_text (replies.Allocated g) = place_in_heap g g.heap.0
served_text replies.Done = codes "ok"
served_text (replies.Heaps heaps) = heaps_text heaps.items
served_text (replies.Report r) = report_text r
served_text (replies.Capacity bytes) = decimal bytes
served_text replies.NoPlace = codes "none"
served_text replies.Busy = codes "busy"
served_text replies.Unbound = codes "unbound"
served_text (replies.Error e) = codes "error " ++ number_text (number_of e)

-- a reply without the end of its line
abbrev pub reply_text : Reply → List ℕ
reply_text Made = codes "ok"
reply_text (Refused number) = codes "error " ++ number_text number
reply_text (Served r) = served_text r
reply_text (Members heaps) = codes "members " ++ listed_text heaps.items
reply_text (Committed heaps) = codes "committed " ++ listed_text heaps.items
reply_text NoSet = codes "none"
reply_text (Asked questions heap) = asked_text questions heap
reply_text (Held count members) = codes "held " ++ (decimal count ++ (codes " members " ++ decimal members))

-- the text and the end of its line
abbrev pub reply_line : Reply → List ℕ
reply_line r = reply_text r ++ 10 ∷ []
