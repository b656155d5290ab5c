-- What is looked up of the simulated device, beside the session.
use Rattle.std.specs.Prelude.{◌≡◌, List, Option, Some, None}
use Rattle.gpu_block_session.specs.declared.error_number.ErrorNumber.TheVariants.{E10}
use Rattle.gpu_device.specs.MetalHistory.{questions_in}
use Rattle.gpu_device.specs.Metal.{Held, members_of, committed_of}
use Rattle.gpu_device.specs.declared.metal.types.MTLHeap.{MTLHeap}
use Rattle.gpu_device.specs.declared.metal.types.MTLResidencySet.{MTLResidencySet}
use Rattle.gpu_sim_metal.specs.Simulation.{held_of, history_of, latest_heap_of}
use Rattle.gpu_sim_metal.specs.declared.sim_metal.SimMetal.{SimMetal}
use Rattle.gpu_run.specs.MetalServed.{SessionValue}
use Rattle.gpu_trace_text.specs.declared.metal.line.Look.{Look}
use Rattle.gpu_trace_text.specs.declared.metal.line.Look.TheVariants as looks
use Rattle.gpu_trace_text.specs.declared.metal.reply.Reply.{Reply}
use Rattle.gpu_trace_text.specs.declared.metal.reply.Reply.TheVariants.{Refused, Members, Committed, NoSet, Asked}

-- the members of the set, where there is one
abbrev pub members_in : Held → Option MTLResidencySet → Option (List MTLHeap)
members_in held None = None
members_in held (Some set) = members_of held set.0

-- its committed members
abbrev pub committed_in : Held → Option MTLResidencySet → Option (List MTLHeap)
committed_in held None = None
committed_in held (Some set) = committed_of held set.0

-- just these heaps are told, where there is room for the reply
abbrev pub ListsMembers : Option (List MTLHeap) → Reply → Type 0
ListsMembers None reply = reply ≡ NoSet
ListsMembers (Some heaps) (Members told) = told.items ≡ heaps
ListsMembers (Some heaps) reply = reply ≡ Refused E10

-- the same of the committed members
abbrev pub ListsCommitted : Option (List MTLHeap) → Reply → Type 0
ListsCommitted None reply = reply ≡ NoSet
ListsCommitted (Some heaps) (Committed told) = told.items ≡ heaps
ListsCommitted (Some heaps) reply = reply ≡ Refused E10

-- what is looked up, and the reply to it
abbrev pub Shows : SessionValue SimMetal → Look → Reply → Type 0
Shows s looks.Members reply = ListsMembers (members_in (held_of s.allocator.device) s.allocator.setup.residency_set) reply
Shows s looks.Committed reply = ListsCommitted (committed_in (held_of s.allocator.device) s.allocator.setup.residency_set) reply
Shows s looks.Asked reply = reply ≡ Asked (questions_in (history_of s.allocator.device)) (latest_heap_of s.allocator.device)
