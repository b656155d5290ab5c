use Rattle.std.proofs.Common.{◌≡◌, ◌≤◌, take, vec_capacity}
use Rattle.gpu_sim_metal.proofs.residency_set.copy_within_room.Given as goal

-- the heaps so far are copied, and the room stays
abbrev pub invariant-loop-heap : goal.invariant-loop-heap
invariant-loop-heap l = (l.target.items ≡ take l.heap-index l.source) × (vec_capacity l.fn.target ≤ vec_capacity l.target)
