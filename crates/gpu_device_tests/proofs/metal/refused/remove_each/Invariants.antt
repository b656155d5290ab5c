use Rattle.std.proofs.Common.{All}
use Rattle.gpu_device.specs.Metal.{IsHeap, IsSet}
use Rattle.gpu_sim_metal.specs.Simulation.{held_of}
use Rattle.gpu_device_tests.proofs.metal.refused.remove_each.Given as goal

abbrev pub invariant-loop-heap : goal.invariant-loop-heap
invariant-loop-heap l = (IsSet (held_of l.sim) l.set.0) × (All (λ heap. IsHeap (held_of l.sim) heap.0) l.heaps)
