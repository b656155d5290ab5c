use Rattle.std.proofs.Common.{◌≡◌, ◌++◌, take, string_bytes}
use Rattle.std.specs.List.{flat_map}
use Rattle.gpu_capture.specs.Devices.{heap_line}
use Rattle.gpu_capture.proofs.device.push_heaps.Given as goal

abbrev pub invariant-loop-size : goal.invariant-loop-size
invariant-loop-size l = string_bytes l.lines ≡ string_bytes l.fn.lines ++ flat_map heap_line (take l.size-index l.heaps)
