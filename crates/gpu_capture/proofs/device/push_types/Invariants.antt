use Rattle.std.proofs.Common.{◌≡◌, ◌++◌, take, string_bytes}
use Rattle.std.specs.List.{flat_map}
use Rattle.gpu_capture.specs.Devices.{type_line}
use Rattle.gpu_capture.proofs.device.push_types.Given as goal

abbrev pub invariant-loop-memory_type : goal.invariant-loop-memory_type
invariant-loop-memory_type l = string_bytes l.lines ≡ string_bytes l.fn.lines ++ flat_map type_line (take l.memory_type-index l.types)
