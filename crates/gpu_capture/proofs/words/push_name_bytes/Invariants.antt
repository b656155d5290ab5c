use Rattle.std.proofs.Common.{◌≡◌, ◌++◌, take, map, string_bytes}
use Rattle.gpu_capture.specs.Line.{name_byte}
use Rattle.gpu_capture.proofs.words.push_name_bytes.Given as goal

abbrev pub invariant-loop-byte : goal.invariant-loop-byte
invariant-loop-byte l = string_bytes l.line ≡ string_bytes l.fn.line ++ map name_byte (take l.byte-index l.name)
