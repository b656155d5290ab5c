use Rattle.std.proofs.Common.{◌≡◌, ◌++◌, map, string_bytes}
use Rattle.gpu_block_pieces.specs.Leak.{leak_text}
use Rattle.gpu_core.proofs.memory_types.leaks.texts_of.Given as goal

abbrev pub invariant-loop-leak : goal.invariant-loop-leak
invariant-loop-leak g l = map string_bytes l.texts.items ++ map leak_text l.leak-iterator ≡ map leak_text l.fn.leaks
