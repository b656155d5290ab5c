use Rattle.std.proofs.Common.{◌≡◌, drop}
use Rattle.gpu_vulkan.specs.Choice.{first_from}
use Rattle.gpu_vulkan.proofs.choice.first_type.Given as goal

abbrev pub invariant-loop-info : goal.invariant-loop-info
invariant-loop-info l = record {
  at : l.index ≡ l.info-index;
  rest : first_from l.bits l.flags.0 0 l.types ≡ first_from l.bits l.flags.0 l.index (drop l.info-index l.types);
}
