use Rattle.gpu_core.proofs.Types.{invariant_empty, sum_empty}
use Rattle.gpu_core.proofs.memory_types.MemoryTypes.new.Goals as goal

pub invariant_of-result : goal.invariant_of-result
invariant_of-result g c = record { kept = invariant_empty c.args.types.items c.requires; sum_is = sum_empty c.args.types.items c.requires }

pub returns-clause-kept : goal.returns-clause-kept
returns-clause-kept g c = invariant_empty c.args.types.items c.requires
