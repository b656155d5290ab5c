use Rattle.std.proofs.Common.{IsTrue}
use Rattle.gpu_core.proofs.Moving.{proposed_left, freed_left, move_left}
use Rattle.gpu_core.proofs.type_laws.moves_end.Goals as goal

pub returns-clause-proposed : goal.returns-clause-proposed
returns-clause-proposed g c = λ old new r from to p. proposed_left old r to new p.takes

pub returns-clause-freed : goal.returns-clause-freed
returns-clause-freed g c = λ several old new p went. freed_left (IsTrue several) old p went new

pub returns-clause-fewer : goal.returns-clause-fewer
returns-clause-fewer g c = λ several old mid new r from to went. move_left (IsTrue several) old r from to mid went new
