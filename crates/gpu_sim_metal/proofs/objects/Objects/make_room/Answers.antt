use Rattle.std.proofs.Common.{rules}
use Rattle.gpu_sim_metal.proofs.objects.Objects.make_room.Goals as goal

pub returns-then-issued-self-clause-room : goal.returns-then-issued-self-clause-room
returns-then-issued-self-clause-room c = search rules
