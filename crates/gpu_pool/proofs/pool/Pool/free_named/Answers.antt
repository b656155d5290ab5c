use Rattle.std.proofs.Common.{sym, subst}
use Rattle.gpu_core.specs.Apart as pieces
use Rattle.gpu_pool.specs.Allocation.{piece_of}
use Rattle.gpu_pool.proofs.pool.Pool.free_named.Goals as goal

pub returns-clause-keeps : goal.returns-clause-keeps
returns-clause-keeps g c = λ b live other.
    c.free.ensures.keeps b.memory_type_index (piece_of b) live
    (subst (λ p. pieces.AreDistinct b.memory_type_index (piece_of b) c.args.allocation.now.memory_type_index p) (sym c.piece.ensures) other)
