use Rattle.std.proofs.Common.{sym, subst}
use Rattle.gpu_pool.specs.Allocation.{piece_of}
use Rattle.gpu_metal.specs.Live.{Allocation, IsLive}
use Rattle.gpu_metal.specs.State.{State}
use Rattle.gpu_metal.proofs.allocator.Allocator.allocations_are_apart.Goals as goal
use Rattle.gpu_metal.proofs.allocator.Allocator.allocations_are_apart.Goals.{After-pieces_are_apart}

inside : (g : _) (c : After-pieces_are_apart g) → (a : Allocation) → IsLive c.args.self.now.slots a → IsLive c.self.inside.pool.slots a
inside g c a live = subst (λ (s : State g.row.D.Denot). IsLive s.slots a) (sym c.self.view_is) live

pub returns-clause-apart : goal.returns-clause-apart
returns-clause-apart g c = λ a b live_a live_b other.
    let later = (goal.at.returns-clause-apart g c).After-pieces_are_apart in
    c.pieces_are_apart.ensures.apart a.memory_type_index (piece_of a) b.memory_type_index (piece_of b) (inside g later a live_a) (inside g later b live_b) other
