use Rattle.std.proofs.Common.{ap}
use Rattle.gpu_block_chunks.specs.Chain.{Linked}
use Rattle.gpu_block_chunks.proofs.Listing.{distinct_listed}
use Rattle.gpu_block_chunks.specs.Nodes.{held_at}
use Rattle.gpu_block_chunks.proofs.chain.Chain.laid_out.Goals as goal

pub returns-clause-distinct : goal.returns-clause-distinct
returns-clause-distinct c =
    distinct_listed (held_at c.self.inside.nodes) c.self.inside.first c.self.inside.size _ c.args.self.now.chunks c.self.invariant (ap (λ (v : Linked). v.chunks) c.self.view_is)
