use Rattle.std.proofs.Common.{◌≡◌, ◌≤◌, length}
use Rattle.gpu_block_chunks.specs.Eras.{newest, chains_when_new}
use Rattle.gpu_block_chunks.proofs.chain.eras.Eras.chain_of.Given as goal

abbrev pub invariant-loop-era : goal.invariant-loop-era
invariant-loop-era l = record { same : chains_when_new l.self.since.items (newest l.self) l.chunk_id ≡ chains_when_new l.self.since.items l.era l.chunk_id; within : l.era ≤ newest l.self }

abbrev pub decreases-loop-era : goal.decreases-loop-era
decreases-loop-era l = l.era
