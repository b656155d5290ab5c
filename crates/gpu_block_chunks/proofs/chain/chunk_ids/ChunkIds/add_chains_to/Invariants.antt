use Rattle.std.proofs.Common.{◌-◌, ◌*◌, ◌≡◌, ◌^◌, ◌<◌, ◌≤◌, max}
use Rattle.gpu_block_chunks.specs.Eras.{newest}
use Rattle.gpu_block_chunks.specs.ChunkIds.{KeepsFound}
use Rattle.gpu_block_chunks.proofs.chain.chunk_ids.ChunkIds.add_chains_to.Given as goal

abbrev pub invariant-loop-self : goal.invariant-loop-self
invariant-loop-self l = record {
  found : KeepsFound l.initial.self l.self;
  few : newest l.self.eras < 33;
  short : 2 ^ newest l.self.eras ≤ max (2 ^ newest l.initial.self.eras) (2 * l.count);
  heads : l.self.heads.items ≡ l.initial.self.heads.items;
  followers : l.self.followers.items ≡ l.initial.self.followers.items;
  latest : l.self.eras.latest ≡ l.initial.self.eras.latest;
}

abbrev pub decreases-loop-self : goal.decreases-loop-self
decreases-loop-self l = 33 - newest l.self.eras
