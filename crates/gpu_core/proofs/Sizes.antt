-- A block's size stays as pieces come and go.
use Rattle.std.proofs.Common.{◌≡◌, ap, ℕ}
use Rattle.gpu_block.specs.Block.{Block, free_list, dedicated, size_of, TakesIn, ReleasesIn}
use Rattle.gpu_block_pieces.specs.Request.{Request}

-- a take leaves a block's size
pub takes_size : (old : Block) (r : Request) (o n : ℕ) (new : Block) → TakesIn old r o n new → size_of new ≡ size_of old
takes_size (free_list a) r o n (free_list b) h = h.same.0
takes_size (free_list a) r o n (dedicated b) h = absurd h
takes_size (dedicated a) r o n (free_list b) h = absurd h
takes_size (dedicated a) r o n (dedicated b) h = ap (λ x. x.size) h.4

-- a release leaves a block's size
pub releases_size : (old : Block) (n : ℕ) (new : Block) → ReleasesIn old n new → size_of new ≡ size_of old
releases_size (free_list a) n (free_list b) h = h.same.0
releases_size (free_list a) n (dedicated b) h = absurd h
releases_size (dedicated a) n (free_list b) h = absurd h
releases_size (dedicated a) n (dedicated b) h = ap (λ x. x.size) h.2
