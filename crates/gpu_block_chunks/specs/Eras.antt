-- The chain of a chunk id, in an era of each number of chains.
use Rattle.std.specs.Prelude.{ℕ, zero, suc, ◌%◌, ◌^◌, List, length, cond, nat_lt, slice_index_or}
use Rattle.gpu_block_chunks.specs.declared.chain.eras.Eras.{Eras}

-- the era that began last; before the first began there is one chain
abbrev pub newest : Eras → ℕ
newest eras = length eras.since.items

-- how many chains there were when an id was new: those of the last era that began before it
abbrev pub chains_when_new : List ℕ → ℕ → ℕ → ℕ
chains_when_new since zero k = 1
chains_when_new since (suc era) k = cond (nat_lt (slice_index_or since era 0) k) (2 ^ suc era) (chains_when_new since era k)

-- the chain of an id: by as many chains as there were when it was new
abbrev pub own_chain : Eras → ℕ → ℕ
own_chain eras k = k % chains_when_new eras.since.items (newest eras) k
