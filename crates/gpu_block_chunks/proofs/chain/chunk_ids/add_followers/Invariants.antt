use Rattle.std.proofs.Common.{◌+◌, ◌-◌, ◌≡◌, ◌≤◌, ◌++◌, replicate, None, length}
use Rattle.gpu_block_chunks.proofs.chain.chunk_ids.add_followers.Given as goal

abbrev pub invariant-loop : goal.invariant-loop
invariant-loop l = record { longer : l.followers.items ≡ l.initial.followers.items ++ replicate l.counter None; room : length l.followers.items + (l.more - l.counter) ≤ l.followers.capacity }
