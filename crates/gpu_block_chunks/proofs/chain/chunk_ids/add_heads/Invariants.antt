use Rattle.std.proofs.Common.{◌+◌, ◌-◌, ◌≡◌, ◌≤◌, ◌++◌, replicate, None, vec_len, vec_capacity}
use Rattle.gpu_block_chunks.proofs.chain.chunk_ids.add_heads.Given as goal

abbrev pub invariant-loop : goal.invariant-loop
invariant-loop l = record { longer : l.heads.items ≡ l.initial.heads.items ++ replicate l.counter None; room : vec_len l.heads + (l.more - l.counter) ≤ vec_capacity l.heads }
