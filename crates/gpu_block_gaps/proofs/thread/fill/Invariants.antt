use Rattle.std.proofs.Common.{ℕ, ◌-◌, ◌≤◌, ◌≡◌, max, map, length}
use Rattle.gpu_block_gaps.specs.Thread.{gap_in}
use Rattle.gpu_block_gaps.specs.Records.{order_of, gap_of, IsThread}
use Rattle.gpu_block_gaps.proofs.thread.fill.Given as goal

abbrev pub invariant-loop-records : goal.invariant-loop-records
invariant-loop-records l = record { thread : (IsThread l.records.items l.spare.items l.spare.capacity); order : (order_of l.records.items ≡ order_of l.initial.records.items); gaps : ((k : ℕ) → gap_in (map gap_of l.records.items) k ≡ gap_in (map gap_of l.initial.records.items) k); long : ((length l.initial.records.items ≤ length l.records.items) × (length l.records.items ≤ max (length l.initial.records.items) l.count)); records : (l.count ≤ l.records.capacity); spare : (l.count ≤ l.spare.capacity) }

abbrev pub decreases-loop-records : goal.decreases-loop-records
decreases-loop-records l = l.count - length l.records.items
