use Rattle.std.proofs.Common.{◌≡◌, ◌-◌, ◌≤◌, length, vec_len, vec_capacity}
use Rattle.gpu_rows.specs.Pages.{rows_of, ArePages}
use Rattle.gpu_rows.proofs.rows.add_pages.Given as goal

abbrev pub invariant-loop-alloc : goal.invariant-loop-alloc
invariant-loop-alloc g l = record {
  paged : ArePages 256 256 l.pages.items (length (rows_of l.pages.items));
  same : rows_of l.pages.items ≡ rows_of l.fn.pages.items;
  kept : length l.fn.pages.items ≤ length l.pages.items;
  few : length l.pages.items ≤ l.count;
  room : l.count ≤ vec_capacity l.pages;
}

abbrev pub decreases-loop-alloc : goal.decreases-loop-alloc
decreases-loop-alloc g l = l.count - vec_len l.pages
