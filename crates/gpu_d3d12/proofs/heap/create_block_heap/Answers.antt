use Rattle.std.proofs.Common.{rules}
use Rattle.gpu_d3d12.specs.HeapAnswer.{Declined}
use Rattle.gpu_d3d12.proofs.heap.create_block_heap.Goals as goal

pub returns-in-Err : goal.returns-in-Err
returns-in-Err g c = (
  Declined c.in-Err.code,
  record {
    number = tt;
    held = c.in-Err.ensures.holds;
    history = c.in-Err.ensures.recorded;
    count = c.in-Err.ensures.counts;
    latest_heap = c.create_heap.ensures.names_heap;
    latest_formats = c.create_heap.ensures.names_no_formats;
    latest_clear = c.create_heap.ensures.names_no_clear_value;
    latest_memory = c.create_heap.ensures.names_no_memory;
    constant = c.create_heap.ensures.constant;
  },
  search rules,
)

pub returns-in-Ok-None : goal.returns-in-Ok-None
returns-in-Ok-None g c = search rules
