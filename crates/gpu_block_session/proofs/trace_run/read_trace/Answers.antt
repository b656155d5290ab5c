use Rattle.gpu_block_session.proofs.Input.{read_known}
use Rattle.gpu_block_session.proofs.trace_run.read_trace.Goals as goal

pub returns-in-Ok : goal.returns-in-Ok
returns-in-Ok g c = read_known (g.R.Read.remaining c.args.reader.now) 1048577 c.read_to_end.new.buf.items
    (rw (c.take-limited.ensures.inner, c.take-limited.ensures.limit, c.new-bytes.ensures.items) at c.in-Ok.ensures.bytes)
