use Rattle.gpu_block.specs.SubAllocator.{block_of}
use Rattle.gpu_core.specs.TypeTake.{asked}
use Rattle.gpu_core.proofs.EmptyBlocks.{takes_holds}
use Rattle.gpu_core.proofs.Needs.{fresh_error, fresh_begins, fresh_pages}
use Rattle.gpu_core.proofs.need.make_pending.Goals as goal

pub returns-in_ok-new-in-Ok-clause-begins : goal.returns-in_ok-new-in-Ok-clause-begins
returns-in_ok-new-in-Ok-clause-begins c =
    fresh_begins c.args.is_dedicated c.args.size c.args.granularity (asked c.args.request.now) c.in-Ok.offset c.in-Ok.chunk_id.value (block_of c.allocate.new.self) c.requires.sized c.requires.fits
    (rw c.in_ok-sub.ensures.fresh at c.in-Ok.ensures.took)

pub returns-in_ok-new-in-Ok-clause-holds : goal.returns-in_ok-new-in-Ok-clause-holds
returns-in_ok-new-in-Ok-clause-holds c =
    rw c.in_ok-new-in-Ok.ensures.ok (takes_holds (block_of c.in_ok-sub.sub) (asked c.args.request.now) c.in-Ok.offset c.in-Ok.chunk_id.value (block_of c.allocate.new.self) c.in-Ok.ensures.took)

pub returns-in-Err-clause-cause : goal.returns-in-Err-clause-cause
returns-in-Err-clause-cause c =
    fresh_error c.args.is_dedicated c.args.size c.args.granularity (asked c.args.request.now) c.in-Err.error c.requires.exact c.requires.fits c.requires.sized
    (rw c.in_ok-sub.ensures.fresh at c.in-Err.ensures.cause)

pub returns-in_ok-new-in-Ok-clause-pages : goal.returns-in_ok-new-in-Ok-clause-pages
returns-in_ok-new-in-Ok-clause-pages c =
    rw c.in_ok-new-in-Ok.ensures.ok (c.allocate.ensures.pages c.args.granularity (rw c.in_ok-sub.ensures.fresh (fresh_pages c.args.is_dedicated c.args.size c.args.granularity)))
