use Rattle.gpu_block_pieces.proofs.free_list.FreeListAllocator.report_allocations.Goals as goal

pub rows_of-requires-clause-laid_out : goal.rows_of-requires-clause-laid_out
rows_of-requires-clause-laid_out c = (0, c.args.self.now.block.size, c.walk.ensures.bounded, c.walk.ensures.covers)

pub rows_of-requires-clause-each : goal.rows_of-requires-clause-each
rows_of-requires-clause-each c = (c.args.self.now.block.counter, c.walk.ensures.each)
