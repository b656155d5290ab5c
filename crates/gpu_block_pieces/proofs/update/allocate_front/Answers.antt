use Rattle.std.proofs.Common.{arith}
use Rattle.gpu_block_pieces.proofs.Indexing.{placed_gap}
use Rattle.gpu_block_pieces.proofs.Updates.{gap_longer, gap_key, front_no_key, front_listed, front_live}
use Rattle.gpu_block_pieces.proofs.update.allocate_front.Goals as goal

pub split_front-requires-clause-longer : goal.split_front-requires-clause-longer
split_front-requires-clause-longer c =
    gap_longer c.args.chain.now.chunks c.args.index.now.gaps c.args.found.gap c.requires.listed c.requires.gap c.args.taken c.requires.shorter

pub replace-requires-clause-there : goal.replace-requires-clause-there
replace-requires-clause-there c = gap_key c.args.chain.now.chunks c.args.index.now.gaps c.args.found.gap c.requires.listed c.requires.gap

pub overflow_add-rest : goal.overflow_add-rest
overflow_add-rest c =
    let p = placed_gap c.args.chain.now.chunks c.args.chain.now.size c.args.found.gap c.laid_out.ensures.covers c.laid_out.ensures.bounded c.requires.gap in
    let e = p.ends in
    let s = c.requires.shorter in
    omega arith

pub replace-requires-clause-fresh : goal.replace-requires-clause-fresh
replace-requires-clause-fresh c = λ rest gone.
    front_no_key c.args.chain.now.chunks c.args.index.now.gaps c.args.found.gap c.requires.listed c.requires.gap c.split_front.new.self.chunks c.args.taken c.args.chunk_id c.args.found.offset
    c.args.kind c.args.label c.laid_out.ensures.distinct c.requires.piece c.split_front.ensures.chunks
    rest c.args.chain.now.size c.laid_out.ensures.covers c.requires.some c.requires.shorter c.in_order.ensures gone

pub returns-clause-listed : goal.returns-clause-listed
returns-clause-listed c =
    let r = c.replace.ensures.gaps in
    front_listed c.args.chain.now.chunks c.args.index.now.gaps c.args.found.gap c.requires.listed c.requires.gap c.split_front.new.self.chunks c.args.taken c.args.chunk_id c.args.found.offset
    c.args.kind c.args.label c.laid_out.ensures.distinct c.requires.piece c.split_front.ensures.chunks
    r.rest c.replace.new.self.gaps c.in_order.ensures r.gone r.put

pub returns-clause-live : goal.returns-clause-live
returns-clause-live c =
    front_live c.args.chain.now.chunks c.args.index.now.gaps c.args.found.gap c.requires.listed c.requires.gap c.split_front.new.self.chunks c.args.taken c.args.chunk_id c.args.found.offset c.args.kind
    c.args.label c.laid_out.ensures.distinct c.requires.piece c.split_front.ensures.chunks
