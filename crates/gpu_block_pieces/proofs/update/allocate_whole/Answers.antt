use Rattle.gpu_block_pieces.proofs.Updates.{gap_has, gap_key, whole_listed, whole_live}
use Rattle.gpu_block_pieces.proofs.update.allocate_whole.Goals as goal

pub remove-requires : goal.remove-requires
remove-requires c = gap_key c.args.chain.now.chunks c.args.index.now.gaps c.args.found.gap c.requires.listed c.requires.gap

pub fill-requires : goal.fill-requires
fill-requires c = record { there = gap_has c.args.chain.now.chunks c.args.index.now.gaps c.args.found.gap c.requires.listed c.requires.gap }

pub returns-clause-listed : goal.returns-clause-listed
returns-clause-listed c =
    whole_listed c.args.chain.now.chunks c.args.index.now.gaps c.args.found.gap c.requires.listed c.requires.gap c.fill.new.self.chunks c.args.found.offset c.args.kind c.args.label
    c.laid_out.ensures.distinct c.requires.piece c.fill.ensures.chunks
    c.remove.new.self.gaps c.remove.ensures.ordered c.remove.ensures.gaps

pub returns-clause-live : goal.returns-clause-live
returns-clause-live c =
    whole_live c.args.chain.now.chunks c.args.index.now.gaps c.args.found.gap c.requires.listed c.requires.gap c.fill.new.self.chunks c.args.found.offset c.args.kind c.args.label
    c.laid_out.ensures.distinct c.requires.piece c.fill.ensures.chunks
