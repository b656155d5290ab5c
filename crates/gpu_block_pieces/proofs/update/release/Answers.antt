use Rattle.std.proofs.Common.{◌≡◌, sym, subst}
use Rattle.gpu_block_gaps.specs.declared.index.Gap.{Gap}
use Rattle.gpu_block_gaps.specs.Index.{HasNoKey}
use Rattle.gpu_block_pieces.proofs.Merges.{forgets_ordered, may_before, may_after, entry, entry_is, no_entry, room_left, release_listed, release_live}
use Rattle.gpu_block_pieces.proofs.update.release.Goals as goal
use Rattle.gpu_block_pieces.proofs.update.release.Goals.{After-kind_of-2}

-- the entry that goes in
abbrev the_gap : (c : After-kind_of-2) → Gap
the_gap c = record {
  length = c.in_ok-around.joined.here.size;
  start = c.in_ok-around.joined.here.start;
  chunk_id = c.in_ok-around.joined.here.chunk_id;
  before = c.kind_of.result;
  after = c.kind_of-2.result;
}

the_entry : (c : After-kind_of-2) → the_gap c ≡ entry c.args.chain.now.chunks c.release_piece.new.self.chunks c.args.index.now.gaps c.args.chunk_id c.in_ok-around.around c.in_ok-around.joined c.requires.listed
    c.in_ok-around.ensures.released c.laid_out.ensures.distinct
the_entry c =
    entry_is c.args.chain.now.chunks c.release_piece.new.self.chunks c.args.index.now.gaps c.args.chunk_id c.in_ok-around.around c.in_ok-around.joined c.requires.listed
    c.in_ok-around.ensures.released c.laid_out.ensures.distinct
    c.kind_of.result c.kind_of-2.result c.laid_out-2.ensures.distinct c.kind_of.ensures c.kind_of-2.ensures

pub put_joined-requires-clause-before : goal.put_joined-requires-clause-before
put_joined-requires-clause-before c =
    may_before c.args.chain.now.chunks c.release_piece.new.self.chunks c.args.index.now.gaps c.args.chunk_id c.in_ok-around.around c.in_ok-around.joined c.requires.listed
    c.in_ok-around.ensures.released c.laid_out.ensures.distinct

pub put_joined-requires-clause-after : goal.put_joined-requires-clause-after
put_joined-requires-clause-after c = λ one first.
    may_after c.args.chain.now.chunks c.release_piece.new.self.chunks c.args.index.now.gaps c.args.chunk_id c.in_ok-around.around c.in_ok-around.joined c.requires.listed
    c.in_ok-around.ensures.released c.laid_out.ensures.distinct
    one one c.in_order.ensures first

pub put_joined-requires-clause-fresh : goal.put_joined-requires-clause-fresh
put_joined-requires-clause-fresh c = λ one two first second.
    let n = no_entry c.args.chain.now.chunks c.release_piece.new.self.chunks c.args.index.now.gaps c.args.chunk_id c.in_ok-around.around c.in_ok-around.joined c.requires.listed
    c.in_ok-around.ensures.released c.laid_out.ensures.distinct
    one two c.in_order.ensures first (forgets_ordered c.in_ok-around.around.before c.args.index.now.gaps one c.in_order.ensures first) second c.release_piece.new.self.size c.laid_out-2.ensures.covers in
    subst (λ (g : Gap). HasNoKey two g.length g.start) (sym (the_entry ((goal.at.put_joined-requires-clause-fresh c).After-kind_of-2))) n

pub put_joined-requires-clause-room : goal.put_joined-requires-clause-room
put_joined-requires-clause-room c = λ one two first second.
    room_left c.args.chain.now.chunks c.release_piece.new.self.chunks c.args.index.now.gaps c.args.chunk_id c.in_ok-around.around c.in_ok-around.joined c.requires.listed
    c.in_ok-around.ensures.released c.laid_out.ensures.distinct
    one two c.in_order.ensures first (forgets_ordered c.in_ok-around.around.before c.args.index.now.gaps one c.in_order.ensures first) second c.args.index.now.room c.requires.room

pub returns-clause-listed : goal.returns-clause-listed
returns-clause-listed c =
    let j = c.put_joined.ensures.gaps in
    release_listed c.args.chain.now.chunks c.release_piece.new.self.chunks c.args.index.now.gaps c.args.chunk_id c.in_ok-around.around c.in_ok-around.joined c.requires.listed
    c.in_ok-around.ensures.released c.laid_out.ensures.distinct
    j.one j.two c.in_order.ensures j.first (forgets_ordered c.in_ok-around.around.before c.args.index.now.gaps j.one c.in_order.ensures j.first) j.second
    c.put_joined.new.index.gaps _ (the_entry ((goal.at.returns-clause-listed c).After-kind_of-2)) j.put

pub returns-clause-live : goal.returns-clause-live
returns-clause-live c =
    let j = c.put_joined.ensures.gaps in
    release_live c.args.chain.now.chunks c.release_piece.new.self.chunks c.args.index.now.gaps c.args.chunk_id c.in_ok-around.around c.in_ok-around.joined c.requires.listed
    c.in_ok-around.ensures.released c.laid_out.ensures.distinct
    j.one j.two c.in_order.ensures j.first (forgets_ordered c.in_ok-around.around.before c.args.index.now.gaps j.one c.in_order.ensures j.first) j.second
