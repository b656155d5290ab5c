use Rattle.std.proofs.Common.{Some}
use Rattle.gpu_block_chunks.specs.Nodes.{held_at, node_value, link_chunk_id}
use Rattle.gpu_block_chunks.specs.Slots.{linked_of}
use Rattle.gpu_block_chunks.proofs.Joins.{join_has, join_fits, held_changed, held_changed_at, joins_last, joined_alone}
use Rattle.gpu_block_chunks.proofs.NextTo.{unlinked_none}
use Rattle.gpu_block_chunks.proofs.chain.node.join_next.Goals as goal

pub linked_at-gone-requires : goal.linked_at-gone-requires
linked_at-gone-requires c = (c.requires.leads.1, join_has (held_at c.args.nodes.now) c.args.left.chunk_id c.args.right.chunk_id c.requires.joins)

pub link_in-next-requires : goal.link_in-next-requires
link_in-next-requires c = c.linked_at-gone.ensures.links.1

pub lengthen-requires-clause-fits : goal.lengthen-requires-clause-fits
lengthen-requires-clause-fits c =
    join_fits (held_at c.args.nodes.now) c.args.left.chunk_id c.args.right.chunk_id (node_value c.args.nodes.now.ids (linked_of c.linked_at-gone.result)) c.requires.joins c.linked_at-gone.ensures.value

pub lengthen-requires-clause-leads : goal.lengthen-requires-clause-leads
lengthen-requires-clause-leads c = c.requires.leads.0

pub lengthen-requires-clause-next : goal.lengthen-requires-clause-next
lengthen-requires-clause-next c = c.link_in-next.ensures.reaches.0

pub set_prev_of-requires-clause-there : goal.set_prev_of-requires-clause-there
set_prev_of-requires-clause-there c = (
  rw c.lengthen.ensures.ids c.link_in-next.ensures.reaches.0,
  held_changed (held_at c.args.nodes.now) (held_at c.lengthen.new.nodes) c.args.left.chunk_id _ c.lengthen.ensures.changes (link_chunk_id c.link_in-next.result) c.link_in-next.ensures.reaches.1,
)

pub set_prev_of-requires-clause-prev : goal.set_prev_of-requires-clause-prev
set_prev_of-requires-clause-prev c = rw c.lengthen.ensures.ids c.requires.leads.0

pub remove-requires-clause-there : goal.remove-requires-clause-there
remove-requires-clause-there c = (
  rw (c.set_prev_of.ensures.ids, c.lengthen.ensures.ids) c.requires.leads.1,
  held_changed_at (held_at c.lengthen.new.nodes) (held_at c.set_prev_of.new.nodes) (link_chunk_id c.link_in-next.result) _ c.set_prev_of.ensures.changes (Some c.args.right.chunk_id)
      (held_changed (held_at c.args.nodes.now) (held_at c.lengthen.new.nodes) c.args.left.chunk_id _ c.lengthen.ensures.changes (Some c.args.right.chunk_id)
      (join_has (held_at c.args.nodes.now) c.args.left.chunk_id c.args.right.chunk_id c.requires.joins)),
)

pub remove-requires-clause-alone : goal.remove-requires-clause-alone
remove-requires-clause-alone c =
    joined_alone (held_at c.args.nodes.now) (held_at c.lengthen.new.nodes) (held_at c.set_prev_of.new.nodes) c.args.left.chunk_id c.args.right.chunk_id
    (node_value c.args.nodes.now.ids (linked_of c.linked_at-gone.result)) c.requires.joins c.linked_at-gone.ensures.value
    (rw c.link_in-next.ensures.chunk_id at c.lengthen.ensures.changes) (rw c.link_in-next.ensures.chunk_id at c.set_prev_of.ensures.changes)
    (λ g first size cs chain none. unlinked_none g first size cs chain c.args.right.chunk_id none)

pub returns-clause-joins : goal.returns-clause-joins
returns-clause-joins c =
    joins_last (held_at c.args.nodes.now) (held_at c.lengthen.new.nodes) (held_at c.set_prev_of.new.nodes) (held_at c.remove.new.self) c.args.left.chunk_id c.args.right.chunk_id
    (node_value c.args.nodes.now.ids (linked_of c.linked_at-gone.result)) c.linked_at-gone.ensures.value
    (rw c.link_in-next.ensures.chunk_id at c.lengthen.ensures.changes) (rw c.link_in-next.ensures.chunk_id at c.set_prev_of.ensures.changes) c.remove.ensures.sets

pub returns-clause-kept : goal.returns-clause-kept
returns-clause-kept c = λ link leads ne. c.remove.ensures.kept link (rw (c.set_prev_of.ensures.ids, c.lengthen.ensures.ids) leads) ne
