use Rattle.std.proofs.Common.{◌≡◌, Some, ap, ◌∙◌}
use Rattle.std.proofs.lemmas.Option.{same_Some}
use Rattle.gpu_block_chunks.proofs.Joins.{join_apart}
use Rattle.gpu_block_chunks.proofs.Unlinks.{linked_has, right_can, right_none, right_used, right_free}
use Rattle.gpu_block_chunks.specs.Nodes.{held_at, link_chunk_id}
use Rattle.gpu_block_chunks.proofs.chain.node.join_right.Goals as goal

pub ends_of-ends-requires : goal.ends_of-ends-requires
ends_of-ends-requires c = (c.requires.leads, linked_has (held_at c.args.nodes.now) c.args.at.chunk_id c.requires.linked)

pub link_in-requires : goal.link_in-requires
link_in-requires c = c.ends_of-ends.ensures.links.1

pub is_free_at-requires : goal.is_free_at-requires
is_free_at-requires c = rw c.in-Some.is at c.link_in.ensures.reaches

pub join_next-requires-clause-joins : goal.join_next-requires-clause-joins
join_next-requires-clause-joins c =
    right_can (held_at c.args.nodes.now) c.args.at.chunk_id (link_chunk_id c.link_in.result) (λ n h. c.link_in.ensures.chunk_id ∙ (c.ends_of-ends.ensures.ends n h).2) c.in-Some.right.chunk_id
    c.requires.linked (ap link_chunk_id c.in-Some.is)

pub join_next-requires-clause-leads : goal.join_next-requires-clause-leads
join_next-requires-clause-leads c = let reaches = rw c.in-Some.is at c.link_in.ensures.reaches in (c.requires.leads, reaches.0)

pub returns-then-is_free_at-clause-joins : goal.returns-then-is_free_at-clause-joins
returns-then-is_free_at-clause-joins c =
    right_free (held_at c.args.nodes.now) c.args.at.chunk_id (link_chunk_id c.link_in.result) (λ n h. c.link_in.ensures.chunk_id ∙ (c.ends_of-ends.ensures.ends n h).2) c.in-Some.right.chunk_id (ap link_chunk_id c.in-Some.is)
    c.is_free_at.result c.is_free_at.ensures.free (held_at c.join_next.new.nodes) c.if-is_free_at.true c.join_next.ensures.joins

pub returns-else-is_free_at-clause-joins : goal.returns-else-is_free_at-clause-joins
returns-else-is_free_at-clause-joins c =
    right_used (held_at c.args.nodes.now) c.args.at.chunk_id (link_chunk_id c.link_in.result) (λ n h. c.link_in.ensures.chunk_id ∙ (c.ends_of-ends.ensures.ends n h).2) c.in-Some.right.chunk_id (ap link_chunk_id c.in-Some.is)
    c.is_free_at.result c.is_free_at.ensures.free c.if-is_free_at.false

pub returns-in_default-clause-joins : goal.returns-in_default-clause-joins
returns-in_default-clause-joins c =
    right_none (held_at c.args.nodes.now) c.args.at.chunk_id (link_chunk_id c.link_in.result) (λ n h. c.link_in.ensures.chunk_id ∙ (c.ends_of-ends.ensures.ends n h).2) (ap link_chunk_id c.in_default.is)

pub returns-then-is_free_at-clause-kept : goal.returns-then-is_free_at-clause-kept
returns-then-is_free_at-clause-kept c =
    c.join_next.ensures.kept (Some c.args.at) c.requires.leads (λ (e : Some c.args.at.chunk_id ≡ Some c.in-Some.right.chunk_id).
    join_apart (held_at c.args.nodes.now) c.args.at.chunk_id c.in-Some.right.chunk_id
    (right_can (held_at c.args.nodes.now) c.args.at.chunk_id (link_chunk_id c.link_in.result) (λ n h. c.link_in.ensures.chunk_id ∙ (c.ends_of-ends.ensures.ends n h).2) c.in-Some.right.chunk_id
    c.requires.linked (ap link_chunk_id c.in-Some.is))
    (same_Some _ _ e))
