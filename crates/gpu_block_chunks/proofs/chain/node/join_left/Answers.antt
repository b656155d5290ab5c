use Rattle.std.proofs.Common.{◌≡◌, Some, ap, ◌∙◌}
use Rattle.std.proofs.lemmas.Option.{same_Some}
use Rattle.gpu_block_chunks.proofs.Joins.{join_apart}
use Rattle.gpu_block_chunks.proofs.Unlinks.{linked_has, joined_has, left_can, left_none, left_used, left_free, under_none, under_used, under_free}
use Rattle.gpu_block_chunks.specs.Nodes.{held_at, link_chunk_id}
use Rattle.gpu_block_chunks.proofs.chain.node.join_left.Goals as goal

pub ends_of-ends-requires : goal.ends_of-ends-requires
ends_of-ends-requires c = (c.requires.leads, linked_has (held_at c.args.nodes.now) c.args.at.chunk_id c.requires.linked)

pub link_in-requires : goal.link_in-requires
link_in-requires c = c.ends_of-ends.ensures.links.0

pub is_free_at-requires : goal.is_free_at-requires
is_free_at-requires c = rw c.in-Some.is at c.link_in.ensures.reaches

pub join_next-requires-clause-joins : goal.join_next-requires-clause-joins
join_next-requires-clause-joins c =
    left_can (held_at c.args.nodes.now) c.args.at.chunk_id (link_chunk_id c.link_in.result) (λ n h. c.link_in.ensures.chunk_id ∙ (c.ends_of-ends.ensures.ends n h).1) c.in-Some.left.chunk_id
    c.requires.linked (ap link_chunk_id c.in-Some.is)

pub join_next-requires-clause-leads : goal.join_next-requires-clause-leads
join_next-requires-clause-leads c = let reaches = rw c.in-Some.is at c.link_in.ensures.reaches in (reaches.0, c.requires.leads)

pub returns-then-is_free_at-clause-joins : goal.returns-then-is_free_at-clause-joins
returns-then-is_free_at-clause-joins c =
    left_free (held_at c.args.nodes.now) c.args.at.chunk_id (link_chunk_id c.link_in.result) (λ n h. c.link_in.ensures.chunk_id ∙ (c.ends_of-ends.ensures.ends n h).1) c.in-Some.left.chunk_id (ap link_chunk_id c.in-Some.is)
    c.is_free_at.result c.is_free_at.ensures.free (held_at c.join_next.new.nodes) c.if-is_free_at.true c.join_next.ensures.joins

pub returns-else-is_free_at-clause-joins : goal.returns-else-is_free_at-clause-joins
returns-else-is_free_at-clause-joins c =
    left_used (held_at c.args.nodes.now) c.args.at.chunk_id (link_chunk_id c.link_in.result) (λ n h. c.link_in.ensures.chunk_id ∙ (c.ends_of-ends.ensures.ends n h).1) c.in-Some.left.chunk_id (ap link_chunk_id c.in-Some.is)
    c.is_free_at.result c.is_free_at.ensures.free c.if-is_free_at.false

pub returns-in_default-clause-joins : goal.returns-in_default-clause-joins
returns-in_default-clause-joins c =
    left_none (held_at c.args.nodes.now) c.args.at.chunk_id (link_chunk_id c.link_in.result) (λ n h. c.link_in.ensures.chunk_id ∙ (c.ends_of-ends.ensures.ends n h).1) (ap link_chunk_id c.in_default.is)

pub returns-then-is_free_at-clause-chunk_id : goal.returns-then-is_free_at-clause-chunk_id
returns-then-is_free_at-clause-chunk_id c =
    under_free (held_at c.args.nodes.now) c.args.at.chunk_id (link_chunk_id c.link_in.result) (λ n h. c.link_in.ensures.chunk_id ∙ (c.ends_of-ends.ensures.ends n h).1) c.in-Some.left.chunk_id (ap link_chunk_id c.in-Some.is)
    c.is_free_at.result c.is_free_at.ensures.free c.if-is_free_at.true

pub returns-else-is_free_at-clause-chunk_id : goal.returns-else-is_free_at-clause-chunk_id
returns-else-is_free_at-clause-chunk_id c =
    under_used (held_at c.args.nodes.now) c.args.at.chunk_id (link_chunk_id c.link_in.result) (λ n h. c.link_in.ensures.chunk_id ∙ (c.ends_of-ends.ensures.ends n h).1) c.in-Some.left.chunk_id (ap link_chunk_id c.in-Some.is)
    c.is_free_at.result c.is_free_at.ensures.free c.if-is_free_at.false

pub returns-in_default-clause-chunk_id : goal.returns-in_default-clause-chunk_id
returns-in_default-clause-chunk_id c =
    under_none (held_at c.args.nodes.now) c.args.at.chunk_id (link_chunk_id c.link_in.result) (λ n h. c.link_in.ensures.chunk_id ∙ (c.ends_of-ends.ensures.ends n h).1) (ap link_chunk_id c.in_default.is)

pub returns-then-is_free_at-clause-reaches : goal.returns-then-is_free_at-clause-reaches
returns-then-is_free_at-clause-reaches c =
    let can = left_can (held_at c.args.nodes.now) c.args.at.chunk_id (link_chunk_id c.link_in.result) (λ n h. c.link_in.ensures.chunk_id ∙ (c.ends_of-ends.ensures.ends n h).1) c.in-Some.left.chunk_id
    c.requires.linked (ap link_chunk_id c.in-Some.is) in
    let reaches = rw c.in-Some.is at c.link_in.ensures.reaches in (
      c.join_next.ensures.kept (Some c.in-Some.left) reaches.0 (λ (e : Some c.in-Some.left.chunk_id ≡ Some c.args.at.chunk_id).
          join_apart (held_at c.args.nodes.now) c.in-Some.left.chunk_id c.args.at.chunk_id can (same_Some _ _ e)),
      joined_has (held_at c.args.nodes.now) (held_at c.join_next.new.nodes) c.in-Some.left.chunk_id c.args.at.chunk_id can c.join_next.ensures.joins,
    )

pub returns-else-is_free_at-clause-reaches : goal.returns-else-is_free_at-clause-reaches
returns-else-is_free_at-clause-reaches c = (c.requires.leads, linked_has (held_at c.args.nodes.now) c.args.at.chunk_id c.requires.linked)

pub returns-in_default-clause-reaches : goal.returns-in_default-clause-reaches
returns-in_default-clause-reaches c = (c.requires.leads, linked_has (held_at c.args.nodes.now) c.args.at.chunk_id c.requires.linked)
