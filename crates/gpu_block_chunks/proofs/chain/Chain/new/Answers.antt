use Rattle.std.proofs.Common.{None, ap, refl}
use Rattle.gpu_block_chunks.specs.Chain.{chunks_in}
use Rattle.gpu_block_chunks.proofs.Unlinks.{fresh_chain}
use Rattle.gpu_block_chunks.specs.Nodes.{held_at}
use Rattle.gpu_block_chunks.proofs.Slots.{value_of_new}
use Rattle.gpu_block_chunks.proofs.chain.Chain.new.Goals as goal

pub invariant_of-result : goal.invariant_of-result
invariant_of-result c =
    (fresh_chain (held_at c.in_ok-nodes.nodes) (held_at c.put.new.self) c.args.size _ c.in_ok-nodes.ensures.none (rw (value_of_new c.in_ok-nodes.nodes.ids c.new.result _ None None None None c.new.ensures.value c.new.ensures.links refl refl) at c.put.ensures.sets) c.requires refl refl refl).0

pub returns : goal.returns
returns c = (
  refl,
  rw (← c.empty.ensures) (
      ap chunks_in (fresh_chain (held_at c.in_ok-nodes.nodes) (held_at c.put.new.self) c.args.size _ c.in_ok-nodes.ensures.none
      (rw (value_of_new c.in_ok-nodes.nodes.ids c.new.result _ None None None None c.new.ensures.value c.new.ensures.links refl refl) at c.put.ensures.sets) c.requires refl refl refl).1),
)
