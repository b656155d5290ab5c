use Rattle.std.proofs.Common.{ℕ, Some, ap, refl, subst, arith, rules}
use Rattle.gpu_block_chunks.specs.Chain.{Linked, ReleasesPiece, HasNoPiece, chunks_in, walk}
use Rattle.gpu_block_chunks.specs.ChunkList.{IsFree}
use Rattle.gpu_block_chunks.specs.Nodes.{held_at}
use Rattle.gpu_block_chunks.proofs.Listing.{none_free, free_alone, right_linked, left_linked, chain_left, piece_released}
use Rattle.gpu_block_chunks.proofs.chain.Chain.release_piece.Goals as goal

pub returns-in_err-at-clause-released : goal.returns-in_err-at-clause-released
returns-in_err-at-clause-released c =
    rw c.from_residual.ensures (
      none_free (held_at c.self.inside.nodes) c.self.inside.first c.self.inside.size _ c.args.self.now.chunks c.self.invariant (ap (λ (v : Linked). v.chunks) c.self.view_is)
          c.args.chunk_id c.in_err-at.ensures.found,
      refl,
    )

pub returns-then-is_free-clause-released : goal.returns-then-is_free-clause-released
returns-then-is_free-clause-released c = (
  subst (λ (k : ℕ). HasNoPiece c.args.self.now.chunks k) c.in_ok-at.ensures.found.0
      (free_alone (held_at c.self.inside.nodes) c.self.inside.first c.self.inside.size _ c.args.self.now.chunks c.self.invariant (ap (λ (v : Linked). v.chunks) c.self.view_is)
      c.in_ok-at.at.chunk_id c.around_at-was.result c.around_at-was.ensures.value (c.is_free.ensures.0 c.if-is_free.true)),
  refl,
)

pub join_right-requires-clause-linked : goal.join_right-requires-clause-linked
join_right-requires-clause-linked c =
    right_linked (held_at c.self.inside.nodes) c.self.inside.first c.self.inside.size _ c.args.self.now.chunks c.self.invariant (ap (λ (v : Linked). v.chunks) c.self.view_is)
    c.in_ok-at.at.chunk_id c.around_at-was.result c.around_at-was.ensures.value (held_at c.set_use.new.nodes) (rw c.empty.ensures at c.set_use.ensures.changes) (omega arith)

pub join_left-joined-requires-clause-linked : goal.join_left-joined-requires-clause-linked
join_left-joined-requires-clause-linked c =
    left_linked (held_at c.self.inside.nodes) c.self.inside.first c.self.inside.size _ c.args.self.now.chunks c.self.invariant (ap (λ (v : Linked). v.chunks) c.self.view_is)
    c.in_ok-at.at.chunk_id c.around_at-was.result c.around_at-was.ensures.value (held_at c.set_use.new.nodes) (rw c.empty.ensures at c.set_use.ensures.changes)
    (held_at c.join_right.new.nodes) c.join_right.ensures.joins (omega arith)

pub invariant_of-self : goal.invariant_of-self
invariant_of-self c =
    chain_left (held_at c.self.inside.nodes) c.self.inside.first c.self.inside.size _ c.args.self.now.chunks c.self.invariant (ap (λ (v : Linked). v.chunks) c.self.view_is)
    c.in_ok-at.at.chunk_id c.around_at-was.result c.around_at-was.ensures.value (held_at c.set_use.new.nodes) (rw c.empty.ensures at c.set_use.ensures.changes)
    (held_at c.join_right.new.nodes) c.join_right.ensures.joins (held_at c.join_left-joined.new.nodes) c.join_left-joined.ensures.joins

pub returns-clause-released : goal.returns-clause-released
returns-clause-released c =
    subst (λ (k : ℕ). ReleasesPiece c.args.self.now.chunks k
    (chunks_in (walk c.self.inside.size (held_at c.join_left-joined.new.nodes) (Some c.self.inside.first))) c.around_at-was.result c.around_at.result) c.in_ok-at.ensures.found.0
    (piece_released (held_at c.self.inside.nodes) c.self.inside.first c.self.inside.size (walk c.self.inside.size (held_at c.self.inside.nodes) (Some c.self.inside.first))
    c.args.self.now.chunks c.self.invariant (ap (λ (v : Linked). v.chunks) c.self.view_is)
    c.in_ok-at.at.chunk_id c.around_at-was.result c.around_at-was.ensures.value (held_at c.set_use.new.nodes) (rw c.empty.ensures at c.set_use.ensures.changes)
    (held_at c.join_right.new.nodes) c.join_right.ensures.joins (held_at c.join_left-joined.new.nodes) c.join_left-joined.ensures.joins
    (λ (free : IsFree c.around_at-was.result.here.kind). let t = c.is_free.ensures.1 free in absurd (search (rules, t))) c.join_left-joined.result.chunk_id c.join_left-joined.ensures.chunk_id c.around_at.result c.around_at.ensures.value)
