-- An allocation is live as its piece is, and as distinct.
use Rattle.std.proofs.Common.{◌≡◌, ◌∙◌, sym, ap, subst, ℕ, ◌<◌, ◌%◌, Bool}
use Rattle.std.specs.Int.NonZero.{non_zero_u64_get}
use Rattle.gpu_core.specs.declared.piece.Piece.{Piece}
use Rattle.gpu_core.specs.Blocks.{Slots}
use Rattle.gpu_pool.specs.Allocation.{piece_of, IsAllocated, IsNewlyLive, IsSecondPlace}
use Rattle.gpu_pool.specs.Live as live
use Rattle.gpu_pool.specs.declared.allocation.Allocation.{Allocation}

pub given_live : {H : Type 0} (eq : H → H → Bool) (old new : Slots H) (t : _) (name : _) (p : Piece H) (a : Allocation H) → IsAllocated t name p a → live.IsNewlyLive eq old new t p → IsNewlyLive eq old new a
given_live {H} eq old new t name p a is h = (
  subst (λ u. live.IsLive eq new u (piece_of a)) (sym is.memory_type) (subst (λ (q : Piece H). live.IsLive eq new t q) (sym is.piece) h.0),
  λ b was types slots numbers.
      h.1 b.memory_type_index (piece_of b) was (types ∙ is.memory_type) (slots ∙ ap (λ (q : Piece H). q.slot) is.piece)
      (numbers ∙ ap (λ (q : Piece H). non_zero_u64_get q.chunk_id) is.piece),
)

-- the allocation of a second place
pub second_place : {H : Type 0} (eq : H → H → Bool) (alignment : ℕ) (old new : Slots H) (from to : Allocation H) (name : _) (q : Piece H) → IsAllocated from.memory_type_index name q to
    → live.IsNewlyLive eq old new from.memory_type_index q → q.offset % alignment ≡ 0 → q.size ≡ from.size → from.memory_block_index < q.slot → IsSecondPlace eq alignment old from to new
second_place {H} eq alignment old new from to name q is live aligned size ahead = record {
  live = given_live eq old new from.memory_type_index name q to is live;
  memory_type = is.memory_type;
  size = ap (λ (p : Piece H). p.size) is.piece ∙ size;
  aligned = ap (λ (p : Piece H). p.offset % alignment) is.piece ∙ aligned;
  ahead = subst (λ n. from.memory_block_index < n) (sym (ap (λ (p : Piece H). p.slot) is.piece)) ahead;
}
