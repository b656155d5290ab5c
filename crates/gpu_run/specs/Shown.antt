-- What is shown of a piece in a heap.
use Rattle.std.specs.Prelude.{ℕ}
use Rattle.std.specs.Int.NonZero.{non_zero_u64_get}
use Rattle.gpu_core.specs.declared.piece.Piece.{Piece}
use Rattle.gpu_run.specs.declared.allocated.Allocated.{Allocated}

pub record Shown (H : Type 0) : Type 0 where
  pub memory_type : ℕ
  pub slot : ℕ
  pub offset : ℕ
  pub size : ℕ
  pub chunk : ℕ
  pub heap : H

-- what is shown of a piece of the t-th memory type
abbrev pub shown : {H : Type 0} → (t : ℕ) → Piece H → Shown H
shown t p = record { memory_type = t; slot = p.slot; offset = p.offset; size = p.size; chunk = non_zero_u64_get p.chunk_id; heap = p.handle }

-- what a reply tells of a piece
abbrev pub shown_of : {H : Type 0} → Allocated H → Shown H
shown_of g = record { memory_type = g.memory_type; slot = g.slot; offset = g.offset; size = g.size; chunk = non_zero_u64_get g.chunk; heap = g.heap }
