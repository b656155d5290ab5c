-- What is asked of a block.
use Rattle.std.specs.Prelude.{ℕ, List}
use Rattle.gpu_values.specs.declared.allocation_type.AllocationType.{AllocationType}

-- size and alignment in bytes; the name as its bytes
pub record Request : Type 0 where
  pub size : ℕ
  pub alignment : ℕ
  pub kind : AllocationType
  pub name : List ℕ

abbrev pub request : ℕ → ℕ → AllocationType → List ℕ → Request
request size alignment kind name = record { size = size; alignment = alignment; kind = kind; name = name }
