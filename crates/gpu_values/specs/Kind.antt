-- The kinds of pieces.
use Rattle.std.specs.Prelude.{ℕ, List, codes}
use Rattle.gpu_values.specs.declared.allocation_type.AllocationType.{AllocationType}
use Rattle.gpu_values.specs.declared.allocation_type.AllocationType.TheVariants.{Free, Linear, NonLinear}

abbrev pub kind_text : AllocationType → List ℕ
kind_text Free = codes "Free"
kind_text Linear = codes "Linear"
kind_text NonLinear = codes "Non-Linear"
