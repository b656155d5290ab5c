-- What errors print.
use Rattle.std.specs.Prelude.{ℕ, List, codes}
use Rattle.gpu_plan.specs.declared.error.PlanError.{PlanError}
use Rattle.gpu_plan.specs.declared.error.PlanError.TheVariants.{HostOutOfMemory, TooLarge}

-- the text of an error
abbrev pub error_text : PlanError → List ℕ
error_text HostOutOfMemory = codes "Out of host memory"
error_text TooLarge = codes "The heap would pass 64 bits"
