-- How questions are answered.
use Rattle.std.specs.Prelude.{◌≡◌, ℕ, ◌+◌, ℤ, pos, neg_ℤ, Bool, true, false, Option, Some, None, Result, Ok, Err}
use Rattle.gpu_device.specs.declared.metal.types.MTLHeap.{MTLHeap}
use Rattle.gpu_device.specs.declared.metal.types.MTLResidencySet.{MTLResidencySet}
use Rattle.gpu_device.specs.declared.refusal.Refusal.{Refusal}
use Rattle.gpu_device.specs.declared.refusal.Refusal.TheVariants.{Code, Null}

-- how many numbers are given out after an answer
abbrev pub asked : ℕ → Option ℕ → ℕ
asked count None = count
asked count (Some number) = count + 1

-- there are no residency sets, the host refused memory, or the answer is null
abbrev pub no_set : ℤ
no_set = neg_ℤ (pos 1)

-- the code with which a set is refused
abbrev pub code_for_set : Option Refusal → ℤ
code_for_set None = no_set
code_for_set (Some Null) = no_set
code_for_set (Some (Code code)) = code

-- the answer to a question for a heap: none where the script refuses it; else the next number, or none because the host refused memory
abbrev pub IsHeapAnswer : Option Refusal → ℕ → Option MTLHeap → Type 0
IsHeapAnswer (Some refusal) next answer = answer ≡ None
IsHeapAnswer None next None = Unit {0}
IsHeapAnswer None next (Some heap) = heap.0 ≡ next

-- the answer to a question for a set: the script's refusal where it has one, and always a refusal without residency sets;
-- else the next number, or the host's refusal
abbrev pub IsSetAnswer : Bool → Option Refusal → ℕ → Result MTLResidencySet ℤ → Type 0
IsSetAnswer residency refusal next (Err code) = code ≡ code_for_set refusal
IsSetAnswer residency (Some refusal) next (Ok set) = ⊥
IsSetAnswer false None next (Ok set) = ⊥
IsSetAnswer true None next (Ok set) = set.0 ≡ next
