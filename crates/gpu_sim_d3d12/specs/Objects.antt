-- What a simulated device holds, and the answers to questions for it.
use Rattle.std.specs.Prelude.{ℕ, ◌+◌, ℤ, pos, neg_ℤ, ◌≡◌, Bool, true, false, length, Option, Some, None, Result, Ok, Err}
use Rattle.gpu_device.specs.D3D12.{Entry, Held}
use Rattle.gpu_device.specs.D3D12 as device
use Rattle.gpu_sim_base.specs.Numbers.{held_in}
use Rattle.gpu_device.specs.declared.refusal.Refusal.{Refusal}
use Rattle.gpu_device.specs.declared.refusal.Refusal.TheVariants.{Code, Null}
use Rattle.gpu_sim_d3d12.specs.declared.objects.Object.{Object}
use Rattle.gpu_sim_d3d12.specs.declared.objects.Object.TheVariants.{Heap, Committed, Placed}
use Rattle.gpu_sim_d3d12.specs.declared.objects.Objects.{Objects}

-- an object, in the words of the trait's contracts
abbrev pub entry_of : Object → Entry
entry_of (Heap desc) = device.Heap desc
entry_of (Committed size) = device.Committed size
entry_of (Placed heap offset size) = device.Placed heap.0 offset size

-- the number is a heap's
abbrev pub is_heap : Option Object → Bool
is_heap (Some (Heap desc)) = true
is_heap (Some (Committed size)) = false
is_heap (Some (Placed heap offset size)) = false
is_heap None = false

abbrev pub held_in_objects : Objects → Held
held_in_objects objects = held_in entry_of objects.numbers.slots.items

-- how many numbers were given out
abbrev pub issued : Objects → ℕ
issued objects = length objects.numbers.slots.items

-- how many numbers are given out after an answer
abbrev pub asked : ℕ → Option ℕ → ℕ
asked count None = count
asked count (Some number) = count + 1

-- the number that an answer grants
abbrev pub granted : Result (Option ℕ) ℤ → Option ℕ
granted (Ok answer) = answer
granted (Err code) = None

-- `E_OUTOFMEMORY` (0x8007000e)
abbrev pub out_of_memory : ℤ
out_of_memory = neg_ℤ (pos 2147024882)

-- the answer to a question: the script's refusal where it has one; else the next number, or the host's refusal
abbrev pub IsAnswer : {A : Type 0} → (A → ℕ) → Option Refusal → ℕ → Result (Option A) ℤ → Type 0
IsAnswer number (Some (Code code)) next answer = answer ≡ Err code
IsAnswer number (Some Null) next answer = answer ≡ Ok None
IsAnswer number None next (Ok (Some a)) = number a ≡ next
IsAnswer number None next (Ok None) = ⊥
IsAnswer number None next (Err code) = code ≡ out_of_memory
