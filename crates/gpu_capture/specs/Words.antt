-- Words that lines of each sort of traces are made of: decimal numbers have no leading zeros.
use Rattle.std.specs.Prelude.{ℕ, List, [], ◌∷◌, Option, Some, None, codes}
use Rattle.std.specs.Fmt.{decimal, signed_decimal}
use Rattle.gpu_values.specs.declared.memory_location.MemoryLocation.{MemoryLocation}
use Rattle.gpu_values.specs.declared.memory_location.MemoryLocation.TheVariants.{Unknown, GpuOnly, CpuToGpu, GpuToCpu}
use Rattle.gpu_device.specs.declared.refusal.Refusal.{Refusal}
use Rattle.gpu_device.specs.declared.refusal.Refusal.TheVariants.{Code, Null}

abbrev pub location_word : MemoryLocation → List ℕ
location_word Unknown = codes "Unknown"
location_word GpuOnly = codes "GpuOnly"
location_word CpuToGpu = codes "CpuToGpu"
location_word GpuToCpu = codes "GpuToCpu"

abbrev pub refusal_word : Refusal → List ℕ
refusal_word (Code code) = signed_decimal code
refusal_word Null = codes "null"

abbrev pub budget_word : Option ℕ → List ℕ
budget_word None = codes "none"
budget_word (Some bytes) = decimal bytes

-- block sizes of memory that the host can't see and that it can: where they begin, and up to where they double
abbrev pub sizes_words : (device host max_device max_host : ℕ) → List (List ℕ)
sizes_words device host max_device max_host = codes "sizes" ∷ decimal device ∷ decimal host ∷ decimal max_device ∷ decimal max_host ∷ []

-- the device refuses its question of that number
abbrev pub refuse_words : ℕ → Refusal → List (List ℕ)
refuse_words question refusal = codes "refuse" ∷ decimal question ∷ refusal_word refusal ∷ []

abbrev pub free_words : ℕ → List (List ℕ)
free_words number = codes "free" ∷ decimal number ∷ []

abbrev pub rename_words : ℕ → (name : List ℕ) → List (List ℕ)
rename_words number name = codes "rename" ∷ decimal number ∷ name ∷ []

abbrev pub budget_words : (memory_type : ℕ) → Option ℕ → List (List ℕ)
budget_words memory_type budget = codes "budget" ∷ decimal memory_type ∷ budget_word budget ∷ []

-- an allocation under a number, and a second place of one: what is asked for behind that
abbrev pub alloc_words : (number : ℕ) → (request : List (List ℕ)) → List (List ℕ)
alloc_words number request = codes "alloc" ∷ decimal number ∷ request

abbrev pub move_words : (from to : ℕ) → (request : List (List ℕ)) → List (List ℕ)
move_words from to request = codes "move" ∷ decimal from ∷ decimal to ∷ request
