-- The words of a Metal trace.
use Rattle.std.specs.Prelude.{ℕ, List, [], ◌∷◌, Bool, true, false, codes}
use Rattle.std.specs.Fmt.{decimal}
use Rattle.gpu_values.specs.declared.memory_location.MemoryLocation.{MemoryLocation}
use Rattle.gpu_capture.specs.Words.{location_word}

abbrev pub metal_words : (size alignment : ℕ) → MemoryLocation → (name : List ℕ) → List (List ℕ)
metal_words size alignment location name = decimal size ∷ decimal alignment ∷ location_word location ∷ name ∷ []

abbrev pub yes_word : Bool → List ℕ
yes_word true = codes "yes"
yes_word false = codes "no"

abbrev pub residency_words : (has_set : Bool) → List (List ℕ)
residency_words has_set = codes "residency" ∷ yes_word has_set ∷ []
