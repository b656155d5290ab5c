-- Values of JSON.
use Rattle.std.specs.Prelude.{ℕ, List, [], ◌∷◌, map}
use Rattle.std.specs.Fmt.{decimal}
use Rattle.json.specs.Json.{Json, number, array, object, Members, no_members, member}
use Rattle.json.specs.Value.{items_of}

-- a whole number
abbrev pub number_of : ℕ → Json
number_of n = number (decimal n)

-- a list of the elements' values, in order
abbrev pub list_of : {X : Type 0} → (X → Json) → List X → Json
list_of value xs = array (items_of (map value xs))

-- an object with these names and values, in order
abbrev pub members_of : List (List ℕ × Json) → Members
members_of [] = no_members
members_of (m ∷ ms) = member m.0 m.1 (members_of ms)

abbrev pub object_of : List (List ℕ × Json) → Json
object_of ms = object (members_of ms)
