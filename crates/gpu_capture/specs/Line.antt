-- A line of a trace, and a name in it.
use Rattle.std.specs.Prelude.{ℕ, ◌&&◌, nat_lt, if◌then◌else◌, List, [], ◌∷◌, ◌++◌, take, map}

-- the words with a space between each two, and the line's end
abbrev pub line_of : List (List ℕ) → List ℕ
line_of [] = 10 ∷ []
line_of (w ∷ []) = w ++ 10 ∷ []
line_of (w ∷ v ∷ ws) = w ++ 32 ∷ line_of (v ∷ ws)

-- a byte as a name has it: `_` where it isn't printed
abbrev pub name_byte : ℕ → ℕ
name_byte b = if nat_lt 32 b && nat_lt b 127 then b else 95

-- a name as a trace has it: its first 64 bytes, and `_` for none
unfoldable pub name_word : List ℕ → List ℕ
name_word [] = 95 ∷ []
name_word (b ∷ bs) = map name_byte (take 64 (b ∷ bs))
