-- How a text's bytes are written inside a string of JSON, and as XML.
use Rattle.std.specs.Prelude.{ℕ, ◌/◌, ◌%◌, ◌==◌, ◌||◌, List, [], ◌∷◌, ◌++◌, nat_lt, if◌then◌else◌, true, false, codes, encode_utf8}
use Rattle.std.specs.List.{flat_map}
use Rattle.std.specs.Fmt.{digits}
use Rattle.std.specs.Str.{chars}
use Rattle.gpu_report.specs.declared.escape.Escaping.{Escaping}
use Rattle.gpu_report.specs.declared.escape.Escaping.TheVariants.{Json, Xml}

-- the letter behind the backslash of a byte that has a short escape in JSON, and 0 of any other
abbrev pub json_letter : ℕ → ℕ
json_letter b =
    if b == 34 || b == 92 then b else
    if b == 8 then 98 else
    if b == 12 then 102 else
    if b == 10 then 110 else
    if b == 13 then 114 else
    if b == 9 then 116 else 0

-- what stands for a byte between the quotes of JSON: a backslash and a letter, or `\u00` and two digits, or the byte
unfoldable pub json_byte : ℕ → List ℕ
json_byte b =
    if nat_lt 0 (json_letter b) then 92 ∷ json_letter b ∷ [] else
    if nat_lt b 32 then codes "\\u00" ++ (digits 16 false (b / 16) ++ digits 16 false (b % 16)) else
    b ∷ []

-- what stands for a character in XML: an entity, a question mark where XML has no such character, or the character
unfoldable pub xml_char : ℕ → List ℕ
xml_char c =
    if c == 38 then codes "&amp;" else
    if c == 60 then codes "&lt;" else
    if c == 62 then codes "&gt;" else
    if c == 34 then codes "&quot;" else
    if nat_lt c 32 || c == 0xfffe || c == 0xffff then codes "?" else
    encode_utf8 c

-- the whole text
abbrev pub escaped : Escaping → List ℕ → List ℕ
escaped Json text = flat_map json_byte text
escaped Xml text = flat_map xml_char (chars text)

-- what stands for a character
abbrev pub escaped_char : Escaping → ℕ → List ℕ
escaped_char Json c = escaped Json (encode_utf8 c)
escaped_char Xml c = xml_char c

-- a string of JSON
unfoldable pub quoted : List ℕ → List ℕ
quoted text = 34 ∷ (escaped Json text ++ 34 ∷ [])
