-- What a caller says of a piece: its name, and a word of the caller's own.
use Rattle.std.specs.Prelude.{ℕ, List, []}
use Rattle.gpu_block_chunks.specs.declared.label.Label.{Label}

-- that of a gap
abbrev pub no_label : Label
no_label = record { name = []; word = 0 }

-- a name, and the word of which nothing was said: 0
abbrev pub plain_label : List ℕ → Label
plain_label name = record { name = name; word = 0 }

-- another name, or another word
abbrev pub with_name : List ℕ → Label → Label
with_name name l = record l { name = name }

abbrev pub with_word : ℕ → Label → Label
with_word word l = record l { word = word }
