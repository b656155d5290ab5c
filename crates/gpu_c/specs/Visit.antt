-- What a visit shows of a block's pieces.
use Rattle.std.specs.Prelude.{◌≡◌, ℕ, true, false, List, Option, Some, None, nat_le, [], ◌++◌, length, map, min, take, drop}
use Rattle.std.specs.List.{find, filter, concat}
use Rattle.gpu_values.specs.declared.allocation_type.AllocationType.{AllocationType}
use Rattle.gpu_values.specs.declared.allocation_type.AllocationType.TheVariants.{Free, Linear, NonLinear}
use Rattle.gpu_block_pieces.specs.FreeList.{Extent}
use Rattle.gpu_c.specs.Request.{linear, non_linear}
use Rattle.gpu_c.specs.declared.virtual_block_values.PieceView.{PieceView}

-- the number of a kind
abbrev pub kind_number : AllocationType → ℕ
kind_number Free = 0
kind_number Linear = linear
kind_number NonLinear = non_linear

-- a piece as C sees it, or none
abbrev pub piece_view : Option Extent → PieceView
piece_view None = record { exists = false; number = 0; start = 0; offset = 0; end = 0; kind = 0; word = 0 }
piece_view (Some x) = record { exists = true; number = x.chunk_id; start = x.start; offset = x.offset; end = x.end; kind = kind_number x.kind; word = x.word }

-- the first of the pieces whose own bytes begin at that place or behind it
abbrev pub piece_from : ℕ → List Extent → Option Extent
piece_from from xs = find (λ x. nat_le from x.offset) xs

-- the same in a block that may not be there
abbrev pub piece_in_from : ℕ → Option (List Extent) → Option Extent
piece_in_from from None = None
piece_in_from from (Some xs) = piece_from from xs

-- the pieces whose own bytes begin at that place or behind it, in order of offset
abbrev pub pieces_from : ℕ → List Extent → List Extent
pieces_from from xs = filter (λ x. nat_le from x.offset) xs

-- the same in a block that may not be there
abbrev pub pieces_in_from : ℕ → Option (List Extent) → List Extent
pieces_in_from from None = []
pieces_in_from from (Some xs) = pieces_from from xs

-- the pieces as C sees them
abbrev pub piece_views : List Extent → List PieceView
piece_views xs = map (λ x. piece_view (Some x)) xs

-- the name of a piece that may not be there
abbrev pub name_of : Option Extent → List ℕ
name_of None = []
name_of (Some x) = x.name

-- how many of the values a buffer has room for
abbrev pub room_for : {A : Type 0} → List A → List A → ℕ
room_for values buffer = min (length values) (length buffer)

-- the buffer with as many of the values as it has room for, and behind them what it held before
abbrev pub copied_into : {A : Type 0} → List A → List A → List A
copied_into values buffer = take (room_for values buffer) values ++ drop (room_for values buffer) buffer

-- the names of pieces
abbrev pub names_of : List Extent → List (List ℕ)
names_of xs = map (λ x. x.name) xs

-- a name was copied into a buffer, and its whole length reported
abbrev pub ShowsName : Option Extent → (old new : List ℕ) → (whole : ℕ) → Type 0
ShowsName piece old new whole = (new ≡ copied_into (name_of piece) old) × (whole ≡ length (name_of piece))

-- an array was filled with the pieces, as far as it has room, and reported is how many of them it shows
abbrev pub ShowsPieces : List Extent → (old new : List PieceView) → (count : ℕ) → Type 0
ShowsPieces xs old new count = (new ≡ copied_into (piece_views xs) old) × (count ≡ room_for (piece_views xs) old)

-- an array was filled with the lengths of the pieces' names, as far as it has room, a buffer with these names one after another, as
-- far as it has room, and reported is how many lengths there are
pub record ShowsNames (xs : List Extent) (old_lengths new_lengths old_names new_names : List ℕ) (count : ℕ) : Type 0 where
  pub lengths : new_lengths ≡ copied_into (map length (names_of xs)) old_lengths
  pub names : new_names ≡ copied_into (concat (take (length old_lengths) (names_of xs))) old_names
  pub counted : count ≡ room_for (map length (names_of xs)) old_lengths
