-- The sorted list of chunks behind a block: free chunks are its gaps, the others its extents.
use Rattle.std.specs.Prelude.{◌≡◌, ℕ, ◌+◌, ◌-◌, ◌^◌, ◌<◌, ◌≤◌, ◌⊎◌, zero, suc, length, ◌++◌, List, [], ◌∷◌, All, Option, Some, None, Bool, false, ◌==◌}
use Rattle.std.specs.List.{filter_map}
use Rattle.gpu_values.specs.declared.allocation_type.AllocationType.{AllocationType}
use Rattle.gpu_values.specs.declared.allocation_type.AllocationType.TheVariants.{Free, Linear, NonLinear}
use Rattle.gpu_block_chunks.specs.declared.label.Label.{Label}
use Rattle.gpu_block_chunks.specs.Label.{no_label}
use Rattle.gpu_block_chunks.specs.declared.chunk.Chunk.{Chunk}
use Rattle.gpu_block_chunks.specs.ChunkList.{IsFree, Covers, AreDistinct, cut_chunk, filled_chunk, labelled_chunk, join_back, join_front}
use Rattle.gpu_block_pieces.specs.declared.place.Wanted.{Wanted}
use Rattle.gpu_block_pieces.specs.FreeList.{Extent, FreeList}
use Rattle.gpu_block_pieces.specs.Place.{FitsBetween}

abbrev pub extent : Chunk → Extent
extent c = record { start = c.start; offset = c.offset; end = c.start + c.size; kind = c.kind; chunk_id = c.chunk_id; name = c.label.name; word = c.label.word }

abbrev pub extent_by : AllocationType → Chunk → Option Extent
extent_by Free c = None
extent_by Linear c = Some (extent c)
extent_by NonLinear c = Some (extent c)

abbrev pub gap_by : AllocationType → Chunk → Option (ℕ × ℕ)
gap_by Free c = Some (c.start, c.chunk_id)
gap_by Linear c = None
gap_by NonLinear c = None

abbrev pub extents_of : List Chunk → List Extent
extents_of cs = filter_map (λ c. extent_by c.kind c) cs

abbrev pub gaps_of : List Chunk → List (ℕ × ℕ)
gaps_of cs = filter_map (λ c. gap_by c.kind c) cs

abbrev pub free_list_of : ℕ → ℕ → ℕ → List Chunk → FreeList
free_list_of size granularity counter cs = record { size = size; granularity = granularity; counter = counter; extents = extents_of cs; gap_chunk_ids = gaps_of cs }

abbrev pub NotBothFree : AllocationType → AllocationType → Type 0
NotBothFree Free Free = ⊥
NotBothFree Free Linear = Unit {0}
NotBothFree Free NonLinear = Unit {0}
NotBothFree Linear next = Unit {0}
NotBothFree NonLinear next = Unit {0}

-- no two free chunks touch, where a chunk of the given kind stands before them
abbrev pub NoneTouch : AllocationType → List Chunk → Type 0
NoneTouch before [] = Unit {0}
NoneTouch before (c ∷ cs) = NotBothFree before c.kind × NoneTouch c.kind cs

-- the chunk's offset lies in it, and its number has been given out
pub record IsChunk (counter : ℕ) (c : Chunk) : Type 0 where
  pub after : c.start ≤ c.offset
  pub before : c.offset < c.start + c.size
  pub positive : 0 < c.chunk_id
  pub given : c.chunk_id < counter

-- the chunk is a whole block of that size, and its piece
pub record IsWholeChunk (size : ℕ) (c : Chunk) : Type 0 where
  pub starts : (c.start ≡ 0) × (c.offset ≡ 0)
  pub whole : c.size ≡ size
  pub first : c.chunk_id ≡ 1
  pub live : IsFree c.kind → ⊥

pub record AreChunks (cs : List Chunk) (size counter : ℕ) : Type 0 where
  pub covers : Covers cs 0 size
  pub none_touch : NoneTouch Linear cs
  pub each : All (IsChunk counter) cs
  pub distinct : AreDistinct cs

-- ---- the search

-- a chunk in which a request fits: its place in the list, the request's offset, and the chunk's length
pub record FoundAt : Type 0 where
  pub index : ℕ
  pub offset : ℕ
  pub size : ℕ

-- pieces of these two kinds may not share a page
abbrev pub Differ : AllocationType → AllocationType → Type 0
Differ Free kind = ⊥
Differ Linear Free = ⊥
Differ Linear Linear = ⊥
Differ Linear NonLinear = Unit {0}
Differ NonLinear Free = ⊥
Differ NonLinear Linear = Unit {0}
Differ NonLinear NonLinear = ⊥

-- the kind of the last chunk, and of the first, where there is one
abbrev pub last_kind : AllocationType → List Chunk → AllocationType
last_kind before [] = before
last_kind before (c ∷ cs) = last_kind c.kind cs

abbrev pub first_kind : List Chunk → AllocationType
first_kind [] = Free
first_kind (c ∷ cs) = c.kind

-- the length of the i-th chunk
abbrev pub size_at : List Chunk → ℕ → ℕ
size_at [] i = 0
size_at (c ∷ cs) zero = c.size
size_at (c ∷ cs) (suc i) = size_at cs i

-- the request fits in the i-th chunk, which is free, at `offset`
pub record FitsAt (cs : List Chunk) (w : Wanted) (i offset : ℕ) : Type 0 where
  pub front : List Chunk
  pub chunk : Chunk
  pub back : List Chunk
  pub split : cs ≡ front ++ chunk ∷ back
  pub index : length front ≡ i
  pub free : IsFree chunk.kind
  pub between : FitsBetween w.granularity w.alignment w.size (Differ (last_kind Free front) w.kind) (Differ (first_kind back) w.kind) chunk.start (chunk.start + chunk.size) offset

-- of the first n chunks, the shortest one in which the request fits, and of equal ones the first
pub record IsBestOf (cs : List Chunk) (w : Wanted) (n : ℕ) (f : FoundAt) : Type 0 where
  pub below : f.index < n
  pub size : f.size ≡ size_at cs f.index
  pub fits : FitsAt cs w f.index f.offset
  pub best : (k o : ℕ) → k < n → FitsAt cs w k o → (f.size < size_at cs k) ⊎ ((f.size ≡ size_at cs k) × (f.index ≤ k))

abbrev pub NoneFits : List Chunk → Wanted → ℕ → Type 0
NoneFits cs w n = (k o : ℕ) → k < n → FitsAt cs w k o → ⊥

abbrev pub IsLaidOut : List Chunk → Type 0
IsLaidOut cs = (size : ℕ) × (size < 2 ^ 64) × Covers cs 0 size

-- the chunk is a gap with that number
abbrev pub is_gap_by : AllocationType → ℕ → Chunk → Bool
is_gap_by Free chunk_id c = c.chunk_id == chunk_id
is_gap_by Linear chunk_id c = false
is_gap_by NonLinear chunk_id c = false

-- ---- the changes

-- the i-th chunk is the piece with that number
pub record HoldsChunkId (cs : List Chunk) (chunk_id i : ℕ) : Type 0 where
  pub front : List Chunk
  pub chunk : Chunk
  pub back : List Chunk
  pub split : cs ≡ front ++ chunk ∷ back
  pub index : length front ≡ i
  pub live : IsFree chunk.kind → ⊥
  pub numbered : chunk.chunk_id ≡ chunk_id

-- the i-th chunk has a changed label
abbrev pub IsLabelledAt : List Chunk → ℕ → (Label → Label) → List Chunk → Type 0
IsLabelledAt old i change new =
    (front : List Chunk) (c : Chunk) (back : List Chunk) → old ≡ front ++ c ∷ back → length front ≡ i → new ≡ front ++ labelled_chunk change c ∷ back

abbrev pub IsReleasedAt : List Chunk → ℕ → List Chunk → Type 0
IsReleasedAt old i new =
    (front : List Chunk) (c : Chunk) (back : List Chunk) → old ≡ front ++ c ∷ back → length front ≡ i →
    new ≡ join_front front (join_back (filled_chunk c c.start Free no_label) back)

abbrev pub piece_of : Chunk → FoundAt → Wanted → ℕ → Label → Chunk
piece_of c f w chunk_id label = record { start = c.start; size = f.offset + w.size - c.start; offset = f.offset; kind = w.kind; chunk_id = chunk_id; label = label }

-- the chunk c between front and back was given to the piece, or its front was
pub record TakenFrom (front : List Chunk) (c : Chunk) (back : List Chunk) (f : FoundAt) (w : Wanted) (counter : ℕ) (label : Label) (chunk_id : ℕ) (new : List Chunk) : Type 0 where
  pub rest : f.offset + w.size < c.start + c.size → (chunk_id ≡ counter) × (new ≡ front ++ piece_of c f w counter label ∷ cut_chunk c (f.offset + w.size - c.start) ∷ back)
  pub whole : c.start + c.size ≤ f.offset + w.size → (chunk_id ≡ c.chunk_id) × (new ≡ front ++ filled_chunk c f.offset w.kind label ∷ back)

abbrev pub IsTaken : List Chunk → FoundAt → Wanted → ℕ → Label → ℕ → List Chunk → Type 0
IsTaken old f w counter label chunk_id new =
    (front : List Chunk) (c : Chunk) (back : List Chunk) → old ≡ front ++ c ∷ back → length front ≡ f.index → TakenFrom front c back f w counter label chunk_id new
