-- Lists of chunks in the order of their starts: what they cover, and what a cut, another use and a join make of them.
use Rattle.std.specs.Prelude.{◌≡◌, ◌≢◌, ℕ, ◌+◌, ◌-◌, ◌<◌, List, [], ◌∷◌, All}
use Rattle.gpu_values.specs.declared.allocation_type.AllocationType.{AllocationType}
use Rattle.gpu_values.specs.declared.allocation_type.AllocationType.TheVariants.{Free, Linear, NonLinear}
use Rattle.gpu_block_chunks.specs.declared.label.Label.{Label}
use Rattle.gpu_block_chunks.specs.declared.chunk.Chunk.{Chunk}
use Rattle.gpu_block_chunks.specs.declared.chunk.ChunkView.{ChunkView}

-- the chunk that a view shows
abbrev pub chunk_of : ChunkView → Chunk
chunk_of v = record { start = v.start; size = v.size; offset = v.offset; kind = v.kind; chunk_id = v.chunk_id; label = (v.label).now }

abbrev pub IsFree : AllocationType → Type 0
IsFree Free = Unit {0}
IsFree Linear = ⊥
IsFree NonLinear = ⊥

-- the chunks cover [from, to), one after another, and none is empty
abbrev pub Covers : List Chunk → ℕ → ℕ → Type 0
Covers [] from to = from ≡ to
Covers (c ∷ cs) from to = (c.start ≡ from) × (0 < c.size) × Covers cs (from + c.size) to

-- no two chunks have one number
abbrev pub AreDistinct : List Chunk → Type 0
AreDistinct [] = Unit {0}
AreDistinct (c ∷ cs) = All (λ d. d.chunk_id ≢ c.chunk_id) cs × AreDistinct cs

-- what a chunk is without its front, and in another use
abbrev pub cut_chunk : Chunk → ℕ → Chunk
cut_chunk c taken = record c { start = c.start + taken; size = c.size - taken; offset = c.start + taken }

abbrev pub filled_chunk : Chunk → ℕ → AllocationType → Label → Chunk
filled_chunk c offset kind label = record c { offset = offset; kind = kind; label = label }

-- the same chunk with a changed label
abbrev pub labelled_chunk : (Label → Label) → Chunk → Chunk
labelled_chunk change c = record c { label = change c.label }

-- two chunks as one
abbrev pub joined_chunk : Chunk → Chunk → Chunk
joined_chunk a b = record a { size = a.size + b.size }

-- a chunk before a list, joined with its first one if that is free
abbrev pub join_kinds : AllocationType → Chunk → Chunk → List Chunk → List Chunk
join_kinds Free a b cs = joined_chunk a b ∷ cs
join_kinds Linear a b cs = a ∷ b ∷ cs
join_kinds NonLinear a b cs = a ∷ b ∷ cs

abbrev pub join_back : Chunk → List Chunk → List Chunk
join_back c [] = c ∷ []
join_back c (b ∷ bs) = join_kinds b.kind c b bs

-- a list before a chunk, joined with that one if its last one is free
abbrev pub join_front : List Chunk → List Chunk → List Chunk
join_front [] back = back
join_front (a ∷ []) [] = a ∷ []
join_front (a ∷ []) (c ∷ back) = join_kinds a.kind a c back
join_front (a ∷ b ∷ front) back = a ∷ join_front (b ∷ front) back
