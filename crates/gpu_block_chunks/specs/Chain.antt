-- Chunks that a map holds by number, linked to their neighbours' numbers, and the list that they make.
use Rattle.std.specs.Prelude.{◌≡◌, ◌≢◌, ℕ, ◌+◌, ◌^◌, ◌<◌, ◌⊎◌, zero, suc, List, [], ◌∷◌, ◌++◌, All, Option, Some, None, Bool, true, false, cond, ◌==◌}
use Rattle.std.specs.Borrow.{Bor}
use Rattle.std.specs.Option.{option_map}
use Rattle.gpu_values.specs.declared.allocation_type.AllocationType.{AllocationType}
use Rattle.gpu_values.specs.declared.allocation_type.AllocationType.TheVariants.{Free, Linear, NonLinear}
use Rattle.gpu_block_chunks.specs.declared.label.Label.{Label}
use Rattle.gpu_block_chunks.specs.Label.{no_label, with_word}
use Rattle.gpu_block_chunks.specs.declared.chunk.Chunk.{Chunk}
use Rattle.gpu_block_chunks.specs.declared.chain.Neighbour.{Neighbour}
use Rattle.gpu_block_chunks.specs.declared.chain.Neighbours.{Neighbours}
use Rattle.gpu_block_chunks.specs.ChunkList.{IsFree, Covers, cut_chunk, filled_chunk, labelled_chunk, join_back, join_front}

-- what a contract sees of a chain: its chunks in order, the block's size, and for how many more chunks it has room
pub record Linked : Type 0 where
  pub chunks : List Chunk
  pub size : ℕ
  pub room : ℕ

-- ---- what a call changes or tells of the list

-- the chunk of that number stands between front and back
pub record StandsAt (cs : List Chunk) (chunk_id : ℕ) (c : Chunk) : Type 0 where
  pub front : List Chunk
  pub back : List Chunk
  pub split : cs ≡ front ++ c ∷ back
  pub numbered : c.chunk_id ≡ chunk_id

-- some chunk has the number
abbrev pub HasChunkId : List Chunk → ℕ → Type 0
HasChunkId cs chunk_id = (c : Chunk) × StandsAt cs chunk_id c

abbrev pub HasNoChunkId : List Chunk → ℕ → Type 0
HasNoChunkId cs chunk_id = All (λ c. c.chunk_id ≢ chunk_id) cs

abbrev pub beside : Chunk → Neighbour
beside c = record { start = c.start; size = c.size; kind = c.kind; chunk_id = c.chunk_id }

abbrev pub last_beside : Option Neighbour → List Chunk → Option Neighbour
last_beside before [] = before
last_beside before (c ∷ cs) = last_beside (Some (beside c)) cs

abbrev pub first_beside : List Chunk → Option Neighbour
first_beside [] = None
first_beside (c ∷ cs) = Some (beside c)

-- no piece has the number: a chunk that has it is free
abbrev pub HasNoPiece : List Chunk → ℕ → Type 0
HasNoPiece cs chunk_id = (c : Chunk) → StandsAt cs chunk_id c → IsFree c.kind

-- the chunk of that number, and what stands beside it
pub record AreNeighbours (cs : List Chunk) (chunk_id : ℕ) (a : Neighbours) : Type 0 where
  pub chunk : Chunk
  pub at : StandsAt cs chunk_id chunk
  pub here : a.here ≡ beside chunk
  pub before : a.before ≡ last_beside None at.front
  pub after : a.after ≡ first_beside at.back

-- the chunks from that number on; none without a number
abbrev pub from_chunk_id : Option ℕ → List Chunk → List Chunk
from_chunk_id None cs = []
from_chunk_id (Some k) [] = []
from_chunk_id (Some k) (c ∷ cs) = cond (c.chunk_id == k) (c ∷ cs) (from_chunk_id (Some k) cs)

-- those of a chain, if there is one
abbrev pub walked : Option (Bor Linked) → Option ℕ → List Chunk
walked None at = []
walked (Some chain) at = from_chunk_id at (chain.now).chunks

-- the chunk of that number, and the number of the next one
pub record IsChunkAt (cs : List Chunk) (chunk_id : ℕ) (c : Chunk) (next : Option ℕ) : Type 0 where
  pub at : StandsAt cs chunk_id c
  pub from : from_chunk_id (Some chunk_id) cs ≡ c ∷ from_chunk_id next cs

-- the chunk of that number is longer than `taken`
pub record IsLonger (cs : List Chunk) (chunk_id taken : ℕ) : Type 0 where
  pub chunk : Chunk
  pub at : StandsAt cs chunk_id chunk
  pub longer : taken < chunk.size

-- a block that is one free chunk, with number 1
abbrev pub IsFresh : List Chunk → ℕ → Type 0
IsFresh cs size = cs ≡ record { start = 0; size = size; offset = 0; kind = Free; chunk_id = 1; label = no_label } ∷ []

-- a piece of that size, offset, kind, number and label at the front of a chunk
abbrev pub front_piece : Chunk → (taken offset : ℕ) → AllocationType → ℕ → Label → Chunk
front_piece c taken offset kind chunk_id label =
    record { start = c.start; size = taken; offset = offset; kind = kind; chunk_id = chunk_id; label = label }

-- the chunk of number k gave its front to a piece
pub record IsSplit (old : List Chunk) (k taken chunk_id offset : ℕ) (kind : AllocationType) (label : Label) (new : List Chunk) : Type 0 where
  pub chunk : Chunk
  pub at : StandsAt old k chunk
  pub is : new ≡ at.front ++ front_piece chunk taken offset kind chunk_id label ∷ cut_chunk chunk taken ∷ at.back

-- the chunk of number k is in another use
pub record IsFilled (old : List Chunk) (k offset : ℕ) (kind : AllocationType) (label : Label) (new : List Chunk) : Type 0 where
  pub chunk : Chunk
  pub at : StandsAt old k chunk
  pub is : new ≡ at.front ++ filled_chunk chunk offset kind label ∷ at.back

-- the chunk of number k has another word
pub record IsWorded (old : List Chunk) (k word : ℕ) (new : List Chunk) : Type 0 where
  pub chunk : Chunk
  pub at : StandsAt old k chunk
  pub is : new ≡ at.front ++ labelled_chunk (with_word word) chunk ∷ at.back

-- the chunk of number k is free, and one with the free chunks beside it
pub record IsReleased (old : List Chunk) (k : ℕ) (new : List Chunk) : Type 0 where
  pub chunk : Chunk
  pub at : StandsAt old k chunk
  pub is : new ≡ join_front at.front (join_back (filled_chunk chunk chunk.start Free no_label) at.back)

-- the number of the free chunk that a chunk becomes part of: that of the free one before it, if there is one
abbrev pub first_by : AllocationType → ℕ → ℕ → ℕ
first_by Free before chunk_id = before
first_by Linear before chunk_id = chunk_id
first_by NonLinear before chunk_id = chunk_id

abbrev pub first_of : Option Neighbour → ℕ → ℕ
first_of None chunk_id = chunk_id
first_of (Some b) chunk_id = first_by b.kind b.chunk_id chunk_id

-- the piece of number k was freed: `was` stood beside it, and `is` stands beside the chunk that it became part of
pub record ReleasesPiece (old : List Chunk) (k : ℕ) (new : List Chunk) (was is : Neighbours) : Type 0 where
  pub before : AreNeighbours old k was
  pub live : IsFree (was.here).kind → ⊥
  pub released : IsReleased old k new
  pub after : AreNeighbours new (first_of was.before k) is

-- ---- how the map holds the list: each chunk beside the number that it is held under

-- a chunk, and the numbers of the ones beside it
pub record Node : Type 0 where
  pub chunk : Chunk
  pub prev : Option ℕ
  pub next : Option ℕ

-- the first number of a list, or else what follows it
abbrev pub first_or : List (ℕ × Chunk) → Option ℕ → Option ℕ
first_or [] after = after
first_or (x ∷ xs) after = Some x.0

-- the last number of a list, or else what stands before it
abbrev pub last_or : Option ℕ → List (ℕ × Chunk) → Option ℕ
last_or before [] = before
last_or before (x ∷ xs) = last_or (Some x.0) xs

abbrev pub node_of : Chunk → Option ℕ → Option ℕ → Node
node_of c before after = record { chunk = c; prev = before; next = after }

-- each chunk of the list is held under its number, linked to its neighbours
abbrev pub Held : (ℕ → Option Node) → Option ℕ → List (ℕ × Chunk) → Option ℕ → Type 0
Held f before [] after = Unit {0}
Held f before (x ∷ xs) after = (f x.0 ≡ Some (node_of x.1 before (first_or xs after))) × Held f (Some x.0) xs after

abbrev pub chunks_in : List (ℕ × Chunk) → List Chunk
chunks_in [] = []
chunks_in (x ∷ xs) = x.1 ∷ chunks_in xs

-- each chunk has the number that it is held under
abbrev pub Numbered : List (ℕ × Chunk) → Type 0
Numbered [] = Unit {0}
Numbered (x ∷ xs) = ((x.1).chunk_id ≡ x.0) × Numbered xs

-- no chunk of the list has the number
abbrev pub Apart : ℕ → List (ℕ × Chunk) → Type 0
Apart k [] = Unit {0}
Apart k (x ∷ xs) = (k ≡ x.0 → ⊥) × Apart k xs

-- no two chunks have one number
abbrev pub Distinct : List (ℕ × Chunk) → Type 0
Distinct [] = Unit {0}
Distinct (x ∷ xs) = Apart x.0 xs × Distinct xs

-- the chunk stands in the list under that number
pub record Stands (cs : List (ℕ × Chunk)) (k : ℕ) (c : Chunk) : Type 0 where
  pub front : List (ℕ × Chunk)
  pub back : List (ℕ × Chunk)
  pub is : cs ≡ front ++ (k, c) ∷ back

-- the list has the chunk under that number
abbrev pub Among : ℕ → Chunk → List (ℕ × Chunk) → Type 0
Among k c [] = ⊥
Among k c (x ∷ xs) = ((x.0 ≡ k) × (x.1 ≡ c)) ⊎ Among k c xs

-- following `next` from the first chunk meets every entry once, `prev` is its inverse, and the chunks cover the block
pub record IsChain (f : ℕ → Option Node) (first size : ℕ) (cs : List (ℕ × Chunk)) : Type 0 where
  pub held : Held f None cs None
  pub starts : first_or cs None ≡ Some first
  pub covers : Covers (chunks_in cs) 0 size
  pub distinct : Distinct cs
  pub numbered : Numbered cs
  pub every : (k : ℕ) (n : Node) → f k ≡ Some n → Among k n.chunk cs

-- the chunks that are met from a number on, along `next`
abbrev pub met : Option Node → ℕ → (Option ℕ → List (ℕ × Chunk)) → List (ℕ × Chunk)
met None k rest = []
met (Some n) k rest = (k, n.chunk) ∷ rest n.next

abbrev pub walk : ℕ → (ℕ → Option Node) → Option ℕ → List (ℕ × Chunk)
walk zero f at = []
walk (suc most) f None = []
walk (suc most) f (Some k) = met (f k) k (walk most f)

-- the first number, after one was put behind `prev`
abbrev pub first_after : Option ℕ → ℕ → ℕ → ℕ
first_after None chunk_id first = chunk_id
first_after (Some p) chunk_id first = first

abbrev pub longer : Chunk → ℕ → Chunk
longer c more = record c { size = c.size + more }

-- the chunk under `left` and the next one, under `right`, may become one
pub record CanJoin (f : ℕ → Option Node) (left right : ℕ) : Type 0 where
  pub first : ℕ
  pub size : ℕ
  pub front : List (ℕ × Chunk)
  pub chunk : Chunk
  pub next : Chunk
  pub back : List (ℕ × Chunk)
  pub linked : IsChain f first size (front ++ (left, chunk) ∷ (right, next) ∷ back)
  pub fits : size < 2 ^ 64

-- whatever list the chunks made, they make the list with the two in one
abbrev pub JoinsNext : ℕ → ℕ → (ℕ → Option Node) → (ℕ → Option Node) → Type 0
JoinsNext left right f g =
    (first size : ℕ) (front : List (ℕ × Chunk)) (c d : Chunk) (back : List (ℕ × Chunk))
    → IsChain f first size (front ++ (left, c) ∷ (right, d) ∷ back) → IsChain g first size (front ++ (left, longer c d.size) ∷ back)

abbrev pub is_free_kind : AllocationType → Bool
is_free_kind Free = true
is_free_kind Linear = false
is_free_kind NonLinear = false

-- a free chunk takes in the next one, if that is free
abbrev pub right_chunk : Chunk → List (ℕ × Chunk) → Chunk
right_chunk c [] = c
right_chunk c (y ∷ ys) = cond (is_free_kind (y.1).kind) (longer c (y.1).size) c

abbrev pub right_rest : List (ℕ × Chunk) → List (ℕ × Chunk)
right_rest [] = []
right_rest (y ∷ ys) = cond (is_free_kind (y.1).kind) ys (y ∷ ys)

-- and the one before takes it in, if that is free
abbrev pub glue_left : List (ℕ × Chunk) → ℕ → Chunk → List (ℕ × Chunk) → List (ℕ × Chunk)
glue_left [] k c back = (k, c) ∷ back
glue_left (x ∷ []) k c back = cond (is_free_kind (x.1).kind) ((x.0, longer x.1 c.size) ∷ back) (x ∷ (k, c) ∷ back)
glue_left (x ∷ (y ∷ ys)) k c back = x ∷ glue_left (y ∷ ys) k c back

-- the chunk under that number stands in some list
pub record LinkedAt (f : ℕ → Option Node) (k : ℕ) : Type 0 where
  pub first : ℕ
  pub size : ℕ
  pub front : List (ℕ × Chunk)
  pub chunk : Chunk
  pub back : List (ℕ × Chunk)
  pub linked : IsChain f first size (front ++ (k, chunk) ∷ back)
  pub fits : size < 2 ^ 64

-- whatever list the chunks made, what list they make
abbrev pub JoinsRight : ℕ → (ℕ → Option Node) → (ℕ → Option Node) → Type 0
JoinsRight k f g =
    (first size : ℕ) (front : List (ℕ × Chunk)) (c : Chunk) (back : List (ℕ × Chunk))
    → IsChain f first size (front ++ (k, c) ∷ back) → IsChain g first size (front ++ (k, right_chunk c back) ∷ right_rest back)

abbrev pub JoinsLeft : ℕ → (ℕ → Option Node) → (ℕ → Option Node) → Type 0
JoinsLeft k f g =
    (first size : ℕ) (front : List (ℕ × Chunk)) (c : Chunk) (back : List (ℕ × Chunk))
    → IsChain f first size (front ++ (k, c) ∷ back) → IsChain g first size (glue_left front k c back)

-- whatever list the chunks made, the number of the chunk that they make with the one before
abbrev pub JoinsUnder : ℕ → (ℕ → Option Node) → ℕ → Type 0
JoinsUnder k f joined =
    (first size : ℕ) (front : List (ℕ × Chunk)) (c : Chunk) (back : List (ℕ × Chunk))
    → IsChain f first size (front ++ (k, c) ∷ back) → joined ≡ first_of (last_beside None (chunks_in front)) k

-- ---- what a step changes of the map

abbrev pub with_next : Option ℕ → Node → Node
with_next next n = record { chunk = n.chunk; prev = n.prev; next = next }

abbrev pub with_prev : Option ℕ → Node → Node
with_prev prev n = record { chunk = n.chunk; prev = prev; next = n.next }

-- g is f with the node at k changed
abbrev pub ChangesAt : ℕ → (Node → Node) → (ℕ → Option Node) → (ℕ → Option Node) → Type 0
ChangesAt k change f g = (q : ℕ) → g q ≡ cond (k == q) (option_map change (f q)) (f q)

-- what is known beside a chunk from the map alone
abbrev pub beside_of : (ℕ → Option Node) → Option ℕ → Option Neighbour
beside_of f None = None
beside_of f (Some k) = option_map (λ n. beside n.chunk) (f k)

-- the same of a chunk and of what stands beside it
abbrev pub around_of : (ℕ → Option Node) → Node → Neighbours
around_of f n = record { here = beside n.chunk; before = beside_of f n.prev; after = beside_of f n.next }

abbrev pub cut_node : ℕ → Option ℕ → Node → Node
cut_node taken prev n = record { chunk = cut_chunk n.chunk taken; prev = prev; next = n.next }

abbrev pub joined_node : ℕ → Option ℕ → Node → Node
joined_node more next n = record { chunk = longer n.chunk more; prev = n.prev; next = next }

-- g is f with that at k
abbrev pub SetsAt : ℕ → Option Node → (ℕ → Option Node) → (ℕ → Option Node) → Type 0
SetsAt k o f g = (q : ℕ) → g q ≡ cond (k == q) o (f q)

-- whether the number is that one
abbrev pub is_at : Option ℕ → ℕ → Bool
is_at None q = false
is_at (Some k) q = k == q

-- g is f with the node at k changed, if k is a number
abbrev pub ChangesAtOpt : Option ℕ → (Node → Node) → (ℕ → Option Node) → (ℕ → Option Node) → Type 0
ChangesAtOpt o change f g = (q : ℕ) → g q ≡ cond (is_at o q) (option_map change (f q)) (f q)

abbrev pub used_node : ℕ → AllocationType → Label → Node → Node
used_node offset kind label n = record { chunk = filled_chunk n.chunk offset kind label; prev = n.prev; next = n.next }

abbrev pub worded_node : ℕ → Node → Node
worded_node word n = record { chunk = labelled_chunk (with_word word) n.chunk; prev = n.prev; next = n.next }

-- no node is held under that number, or linked to it
pub record IsUnlinked (k : ℕ) (f : ℕ → Option Node) : Type 0 where
  pub none : f k ≡ None
  pub apart : (q : ℕ) (n : Node) → f q ≡ Some n → (n.prev ≢ Some k) × (n.next ≢ Some k)
