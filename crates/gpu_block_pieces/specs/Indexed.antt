-- The gaps that a list of chunks has, and an index that holds just them.
use Rattle.std.specs.Prelude.{◌≡◌, ℕ, ◌+◌, ◌^◌, ◌<◌, ◌≤◌, nat_le, nat_lt, ◌&&◌, ◌||◌, ◌==◌, Bool, length, List, [], ◌∷◌, ◌++◌, slice_index_or, Option, Some, None}
use Rattle.std.specs.List.{sum_by, count_by}
use Rattle.gpu_values.specs.declared.allocation_type.AllocationType.{AllocationType}
use Rattle.gpu_values.specs.declared.allocation_type.AllocationType.TheVariants.{Free, Linear, NonLinear}
use Rattle.gpu_block_chunks.specs.declared.chunk.Chunk.{Chunk}
use Rattle.gpu_block_chunks.specs.declared.chain.Neighbour.{Neighbour}
use Rattle.gpu_block_gaps.specs.declared.index.Gap.{Gap}
use Rattle.gpu_block_pieces.specs.declared.place.Wanted.{Wanted}
use Rattle.gpu_block_pieces.specs.declared.search.Found.{Found}
use Rattle.gpu_block_pieces.specs.Place.{FitsBetween}
use Rattle.gpu_block_chunks.specs.ChunkList.{IsFree}
use Rattle.gpu_block_pieces.specs.Chunks.{NoneTouch, Differ, last_kind, extents_of, FoundAt, IsBestOf}
use Rattle.gpu_block_chunks.specs.Chain.{StandsAt, IsReleased}
use Rattle.gpu_cost.specs.declared.cost.Cost.{Cost}
use Rattle.gpu_cost.specs.Cost.{digits}
use Rattle.gpu_block_gaps.specs.Index.{IsRemoved, IsInserted, HasKeyAt}

-- the entry of a free chunk that stands between these kinds
abbrev pub gap_between : AllocationType → Chunk → AllocationType → Gap
gap_between before c after = record { length = c.size; start = c.start; chunk_id = c.chunk_id; before = before; after = after }

-- the kind of the first chunk, or else what follows the list
abbrev pub kind_or : List Chunk → AllocationType → AllocationType
kind_or [] after = after
kind_or (c ∷ cs) after = c.kind

abbrev pub gap_first : AllocationType → Gap → List Gap → List Gap
gap_first Free g gs = g ∷ gs
gap_first Linear g gs = gs
gap_first NonLinear g gs = gs

-- the gaps of a list of chunks that stands between these kinds, in the order of their starts
abbrev pub gaps_between : AllocationType → List Chunk → AllocationType → List Gap
gaps_between before [] after = []
gaps_between before (c ∷ cs) after = gap_first c.kind (gap_between before c (kind_or cs after)) (gaps_between c.kind cs after)

-- one list has each gap as often as the other: whatever is summed over them
abbrev pub HasSame : List Gap → List Gap → Type 0
HasSame gs hs = (f : Gap → ℕ) → sum_by f gs ≡ sum_by f hs

-- no two free chunks touch, and the index holds exactly the free ones
pub record IsListed (cs : List Chunk) (gs : List Gap) : Type 0 where
  pub touch : NoneTouch Linear cs
  pub same : HasSame gs (gaps_between Free cs Free)

-- with so many live pieces there is room for one gap more than there are pieces: so a release never grows the index
pub record IsIndexed (cs : List Chunk) (gs : List Gap) (live room : ℕ) : Type 0 where
  pub listed : IsListed cs gs
  pub counted : live ≡ length (extents_of cs)
  pub roomy : live + 1 ≤ room

-- what a contract sees: the chunks in order, and the block's size
pub record LaidChunks : Type 0 where
  pub items : List Chunk
  pub size : ℕ

-- the gap is that of a free chunk of the list
pub record IsGapOf (cs : List Chunk) (g : Gap) : Type 0 where
  pub front : List Chunk
  pub chunk : Chunk
  pub back : List Chunk
  pub split : cs ≡ front ++ chunk ∷ back
  pub free : IsFree chunk.kind
  pub is : g ≡ gap_between (last_kind Free front) chunk (kind_or back Free)

-- no gap of the list is longer, and where it isn't 0 one is that long
pub record IsLongestOf (cs : List Chunk) (size : ℕ) : Type 0 where
  pub bound : (g : Gap) → IsGapOf cs g → g.length ≤ size
  pub reached : 0 < size → (g : Gap) × IsGapOf cs g × (g.length ≡ size)

-- ---- the search

-- the request fits in the gap at `offset`
abbrev pub FitsGap : Wanted → Gap → ℕ → Type 0
FitsGap w g offset =
    FitsBetween w.granularity w.alignment w.size (Differ g.before w.kind) (Differ g.after w.kind) g.start (g.start + g.length) offset

abbrev pub NoGapFits : List Gap → Wanted → Type 0
NoGapFits gs w = (k o : ℕ) (d : Gap) → k < length gs → FitsGap w (slice_index_or gs k d) o → ⊥

-- the gap at that place is the first of the list in which the request fits
pub record IsFirstFit (gs : List Gap) (w : Wanted) (f : Found) (place : ℕ) : Type 0 where
  pub within : place < length gs
  pub is : (d : Gap) → slice_index_or gs place d ≡ f.gap
  pub fits : FitsGap w f.gap f.offset
  pub earlier : (k o : ℕ) (d : Gap) → k < place → FitsGap w (slice_index_or gs k d) o → ⊥

-- the gap at that place is the found one
pub record IsFoundAt (gs : List Gap) (w : Wanted) (place : ℕ) (f : Found) : Type 0 where
  pub within : place < length gs
  pub is : (d : Gap) → slice_index_or gs place d ≡ f.gap
  pub fits : FitsGap w f.gap f.offset

-- the request doesn't fit in the gap at that place, if there is one
abbrev pub NoneFitsAt : List Gap → Wanted → ℕ → Type 0
NoneFitsAt gs w place = (o : ℕ) (d : Gap) → place < length gs → FitsGap w (slice_index_or gs place d) o → ⊥

abbrev pub is_long : ℕ → Gap → Bool
is_long n g = nat_le n g.length

-- a gap behind a piece starts above 0, and each ends below 2^64
pub record IsPlaced (g : Gap) : Type 0 where
  pub behind : (IsFree g.before → ⊥) → 0 < g.start
  pub ends : g.start + g.length < 2 ^ 64

abbrev pub ArePlaced : List Gap → Type 0
ArePlaced gs = (k : ℕ) (d : Gap) → k < length gs → IsPlaced (slice_index_or gs k d)

-- the found gap is that of the best chunk of the list
pub record IsChosen (cs : List Chunk) (w : Wanted) (f : Found) : Type 0 where
  pub index : ℕ
  pub best : IsBestOf cs w (length cs) (record { index = index; offset = f.offset; size = f.gap.length })
  pub gap : f.gap ≡ gap_between (last_kind Free best.fits.front) best.fits.chunk (kind_or best.fits.back Free)

-- the chosen chunk, by its place in the list
abbrev pub chosen_at : (cs : List Chunk) (w : Wanted) (f : Found) → IsChosen cs w f → FoundAt
chosen_at cs w f h = record { index = h.index; offset = f.offset; size = f.gap.length }

-- ---- a release

abbrev pub ForgetsBy : AllocationType → Neighbour → List Gap → List Gap → Type 0
ForgetsBy Free b old new = IsRemoved old b.size b.start new
ForgetsBy Linear b old new = new ≡ old
ForgetsBy NonLinear b old new = new ≡ old

-- what is left of the index without the gap beside a chunk, if there is one
abbrev pub Forgets : Option Neighbour → List Gap → List Gap → Type 0
Forgets None old new = new ≡ old
Forgets (Some b) old new = ForgetsBy b.kind b old new

-- what is forgotten is there
abbrev pub MayForgetBy : AllocationType → Neighbour → List Gap → Type 0
MayForgetBy Free b gs = HasKeyAt gs b.size b.start
MayForgetBy Linear b gs = Unit {0}
MayForgetBy NonLinear b gs = Unit {0}

abbrev pub MayForget : Option Neighbour → List Gap → Type 0
MayForget None gs = Unit {0}
MayForget (Some b) gs = MayForgetBy b.kind b gs

-- a gap came into the index, and what stood beside it went from there if it was one
pub record IsPut (beside : Option Neighbour) (gap : Gap) (old new : List Gap) : Type 0 where
  pub rest : List Gap
  pub gone : Forgets beside old rest
  pub put : IsInserted rest gap new

-- the same with what stood on either side
pub record IsJoined (before after : Option Neighbour) (gap : Gap) (old new : List Gap) : Type 0 where
  pub one : List Gap
  pub two : List Gap
  pub first : Forgets before old one
  pub second : Forgets after one two
  pub put : IsInserted two gap new

abbrev pub IsGapBeside : Option Neighbour → Type 0
IsGapBeside None = ⊥
IsGapBeside (Some b) = IsFree b.kind

abbrev pub beside_kind : Option Neighbour → AllocationType
beside_kind None = Free
beside_kind (Some b) = b.kind

-- the piece of that number was freed, and had so many bytes
pub record IsFreed (old : List Chunk) (chunk_id bytes : ℕ) (new : List Chunk) : Type 0 where
  pub chunk : Chunk
  pub at : StandsAt old chunk_id chunk
  pub live : IsFree chunk.kind → ⊥
  pub bytes_is : bytes ≡ chunk.size
  pub released : IsReleased old chunk_id new

-- a piece has the number
pub record IsPieceAt (cs : List Chunk) (chunk_id : ℕ) : Type 0 where
  pub chunk : Chunk
  pub at : StandsAt cs chunk_id chunk
  pub live : IsFree chunk.kind → ⊥

-- the piece of that number has that offset, kind and word
pub record IsPieceOf (cs : List Chunk) (chunk_id offset : ℕ) (kind : AllocationType) (word : ℕ) : Type 0 where
  pub chunk : Chunk
  pub at : StandsAt cs chunk_id chunk
  pub live : IsFree chunk.kind → ⊥
  pub offset_is : offset ≡ chunk.offset
  pub kind_is : kind ≡ chunk.kind
  pub word_is : word ≡ chunk.label.word

-- ---- what a search costs

-- a gap that is tested: long enough, and not behind the chosen one in the order of length and start
abbrev pub is_tried : ℕ → Gap → Gap → Bool
is_tried n g h = is_long n h && (nat_lt h.length g.length || (h.length == g.length && nat_le h.start g.start))

-- the tests: up to the chosen gap, and of all that are long enough where none fits
abbrev pub tested : ℕ → Option Found → List Gap → ℕ
tested n None gs = count_by (is_long n) gs
tested n (Some f) gs = count_by (is_tried n f.gap) gs

-- what a search for n bytes costs
pub record Spends (cs : List Chunk) (n : ℕ) (found : Option Found) (old new : Cost) : Type 0 where
  pub rises : old.comparisons ≤ new.comparisons
  pub compared_to : new.comparisons ≤ old.comparisons + digits (length (gaps_between Free cs Free))
  pub tests : new.tests ≡ old.tests + tested n found (gaps_between Free cs Free)
  pub lookups : new.lookups ≡ old.lookups
