-- What a take, a release, a new name and a new word leave of a block.
use Rattle.std.specs.Prelude.{◌≡◌, ℕ, ◌+◌, ◌-◌, ◌^◌, ◌<◌, ◌⊎◌, ◌==◌, not, nat_lt, if◌then◌else◌, List, [], ◌∷◌, map, filter, Contains}
use Rattle.gpu_block_pieces.specs.FreeList.{Extent, FreeList, SomeExtent, IsGap}
use Rattle.gpu_block_pieces.specs.Request.{Request}
use Rattle.gpu_block_pieces.specs.Place.{IsBestFit}

-- x among the elements of xs, in the order of the keys
abbrev pub placed : {A : Type 0} → (A → ℕ) → A → List A → List A
placed key x [] = x ∷ []
placed key x (y ∷ ys) = if nat_lt (key y) (key x) then y ∷ placed key x ys else x ∷ y ∷ ys

abbrev pub with_extent : Extent → List Extent → List Extent
with_extent x xs = placed (λ y. y.start) x xs

abbrev pub without_extent : ℕ → List Extent → List Extent
without_extent start xs = filter (λ y. not (y.start == start)) xs

-- the numbers of the gaps with one more gap, with one less, and with one that begins elsewhere
abbrev pub with_gap : ℕ → ℕ → List (ℕ × ℕ) → List (ℕ × ℕ)
with_gap start chunk_id gaps = placed (λ g. g.0) (start, chunk_id) gaps

abbrev pub without_gap : ℕ → List (ℕ × ℕ) → List (ℕ × ℕ)
without_gap start gaps = filter (λ g. not (g.0 == start)) gaps

abbrev pub moved_gap : ℕ → ℕ → List (ℕ × ℕ) → List (ℕ × ℕ)
moved_gap start to gaps = map (λ g. if g.0 == start then (to, g.1) else g) gaps

-- the request took [start, offset + size) of the best gap: with a rest, the piece has a new number and the rest keeps the gap's
pub record Takes (old : FreeList) (r : Request) (offset chunk_id : ℕ) (new : FreeList) : Type 0 where
  pub start : ℕ
  pub end : ℕ
  pub chosen : IsBestFit old r start end offset
  pub extent : let x : Extent = record { start = start; offset = offset; end = offset + r.size; kind = r.kind; chunk_id = chunk_id; name = r.name; word = 0 } in new.extents ≡ with_extent x old.extents
  pub rest : offset + r.size < end → (chunk_id ≡ old.counter) × (new.counter ≡ old.counter + 1) × (new.gap_chunk_ids ≡ moved_gap start (offset + r.size) old.gap_chunk_ids) × (old.counter < 2 ^ 64 - 1)
  pub no_rest : offset + r.size ≡ end → Contains old.gap_chunk_ids (start, chunk_id) × (new.counter ≡ old.counter) × (new.gap_chunk_ids ≡ without_gap start old.gap_chunk_ids)
  pub same : (new.size ≡ old.size) × (new.granularity ≡ old.granularity)

-- the extent of that number went, and its place joined the gaps on both sides: the number stays that of a gap which ended at its start, and else is the extent's
pub record Releases (old : FreeList) (chunk_id : ℕ) (new : FreeList) : Type 0 where
  pub gone : Extent
  pub held : Contains old.extents gone
  pub numbered : gone.chunk_id ≡ chunk_id
  pub extents : new.extents ≡ without_extent gone.start old.extents
  pub numbers : ((s : ℕ) × IsGap old s gone.start × (new.gap_chunk_ids ≡ without_gap gone.end old.gap_chunk_ids)) ⊎
      (((s : ℕ) → IsGap old s gone.start → ⊥) × (new.gap_chunk_ids ≡ with_gap gone.start chunk_id (without_gap gone.end old.gap_chunk_ids)))
  pub same : (new.size ≡ old.size) × (new.granularity ≡ old.granularity) × (new.counter ≡ old.counter)

-- what a caller says anew of a piece: its name, or the word that is kept with it
pub data Said : Type 0 where
  named : List ℕ → Said
  worded : ℕ → Said

abbrev pub relabel : Said → Extent → Extent
relabel (named name) x = record x { name = name }
relabel (worded word) x = record x { word = word }

-- the extent with what was said of it, if it has the number
abbrev pub relabelled : ℕ → Said → Extent → Extent
relabelled chunk_id said x = if x.chunk_id == chunk_id then relabel said x else x

-- the extent of that number has another name or word
pub record Relabels (old : FreeList) (chunk_id : ℕ) (said : Said) (new : FreeList) : Type 0 where
  pub held : SomeExtent old (λ x. x.chunk_id ≡ chunk_id)
  pub extents : new.extents ≡ map (relabelled chunk_id said) old.extents
  pub same : (new.size ≡ old.size) × (new.granularity ≡ old.granularity) × (new.counter ≡ old.counter) × (new.gap_chunk_ids ≡ old.gap_chunk_ids)

abbrev pub Renames : FreeList → ℕ → List ℕ → FreeList → Type 0
Renames old chunk_id name new = Relabels old chunk_id (named name) new

abbrev pub SetsWord : FreeList → ℕ → ℕ → FreeList → Type 0
SetsWord old chunk_id word new = Relabels old chunk_id (worded word) new
