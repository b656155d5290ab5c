-- Chunk ids in slots, and the chains in which they are found: each link leads to the greatest id of its chain that is left.
use Rattle.std.specs.Prelude.{◌≡◌, ◌≢◌, ℕ, ◌+◌, ◌-◌, ◌/◌, ◌^◌, ◌<◌, ◌≤◌, max, nat_le, if◌then◌else◌, List, [], ◌∷◌, ◌++◌, map, length, replicate, Option, Some, None, MatchOption, cond, slice_index_or}
use Rattle.std.specs.Option.{option_map}
use Rattle.gpu_block_chunks.specs.declared.chain.link.LinkedChunk.{LinkedChunk}
use Rattle.gpu_block_chunks.specs.declared.chain.chunk_ids.ChunkIds.{ChunkIds}
use Rattle.gpu_block_chunks.specs.declared.chain.eras.Eras.{Eras}
use Rattle.gpu_block_chunks.specs.Chain.{is_at}
use Rattle.gpu_block_chunks.specs.Eras.{newest, own_chain}

-- the id in a slot
abbrev pub id_at : List (Option ℕ) → ℕ → Option ℕ
id_at ids slot = slice_index_or ids slot None

-- the slot of an id
abbrev pub slot_of : List (Option ℕ) → ℕ → Option ℕ
slot_of [] k = None
slot_of (id ∷ ids) k = cond (is_at id k) (Some 0) (option_map (λ s. s + 1) (slot_of ids k))

-- the id of a chunk, if there is one
abbrev pub id_of : Option LinkedChunk → Option ℕ
id_of chunk = option_map (λ n. (n.chunk).chunk_id) chunk

-- the ids of the chunks in slots, of which there are so many at least
abbrev pub ids_of : List (Option LinkedChunk) → ℕ → List (Option ℕ)
ids_of chunks slots = map id_of chunks ++ replicate (slots - length chunks) None

-- the slot to which a head leads, or which follows another
abbrev pub link_at : List (Option ℕ) → List (Option ℕ) → ℕ → Option ℕ → Option ℕ
link_at heads followers chain None = slice_index_or heads chain None
link_at heads followers chain (Some slot) = slice_index_or followers slot None

-- the slot has the greatest id of which that holds
pub record HasGreatest (ids : List (Option ℕ)) (P : ℕ → Type 0) (slot : ℕ) : Type 0 where
  pub id : ℕ
  pub at : id_at ids slot ≡ Some id
  pub holds : P id
  pub greatest : (other k : ℕ) → id_at ids other ≡ Some k → P k → k ≤ id

-- the link leads to the slot with the greatest id of which that holds, if there is one
abbrev pub LeadsTo : List (Option ℕ) → (ℕ → Type 0) → Option ℕ → Type 0
LeadsTo ids P link = MatchOption link ((slot k : ℕ) → id_at ids slot ≡ Some k → P k → ⊥) (HasGreatest ids P)

-- the slot before has an id of the chain, if there is a slot
abbrev pub IsOf : List (Option ℕ) → (ℕ → ℕ) → ℕ → Option ℕ → Type 0
IsOf ids chain_of chain None = Unit {0}
IsOf ids chain_of chain (Some slot) = (k : ℕ) × (id_at ids slot ≡ Some k) × (chain_of k ≡ chain)

-- the id is below that of a slot, if there is one
abbrev pub IsBelow : List (Option ℕ) → Option ℕ → ℕ → Type 0
IsBelow ids None k = Unit {0}
IsBelow ids (Some slot) k = (top : ℕ) → id_at ids slot ≡ Some top → k < top

-- each link leads to the next lower id of its chain, and each head to the greatest
abbrev pub AreLinked : List (Option ℕ) → (ℕ → ℕ) → ℕ → (ℕ → Option ℕ → Option ℕ) → Type 0
AreLinked ids chain_of chains link =
    (chain : ℕ) (before : Option ℕ) → chain < chains → IsOf ids chain_of chain before
    → LeadsTo ids (λ k. (chain_of k ≡ chain) × IsBelow ids before k) (link chain before)

-- the ids in slots are distinct and linked in their chains, whose heads are no fewer than slots
pub record AreChains (chain_of : ℕ → ℕ) (heads followers ids : List (Option ℕ)) : Type 0 where
  pub inside : (k : ℕ) → chain_of k < length heads
  pub linked : AreLinked ids chain_of (length heads) (link_at heads followers)
  pub distinct : (s t k : ℕ) → id_at ids s ≡ Some k → id_at ids t ≡ Some k → s ≡ t
  pub long : length ids ≡ length followers
  pub enough : length followers ≤ length heads
  pub few : length followers < 2 ^ 32

-- no id is later than the latest
abbrev pub AreKnown : Eras → List (Option ℕ) → Type 0
AreKnown eras ids = (slot k : ℕ) → id_at ids slot ≡ Some k → k ≤ eras.latest

-- the chunks in slots are found: each id is in the chain that it got when it was new, each slot can have a follower, there are no fewer
-- chains than slots, and each chain has a head
pub record AreFound (eras : Eras) (heads followers : List (Option ℕ)) (chunks : List (Option LinkedChunk)) : Type 0 where
  pub chained : AreChains (own_chain eras) heads followers (ids_of chunks (length followers))
  pub known : AreKnown eras (ids_of chunks (length followers))
  pub short : length followers ≤ 2 ^ newest eras
  pub headed : 2 ^ newest eras ≤ length heads
  pub eras_few : newest eras < 33
  pub enough : length chunks ≤ length followers

-- how many heads there are once so many are asked for: where there are fewer, a quarter comes at least
abbrev pub heads_for : (heads count : ℕ) → ℕ
heads_for heads count = if nat_le count heads then heads else max count (heads + heads / 4)

-- chunks that were found are found still
abbrev pub KeepsFound : ChunkIds → ChunkIds → Type 0
KeepsFound old new =
    (chunks : List (Option LinkedChunk)) → AreFound old.eras old.heads.items old.followers.items chunks
    → AreFound new.eras new.heads.items new.followers.items chunks

-- the slot has a greater id
abbrev pub IsAbove : List (Option ℕ) → ℕ → ℕ → Type 0
IsAbove ids slot k = (id : ℕ) × (id_at ids slot ≡ Some id) × (k < id)

-- the link leads to no greater id
abbrev pub NoneAbove : List (Option ℕ) → Option ℕ → ℕ → Type 0
NoneAbove ids link k = (slot id : ℕ) → link ≡ Some slot → id_at ids slot ≡ Some id → id ≤ k

-- the place of an id in its chain is behind that slot, or at the head
pub record IsPlace (chain_of : ℕ → ℕ) (heads followers ids : List (Option ℕ)) (chain k : ℕ) (before : Option ℕ) : Type 0 where
  pub inside : IsOf ids chain_of chain before
  pub below : IsBelow ids before k
  pub last : NoneAbove ids (link_at heads followers chain before) k

-- one link changes, and no other
pub record ChangesLink (old new : ℕ → Option ℕ → Option ℕ) (chain : ℕ) (before link : Option ℕ) : Type 0 where
  pub changed : new chain before ≡ link
  pub others : (other : ℕ) (slot : Option ℕ) → slot ≢ before → new other slot ≡ old other slot
  pub heads : (other : ℕ) → other ≢ chain → new other None ≡ old other None

-- a slot comes between one and its follower, and no other link changes
pub record PutsBehind (old new : ℕ → Option ℕ → Option ℕ) (chain : ℕ) (before : Option ℕ) (slot : ℕ) : Type 0 where
  pub first : new chain before ≡ Some slot
  pub rest : (other : ℕ) → new other (Some slot) ≡ old chain before
  pub others : (other : ℕ) (p : Option ℕ) → p ≢ before → p ≢ Some slot → new other p ≡ old other p
  pub heads : (other : ℕ) → other ≢ chain → new other None ≡ old other None
