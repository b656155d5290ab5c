-- A chain's chunks in slots, the number in each slot, and links from a chunk to the slots of the ones beside it.
use Rattle.std.specs.Prelude.{◌≡◌, ◌≢◌, ℕ, ◌^◌, ◌<◌, ◌≤◌, List, Option, Some, None, IfSome, IsSome, length, slice_index_or}
use Rattle.std.specs.Option.{option_map}
use Rattle.gpu_block_chunks.specs.declared.chain.eras.Eras.{Eras}
use Rattle.gpu_block_chunks.specs.declared.chain.link.Link.{Link}
use Rattle.gpu_block_chunks.specs.declared.chain.link.LinkedChunk.{LinkedChunk}
use Rattle.gpu_block_chunks.specs.Chain.{Node}
use Rattle.gpu_block_chunks.specs.ChunkIds.{id_at, id_of, ids_of, slot_of, AreFound}

-- the number and the chunk in each slot, and for how many more chunks there is room
pub record Slotted : Type 0 where
  pub ids : List (Option ℕ)
  pub chunks : List (Option LinkedChunk)
  pub room : ℕ

abbrev pub link_chunk_id : Option Link → Option ℕ
link_chunk_id None = None
link_chunk_id (Some link) = Some link.chunk_id

abbrev pub link_slot : Option Link → Option ℕ
link_slot None = None
link_slot (Some link) = Some link.slot

-- the number of a slot, if there is one
abbrev pub number_at : List (Option ℕ) → Option ℕ → Option ℕ
number_at ids None = None
number_at ids (Some s) = id_at ids s

-- a slot has a number, if there is one
abbrev pub IsTaken : List (Option ℕ) → Option ℕ → Type 0
IsTaken ids None = Unit {0}
IsTaken ids (Some s) = IsSome (id_at ids s)

-- a chunk with the numbers of the ones beside it, and not their slots
abbrev pub node_value : List (Option ℕ) → LinkedChunk → Node
node_value ids n = record { chunk = n.chunk; prev = number_at ids n.prev; next = number_at ids n.next }

-- what stands in a slot, if there is one
abbrev pub stored_in : List (Option LinkedChunk) → Option ℕ → Option LinkedChunk
stored_in chunks None = None
stored_in chunks (Some s) = slice_index_or chunks s None

-- the chunk of a number, with its links
abbrev pub stored_at : Slotted → ℕ → Option LinkedChunk
stored_at nodes k = stored_in nodes.chunks (slot_of nodes.ids k)

-- the node that is held under a number
abbrev pub held_at : Slotted → ℕ → Option Node
held_at nodes k = option_map (node_value nodes.ids) (stored_at nodes k)

-- for how many more nodes there is room
abbrev pub room_of : Slotted → ℕ
room_of nodes = nodes.room

-- the slot of a link has its number
abbrev pub LeadsIn : List (Option ℕ) → Option Link → Type 0
LeadsIn ids None = Unit {0}
LeadsIn ids (Some link) = id_at ids link.slot ≡ Some link.chunk_id

abbrev pub Leads : Slotted → Option Link → Type 0
Leads nodes link = LeadsIn nodes.ids link

-- the chunk that a link names is held, and stands in the link's slot
abbrev pub Reaches : Slotted → Option Link → Type 0
Reaches nodes link = Leads nodes link × IfSome (link_chunk_id link) (λ k. IsSome (held_at nodes k))

-- each link to a chunk that was held leads right
abbrev pub KeepsReached : Slotted → Slotted → Type 0
KeepsReached old new = (link : Option Link) → Reaches old link → Leads new link

-- each link that led right still does, but for those to that number
abbrev pub KeepsOthers : Slotted → Slotted → ℕ → Type 0
KeepsOthers old new gone = (link : Option Link) → Leads old link → link_chunk_id link ≢ Some gone → Leads new link

-- no other node is linked to that number
abbrev pub IsAlone : ℕ → (ℕ → Option Node) → Type 0
IsAlone k f = (q : ℕ) (n : Node) → q ≢ k → f q ≡ Some n → (n.prev ≢ Some k) × (n.next ≢ Some k)

-- each slot has the number of its chunk, no two have one, and a chunk is linked to slots with a number
pub record AreSound (ids : List (Option ℕ)) (chunks : List (Option LinkedChunk)) : Type 0 where
  pub numbered : (s : ℕ) → id_at ids s ≡ id_of (slice_index_or chunks s None)
  pub enough : length chunks ≤ length ids
  pub few : length ids < 2 ^ 32
  pub distinct : (s t k : ℕ) → id_at ids s ≡ Some k → id_at ids t ≡ Some k → s ≡ t
  pub prev : (s : ℕ) (n : LinkedChunk) → slice_index_or chunks s None ≡ Some n → IsTaken ids n.prev
  pub next : (s : ℕ) (n : LinkedChunk) → slice_index_or chunks s None ≡ Some n → IsTaken ids n.next

-- the chunks in slots are sound with their own numbers, by which they are found
pub record AreNodes (eras : Eras) (heads followers : List (Option ℕ)) (chunks : List (Option LinkedChunk)) : Type 0 where
  pub found : AreFound eras heads followers chunks
  pub sound : AreSound (ids_of chunks (length followers)) chunks
