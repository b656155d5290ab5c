-- A second place for a piece of an allocator: what C asks and is told.
use Rattle.std.specs.Prelude.{◌≡◌, ℕ, Bool, List, Option, Some, None, Ok}
use Rattle.std.specs.Option.{is_some}
use Rattle.gpu_core.specs.declared.piece.Piece.{Piece}
use Rattle.gpu_vulkan.specs.declared.describe.AllocationCreateDesc.{AllocationCreateDesc}
use Rattle.gpu_machine.specs.VulkanDescription.{Description, description_of}
use Rattle.gpu_machine.specs.VulkanMove.{Proposes}
use Rattle.gpu_c.specs.Allocator.{State, Says, Names, is_same_block, piece_told, no_allocator_piece}
use Rattle.gpu_c.specs.declared.allocator_values.AllocatorPiece.{AllocatorPiece}
use Rattle.gpu_c.specs.declared.allocator_values.AllocatorRequest.{AllocatorRequest}
use Rattle.gpu_c.specs.declared.mapped_memory.MappedMemory.{MappedMemory}

-- a request that is served, of the piece's size, for memory that is shared
pub record IsOfPiece (p : AllocatorPiece) (r : AllocatorRequest) (name : List ℕ) : Type 0 where
  pub description : Description
  pub says : Says r name description
  pub size : r.size ≡ p.piece.size
  pub shared : r.scheme ≡ 1

-- the second place, of the piece's memory type, or none
abbrev pub place_told : (memory_type : ℕ) → Option (Piece MappedMemory) → AllocatorPiece
place_told t None = no_allocator_piece
place_told t (Some to) = record { memory_type = t; address = to.handle.address; piece = piece_told to }

-- a live piece has the second place that is told, or stays
pub record IsProposed (old : State) (p : AllocatorPiece) (r : AllocatorRequest) (name : List ℕ) (moves : Bool) (out : AllocatorPiece) (new : State) : Type 0 where
  pub idle : old.requests.awaited ≡ None
  pub piece : Piece MappedMemory
  pub named : Names p piece
  pub desc : AllocationCreateDesc
  pub says : Says r name (description_of desc)
  pub place : Option (Piece MappedMemory)
  pub moves_is : moves ≡ is_some place
  pub told : out ≡ place_told p.memory_type place
  pub proposes : Proposes is_same_block p.memory_type piece desc old (Ok place) new
