-- A second place for a piece of an allocator of DirectX 12's memory: what C asks and is told.
use Rattle.std.specs.Prelude.{◌≡◌, ℕ, Bool, List, Option, Some, None, Ok}
use Rattle.std.specs.Option.{is_some}
use Rattle.gpu_core.specs.declared.piece.Piece.{Piece}
use Rattle.gpu_device.specs.declared.d3d12.types.ID3D12Heap.{ID3D12Heap}
use Rattle.gpu_d3d12.specs.declared.describe.AllocationCreateDesc.{AllocationCreateDesc}
use Rattle.gpu_machine.specs.D3D12Move.{Proposes}
use Rattle.gpu_machine.specs.D3D12State.{State}
use Rattle.gpu_c.specs.Heaps.{IsAsked, Says, piece_told, no_heaps_piece}
use Rattle.gpu_c.specs.declared.heaps_values.HeapsPiece.{HeapsPiece}
use Rattle.gpu_c.specs.declared.heaps_values.HeapsRequest.{HeapsRequest}

-- a request that is served, of the piece's size
abbrev pub IsOfPiece : HeapsPiece → HeapsRequest → List ℕ → Type 0
IsOfPiece p r name = IsAsked r name × (r.size ≡ p.piece.size)

-- the second place, of the piece's memory type, or none
abbrev pub place_told : (memory_type : ℕ) → Option (Piece ID3D12Heap) → HeapsPiece
place_told t None = no_heaps_piece
place_told t (Some to) = record { memory_type = t; piece = piece_told to }

-- a live piece has the second place that is told, or stays
pub record IsProposed (old : State) (p : HeapsPiece) (r : HeapsRequest) (name : List ℕ) (moves : Bool) (out : HeapsPiece) (new : State) : Type 0 where
  pub idle : old.requests.awaited ≡ None
  pub piece : Piece ID3D12Heap
  pub named : piece_told piece ≡ p.piece
  pub desc : AllocationCreateDesc
  pub says : Says r name desc
  pub place : Option (Piece ID3D12Heap)
  pub moves_is : moves ≡ is_some place
  pub told : out ≡ place_told p.memory_type place
  pub proposes : Proposes p.memory_type piece desc old (Ok place) new
