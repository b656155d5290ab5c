-- What a second place for a piece of DirectX 12's machine is, and what looking for it leaves.
use Rattle.std.specs.Prelude.{◌≡◌, Bool, true, false, ℕ, Option, Some, None, Result}
use Rattle.gpu_values.specs.Refusal.{Refusal, refusal_in, invalid_allocation_create_desc}
use Rattle.gpu_values.specs.declared.error.AllocationError.{AllocationError}
use Rattle.gpu_core.specs.declared.piece.Piece.{Piece}
use Rattle.gpu_device.specs.declared.d3d12.types.ID3D12Heap.{ID3D12Heap}
use Rattle.gpu_d3d12.specs.Blocks.{is_same_heap}
use Rattle.gpu_d3d12.specs.Describe.{request_of}
use Rattle.gpu_d3d12.specs.Step.{is_again}
use Rattle.gpu_d3d12.specs.declared.describe.AllocationCreateDesc.{AllocationCreateDesc}
use Rattle.gpu_pool.specs.Move.{ProposesIdle}
use Rattle.gpu_pool.specs.RequestState.{answer_awaited}
use Rattle.gpu_pool.specs.declared.requests.Awaited.{Awaited}
use Rattle.gpu_machine.specs.D3D12State.{State}

-- the call is refused for this cause, and nothing changes
abbrev pub IsRefused : Refusal → State → Result (Option (Piece ID3D12Heap)) AllocationError → State → Type 0
IsRefused refusal old result new = (refusal_in result ≡ Some refusal) × (new ≡ old)

module _ (t : ℕ) (p : Piece ID3D12Heap) (d : AllocationCreateDesc) where
  abbrev pub ProposesBy : (again : Bool) → State → Result (Option (Piece ID3D12Heap)) AllocationError → State → Type 0
  ProposesBy false old result new = IsRefused invalid_allocation_create_desc old result new
  ProposesBy true old result new = ProposesIdle is_same_heap t p (request_of d) old.requests result new.requests × (new ≡ record old { requests = new.requests })

  abbrev pub ProposesIn : Option Awaited → State → Result (Option (Piece ID3D12Heap)) AllocationError → State → Type 0
  ProposesIn (Some _) old result new = IsRefused answer_awaited old result new
  ProposesIn None old result new = ProposesBy (is_again p.size d) old result new

  -- a second place is looked for where no question is open, for the piece's request again
  abbrev pub Proposes : State → Result (Option (Piece ID3D12Heap)) AllocationError → State → Type 0
  Proposes old result new = ProposesIn old.requests.awaited old result new
