-- A second place of DirectX 12's machine, as its code comes to it.
use Rattle.std.proofs.Common.{◌≡◌, sym, subst, ℕ, Bool, true, Option, None, Result}
use Rattle.gpu_values.specs.declared.error.AllocationError.{AllocationError}
use Rattle.gpu_core.specs.declared.piece.Piece.{Piece}
use Rattle.gpu_device.specs.declared.d3d12.types.ID3D12Heap.{ID3D12Heap}
use Rattle.gpu_d3d12.specs.Blocks.{is_same_heap}
use Rattle.gpu_d3d12.specs.Describe.{request_of}
use Rattle.gpu_d3d12.specs.Step.{is_again}
use Rattle.gpu_d3d12.specs.declared.describe.AllocationCreateDesc.{AllocationCreateDesc}
use Rattle.gpu_pool.specs.Move.{ProposesIdle}
use Rattle.gpu_pool.specs.declared.requests.Awaited.{Awaited}
use Rattle.gpu_machine.specs.D3D12Move.{ProposesBy, ProposesIn, Proposes}
use Rattle.gpu_machine.specs.D3D12State.{State}

pub proposed : (t : ℕ) (p : Piece ID3D12Heap) (d : AllocationCreateDesc) (old new : State) → old.requests.awaited ≡ None → is_again p.size d ≡ true → (result : Result (Option (Piece ID3D12Heap)) AllocationError)
    → ProposesIdle is_same_heap t p (request_of d) old.requests result new.requests → new ≡ record old { requests = new.requests } → Proposes t p d old result new
proposed t p d old new shut valid result proposes others =
    subst (λ (o : Option Awaited). ProposesIn t p d o old result new) (sym shut) (subst (λ (v : Bool). ProposesBy t p d v old result new) (sym valid) (proposes, others))
