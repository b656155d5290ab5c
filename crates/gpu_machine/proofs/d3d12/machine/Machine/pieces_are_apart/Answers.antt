use Rattle.std.proofs.Common.{ℕ, subst}
use Rattle.gpu_core.specs.Apart.{AreDistinct, SharesNoByte}
use Rattle.gpu_core.specs.declared.piece.Piece.{Piece}
use Rattle.gpu_core.proofs.Apart.{pieces_apart}
use Rattle.gpu_d3d12.specs.Blocks.{is_same_heap}
use Rattle.gpu_device.specs.declared.d3d12.types.ID3D12Heap.{ID3D12Heap}
use Rattle.gpu_pool.specs.Live.{IsLive}
use Rattle.gpu_pool.specs.State.{kind_at}
use Rattle.gpu_machine.specs.D3D12State.{State}
use Rattle.gpu_machine.proofs.d3d12.machine.Machine.pieces_are_apart.Goals as goal

pub returns-clause-apart : goal.returns-clause-apart
returns-clause-apart c =
    let r = c.self.inside.requests in
    subst
    (λ (s : State). (t : ℕ) (p : Piece ID3D12Heap) (u : ℕ) (q : Piece ID3D12Heap) → IsLive is_same_heap s.requests.slots t p → IsLive is_same_heap s.requests.slots u q → AreDistinct t p u q → SharesNoByte t p u q)
    c.self.view_is (pieces_apart is_same_heap r.slots (λ t. ((kind_at r.kinds t).1, c.blocks_are_sound.ensures.sound t)))
