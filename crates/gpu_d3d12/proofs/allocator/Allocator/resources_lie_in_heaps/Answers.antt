use Rattle.gpu_d3d12.specs.DeviceVersion.{device_of}
use Rattle.gpu_d3d12.specs.State.{beside_of}
use Rattle.gpu_d3d12.proofs.Leaving.{live_in_heap}
use Rattle.gpu_d3d12.proofs.allocator.Allocator.resources_lie_in_heaps.Goals as goal

pub returns : goal.returns
returns g c =
    let V = g.D.D3D12Device in
    let s = c.args.self.now in
    λ r a live. live_in_heap s.setup.tier (beside_of V s) (V.held (device_of s.device)) s.slots c.device.ensures.holds a live.piece (c.allocations_are_apart.ensures.inside a live.piece)
