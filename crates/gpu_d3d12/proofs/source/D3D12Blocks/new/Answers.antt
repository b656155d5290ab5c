use Rattle.std.proofs.Common.{◌∙◌, sym, ap}
use Rattle.gpu_d3d12.specs.DeviceVersion.{device_of}
use Rattle.gpu_d3d12.specs.declared.device_version.ID3D12DeviceVersion.{ID3D12DeviceVersion}
use Rattle.gpu_d3d12.specs.Source.{beside}
use Rattle.gpu_d3d12.proofs.Changing.{begins, all_beside}
use Rattle.gpu_d3d12.proofs.source.D3D12Blocks.new.Goals as goal

pub returns-clause-beside : goal.returns-clause-beside
returns-clause-beside g c =
    let V = g.D.D3D12Device in
    let held = V.held (device_of c.args.device) in
    ap (λ (v : ID3D12DeviceVersion g.row.D.Denot). beside (V.held (device_of v)) held) c.of-first.ensures ∙ sym (all_beside held held (begins c.args.tier held).1)
