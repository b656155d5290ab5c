use Rattle.gpu_device.proofs.HeapsAndResources.{heap_undone, committed_undone, placed_undone}
use Rattle.gpu_device.proofs.d3d12.laws.giving_back_undoes.Goals as goal

pub returns : goal.returns
returns c = record { heap = heap_undone; committed = committed_undone; placed = placed_undone }
