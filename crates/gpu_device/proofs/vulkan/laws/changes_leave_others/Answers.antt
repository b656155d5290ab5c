use Rattle.gpu_device.proofs.Maps.{get-insert_other, get-remove_other}
use Rattle.gpu_device.proofs.Changes.{get-mapped_other, get-unmapped_other}
use Rattle.gpu_device.proofs.Writes.{get_elsewhere}
use Rattle.gpu_device.proofs.vulkan.laws.changes_leave_others.Goals as goal

pub returns : goal.returns
returns c = record {
  added = λ held number other e apart. get-insert_other held number other e apart;
  mapped = λ held number other xs apart. get-mapped_other held number xs other apart;
  written = λ held number other start ws apart. get_elsewhere held number start ws other apart;
  unmapped = get-unmapped_other;
  removed = get-remove_other;
}
