use Rattle.gpu_device.proofs.Maps.{get-insert_other}
use Rattle.gpu_device.proofs.HeapsAndSets.{get-without_heap_other, get-with_member_other, get-without_member_other, get-with_commit_other}
use Rattle.gpu_device.proofs.metal.laws.changes_leave_others.Goals as goal

pub returns : goal.returns
returns c = record {
  added = λ held number other e apart. get-insert_other held number other e apart;
  released = get-without_heap_other;
  member_added = get-with_member_other;
  member_removed = get-without_member_other;
  committed = get-with_commit_other;
}
