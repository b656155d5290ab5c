-- A handle may go to another thread, as what lies behind it may.
use denote.Param.Send.{IsSend, owning_send, sendable}
use Rattle.gpu_c.proofs.AllocatorHandleWords.{Behind}
use Rattle.gpu_c.proofs.Crosses.{machine_send}
use Rattle.gpu_c.proofs.HandleCrosses.{handle_keyless}
use Rattle.gpu_c.specs.contracts.allocator_handle.AllocatorHandle.{the_row, the_type}

pub send : IsSend the_row
send = owning_send the_type (search sendable, tt) (λ h. handle_keyless Behind machine_send h.opaque h.value) (λ k h w. tt)
