-- A handle may go to another thread, as what lies behind it may.
use denote.Param.Send.{IsSend, owning_send, sendable}
use Rattle.gpu_machine.specs.contracts.d3d12.machine.Machine as Machine
use Rattle.gpu_c.proofs.Crosses.{d3d12_send}
use Rattle.gpu_c.proofs.HandleCrosses.{handle_keyless}
use Rattle.gpu_c.specs.contracts.heaps_handle.HeapsHandle.{the_row, the_type}

pub send : IsSend the_row
send = owning_send the_type (search sendable, tt) (λ h. handle_keyless Machine.the_row d3d12_send h.opaque h.value) (λ k h w. tt)
