-- A handle may go to another thread, as what lies behind it may.
use denote.Param.Send.{IsSend, owning_send, sendable}
use Rattle.gpu_machine.specs.contracts.metal.machine.Machine as Machine
use Rattle.gpu_c.proofs.Crosses.{metal_send}
use Rattle.gpu_c.proofs.HandleCrosses.{handle_keyless}
use Rattle.gpu_c.specs.contracts.metal_heaps_handle.MetalHeapsHandle.{the_row, the_type}

pub send : IsSend the_row
send = owning_send the_type (search sendable, tt) (λ h. handle_keyless Machine.the_row metal_send h.opaque h.value) (λ k h w. tt)
