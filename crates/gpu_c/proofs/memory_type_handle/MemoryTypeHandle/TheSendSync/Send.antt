-- A handle may go to another thread, as what lies behind it may.
use denote.Param.Send.{IsSend, owning_send, sendable}
use Rattle.gpu_c.specs.contracts.memory_type.AwaitingType as AwaitingType
use Rattle.gpu_c.proofs.Crosses.{awaiting_send}
use Rattle.gpu_c.proofs.HandleCrosses.{handle_keyless}
use Rattle.gpu_c.specs.contracts.memory_type_handle.MemoryTypeHandle.{the_row, the_type}

pub send : IsSend the_row
send = owning_send the_type (search sendable, tt) (λ h. handle_keyless AwaitingType.the_row awaiting_send h.opaque h.value) (λ k h w. tt)
