-- A handle may go to another thread, as what lies behind it may.
use denote.Param.Send.{IsSend, owning_send, sendable}
use Rattle.gpu_ring.specs.contracts.ring.Ring as Ring
use Rattle.gpu_c.proofs.Crosses.{ring_send}
use Rattle.gpu_c.proofs.HandleCrosses.{handle_keyless}
use Rattle.gpu_c.specs.contracts.ring_handle.RingHandle.{the_row, the_type}

pub send : IsSend the_row
send = owning_send the_type (search sendable, tt) (λ h. handle_keyless Ring.the_row ring_send h.opaque h.value) (λ k h w. tt)
