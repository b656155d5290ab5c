-- A handle may go to another thread, as what lies behind it may.
use denote.Param.Send.{IsSend, owning_send, sendable}
use Rattle.gpu_capture.specs.contracts.capture.Capture as Capture
use Rattle.gpu_c.proofs.Crosses.{capture_send}
use Rattle.gpu_c.proofs.HandleCrosses.{handle_keyless}
use Rattle.gpu_c.specs.contracts.capture_handle.CaptureHandle.{the_row, the_type}

pub send : IsSend the_row
send = owning_send the_type (search sendable, tt) (λ h. handle_keyless Capture.the_row capture_send h.opaque h.value) (λ k h w. tt)
