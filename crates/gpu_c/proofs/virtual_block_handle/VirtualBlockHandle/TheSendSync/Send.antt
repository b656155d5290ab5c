-- A handle may go to another thread, as what lies behind it may.
use denote.Param.Send.{IsSend, owning_send, sendable}
use Rattle.gpu_c.specs.contracts.virtual_block.VirtualBlock as VirtualBlock
use Rattle.gpu_c.proofs.Crosses.{block_send}
use Rattle.gpu_c.proofs.HandleCrosses.{handle_keyless}
use Rattle.gpu_c.specs.contracts.virtual_block_handle.VirtualBlockHandle.{the_row, the_type}

pub send : IsSend the_row
send = owning_send the_type (search sendable, tt) (λ h. handle_keyless VirtualBlock.the_row block_send h.opaque h.value) (λ k h w. tt)
