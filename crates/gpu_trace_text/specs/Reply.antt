-- What is answered to a line of a trace of either sort.
use Rattle.std.specs.Prelude.{ℕ, List, [], ◌∷◌, ◌++◌}
use Rattle.gpu_trace_text.specs.declared.reply.Reply.{Reply}
use Rattle.gpu_trace_text.specs.declared.reply.Reply.TheVariants.{Block, Device}
use Rattle.gpu_block_session.specs.BlockReply as block
use Rattle.gpu_trace_text.specs.DeviceReply as device

abbrev pub reply_text : Reply → List ℕ
reply_text (Block r) = block.reply_text r
reply_text (Device r) = device.reply_text r

-- the text and the end of its line
abbrev pub reply_line : Reply → List ℕ
reply_line r = reply_text r ++ 10 ∷ []
