-- What a session answers.
use Rattle.std.specs.Prelude.{ℕ, List}
use Rattle.gpu_values.specs.Refusal.{Refusal, refusal_of}
use Rattle.gpu_values.specs.Report as reports
use Rattle.gpu_values.specs.Report.{report_of}
use Rattle.gpu_device.specs.declared.metal.types.MTLHeap.{MTLHeap}
use Rattle.gpu_run.specs.Shown.{Shown, shown_of}
use Rattle.gpu_run.specs.declared.metal.reply.Reply.{Reply}
use Rattle.gpu_run.specs.declared.metal.reply.Reply.TheVariants as answered

-- the answer to a command
pub data SessionReply : Type 0 where
  Allocated : (shown : Shown MTLHeap) → SessionReply
  Done : SessionReply
  Heaps : (heaps : List MTLHeap) → SessionReply
  Report : (report : reports.Report) → SessionReply
  Capacity : (bytes : ℕ) → SessionReply
  -- no block ahead has a second place
  NoPlace : SessionReply
  -- the number stands for something already, or for nothing
  Busy : SessionReply
  Unbound : SessionReply
  Error : (refusal : Refusal) → SessionReply

-- the answer, of the value that is handed out
abbrev pub reply_of : Reply → SessionReply
reply_of (answered.Allocated g) = Allocated (shown_of g)
reply_of answered.Done = Done
reply_of (answered.Heaps heaps) = Heaps heaps.items
reply_of (answered.Report report) = Report (report_of report)
reply_of (answered.Capacity n) = Capacity n
reply_of answered.NoPlace = NoPlace
reply_of answered.Busy = Busy
reply_of answered.Unbound = Unbound
reply_of (answered.Error e) = Error (refusal_of e)
