-- What a session answers.
use Rattle.std.specs.Prelude.{ℕ, List, map, Option, string_bytes}
use Rattle.std.specs.Option.{option_map}
use Rattle.gpu_values.specs.Refusal.{Refusal, refusal_of}
use Rattle.gpu_values.specs.Report as reports
use Rattle.gpu_values.specs.Report.{report_of}
use Rattle.gpu_core.specs.declared.piece.Piece.{Piece}
use Rattle.gpu_device.specs.declared.d3d12.types.ID3D12Heap.{ID3D12Heap}
use Rattle.gpu_d3d12.specs.declared.question.CommittedAllocationStatistics.{CommittedAllocationStatistics}
use Rattle.gpu_run.specs.Shown.{Shown, shown, shown_of}
use Rattle.gpu_run.specs.declared.d3d12.reply.Made.{Made as MadeResource}
use Rattle.gpu_run.specs.declared.d3d12.reply.Reply.{Reply}
use Rattle.gpu_run.specs.declared.d3d12.reply.Reply.TheVariants as answered

-- what is shown of a new resource: the driver's handle of it, its size, and its piece where it is placed
pub record ShownResource : Type 0 where
  pub number : ℕ
  pub size : ℕ
  pub piece : Option (Shown ID3D12Heap)

-- the reply to a command
pub data SessionReply : Type 0 where
  Allocated : (shown : Shown ID3D12Heap) → SessionReply
  Made : (shown : ShownResource) → SessionReply
  Done : SessionReply
  Leaks : (texts : List (List ℕ)) → SessionReply
  Report : (report : reports.Report) → SessionReply
  Capacity : (bytes : ℕ) → SessionReply
  Committed : (statistics : Option CommittedAllocationStatistics) → SessionReply
  -- no block ahead has a second place
  NoPlace : SessionReply
  -- the number stands for something already, or for nothing
  Busy : SessionReply
  Unbound : SessionReply
  Error : (refusal : Refusal) → SessionReply

-- what is shown of a resource of the t-th memory type, of this number and size, in this piece where it is placed
abbrev pub shown_resource : (t : ℕ) → Option (Piece ID3D12Heap) → (number size : ℕ) → ShownResource
shown_resource t piece number size = record { number = number; size = size; piece = option_map (shown t) piece }

-- what a reply tells of a resource
abbrev pub shown_made : MadeResource → ShownResource
shown_made m = record { number = m.resource.0; size = m.size; piece = option_map shown_of m.piece }

-- the reply in the words of the model
abbrev pub reply_of : Reply → SessionReply
reply_of (answered.Allocated g) = Allocated (shown_of g)
reply_of (answered.Made m) = Made (shown_made m)
reply_of answered.Done = Done
reply_of (answered.Leaks texts) = Leaks (map string_bytes texts.items)
reply_of (answered.Report report) = Report (report_of report)
reply_of (answered.Capacity n) = Capacity n
reply_of (answered.Committed statistics) = Committed statistics
reply_of answered.NoPlace = NoPlace
reply_of answered.Busy = Busy
reply_of answered.Unbound = Unbound
reply_of (answered.Error e) = Error (refusal_of e)
