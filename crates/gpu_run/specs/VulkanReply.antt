-- What a session answers.
use Rattle.std.specs.Prelude.{ℕ, Bool, List}
use Rattle.gpu_values.specs.Refusal.{Refusal}
use Rattle.gpu_values.specs.Report as reports

-- what is shown of a new allocation
pub record Shown : Type 0 where
  pub memory_type : ℕ
  pub slot : ℕ
  pub offset : ℕ
  pub size : ℕ
  pub chunk_id : ℕ
  pub dedicated : Bool
  pub mapped : Bool

pub data SessionReply : Type 0 where
  Allocated : (shown : Shown) → SessionReply
  Done : SessionReply
  Bytes : (bytes : List ℕ) → SessionReply
  Report : (report : reports.Report) → SessionReply
  Leaks : (texts : List (List ℕ)) → SessionReply
  Capacity : (bytes : ℕ) → SessionReply
  -- the number stands for something already, or for nothing
  Busy : SessionReply
  Unbound : SessionReply
  -- no block ahead has a second place
  NoPlace : SessionReply
  -- the allocation has no bytes, or not so many
  Unmapped : SessionReply
  OutOfRange : SessionReply
  Error : (refusal : Refusal) → SessionReply
