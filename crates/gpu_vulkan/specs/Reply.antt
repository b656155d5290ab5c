-- What a call answers: each reply has the name of the call that it answers, or says what came of it.
use Rattle.std.specs.Prelude.{ℕ, List, Option, Result, Ok, Err}
use Rattle.gpu_values.specs.Refusal.{Refusal}
use Rattle.gpu_values.specs.Report as reports
use Rattle.gpu_core.specs.declared.piece.Piece.{Piece}
use Rattle.gpu_device.specs.declared.vulkan.types.DeviceMemory.{DeviceMemory}

pub data Reply : Type 0 where
  -- a piece of the t-th memory type
  Allocated : (t : ℕ) (piece : Piece DeviceMemory) → Reply
  Error : (refusal : Refusal) → Reply
  -- a second place for a piece of the t-th memory type, None where it stays
  SecondPlace : (t : ℕ) (place : Option (Piece DeviceMemory)) → Reply
  Done : Reply
  -- an allocation's bytes, None where it has none
  Bytes : (bytes : Option (List ℕ)) → Reply
  Capacity : (bytes : ℕ) → Reply
  Report : (report : reports.Report) → Reply
  Leaks : (texts : List (List ℕ)) → Reply
  -- a memory type's budget, None where it has none
  Budget : (budget : Option ℕ) → Reply

-- the reply of a call that is done, or refused
abbrev pub done_with : Result (Unit {0}) Refusal → Reply
done_with (Ok _) = Done
done_with (Err r) = Error r

-- a second place, that there is none, or why neither
abbrev pub placed_with : (t : ℕ) → Result (Option (Piece DeviceMemory)) Refusal → Reply
placed_with t (Ok place) = SecondPlace t place
placed_with t (Err r) = Error r

-- a report, or why there is none
abbrev pub report_with : Result reports.Report Refusal → Reply
report_with (Ok r) = Report r
report_with (Err r) = Error r

-- the texts of what leaks, or why there are none
abbrev pub leaks_with : Result (List (List ℕ)) Refusal → Reply
leaks_with (Ok texts) = Leaks texts
leaks_with (Err r) = Error r
