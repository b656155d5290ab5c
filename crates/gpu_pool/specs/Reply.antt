-- What a call of a pool returns.
use Rattle.std.specs.Prelude.{ℕ, List, Option, Result, Ok, Err}
use Rattle.gpu_values.specs.Refusal.{Refusal}
use Rattle.gpu_values.specs.Report as reports
use Rattle.gpu_core.specs.declared.piece.Piece.{Piece}

-- a reply has the name of its call, or says how the call ended
pub data Reply (H : Type 0) : Type 0 where
  -- a piece of the t-th memory type
  Allocated : (t : ℕ) (piece : Piece H) → Reply H
  Error : (refusal : Refusal) → Reply H
  -- a second place for a piece of the t-th memory type, None where it stays
  SecondPlace : (t : ℕ) (place : Option (Piece H)) → Reply H
  Done : Reply H
  -- a memory type's budget, None where it has none
  Budget : (budget : Option ℕ) → Reply H
  Capacity : (bytes : ℕ) → Reply H
  Handles : (handles : List H) → Reply H
  Report : (report : reports.Report) → Reply H
  LeakTexts : (texts : List (List ℕ)) → Reply H

-- an allocation's reply: its piece, or why there is none
abbrev pub allocated_as : {H : Type 0} → (t : ℕ) → Result (Piece H) Refusal → Reply H
allocated_as t (Ok p) = Allocated t p
allocated_as t (Err e) = Error e

-- a proposal's reply: the second place, that the piece stays, or why neither
abbrev pub proposed_as : {H : Type 0} → (t : ℕ) → Result (Option (Piece H)) Refusal → Reply H
proposed_as t (Ok place) = SecondPlace t place
proposed_as t (Err e) = Error e

-- the reply of a call that is done, or refused
abbrev pub reply_of_done : {H : Type 0} → Result (Unit {0}) Refusal → Reply H
reply_of_done (Ok _) = Done
reply_of_done (Err e) = Error e

-- a report, or why there is none
abbrev pub reported_as : {H : Type 0} → Result reports.Report Refusal → Reply H
reported_as (Ok r) = Report r
reported_as (Err e) = Error e

-- the texts of what leaks, or why there are none
abbrev pub leaked_as : {H : Type 0} → Result (List (List ℕ)) Refusal → Reply H
leaked_as (Ok texts) = LeakTexts texts
leaked_as (Err e) = Error e
