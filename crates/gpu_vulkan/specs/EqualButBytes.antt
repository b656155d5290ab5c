-- Calls, environment and replies that differ at most in bytes.
use Rattle.std.specs.Prelude.{◌≡◌, Option, Some, None}
use Rattle.gpu_vulkan.specs.Attempt.{AttemptEnvironment, Asked}
use Rattle.gpu_vulkan.specs.BlockAnswer.{BlockAnswer, Mapped}
use Rattle.gpu_vulkan.specs.Reply.{Reply, Bytes}
use Rattle.gpu_vulkan.specs.Step.{Call, Allocate, ProposeMove, Write, CallEnvironment}
use Rattle.gpu_vulkan.specs.declared.describe.AllocationCreateDesc.{AllocationCreateDesc}

-- the same answer, but for the bytes that a newly mapped block holds
abbrev pub EqualButBytesAnswer : BlockAnswer → BlockAnswer → Type 0
EqualButBytesAnswer (Mapped number bytes) (Mapped other others) = number ≡ other
EqualButBytesAnswer answer other = answer ≡ other

abbrev pub EqualButBytesAsked : Option Asked → Option Asked → Type 0
EqualButBytesAsked None None = Unit {0}
EqualButBytesAsked (Some a) (Some b) = (a.info ≡ b.info) × EqualButBytesAnswer a.answer b.answer
EqualButBytesAsked None (Some b) = ⊥
EqualButBytesAsked (Some a) None = ⊥

-- the same environment of an attempt, but for such bytes
pub record EqualButBytesAttemptEnvironment (o p : AttemptEnvironment) : Type 0 where
  pub host : o.host ≡ p.host
  pub asked : EqualButBytesAsked o.asked p.asked

pub record EqualButBytesCallEnvironment (o p : CallEnvironment) : Type 0 where
  pub first : EqualButBytesAttemptEnvironment o.first p.first
  pub second : EqualButBytesAttemptEnvironment o.second p.second

-- descriptions that ask for the same, wherever their names lie
pub record EqualButBytesDescription (d e : AllocationCreateDesc) : Type 0 where
  pub requirements : d.requirements ≡ e.requirements
  pub location : d.location ≡ e.location
  pub linear : d.linear ≡ e.linear
  pub scheme : d.allocation_scheme ≡ e.allocation_scheme
  pub name : d.name.now ≡ e.name.now

-- the same call, but for the bytes of a write
abbrev pub EqualButBytesCall : Call → Call → Type 0
EqualButBytesCall (Allocate d) (Allocate e) = EqualButBytesDescription d e
EqualButBytesCall (ProposeMove a d) (ProposeMove b e) = (a ≡ b) × EqualButBytesDescription d e
EqualButBytesCall (Write a bytes) (Write b others) = a ≡ b
EqualButBytesCall call other = call ≡ other

-- the same reply, but for the bytes of a read
abbrev pub EqualButBytesReply : Reply → Reply → Type 0
EqualButBytesReply (Bytes (Some xs)) (Bytes (Some ys)) = Unit {0}
EqualButBytesReply reply other = reply ≡ other
