-- Two runs that differ in the bytes of others alone.
use Rattle.std.specs.Prelude.{◌≡◌, ℕ, ◌+◌, ◌<◌, ◌==◌, ◌&&◌, nat_le, nat_lt, List, [], ◌∷◌, length, slice_get, Bool, true, false, if◌then◌else◌}
use Rattle.std.specs.List.{AllZip}
use Rattle.gpu_vulkan.specs.EqualButBytes.{EqualButBytesCallEnvironment}
use Rattle.gpu_vulkan.specs.Setup.{Setup}
use Rattle.gpu_run.specs.VulkanCommand.{KeyCommand, Alloc, Move, Write, Read, SessionCommand, Under}
use Rattle.gpu_run.specs.VulkanReply.{SessionReply, Allocated, Done, Bytes}
use Rattle.gpu_run.specs.VulkanSession.{SessionState, SessionInvariant, CommandEnvironment, Runs}

-- the same, or a write of as many bytes, which are the same under a number that is ours
abbrev pub EqualButBytesKeyCommand : (ours : Bool) → KeyCommand → KeyCommand → Type 0
EqualButBytesKeyCommand ours (Write at bytes) (Write there others) = (at ≡ there) × (length bytes ≡ length others) × (ours ≡ true → bytes ≡ others)
EqualButBytesKeyCommand ours command other = command ≡ other

abbrev pub EqualButBytesCommand : (ours : ℕ → Bool) → SessionCommand → SessionCommand → Type 0
EqualButBytesCommand ours (Under key command) (Under other to) = (key ≡ other) × EqualButBytesKeyCommand (ours key) command to
EqualButBytesCommand ours command other = command ≡ other

-- the same environment, but for the bytes that newly mapped blocks hold
pub record EqualButBytesCommandEnvironment (o p : CommandEnvironment) : Type 0 where
  pub room : o.room ≡ p.room
  pub call : EqualButBytesCallEnvironment o.call p.call

-- Of which places of the allocations under which numbers the bytes were written under that number since the allocation was given.
-- An allocation that is live at the beginning counts as written throughout.
abbrev pub Written : Type 0
Written = (key at : ℕ) → Bool

abbrev pub everything : Written
everything key at = true

abbrev pub written_after : SessionCommand → SessionReply → Written → Written
written_after (Under new (Alloc wanted)) (Allocated shown) written key i = if new == key then false else written key i
written_after (Under from (Move new wanted)) (Allocated shown) written key i = if new == key then false else written key i
written_after (Under to (Write at bytes)) Done written key i = if (to == key) && (nat_le at i && nat_lt i (at + length bytes)) then true else written key i
written_after command reply written key i = written key i

-- the same reply, but for the bytes of a read; of our own the written ones are the same too
abbrev pub EqualButBytesAnswer : (ours : ℕ → Bool) → Written → SessionCommand → SessionReply → SessionReply → Type 0
EqualButBytesAnswer ours written (Under key (Read at size)) (Bytes xs) (Bytes ys) =
    (length xs ≡ length ys)
    × (ours key ≡ true → (i : ℕ) → i < length xs → written key (at + i) ≡ true → slice_get xs i ≡ slice_get ys i)
EqualButBytesAnswer ours written command reply other = reply ≡ other

-- each reply of the two runs, beside what was written until it came
abbrev pub EqualButBytesReplies : (ours : ℕ → Bool) → Written → List SessionCommand → List SessionReply → List SessionReply → Type 0
EqualButBytesReplies ours written [] [] [] = Unit {0}
EqualButBytesReplies ours written (command ∷ commands) (reply ∷ rest) (other ∷ others) =
    EqualButBytesAnswer ours written command reply other
    × EqualButBytesReplies ours (written_after command reply written) commands rest others
EqualButBytesReplies ours written _ _ _ = ⊥

abbrev pub NonInterference : Type 0
NonInterference =
    (ours : ℕ → Bool) (setup : Setup) (start end other_end : SessionState) (commands others : List SessionCommand) (o p : List CommandEnvironment) (reply other_reply : List SessionReply)
    → SessionInvariant setup start
    → AllZip (EqualButBytesCommand ours) commands others
    → AllZip EqualButBytesCommandEnvironment o p
    → Runs setup start commands o reply end
    → Runs setup start others p other_reply other_end
    → EqualButBytesReplies ours everything commands reply other_reply
