-- What a session's calls say in the model.
use Rattle.std.specs.Prelude.{◌≡◌, ℕ, Bool, true, false, List, [], ◌∷◌, Option, map, string_bytes}
use Rattle.std.specs.Int.NonZero.{non_zero_u64_get}
use Rattle.gpu_values.specs.Refusal.{refusal_of}
use Rattle.gpu_values.specs.Report.{report_of}
use Rattle.gpu_device.specs.declared.vulkan.device.VulkanDevice.{Ghosts}
use Rattle.gpu_device.specs.declared.vulkan.types.MemoryAllocateInfo.{MemoryAllocateInfo}
use Rattle.gpu_vulkan.specs.Lends.{number_in}
use Rattle.gpu_vulkan.specs.State.{State}
use Rattle.gpu_vulkan.specs.Untouched.{LeavesMemory}
use Rattle.gpu_vulkan.specs.Step.{model_of, count_after, latest_after}
use Rattle.gpu_vulkan.specs.declared.allocation.Allocation.{Allocation}
use Rattle.gpu_run.specs.Bindings.{bindings_of}
use Rattle.gpu_run.specs.VulkanReply as replies
use Rattle.gpu_run.specs.VulkanCommand.{SessionCommand, wanted_of, Alloc, Move, Null, Free, Rename, Write, Read, Under, Report, Leaks, Capacity, SetBudget}
use Rattle.gpu_run.specs.VulkanReply.{Shown, SessionReply, Allocated, Done, Bytes, Busy, Unbound, NoPlace, Unmapped, OutOfRange, Error}
use Rattle.gpu_run.specs.VulkanSession.{SessionState, SessionInvariant, CommandEnvironment, SessionServes, Runs}
use Rattle.gpu_run.specs.declared.command.Command as commands
use Rattle.gpu_run.specs.declared.command.Command.TheVariants as asked
use Rattle.gpu_run.specs.declared.vulkan.command.Other.{Other}
use Rattle.gpu_run.specs.declared.vulkan.command.Other.TheVariants as others
use Rattle.gpu_run.specs.declared.vulkan.command.Request.{Request}
use Rattle.gpu_run.specs.declared.vulkan.reply.Reply.{Reply}
use Rattle.gpu_run.specs.declared.vulkan.reply.Reply.TheVariants as answered
use Rattle.gpu_run.specs.declared.vulkan.reply.Allocated.{Allocated as AllocatedPiece}

-- a command to a session
abbrev pub Command : Type 0
Command = commands.Command Request Other

-- what this API's sessions alone are asked for, in the words of the model
abbrev pub other_of : Other → SessionCommand
other_of (others.Null key) = Under key Null
other_of (others.Rename key name) = Under key (Rename (string_bytes name))
other_of (others.Write key at bytes) = Under key (Write at bytes.items)
other_of (others.Read key at size) = Under key (Read at size)
other_of others.Leaks = Leaks

abbrev pub command_of : Command → SessionCommand
command_of (asked.Alloc key request) = Under key (Alloc (wanted_of request))
command_of (asked.Move key to request) = Under key (Move to (wanted_of request))
command_of (asked.Free key) = Under key Free
command_of asked.Report = Report
command_of asked.Capacity = Capacity
command_of (asked.SetBudget t budget) = SetBudget t budget
command_of (asked.Other other) = other_of other

abbrev pub shown_of : AllocatedPiece → Shown
shown_of g = record {
  memory_type = g.memory_type;
  slot = g.slot;
  offset = g.offset;
  size = g.size;
  chunk_id = non_zero_u64_get g.chunk;
  dedicated = g.dedicated;
  mapped = g.mapped;
}

-- what is shown of an allocation
abbrev pub shown_allocation : Allocation → Shown
shown_allocation a = record {
  memory_type = a.memory_type_index;
  slot = a.memory_block_index;
  offset = a.offset;
  size = a.size;
  chunk_id = number_in a.chunk_id;
  dedicated = a.dedicated;
  mapped = a.mapped;
}

abbrev pub reply_of : Reply → SessionReply
reply_of (answered.Allocated g) = Allocated (shown_of g)
reply_of answered.Done = Done
reply_of (answered.Bytes bytes) = Bytes bytes.items
reply_of (answered.Report report) = replies.Report (report_of report)
reply_of (answered.Leaks texts) = replies.Leaks (map string_bytes texts.items)
reply_of (answered.Capacity n) = replies.Capacity n
reply_of answered.Busy = Busy
reply_of answered.Unbound = Unbound
reply_of answered.NoPlace = NoPlace
reply_of answered.Unmapped = Unmapped
reply_of answered.OutOfRange = OutOfRange
reply_of (answered.Error e) = Error (refusal_of e)

-- what callers see of a session: the allocator, and what the numbers stand for
pub record SessionValue (D : Type 0) : Type 0 where
  pub allocator : State D
  pub bound : List (ℕ × Allocation)

-- the session's state in the model
abbrev pub session_of : {D : Type 0} → Ghosts D → SessionValue D → SessionState
session_of g s = record { bound = bindings_of s.bound; model = model_of g s.allocator }

-- the device's count of refusals after all questions of a run
abbrev pub count_over : ℕ → List CommandEnvironment → ℕ
count_over count [] = count
count_over count (o ∷ os) = count_over (count_after (count_after count o.call.first.asked) o.call.second.asked) os

-- the device's latest question after all questions of a run
abbrev pub latest_over : Option MemoryAllocateInfo → List CommandEnvironment → Option MemoryAllocateInfo
latest_over latest [] = latest
latest_over latest (o ∷ os) = latest_over (latest_after (latest_after latest o.call.first.asked) o.call.second.asked) os

abbrev pub is_write : SessionCommand → Bool
is_write (Under key (Write at bytes)) = true
is_write command = false

-- A command is served at some environment, and their refusals and questions are what the device counts and names. Unless it is a
-- write, it changes no byte of memory that is held before and after.
pub record IsCommandServed {D : Type 0} (g : Ghosts D) (command : SessionCommand) (reply : SessionReply) (old new : SessionValue D) : Type 0 where
  pub environment : CommandEnvironment
  pub serves : SessionServes old.allocator.setup command environment reply (session_of g old) (session_of g new)
  pub count : g.refused new.allocator.device ≡ count_after (count_after (g.refused old.allocator.device) environment.call.first.asked) environment.call.second.asked
  pub latest : g.latest new.allocator.device ≡ latest_after (latest_after (g.latest old.allocator.device) environment.call.first.asked) environment.call.second.asked
  pub untouched : is_write command ≡ false → LeavesMemory (g.held old.allocator.device) (g.held new.allocator.device)
  pub constant : (new.allocator.setup ≡ old.allocator.setup) × (new.allocator.first ≡ old.allocator.first)

-- a command is served, and the numbers own their pieces afterwards
pub record ServesCommand {D : Type 0} (g : Ghosts D) (old : SessionValue D) (command : Command) (reply : Reply) (new : SessionValue D) : Type 0 where
  pub served : IsCommandServed g (command_of command) (reply_of reply) old new
  pub kept : SessionInvariant new.allocator.setup (session_of g new)

-- the replies are those of a run at some environment, whose refusals and questions are what the device counts and names
pub record IsRun {D : Type 0} (g : Ghosts D) (commands : List SessionCommand) (reply : List SessionReply) (old new : SessionValue D) : Type 0 where
  pub environment : List CommandEnvironment
  pub runs : Runs old.allocator.setup (session_of g old) commands environment reply (session_of g new)
  pub count : g.refused new.allocator.device ≡ count_over (g.refused old.allocator.device) environment
  pub latest : g.latest new.allocator.device ≡ latest_over (g.latest old.allocator.device) environment
  pub constant : (new.allocator.setup ≡ old.allocator.setup) × (new.allocator.first ≡ old.allocator.first)

-- the commands are served one after another
abbrev pub ServesEach : {D : Type 0} → Ghosts D → List SessionCommand → List SessionReply → (old new : SessionValue D) → Type 0
ServesEach g [] [] old new = new ≡ old
ServesEach {D} g (command ∷ commands) (reply ∷ rest) old new = (mid : SessionValue D) × IsCommandServed g command reply old mid × ServesEach g commands rest mid new
ServesEach g _ _ old new = ⊥
