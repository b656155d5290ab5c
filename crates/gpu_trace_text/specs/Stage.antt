-- A trace from its first line on: which line may come, its reply, and the stage that it leaves.
use Rattle.std.specs.Prelude.{◌≡◌, ◌-◌, ◌^◌, false, [], ◌∷◌, length, All, Option, Some, None}
use Rattle.std.specs.FinMap.{empty, len as map_len}
use Rattle.std.specs.Option.{unwrap_or}
use Rattle.gpu_values.specs.Refusal.{refusal_of, host_out_of_memory}
use Rattle.gpu_values.specs.declared.error.AllocationError.{AllocationError}
use Rattle.gpu_values.specs.declared.allocator_debug_settings.AllocatorDebugSettings.{AllocatorDebugSettings}
use Rattle.gpu_device.specs.VulkanHistory.{scripted}
use Rattle.gpu_device.specs.declared.vulkan.device.VulkanDevice.{Ghosts}
use Rattle.gpu_device.specs.declared.vulkan.event.Event.TheVariants.{Limited}
use Rattle.gpu_sim.specs.Scripted.{EndAsScripted}
use Rattle.gpu_sim.specs.Simulation.{held_of, properties_of, plan_of, history_of, refused_of, latest_of, written_sim}
use Rattle.gpu_sim.specs.declared.sim_vulkan.SimVulkan.{SimVulkan}
use Rattle.gpu_pool.specs.Handles.{all_handles}
use Rattle.gpu_vulkan.specs.BlockAnswer.{frees_recorded}
use Rattle.gpu_vulkan.specs.Blocks.{HoldsJustLiveBlocks}
use Rattle.gpu_vulkan.specs.Setup.{setup_fault}
use Rattle.gpu_run.specs.VulkanCommand as session_commands
use Rattle.gpu_run.specs.VulkanCommand.{SessionCommand}
use Rattle.gpu_run.specs.VulkanSession.{SessionInvariant}
use Rattle.gpu_run.specs.VulkanServed.{SessionValue, command_of, reply_of, session_of, IsCommandServed}
use Rattle.gpu_block_session.specs.declared.block.command.Command as block_commands
use Rattle.gpu_block_session.specs.declared.block.command.Command.TheVariants as commands
use Rattle.gpu_block_session.specs.declared.block_stage.BlockStage.TheVariants as block_stages
use Rattle.gpu_trace_text.specs.declared.device.reply.Reply as device_replies
use Rattle.gpu_trace_text.specs.declared.device.reply.Reply.TheVariants.{Made, Served, Held, Refused}
use Rattle.gpu_trace_text.specs.Line.{Line}
use Rattle.gpu_trace_text.specs.declared.dialect.Line.TheVariants as lines
use Rattle.gpu_trace_text.specs.declared.reply.Reply.{Reply}
use Rattle.gpu_trace_text.specs.declared.reply.Reply.TheVariants as replies
use Rattle.gpu_block_session.specs.declared.outcome.Outcome.{Outcome}
use Rattle.gpu_block_session.specs.declared.outcome.Outcome.TheVariants.{Nothing, Replied, Bad}
use Rattle.gpu_trace_text.specs.declared.stage.Stage.{Stage}
use Rattle.gpu_trace_text.specs.declared.stage.Stage.TheVariants.{Before, Block, Configuring, Device, Closed}
use Rattle.gpu_block_session.specs.BlockWords.{CommandFits as FitsBlock}
use Rattle.gpu_block_session.specs.BlockStage as block
use Rattle.gpu_block_session.specs.BlockSort.{opens_block, reports}
use Rattle.gpu_trace_text.specs.Sort.{Sort, of_block, describes, sets_page, sets_sizes, makes, asks, destroys, sort_of}
use Rattle.gpu_trace_text.specs.Configuration.{Configured, nothing_configured, configured_by, properties_by, plan_by, sizes_by}
use Rattle.gpu_block_session.specs.ErrorNumber.{number_of}

-- what contracts see of the simulated device
abbrev pub simulated : Ghosts SimVulkan
simulated = record { properties = properties_of; held = held_of; history = history_of; refused = refused_of; latest = latest_of; written = written_sim }

-- nothing is logged
abbrev pub silent : AllocatorDebugSettings
silent = record { log_memory_information = false; log_leaks_on_shutdown = false; log_allocations = false; log_frees = false }

-- what holds of a session at any time: the blocks are sound, each number owns its piece, the device holds what it held at first and
-- just the live blocks, and each question of its history ended as the `refuse` lines say, with which the history begins
pub record IsSound (s : SessionValue SimVulkan) : Type 0 where
  pub kept : SessionInvariant s.allocator.setup (session_of simulated s)
  pub holds : HoldsJustLiveBlocks s.allocator.setup.properties (held_of s.allocator.first) (held_of s.allocator.device) s.allocator.slots
  pub ended : EndAsScripted (history_of s.allocator.device)

-- a session in which no number stands for anything, over a fresh allocator of that configuration
pub record IsFresh (c : Configured) (s : SessionValue SimVulkan) : Type 0 where
  pub valid : setup_fault 1 (properties_by c) ≡ None
  pub unbound : s.bound ≡ []
  pub setup : s.allocator.setup ≡ record { properties = properties_by c; sizes = sizes_by c; debug = silent; device_address = false }
  pub types : length s.allocator.slots ≡ length c.types
  pub empty_types : All (λ slots. slots ≡ []) s.allocator.slots
  pub bounds : length s.allocator.budgets ≡ length c.types
  pub budgets : All (λ budget. budget ≡ None) s.allocator.budgets
  pub first : s.allocator.device ≡ s.allocator.first
  pub plan : plan_of s.allocator.first ≡ plan_by c
  pub holds_nothing : held_of s.allocator.first ≡ empty
  pub refused_nothing : refused_of s.allocator.first ≡ 0
  pub not_asked : latest_of s.allocator.first ≡ None
  -- the history begins with what the `refuse` lines say, and no memory is refused for its size
  pub recorded : history_of s.allocator.first ≡ Limited (2 ^ 64 - 1) ∷ scripted c.refusals

-- the allocator is made, or refused by the named cause
abbrev pub Begins : Configured → device_replies.Reply → Stage → Type 0
Begins c Made (Device s) = IsFresh c s × IsSound s
Begins c (Refused number) Closed = (e : AllocationError) × (number ≡ number_of e) × (refusal_of e ≡ unwrap_or (setup_fault 1 (properties_by c)) host_out_of_memory)
Begins c _ _ = ⊥

-- a command that a session serves
abbrev pub StageServes : SessionValue SimVulkan → SessionCommand → device_replies.Reply → Stage → Type 0
StageServes s command (Served reply) (Device t) = IsCommandServed simulated command (reply_of reply) s t × IsSound t
StageServes s command _ _ = ⊥

abbrev pub Ends : SessionValue SimVulkan → device_replies.Reply → Stage → Type 0
Ends s (Held count) Closed = count ≡ map_len (held_of s.allocator.first)
Ends s _ _ = ⊥

-- an allocator that is still there has given every block back, each memory once, and its device was asked for nothing more
abbrev pub Ended : Stage → Option SimVulkan → Type 0
Ended (Device s) (Some device) = (held_of device ≡ held_of s.allocator.first)
    × (refused_of device ≡ refused_of s.allocator.device) × (latest_of device ≡ latest_of s.allocator.device)
    × (history_of device ≡ frees_recorded (held_of s.allocator.device) (all_handles s.allocator.slots) (history_of s.allocator.device))
Ended (Device s) None = ⊥
Ended _ (Some device) = ⊥
Ended _ None = Unit {0}

-- ---- a line with a reply

abbrev pub ServesSaid : SessionValue SimVulkan → block_commands.Command → device_replies.Reply → Stage → Type 0
ServesSaid s commands.Report r new = StageServes s session_commands.Report r new
ServesSaid s _ r new = ⊥

abbrev pub BlockStep : block_stages.the_data → block_commands.Command → Reply → Stage → Type 0
BlockStep old c (replies.Block r) (Block new) = block.Step old c r new
BlockStep old c _ _ = ⊥

abbrev pub DeviceStep : SessionValue SimVulkan → Line → Reply → Stage → Type 0
DeviceStep s (lines.Other c) (replies.Device r) new = ServesSaid s c r new
DeviceStep s (lines.Asks c) (replies.Device r) new = StageServes s (command_of c) r new
DeviceStep s lines.Destroy (replies.Device r) new = Ends s r new
DeviceStep s _ _ _ = ⊥

abbrev pub BeginStep : Configured → Reply → Stage → Type 0
BeginStep c (replies.Device r) new = Begins c r new
BeginStep c _ new = ⊥

abbrev pub Step : Stage → Line → Reply → Stage → Type 0
Step Before (lines.Other c) r new = BlockStep block_stages.Before c r new
Step Before lines.New r new = BeginStep nothing_configured r new
Step (Block old) (lines.Other c) r new = BlockStep old c r new
Step (Configuring c) lines.New r new = BeginStep c r new
Step (Device s) l r new = DeviceStep s l r new
Step _ _ _ _ = ⊥

-- ---- a line without a reply

abbrev pub Configures : Option Configured → Stage → Type 0
Configures (Some c) (Configuring d) = d ≡ c
Configures _ _ = ⊥

-- a blank line changes nothing, and a line of the configuration is kept
abbrev pub Quietly : Stage → Line → Stage → Type 0
Quietly old lines.Blank new = new ≡ old
Quietly Before (lines.Configures s) new = Configures (configured_by nothing_configured s) new
Quietly (Configuring c) (lines.Configures s) new = Configures (configured_by c s) new
Quietly _ _ _ = ⊥

-- ---- which line may come

-- a page size and block sizes are set once
abbrev pub AdmitsSetting : Configured → Sort → Type 0
AdmitsSetting c describes = Unit {0}
AdmitsSetting c sets_page = c.granularity ≡ None
AdmitsSetting c sets_sizes = c.sizes ≡ None
AdmitsSetting c makes = Unit {0}
AdmitsSetting c _ = ⊥

abbrev pub AdmitsAsked : Sort → Type 0
AdmitsAsked (of_block reports) = Unit {0}
AdmitsAsked asks = Unit {0}
AdmitsAsked destroys = Unit {0}
AdmitsAsked _ = ⊥

-- the first line decides between the sorts of traces
abbrev pub AdmitsFirst : Sort → Type 0
AdmitsFirst (of_block opens_block) = Unit {0}
AdmitsFirst sort = AdmitsSetting nothing_configured sort

abbrev pub AdmitsSort : Stage → Sort → Type 0
AdmitsSort Before sort = AdmitsFirst sort
AdmitsSort (Block old) (of_block sort) = block.Admits old sort
AdmitsSort (Block old) _ = ⊥
AdmitsSort (Configuring c) sort = AdmitsSetting c sort
AdmitsSort (Device s) sort = AdmitsAsked sort
AdmitsSort Closed sort = ⊥

abbrev pub Admits : Stage → Line → Type 0
Admits stage lines.Blank = Unit {0}
Admits stage lines.Bad = ⊥
Admits stage l = AdmitsSort stage (sort_of l)

-- what one line does that was read so
abbrev pub Does : Stage → Line → Outcome Reply → Stage → Type 0
Does old l Nothing new = Quietly old l new
Does old l (Replied r) new = Step old l r new
Does old l Bad new = Admits old l → ⊥

-- the numbers and names of a line that was read
abbrev pub FitsLine : Line → Type 0
FitsLine (lines.Other c) = FitsBlock c
FitsLine _ = Unit {0}

-- a session served a command
abbrev pub ServedSo : SessionValue SimVulkan → SessionCommand → Outcome Reply → Stage → Type 0
ServedSo s command (Replied (replies.Device r)) new = StageServes s command r new
ServedSo s command _ new = ⊥

abbrev pub MatchServed : SessionValue SimVulkan → SessionCommand → Stage × Outcome Reply → Type 0
MatchServed s command r = ServedSo s command r.1 r.0
