-- A DirectX 12 trace behind its first line: what a line does, its reply, and the stage that it leaves.
use Rattle.std.specs.Prelude.{◌≡◌, ℕ, false, List, [], length, All, Option, Some, None, Ok}
use Rattle.std.specs.FinMap.{empty, len as map_len}
use Rattle.std.specs.Option.{unwrap_or}
use Rattle.gpu_values.specs.Refusal.{refusal_of, host_out_of_memory}
use Rattle.gpu_values.specs.declared.error.AllocationError.{AllocationError}
use Rattle.gpu_values.specs.declared.allocator_debug_settings.AllocatorDebugSettings.{AllocatorDebugSettings}
use Rattle.gpu_block_session.specs.ErrorNumber.{number_of}
use Rattle.gpu_block_session.specs.declared.error_number.ErrorNumber.{ErrorNumber}
use Rattle.gpu_device.specs.D3D12History.{scripted, request_formats, request_clear, request_memory}
use Rattle.gpu_device.specs.declared.d3d12.device.D3D12Device.{Ghosts}
use Rattle.gpu_d3d12.specs.Blocks.{HoldsJustLiveBlocks}
use Rattle.gpu_d3d12.specs.DeviceVersion.{device_of}
use Rattle.gpu_d3d12.specs.MemoryKinds.{memory_kinds}
use Rattle.gpu_d3d12.specs.Setup.{tier_fault}
use Rattle.gpu_d3d12.specs.declared.device_version.ID3D12DeviceVersion.{ID3D12DeviceVersion}
use Rattle.gpu_d3d12.specs.State.{beside_of}
use Rattle.gpu_run.specs.D3D12Served.{SessionValue, ServesCommand}
use Rattle.gpu_run.specs.D3D12Command.{Command}
use Rattle.gpu_sim_d3d12.specs.Scripted.{EndAsScripted}
use Rattle.gpu_sim_d3d12.specs.Simulation.{properties_of, held_of, history_of, refused_of, latest_heap_of, latest_resource_of, removal_reason_of, plan_of}
use Rattle.gpu_sim_d3d12.specs.declared.sim_d3d12.SimD3D12.{SimD3D12}
use Rattle.gpu_block_session.specs.declared.outcome.Outcome.{Outcome}
use Rattle.gpu_block_session.specs.declared.outcome.Outcome.TheVariants.{Nothing, Replied, Bad}
use Rattle.gpu_trace_text.specs.D3D12Asked.{Shows}
use Rattle.gpu_trace_text.specs.D3D12Configuration.{Configured, configured_by, tier_by, plan_by, version_by, sizes_by, by_version}
use Rattle.gpu_trace_text.specs.D3D12Line.{Line, Means}
use Rattle.gpu_trace_text.specs.declared.dialect.Line.TheVariants as lines
use Rattle.gpu_trace_text.specs.declared.d3d12.reply.Reply.{Reply}
use Rattle.gpu_trace_text.specs.declared.d3d12.reply.Reply.TheVariants.{Made, Refused, Served, Held}
use Rattle.gpu_trace_text.specs.declared.d3d12.stage.Stage.{Stage}
use Rattle.gpu_trace_text.specs.declared.d3d12.stage.Stage.TheVariants.{Configuring, Running, Closed}

-- what contracts see of the simulated device
abbrev pub simulated : Ghosts SimD3D12
simulated = record {
  properties = properties_of;
  held = held_of;
  history = history_of;
  refused = refused_of;
  latest_heap = latest_heap_of;
  latest_formats = λ d. request_formats (latest_resource_of d);
  latest_clear = λ d. request_clear (latest_resource_of d);
  latest_memory = λ d. request_memory (latest_resource_of d);
  removal_reason = removal_reason_of;
}

-- nothing is logged
abbrev pub silent : AllocatorDebugSettings
silent = record { log_memory_information = false; log_leaks_on_shutdown = false; log_allocations = false; log_frees = false }

-- a device of that configuration that was asked nothing yet
pub record IsNewDevice (c : Configured) (d : ID3D12DeviceVersion SimD3D12) : Type 0 where
  pub interface : d ≡ by_version (version_by c) (device_of d)
  pub tier : (properties_of (device_of d)).tier ≡ tier_by c
  pub plan : plan_of (device_of d) ≡ plan_by c
  pub holds_nothing : held_of (device_of d) ≡ empty
  pub refused_nothing : refused_of (device_of d) ≡ 0
  -- the history begins with what the `refuse` lines say
  pub recorded : history_of (device_of d) ≡ scripted c.refusals

-- a session in which no number stands for anything, over a fresh allocator of that configuration
pub record IsFresh (c : Configured) (s : SessionValue SimD3D12) : Type 0 where
  pub device : IsNewDevice c s.allocator.first
  pub not_asked : s.allocator.device ≡ s.allocator.first
  pub tier : tier_by c ≡ Ok s.allocator.setup.tier
  pub sizes : s.allocator.setup.sizes ≡ sizes_by c
  pub debug : s.allocator.setup.debug ≡ silent
  pub types : length s.allocator.slots ≡ length (memory_kinds s.allocator.setup.tier)
  pub empty_types : All (λ slots. slots ≡ []) s.allocator.slots
  pub bounds : length s.allocator.budgets ≡ length (memory_kinds s.allocator.setup.tier)
  pub budgets : All (λ budget. budget ≡ None) s.allocator.budgets
  pub lists : length s.allocator.committed ≡ length (memory_kinds s.allocator.setup.tier)
  pub empty_lists : All (λ records. records ≡ []) s.allocator.committed
  pub made_nothing : s.allocator.journal ≡ []
  pub unbound : s.bound ≡ []
  pub no_resources : s.resources ≡ []

-- what holds of a session at any time: the device holds just the live blocks beside all else that it holds, and each question of its
-- history ended as the `refuse` lines say, with which the history begins, and what was granted has the numbers 1, 2 and so on
pub record IsSound (s : SessionValue SimD3D12) : Type 0 where
  pub holds : HoldsJustLiveBlocks s.allocator.setup.tier (beside_of simulated s.allocator) (held_of (device_of s.allocator.device)) s.allocator.slots
  pub ended : EndAsScripted (history_of (device_of s.allocator.device))

-- the allocator isn't made: the device can't tell its heap tier, or else the host refused memory
pub record IsNotBegun (c : Configured) (number : ErrorNumber) : Type 0 where
  pub error : AllocationError
  pub number_is : number ≡ number_of error
  pub cause : refusal_of error ≡ unwrap_or (tier_fault (tier_by c)) host_out_of_memory

-- ---- what a line does

-- `new` makes the allocator, or tells the cause for which it isn't made, and then the trace is closed
abbrev pub Begins : Configured → Outcome Reply → Stage → Type 0
Begins c (Replied Made) (Running s) = IsFresh c s × IsSound s
Begins c (Replied (Refused number)) Closed = IsNotBegun c number
Begins c _ _ = ⊥

-- a line of the configuration is kept, or was there before
abbrev pub Configures : Configured → Option Configured → Outcome Reply → Stage → Type 0
Configures c None Bad new = new ≡ Configuring c
Configures c (Some d) Nothing new = new ≡ Configuring d
Configures c _ _ _ = ⊥

-- a command is served by the session, and answered
abbrev pub Commands : SessionValue SimD3D12 → Command → Outcome Reply → Stage → Type 0
Commands s command (Replied (Served reply)) (Running t) = ServesCommand simulated s command reply t × IsSound t
Commands s command _ _ = ⊥

-- what the device was asked is told, and nothing changes
abbrev pub Tells : SessionValue SimD3D12 → Outcome Reply → Stage → Type 0
Tells s (Replied reply) new = Shows (device_of s.allocator.device) reply × (new ≡ Running s)
Tells s _ _ = ⊥

-- `destroy` tells how much the device holds beside the blocks, which went back: the resources that weren't released; and closes the trace
abbrev pub Ends : SessionValue SimD3D12 → Outcome Reply → Stage → Type 0
Ends s (Replied (Held count)) Closed = count ≡ map_len (beside_of simulated s.allocator)
Ends s _ _ = ⊥

-- the line is bad, and nothing changes
abbrev pub Stops : Stage → Outcome Reply → Stage → Type 0
Stops old did new = (did ≡ Bad) × (new ≡ old)

-- in the configuration a setting or `new` may come
abbrev pub DoesConfiguring : Configured → Line → Outcome Reply → Stage → Type 0
DoesConfiguring c (lines.Configures s) did new = Configures c (configured_by c s) did new
DoesConfiguring c lines.New did new = Begins c did new
DoesConfiguring c _ did new = Stops (Configuring c) did new

-- with the allocator there a command, `asked` or `destroy` may come
abbrev pub DoesRunning : SessionValue SimD3D12 → Line → Outcome Reply → Stage → Type 0
DoesRunning s (lines.Asks command) did new = Commands s command did new
DoesRunning s (lines.Other look) did new = Tells s did new
DoesRunning s lines.Destroy did new = Ends s did new
DoesRunning s _ did new = Stops (Running s) did new

-- what a line does that isn't blank; behind the end none may come
abbrev pub DoesIn : Stage → Line → Outcome Reply → Stage → Type 0
DoesIn (Configuring c) l did new = DoesConfiguring c l did new
DoesIn (Running s) l did new = DoesRunning s l did new
DoesIn Closed l did new = Stops Closed did new

-- what a line does that was read so: a blank one nothing
abbrev pub Does : Stage → Line → Outcome Reply → Stage → Type 0
Does old lines.Blank did new = (did ≡ Nothing) × (new ≡ old)
Does old l did new = DoesIn old l did new

-- what a line does
abbrev pub DoesText : Stage → List ℕ → Outcome Reply → Stage → Type 0
DoesText old line did new = (l : Line) × Means line l × Does old l did new

-- the stage and the outcome that a call answers are what the line does
abbrev pub MatchDone : (Outcome Reply → Stage → Type 0) → Stage × Outcome Reply → Type 0
MatchDone does r = does r.1 r.0
