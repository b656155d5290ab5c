-- A Metal trace behind its first line: what a line does, its reply, and the stage that it leaves.
use Rattle.std.specs.Prelude.{◌≡◌, ℕ, false, List, [], length, All, Option, Some, None}
use Rattle.std.specs.FinMap.{empty, len as map_len}
use Rattle.gpu_values.specs.Refusal.{refusal_of}
use Rattle.gpu_values.specs.declared.error.AllocationError.{AllocationError}
use Rattle.gpu_values.specs.declared.allocator_debug_settings.AllocatorDebugSettings.{AllocatorDebugSettings}
use Rattle.gpu_block_session.specs.ErrorNumber.{number_of}
use Rattle.gpu_block_session.specs.declared.error_number.ErrorNumber.{ErrorNumber}
use Rattle.gpu_device.specs.Metal.{Held}
use Rattle.gpu_device.specs.declared.metal.device.MetalDevice.{Ghosts}
use Rattle.gpu_device.specs.declared.metal.types.MTLHeap.{MTLHeap}
use Rattle.gpu_device.specs.declared.metal.types.MTLResidencySet.{MTLResidencySet}
use Rattle.gpu_metal.specs.Blocks.{HoldsJustLiveBlocks, residency_of, left_behind}
use Rattle.gpu_run.specs.MetalServed.{SessionValue, ServesCommand}
use Rattle.gpu_run.specs.MetalCommand.{Command}
use Rattle.gpu_metal.specs.MemoryKinds.{locations}
use Rattle.gpu_metal.specs.Residency.{MakesSet}
use Rattle.gpu_metal.specs.Setup.{IsNotMade}
use Rattle.gpu_sim_metal.specs.Scripted.{EndAsScripted, told}
use Rattle.gpu_sim_metal.specs.Simulation.{held_of, properties_of, plan_of, history_of, refused_of, latest_heap_of}
use Rattle.gpu_sim_metal.specs.declared.sim_metal.SimMetal.{SimMetal}
use Rattle.gpu_block_session.specs.declared.outcome.Outcome.{Outcome}
use Rattle.gpu_block_session.specs.declared.outcome.Outcome.TheVariants.{Nothing, Replied, Bad}
use Rattle.gpu_trace_text.specs.MetalConfiguration.{Configured, configured_by, plan_by, sizes_by, makes_sets, wants_set}
use Rattle.gpu_trace_text.specs.MetalLine.{Line, Means}
use Rattle.gpu_trace_text.specs.MetalLook.{Shows, members_in}
use Rattle.gpu_trace_text.specs.declared.dialect.Line.TheVariants as lines
use Rattle.gpu_trace_text.specs.declared.metal.line.Look.{Look}
use Rattle.gpu_trace_text.specs.declared.metal.reply.Reply.{Reply}
use Rattle.gpu_trace_text.specs.declared.metal.reply.Reply.TheVariants.{Made, Refused, Served, Held as HoldsNow}
use Rattle.gpu_trace_text.specs.declared.metal.stage.Stage.{Stage}
use Rattle.gpu_trace_text.specs.declared.metal.stage.Stage.TheVariants.{Configuring, Running, Closed}

-- what contracts see of the simulated device
abbrev pub simulated : Ghosts SimMetal
simulated = record { properties = properties_of; held = held_of; history = history_of; refused = refused_of; latest_heap = latest_heap_of }

-- nothing is logged
abbrev pub silent : AllocatorDebugSettings
silent = record { log_memory_information = false; log_leaks_on_shutdown = false; log_allocations = false; log_frees = false }

-- a device of that configuration that was asked nothing yet
pub record IsNewDevice (c : Configured) (d : SimMetal) : Type 0 where
  pub plan : plan_of d ≡ plan_by c
  pub holds_nothing : held_of d ≡ empty
  pub refused_nothing : refused_of d ≡ 0
  -- the history begins with what the `refuse` and `sets` lines say
  pub recorded : history_of d ≡ told (makes_sets c) c.refusals

-- a session in which no number stands for anything, over a fresh allocator of that configuration
pub record IsFresh (c : Configured) (s : SessionValue SimMetal) : Type 0 where
  pub device : IsNewDevice c s.allocator.first
  pub set : MakesSet simulated (wants_set c) s.allocator.first s.allocator.setup.residency_set s.allocator.device
  pub sizes : s.allocator.setup.sizes ≡ sizes_by c
  pub debug : s.allocator.setup.debug ≡ silent
  pub types : length s.allocator.slots ≡ length locations
  pub empty_types : All (λ slots. slots ≡ []) s.allocator.slots
  pub bounds : length s.allocator.budgets ≡ length locations
  pub budgets : All (λ budget. budget ≡ None) s.allocator.budgets
  pub unbound : s.bound ≡ []

-- what holds of a session at any time: the device holds what it held at first, the residency set, where there is one, and just the live
-- blocks; and each question of its history ended as the `refuse` and `sets` lines say, with which the history begins, and what was
-- granted has the numbers 1, 2 and so on
pub record IsSound (s : SessionValue SimMetal) : Type 0 where
  pub holds : HoldsJustLiveBlocks s.allocator.setup.residency_set (held_of s.allocator.first) (held_of s.allocator.device) s.allocator.slots
  pub ended : EndAsScripted (history_of s.allocator.device)

-- the allocator isn't made, by the cause that is told
pub record IsNotBegun (c : Configured) (number : ErrorNumber) : Type 0 where
  pub error : AllocationError
  pub number_is : number ≡ number_of error
  pub first : SimMetal
  pub left : SimMetal
  pub device : IsNewDevice c first
  pub cause : IsNotMade simulated (wants_set c) (refusal_of error) first left

-- ---- what a line does

-- `new` makes the allocator, or tells the cause for which it isn't made, and then the trace is closed
abbrev pub Begins : Configured → Outcome Reply → Stage → Type 0
Begins c (Replied Made) (Running s) = IsFresh c s × IsSound s
Begins c (Replied (Refused number)) Closed = IsNotBegun c number
Begins c _ _ = ⊥

-- a line of the configuration is kept, or was there before
abbrev pub Configures : Configured → Option Configured → Outcome Reply → Stage → Type 0
Configures c None Bad new = new ≡ Configuring c
Configures c (Some d) Nothing new = new ≡ Configuring d
Configures c _ _ _ = ⊥

-- a command is served by the session, and answered
abbrev pub Commands : SessionValue SimMetal → Command → Outcome Reply → Stage → Type 0
Commands s command (Replied (Served reply)) (Running t) = ServesCommand simulated s command reply t × IsSound t
Commands s command _ _ = ⊥

-- what is looked up is answered, and nothing changes
abbrev pub Looks : SessionValue SimMetal → Look → Outcome Reply → Stage → Type 0
Looks s look (Replied reply) new = Shows s look reply × (new ≡ Running s)
Looks s look _ _ = ⊥

-- how many heaps, where there is a set
abbrev pub count_of : Option (List MTLHeap) → ℕ
count_of None = 0
count_of (Some heaps) = length heaps

-- how many members the set has, where there is one
abbrev pub count_in : Held → Option MTLResidencySet → ℕ
count_in held set = count_of (members_in held set)

-- all blocks went back: what is left is what was held at first, and the set without members
abbrev pub HoldsLeft : SessionValue SimMetal → (left : Held) → (count members : ℕ) → Type 0
HoldsLeft s left count members = (count ≡ map_len left) × (members ≡ count_in left s.allocator.setup.residency_set)

-- `destroy` tells what the device holds once all blocks went back, and closes the trace
abbrev pub Ends : SessionValue SimMetal → Outcome Reply → Stage → Type 0
Ends s (Replied (HoldsNow count members)) Closed =
    HoldsLeft s (left_behind (held_of s.allocator.first) s.allocator.setup.residency_set (residency_of (held_of s.allocator.device) s.allocator.setup.residency_set)) count members
Ends s _ _ = ⊥

-- the line is bad, and nothing changes
abbrev pub Stops : Stage → Outcome Reply → Stage → Type 0
Stops old did new = (did ≡ Bad) × (new ≡ old)

-- in the configuration a setting or `new` may come
abbrev pub DoesConfiguring : Configured → Line → Outcome Reply → Stage → Type 0
DoesConfiguring c (lines.Configures s) did new = Configures c (configured_by c s) did new
DoesConfiguring c lines.New did new = Begins c did new
DoesConfiguring c _ did new = Stops (Configuring c) did new

-- with the allocator there a command, a look or `destroy` may come
abbrev pub DoesRunning : SessionValue SimMetal → Line → Outcome Reply → Stage → Type 0
DoesRunning s (lines.Asks command) did new = Commands s command did new
DoesRunning s (lines.Other look) did new = Looks s look did new
DoesRunning s lines.Destroy did new = Ends s did new
DoesRunning s _ did new = Stops (Running s) did new

-- what a line does that isn't blank; behind the end none may come
abbrev pub DoesIn : Stage → Line → Outcome Reply → Stage → Type 0
DoesIn (Configuring c) l did new = DoesConfiguring c l did new
DoesIn (Running s) l did new = DoesRunning s l did new
DoesIn Closed l did new = Stops Closed did new

-- what a line does that was read so: a blank one nothing
abbrev pub Does : Stage → Line → Outcome Reply → Stage → Type 0
Does old lines.Blank did new = (did ≡ Nothing) × (new ≡ old)
Does old l did new = DoesIn old l did new

-- what a line does
abbrev pub DoesText : Stage → List ℕ → Outcome Reply → Stage → Type 0
DoesText old line did new = (l : Line) × Means line l × Does old l did new

-- the stage and the outcome that a call answers are what the line does
abbrev pub MatchDone : (Outcome Reply → Stage → Type 0) → Stage × Outcome Reply → Type 0
MatchDone does r = does r.1 r.0
