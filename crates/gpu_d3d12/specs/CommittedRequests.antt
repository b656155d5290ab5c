-- Committed resources for a caller that asks the device itself: what is kept, and what each call makes of it.
use Rattle.std.specs.Prelude.{◌≡◌, ℕ, ◌+◌, ◌^◌, ◌<◌, ◌++◌, [], ◌∷◌, Bool, true, false, List, length, IsSomeAnd, slice_get, Option, Some, None, Result, Ok, Err}
use Rattle.std.specs.List.{slice_set}
use Rattle.gpu_values.specs.Refusal.{Refusal, refusal_of, refusal_in, out_of_memory, host_out_of_memory}
use Rattle.gpu_values.specs.declared.error.AllocationError.{AllocationError}
use Rattle.gpu_device.specs.declared.d3d12.types.ID3D12Resource.{ID3D12Resource}
use Rattle.gpu_pool.specs.RequestState.{answer_awaited, no_answer_awaited}
use Rattle.gpu_d3d12.specs.Committed as lists
use Rattle.gpu_d3d12.specs.Committed.{records_at, total_size, fits, place_of, freed, ReleasesRecord}
use Rattle.gpu_d3d12.specs.declared.committed_record.CommittedRecord.{CommittedRecord}
use Rattle.gpu_d3d12.specs.declared.committed_requests.AwaitedResource.{AwaitedResource}
use Rattle.gpu_d3d12.specs.declared.committed_requests.Committed.{Committed}

-- the committed resources of each memory type, and the one that is asked for
pub record RecordState : Type 0 where
  pub records : lists.Committed
  pub awaited : Option AwaitedResource

-- a list of records and its room have a place for this size
abbrev pub HasPlace : (size : ℕ) → List CommittedRecord × ℕ → Type 0
HasPlace size row = (length row.0 < row.1) × (total_size row.0 + size < 2 ^ 64)

-- there is a place for the record that is awaited
abbrev pub HasRoom : List (List CommittedRecord × ℕ) → Option AwaitedResource → Type 0
HasRoom rows None = Unit {0}
HasRoom rows (Some a) = IsSomeAnd (slice_get rows a.memory_type) (λ row. HasPlace a.size row)

-- the call is refused for this cause, and nothing changes
abbrev pub IsRefused : {A : Type 0} → Refusal → RecordState → Result A AllocationError → RecordState → Type 0
IsRefused refusal old result new = (refusal_in result ≡ Some refusal) × (new ≡ old)

-- ---- begin

-- first the sum of sizes decides, then host memory
abbrev pub BeginsBy : (fits : Bool) → RecordState → (t size : ℕ) → Result (Unit {0}) AllocationError → RecordState → Type 0
BeginsBy false old t size result new = IsRefused out_of_memory old result new
BeginsBy true old t size (Ok _) new = new ≡ record old { awaited = Some (record { memory_type = t; size = size }) }
BeginsBy true old t size (Err e) new = (refusal_of e ≡ host_out_of_memory) × (new ≡ old)

abbrev pub BeginsIn : Option AwaitedResource → RecordState → (t size : ℕ) → Result (Unit {0}) AllocationError → RecordState → Type 0
BeginsIn (Some _) old t size result new = IsRefused answer_awaited old result new
BeginsIn None old t size result new = BeginsBy (fits (records_at old.records t) size) old t size result new

-- a committed resource of the t-th memory type is asked for where no question is open
abbrev pub Begins : RecordState → (t size : ℕ) → Result (Unit {0}) AllocationError → RecordState → Type 0
Begins old t size result new = BeginsIn old.awaited old t size result new

-- ---- the answers

abbrev pub record_of : Committed → CommittedRecord
record_of c = record { resource = c.resource; size = c.size }

-- a record more, last of its memory type
pub record Receives (a : AwaitedResource) (old : RecordState) (resource : ID3D12Resource) (made : Committed) (new : RecordState) : Type 0 where
  pub told : made ≡ record { memory_type = a.memory_type; resource = resource; size = a.size }
  pub state : new ≡ record { records = slice_set old.records a.memory_type (records_at old.records a.memory_type ++ record_of made ∷ []); awaited = None }

abbrev pub MakesIn : Option AwaitedResource → RecordState → ID3D12Resource → Result Committed AllocationError → RecordState → Type 0
MakesIn None old resource result new = IsRefused no_answer_awaited old result new
MakesIn (Some a) old resource (Ok made) new = Receives a old resource made new
MakesIn (Some a) old resource (Err e) new = ⊥

-- the device made the resource
abbrev pub Makes : RecordState → ID3D12Resource → Result Committed AllocationError → RecordState → Type 0
Makes old resource result new = MakesIn old.awaited old resource result new

abbrev pub DeclinesIn : Option AwaitedResource → RecordState → Result (Unit {0}) AllocationError → RecordState → Type 0
DeclinesIn None old result new = IsRefused no_answer_awaited old result new
DeclinesIn (Some a) old (Ok _) new = new ≡ record old { awaited = None }
DeclinesIn (Some a) old (Err e) new = ⊥

-- the device made none
abbrev pub Declines : RecordState → Result (Unit {0}) AllocationError → RecordState → Type 0
Declines old result new = DeclinesIn old.awaited old result new

-- ---- forget

-- the record goes; or there is none, and nothing changes
abbrev pub ForgetsIn : Option AwaitedResource → RecordState → Committed → Result (Unit {0}) AllocationError → RecordState → Type 0
ForgetsIn (Some _) old c result new = IsRefused answer_awaited old result new
ForgetsIn None old c (Ok _) new = ReleasesRecord c.memory_type (record_of c) old.records new.records × (new ≡ record old { records = new.records })
ForgetsIn None old c (Err e) new = (place_of (records_at old.records c.memory_type) (record_of c) ≡ None) × (refusal_of e ≡ freed) × (new ≡ old)

-- a committed resource is forgotten where no question is open
abbrev pub Forgets : RecordState → Committed → Result (Unit {0}) AllocationError → RecordState → Type 0
Forgets old c result new = ForgetsIn old.awaited old c result new
