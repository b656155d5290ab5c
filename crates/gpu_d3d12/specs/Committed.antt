-- Committed resources, by memory type, and what asking for one more and giving one back results in.
use Rattle.std.specs.Prelude.{◌≡◌, ℕ, ◌+◌, ◌^◌, ◌<◌, ◌==◌, ◌&&◌, Bool, true, false, nat_lt, List, [], ◌∷◌, ◌++◌, length, slice_get, Option, Some, None, Result, Ok, Err, codes}
use Rattle.std.specs.List.{sum_by, slice_set, slice_index_or, position, remove}
use Rattle.std.specs.Option.{option_map}
use Rattle.gpu_values.specs.Refusal.{Refusal, refusal_of, internal, out_of_memory, host_out_of_memory}
use Rattle.gpu_values.specs.declared.error.AllocationError.{AllocationError}
use Rattle.gpu_device.specs.declared.d3d12.types.ID3D12Resource.{ID3D12Resource}
use Rattle.gpu_d3d12.specs.ResourceAnswer.{ResourceAnswer, Granted, Declined, Null, Texts, committed_texts, resource_number, code_refusal}
use Rattle.gpu_d3d12.specs.declared.question.CommittedAllocationStatistics.{CommittedAllocationStatistics}
use Rattle.gpu_d3d12.specs.declared.committed_record.CommittedRecord.{CommittedRecord}

-- ---- what is kept

-- the committed resources of each memory type that weren't given back, in the order in which they were made
abbrev pub Committed : Type 0
Committed = List (List CommittedRecord)

-- those of the t-th memory type, none where there is no such type
abbrev pub records_at : Committed → (t : ℕ) → List CommittedRecord
records_at committed t = slice_index_or committed t []

-- the sum of the records' sizes, in bytes
abbrev pub total_size : List CommittedRecord → ℕ
total_size records = sum_by (λ r. r.size) records

-- the sums of sizes have 64 bits
abbrev pub SumsFit : Committed → Type 0
SumsFit committed = (t : ℕ) → total_size (records_at committed t) < 2 ^ 64

-- how many records there are, and their sizes' sum
abbrev pub statistics_of : List CommittedRecord → CommittedAllocationStatistics
statistics_of records = record { num_allocations = length records; total_size = total_size records }

-- how many there are of the t-th memory type, and their sizes' sum
abbrev pub statistics_at : Committed → (t : ℕ) → Option CommittedAllocationStatistics
statistics_at committed t = option_map statistics_of (slice_get committed t)

-- ---- how a device answers

-- why there is no resource, or its number
abbrev pub number_or_refusal : Texts → ResourceAnswer → Result ℕ Refusal
number_or_refusal texts (Granted number) = Ok number
number_or_refusal texts (Declined code reason) = Err (code_refusal texts code reason)
number_or_refusal texts Null = Err (internal (codes "Allocation succeeded but no resource was returned?") None)

-- what a question for a resource leaves, if one was asked
abbrev pub IsAfterResource : {S : Type 0} → (asks : S → ResourceAnswer → S → Type 0) → S → Option ResourceAnswer → S → Type 0
IsAfterResource asks old None new = new ≡ old
IsAfterResource asks old (Some answer) new = asks old answer new

-- a resource by its number, or why there is none
abbrev pub resource_reply : Result ID3D12Resource AllocationError → Result ℕ Refusal
resource_reply (Ok resource) = Ok resource.0
resource_reply (Err e) = Err (refusal_of e)

-- ---- one more

-- the sum with one more of this size has 64 bits
abbrev pub fits : List CommittedRecord → (size : ℕ) → Bool
fits records size = nat_lt (total_size records + size) (2 ^ 64)

-- a record more, where a resource was granted
abbrev pub with_record : List CommittedRecord → (size : ℕ) → Option ℕ → List CommittedRecord
with_record records size None = records
with_record records size (Some number) = records ++ record { resource = record { 0 = number }; size = size } ∷ []

-- what a committed resource of this size results in: first its sum decides, then host memory, then the device
abbrev pub CommitsBy : (fits host : Bool) → List CommittedRecord → (size : ℕ) → Option ResourceAnswer → Result ℕ Refusal → List CommittedRecord → Type 0
CommitsBy false host old size answer reply new = (host ≡ true) × (answer ≡ None) × (reply ≡ Err out_of_memory) × (new ≡ old)
CommitsBy true false old size answer reply new = (answer ≡ None) × (reply ≡ Err host_out_of_memory) × (new ≡ old)
CommitsBy true true old size None reply new = ⊥
CommitsBy true true old size (Some answer) reply new = (reply ≡ number_or_refusal committed_texts answer) × (new ≡ with_record old size (resource_number answer))

-- the same, as the sum decides
abbrev pub Commits : (host : Bool) → List CommittedRecord → (size : ℕ) → Option ResourceAnswer → Result ℕ Refusal → List CommittedRecord → Type 0
Commits host old size answer reply new = CommitsBy (fits old size) host old size answer reply new

-- the same over what is asked for the resource
pub record IsCommitted {S : Type 0} (asks : S → ResourceAnswer → S → Type 0) (size : ℕ) (old : List CommittedRecord) (source : S) (result : Result ID3D12Resource AllocationError)
    (new : List CommittedRecord) (after : S) : Type 0 where
  pub host : Bool
  pub answer : Option ResourceAnswer
  pub commits : Commits host old size answer (resource_reply result) new
  pub asked : IsAfterResource asks source answer after

-- ---- one less

-- two records are of the same number and size
abbrev pub is_same_record : CommittedRecord → CommittedRecord → Bool
is_same_record a b = (a.resource.0 == b.resource.0) && (a.size == b.size)

-- where the record stands first, if it does
abbrev pub place_of : List CommittedRecord → CommittedRecord → Option ℕ
place_of records r = position (λ x. is_same_record x r) records

-- no record is of this resource
abbrev pub freed : Refusal
freed = internal (codes "Resource was already freed.") None

-- the record is of a resource that wasn't given back; it goes
pub record ReleasesRecord (t : ℕ) (r : CommittedRecord) (old new : Committed) : Type 0 where
  pub place : ℕ
  pub stands : place_of (records_at old t) r ≡ Some place
  pub records : new ≡ slice_set old t (remove (records_at old t) place)
