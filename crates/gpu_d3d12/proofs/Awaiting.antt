-- Committed resources for a caller that asks the device itself: one memory type's change, and the record that is awaited.
use Rattle.std.proofs.Common.{◌≡◌, ◌∙◌, refl, sym, ap, subst, ℕ, ◌<◌, List, [], ◌∷◌, ◌++◌, length, map, slice_get, slice_set, slice_index_or, Option, Some, None, Result, Ok, Err, Bool, true, false, cond, OnOk, OnErr, IfErr, ◌≤◌, ⊎_elim, arith}
use Rattle.std.specs.Prelude.{Vec, IsSomeAnd, vec_capacity}
use Rattle.std.specs.Global.{Global}
use Rattle.std.specs.Option.{option_map}
use Rattle.std.specs.List.{remove}
use Rattle.std.proofs.lemmas.Bool.{cases_lt}
use Rattle.std.proofs.lemmas.List.{length-map, length-set, get_or-set_same, set-get_or}
use Rattle.std.proofs.lemmas.Option.{slice_get-map, slice_get_read, slice_get_past}
use Rattle.gpu_values.specs.Refusal.{refusal_of, out_of_memory, host_out_of_memory}
use Rattle.gpu_values.specs.declared.error.AllocationError.{AllocationError}
use Rattle.gpu_d3d12.specs.Committed.{records_at, fits, freed, place_of}
use Rattle.gpu_d3d12.specs.CommittedRequests.{RecordState, HasPlace, HasRoom, BeginsBy, BeginsIn, Begins, Makes, record_of, ForgetsIn, Forgets}
use Rattle.gpu_d3d12.specs.declared.committed_record.CommittedRecord.{CommittedRecord}
use Rattle.gpu_d3d12.specs.declared.committed_requests.AwaitedResource.{AwaitedResource}
use Rattle.gpu_d3d12.specs.declared.committed_requests.Committed.{Committed}
use Rattle.gpu_device.specs.declared.d3d12.types.ID3D12Resource.{ID3D12Resource}
use Rattle.gpu_d3d12.proofs.Records.{Rows, lists, row_there, row_set, releases_at}

abbrev Row : Type 0
Row = Vec CommittedRecord Global

-- a list of records and its room
abbrev room_of : Row → List CommittedRecord × ℕ
room_of v = (v.items, vec_capacity v)

abbrev pub rooms : Rows → List (List CommittedRecord × ℕ)
rooms rows = map room_of rows

abbrev pub state : Rows → Option AwaitedResource → RecordState
state rows a = record { records = lists rows; awaited = a }

-- the list and room of a memory type
pub room_there : (rows : Rows) (i : ℕ) (v : Row) → i < length rows → v ≡ slice_index_or rows i v → slice_get (rooms rows) i ≡ Some (room_of v)
room_there rows i v below read = slice_get-map room_of rows i ∙ ap (option_map room_of) (slice_get_read rows (length rows) i v refl below read)

-- the same after the memory type's vector changed
pub room_after : (rows : Rows) (i : ℕ) (w : Row) → i < length rows → slice_get (rooms (slice_set rows i w)) i ≡ Some (room_of w)
room_after rows i w below =
    let long = length-set rows i w in
    room_there (slice_set rows i w) i w (omega (arith, below, long)) (sym (get_or-set_same rows i w w below))

pub has_room : (rows : Rows) (i size : ℕ) (w : Row) → i < length rows → HasPlace size (room_of w) → HasRoom (rooms (slice_set rows i w)) (Some (record { memory_type = i; size = size }))
has_room rows i size w below place = subst (λ (o : Option (List CommittedRecord × ℕ)). IsSomeAnd o (λ row. HasPlace size row)) (sym (room_after rows i w below)) place

-- ---- begin

refused_by : (b : Bool) (old : RecordState) (t size : ℕ) (e : AllocationError) (new : RecordState) → refusal_of e ≡ cond b host_out_of_memory out_of_memory → new ≡ old → BeginsBy b old t size (Err e) new
refused_by false old t size e new why same = (ap Some why, same)
refused_by true old t size e new why same = (why, same)

-- a vector that keeps its records changes no list
pub same_lists : (rows : Rows) (i : ℕ) (v w : Row) → i < length rows → v ≡ slice_index_or rows i v → w.items ≡ v.items → lists (slice_set rows i w) ≡ lists rows
same_lists rows i v w below read same =
    row_set rows i w ∙ ap (slice_set (lists rows) i) (same ∙ sym (row_there rows i v below read)) ∙ set-get_or (lists rows) i []

module _ (rows : Rows) (i size : ℕ) (v w : Row) (old : RecordState) (view : state rows None ≡ old) (below : i < length rows) (read : v ≡ slice_index_or rows i v) (same : w.items ≡ v.items) where
  lists_same : lists (slice_set rows i w) ≡ old.records
  lists_same = same_lists rows i v w below read same ∙ ap (λ (s : RecordState). s.records) view

  here : records_at old.records i ≡ v.items
  here = ap (λ (s : RecordState). records_at s.records i) (sym view) ∙ row_there rows i v below read

  closed : old.awaited ≡ None
  closed = ap (λ (s : RecordState). s.awaited) (sym view)

  pub begins_refused : (e : AllocationError) → refusal_of e ≡ cond (fits v.items size) host_out_of_memory out_of_memory → Begins old i size (Err e) (state (slice_set rows i w) None)
  begins_refused e why =
      let is : state (slice_set rows i w) None ≡ old = λ j. record { records = lists_same j; awaited = sym closed j } in
      subst (λ (o : Option AwaitedResource). BeginsIn o old i size (Err e) (state (slice_set rows i w) None)) (sym closed)
      (refused_by (fits (records_at old.records i) size) old i size e _ (why ∙ ap (λ (rs : List CommittedRecord). cond (fits rs size) host_out_of_memory out_of_memory) (sym here)) is)

  pub begins_open : fits v.items size ≡ true → Begins old i size (Ok tt) (state (slice_set rows i w) (Some (record { memory_type = i; size = size })))
  begins_open fit =
      subst (λ (o : Option AwaitedResource). BeginsIn o old i size (Ok tt) (state (slice_set rows i w) (Some (record { memory_type = i; size = size })))) (sym closed)
      (subst (λ (b : Bool). BeginsBy b old i size (Ok tt) (state (slice_set rows i w) (Some (record { memory_type = i; size = size })))) (sym (ap (λ (rs : List CommittedRecord). fits rs size) here ∙ fit))
      (λ j. record { records = lists_same j; awaited = Some (record { memory_type = i; size = size }) }))

-- ---- the answer

-- the memory type of the record that is awaited is there, and has a place
pub type_there : (rows : Rows) (a : AwaitedResource) → HasRoom (rooms rows) (Some a) → a.memory_type < length rows
type_there rows a h =
    let many = length-map rows room_of in
    ⊎_elim
    (λ (below : a.memory_type < length (rooms rows)). omega (arith, below, many))
    (λ (past : length (rooms rows) ≤ a.memory_type). absurd (subst (λ (o : Option (List CommittedRecord × ℕ)). IsSomeAnd o (λ row. HasPlace a.size row)) (slice_get_past (rooms rows) a.memory_type past) h))
    (cases_lt a.memory_type (length (rooms rows)))

pub place_there : (rows : Rows) (a : AwaitedResource) (v : Row) → a.memory_type < length rows → v ≡ slice_index_or rows a.memory_type v → HasRoom (rooms rows) (Some a) → HasPlace a.size (room_of v)
place_there rows a v below read h = subst (λ (o : Option (List CommittedRecord × ℕ)). IsSomeAnd o (λ row. HasPlace a.size row)) (room_there rows a.memory_type v below read) h

pub made_at : (rows : Rows) (a : AwaitedResource) (v w : Row) (resource : ID3D12Resource) (old : RecordState) → state rows (Some a) ≡ old → a.memory_type < length rows → v ≡ slice_index_or rows a.memory_type v
    → w.items ≡ v.items ++ record { resource = resource; size = a.size } ∷ []
    → Makes old resource (Ok (record { memory_type = a.memory_type; resource = resource; size = a.size })) (state (slice_set rows a.memory_type w) None)
made_at rows a v w resource old view below read pushed =
    let i = a.memory_type in
    let r : CommittedRecord = record { resource = resource; size = a.size } in
    let lists_are : lists (slice_set rows i w) ≡ slice_set (lists rows) i (records_at (lists rows) i ++ r ∷ []) =
    row_set rows i w ∙ ap (slice_set (lists rows) i) (pushed ∙ ap (λ (rs : List CommittedRecord). rs ++ r ∷ []) (sym (row_there rows i v below read))) in
    subst (λ (s : RecordState). Makes s resource (Ok (record { memory_type = i; resource = resource; size = a.size })) (state (slice_set rows i w) None)) view
    (record { told = refl; state = λ j. record { records = lists_are j; awaited = None } })

-- ---- forget

module _ (rows : Rows) (c : Committed) (v w : Row) (old : RecordState) (view : state rows None ≡ old) (below : c.memory_type < length rows) (read : v ≡ slice_index_or rows c.memory_type v) where
  abbrev i : ℕ
  i = c.memory_type

  abbrev new : RecordState
  new = state (slice_set rows i w) None

  was : records_at (lists rows) i ≡ v.items
  was = row_there rows i v below read

  at : records_at old.records i ≡ v.items
  at = ap (λ (s : RecordState). records_at s.records i) (sym view) ∙ was

  shut : old.awaited ≡ None
  shut = ap (λ (s : RecordState). s.awaited) (sym view)

  forgets_in : (result : Result (Unit {0}) AllocationError) → OnOk result ((place : ℕ) × (place_of v.items (record_of c) ≡ Some place) × (w.items ≡ remove v.items place))
      → OnErr result (place_of v.items (record_of c) ≡ None) → IfErr result (λ e. refusal_of e ≡ freed) → OnErr result (w.items ≡ v.items) → ForgetsIn None old c result new
  forgets_in (Ok u) gives dead cause refused = (
    releases_at rows i old.records v w (record_of c) was (ap (λ (s : RecordState). s.records) view) gives,
    λ j. record { records = lists (slice_set rows i w); awaited = sym shut j },
  )
  forgets_in (Err e) gives dead cause refused = (
    ap (λ (rs : List CommittedRecord). place_of rs (record_of c)) at ∙ dead,
    cause,
    λ j. record { records = (same_lists rows i v w below read refused ∙ ap (λ (s : RecordState). s.records) view) j; awaited = sym shut j },
  )

  pub forgets : (result : Result (Unit {0}) AllocationError) → OnOk result ((place : ℕ) × (place_of v.items (record_of c) ≡ Some place) × (w.items ≡ remove v.items place))
      → OnErr result (place_of v.items (record_of c) ≡ None) → IfErr result (λ e. refusal_of e ≡ freed) → OnErr result (w.items ≡ v.items) → Forgets old c result new
  forgets result gives dead cause refused = subst (λ (o : Option AwaitedResource). ForgetsIn o old c result new) (sym shut) (forgets_in result gives dead cause refused)
