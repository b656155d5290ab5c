-- Records of committed resources, by memory type: one memory type's change.
use Rattle.std.proofs.Common.{◌≡◌, ◌≢◌, ◌∙◌, refl, sym, ap, subst, ℕ, ◌+◌, ◌^◌, ◌<◌, List, [], ◌∷◌, ◌++◌, length, map, slice_get, slice_set, slice_index_or, Some, None, Ok}
use Rattle.std.proofs.Common.{Err, true, arith, ⊎_elim}
use Rattle.std.specs.Prelude.{Vec}
use Rattle.std.specs.Global.{Global}
use Rattle.std.specs.List.{remove}
use Rattle.std.specs.Option.{option_map}
use Rattle.std.proofs.lemmas.Bool.{cases_eq}
use Rattle.std.proofs.lemmas.List.{map-set, get_or-map, get_or-set_same, get_or-set_other, length-map}
use Rattle.std.proofs.lemmas.List.Sums.{sum_by-append}
use Rattle.std.proofs.lemmas.Option.{slice_get-map, slice_get_read}
use Rattle.gpu_core.proofs.Options.{none_some, some_same}
use Rattle.gpu_values.specs.Refusal.{Refusal, refusal_of}
use Rattle.gpu_values.specs.declared.error.AllocationError.{AllocationError}
use Rattle.gpu_device.specs.declared.d3d12.types.ID3D12Resource.{ID3D12Resource}
use Rattle.gpu_d3d12.specs.ResourceAnswer.{ResourceAnswer, Granted, Declined, Null, Texts, committed_texts, resource_number, resource_refusal}
use Rattle.gpu_d3d12.specs.Committed.{fits, with_record, number_or_refusal, CommitsBy, IsCommitted, ReleasesRecord, Committed, records_at, total_size, SumsFit, place_of}
use Rattle.gpu_d3d12.specs.declared.committed_record.CommittedRecord.{CommittedRecord}

abbrev pub Rows : Type 0
Rows = List (Vec CommittedRecord Global)

abbrev pub lists : Rows → Committed
lists rows = map (λ v. v.items) rows

pub row_there : (rows : Rows) (i : ℕ) (v : Vec CommittedRecord Global) → i < length rows → v ≡ slice_index_or rows i v → records_at (lists rows) i ≡ v.items
row_there rows i v below read =
    get_or-map (λ (w : Vec CommittedRecord Global). w.items) rows i v [] below ∙ ap (λ (w : Vec CommittedRecord Global). w.items) (sym read)

-- what stands for the memory type among the lists
pub row_get : (rows : Rows) (i : ℕ) (v : Vec CommittedRecord Global) → i < length rows → v ≡ slice_index_or rows i v → slice_get (lists rows) i ≡ Some v.items
row_get rows i v below read =
    slice_get-map (λ (w : Vec CommittedRecord Global). w.items) rows i ∙ ap (option_map (λ (w : Vec CommittedRecord Global). w.items)) (slice_get_read rows (length rows) i v refl below read)

pub row_set : (rows : Rows) (i : ℕ) (v : Vec CommittedRecord Global) → lists (slice_set rows i v) ≡ slice_set (lists rows) i v.items
row_set rows i v = map-set (λ (w : Vec CommittedRecord Global). w.items) rows i v

pub as_many : (rows : Rows) → length (lists rows) ≡ length rows
as_many rows = length-map rows (λ (w : Vec CommittedRecord Global). w.items)

pub records_here : (c : Committed) (i : ℕ) (x : List CommittedRecord) → i < length c → records_at (slice_set c i x) i ≡ x
records_here c i x below = get_or-set_same c i x [] below

pub records_elsewhere : (c : Committed) (i t : ℕ) (x : List CommittedRecord) → t ≢ i → records_at (slice_set c i x) t ≡ records_at c t
records_elsewhere c i t x away = get_or-set_other c i t x [] away

pub sums_set : (c : Committed) (i : ℕ) (x : List CommittedRecord) → i < length c → SumsFit c → total_size x < 2 ^ 64 → SumsFit (slice_set c i x)
sums_set c i x below sums fits t =
    ⊎_elim
    (λ same. subst (λ (rs : List CommittedRecord). total_size rs < 2 ^ 64) (sym (ap (records_at (slice_set c i x)) same ∙ records_here c i x below)) fits)
    (λ away. subst (λ (rs : List CommittedRecord). total_size rs < 2 ^ 64) (sym (records_elsewhere c i t x away)) (sums t))
    (cases_eq t i)

pub row_sums : (rows : Rows) (i : ℕ) (v : Vec CommittedRecord Global) → i < length rows → SumsFit (lists rows) → total_size v.items < 2 ^ 64 → SumsFit (lists (slice_set rows i v))
row_sums rows i v below sums fits =
    let many = as_many rows in
    subst SumsFit (sym (row_set rows i v)) (sums_set (lists rows) i v.items (omega (arith, below, many)) sums fits)

pub sum_added : (rs : List CommittedRecord) (r : CommittedRecord) → total_size (rs ++ r ∷ []) ≡ total_size rs + r.size
sum_added rs r = let more = sum_by-append (λ (x : CommittedRecord). x.size) rs (r ∷ []) in omega (arith, more)

-- ---- one more

-- a refusal, as what an answer results in
pub refused_reply : (texts : Texts) (answer : ResourceAnswer) (r : Refusal) → resource_refusal texts answer ≡ Some r → (Err r ≡ number_or_refusal texts answer) × (resource_number answer ≡ None)
refused_reply texts (Granted n) r is = absurd (none_some r is)
refused_reply texts (Declined code reason) r is = (ap Err (sym (some_same _ _ is)), refl)
refused_reply texts Null r is = (ap Err (sym (some_same _ _ is)), refl)

module _ {S : Type 0} (asks : S → ResourceAnswer → S → Type 0) (size : ℕ) (old : List CommittedRecord) (device : S)
  where
    pub refused : (e : AllocationError) (answer : ResourceAnswer) (after : S) → fits old size ≡ true → asks device answer after
        → resource_refusal committed_texts answer ≡ Some (refusal_of e) → IsCommitted asks size old device (Err e) old after
    refused e answer after fit asks why =
        let told = refused_reply committed_texts answer (refusal_of e) why in
        record {
          host = true;
          answer = Some answer;
          commits =
              subst (λ b. CommitsBy b true old size (Some answer) (Err (refusal_of e)) old) (sym fit) (told.0, ap (with_record old size) (sym told.1));
          asked = asks;
        }

    pub granted : (r : ID3D12Resource) (answer : ResourceAnswer) (after : S) (new : List CommittedRecord) → fits old size ≡ true → asks device answer after
        → answer ≡ Granted r.0 → new ≡ old ++ record { resource = r; size = size } ∷ [] → IsCommitted asks size old device (Ok r) new after
    granted r answer after new fit asks is added = record {
      host = true;
      answer = Some answer;
      commits =
          subst (λ b. CommitsBy b true old size (Some answer) (Ok r.0) new) (sym fit)
          (ap (number_or_refusal committed_texts) (sym is), added ∙ ap (λ (a : ResourceAnswer). with_record old size (resource_number a)) (sym is));
      asked = asks;
    }

-- ---- one less

-- the records after one of a memory type went
pub releases_at : (rows : Rows) (i : ℕ) (old : Committed) (v w : Vec CommittedRecord Global) (made : CommittedRecord) → records_at (lists rows) i ≡ v.items → lists rows ≡ old
    → (place : ℕ) × (place_of v.items made ≡ Some place) × (w.items ≡ remove v.items place) → ReleasesRecord i made old (lists (slice_set rows i w))
releases_at rows i old v w made was view gone =
    let here : records_at old i ≡ v.items = ap (λ (k : Committed). records_at k i) (sym view) ∙ was in
    record {
      place = gone.0;
      stands = ap (λ (rs : List CommittedRecord). place_of rs made) here ∙ gone.1;
      records = row_set rows i w ∙ (λ j. slice_set (view j) i (gone.2 j)) ∙ ap (λ (rs : List CommittedRecord). slice_set old i (remove rs gone.0)) (sym here);
    }
