use Rattle.std.proofs.Common.{◌∙◌, ◌<◌, ◌^◌, ap, sym, subst, List, length, Some}
use Rattle.std.specs.Option.{option_map}
use Rattle.std.proofs.lemmas.Bool.{ltb-true}
use Rattle.gpu_d3d12.specs.Committed.{records_at, total_size, statistics_of, statistics_at}
use Rattle.gpu_d3d12.specs.CommittedRequests.{RecordState}
use Rattle.gpu_d3d12.specs.declared.committed_record.CommittedRecord.{CommittedRecord}
use Rattle.gpu_d3d12.proofs.Records.{Rows, lists, row_there, row_get}
use Rattle.gpu_d3d12.proofs.committed_requests.CommittedRequests.statistics.Goals as goal

pub statistics_of-requires : goal.statistics_of-requires
statistics_of-requires c =
    let look = c.in_ok-records.ensures.lookup in
    let rows = c.deref.result.now in
    let i = c.args.index in
    let below : i < length rows = ltb-true i (length rows) (sym look.0) in
    subst (λ (rs : List CommittedRecord). total_size rs < 2 ^ 64)
    (ap (λ (xs : Rows). records_at (lists xs) i) (sym c.deref.ensures.value) ∙ row_there rows i c.in_ok-records.records.now below look.1 ∙ sym c.deref-2.ensures.value)
    (c.self.invariant.0 i)

pub returns : goal.returns
returns c =
    let look = c.in_ok-records.ensures.lookup in
    let rows = c.deref.result.now in
    let i = c.args.index in
    let below : i < length rows = ltb-true i (length rows) (sym look.0) in
    ap Some (c.statistics_of.ensures ∙ ap statistics_of c.deref-2.ensures.value)
    ∙ sym (ap (option_map statistics_of) (row_get rows i c.in_ok-records.records.now below look.1))
    ∙ ap (λ (xs : Rows). statistics_at (lists xs) i) c.deref.ensures.value
    ∙ ap (λ (k : RecordState). statistics_at k.records i) c.self.view_is
