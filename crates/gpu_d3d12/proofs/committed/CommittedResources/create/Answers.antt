use Rattle.std.proofs.Common.{◌≡◌, rules, subst, List, ◌++◌, ◌∷◌, [], Err, true}
use Rattle.gpu_device.specs.declared.d3d12.event.ResourcePlace.TheVariants.{Own}
use Rattle.gpu_device.specs.D3D12 as entries
use Rattle.gpu_d3d12.specs.DeviceVersion.{device_of}
use Rattle.gpu_d3d12.specs.Question.{made_size}
use Rattle.gpu_d3d12.specs.ResourceAnswer.{ResourceAnswer}
use Rattle.gpu_d3d12.specs.Source.{SourceState, MakesResource}
use Rattle.gpu_d3d12.specs.Committed.{IsCommitted, fits, records_at}
use Rattle.gpu_d3d12.specs.declared.committed_record.CommittedRecord.{CommittedRecord}
use Rattle.gpu_d3d12.proofs.Records.{refused, granted}
use Rattle.gpu_d3d12.proofs.committed.CommittedResources.create.Goals as goal
use Rattle.gpu_d3d12.proofs.committed.CommittedResources.create.Goals.{After-create_committed}

abbrev asks : (g : _) (c : After-create_committed g) → SourceState g.row.D.Denot → ResourceAnswer → SourceState g.row.D.Denot → Type 0
asks g c s answer t =
    let V = g.D.D3D12Device in
    let d = c.args.desc.now in
    MakesResource V d s c.args.question (Own c.args.own.heap_properties.now c.args.own.heap_flags)
    (entries.Committed (made_size (V.properties (device_of c.args.source.now.device)) c.args.question d.resource_desc.now d.castable_formats.now)) answer t

fit : (g : _) (c : After-create_committed g) → fits (records_at c.args.self.now c.args.index) c.args.size ≡ true
fit g c = search rules

pub returns-in-Err-clause-committed : goal.returns-in-Err-clause-committed
returns-in-Err-clause-committed g c =
    let after = (goal.at.returns-in-Err-clause-committed g c).After-create_committed in
    let old = records_at c.args.self.now c.args.index in
    let e = c.in-Err.ensures.makes in
    let same : old ≡ records_at c.not_made.new.self.records c.args.index = search rules in
    subst (λ (rs : List CommittedRecord). IsCommitted (asks g after) c.args.size old c.args.source.now (Err c.in-Err.error) rs c.create_committed.new.self) same
    (refused (asks g after) c.args.size old c.args.source.now c.in-Err.error e.0 c.create_committed.new.self (fit g after) e.1 e.2)

pub returns-in-Ok-clause-committed : goal.returns-in-Ok-clause-committed
returns-in-Ok-clause-committed g c =
    let after = (goal.at.returns-in-Ok-clause-committed g c).After-create_committed in
    let old = records_at c.args.self.now c.args.index in
    let e = c.in-Ok.ensures.makes in
    let r = c.in-Ok.resource in
    let added : records_at c.made.new.self.records c.args.index ≡ old ++ record { resource = r; size = c.args.size } ∷ [] = search rules in
    granted (asks g after) c.args.size old c.args.source.now r e.0 c.create_committed.new.self (records_at c.made.new.self.records c.args.index) (fit g after) e.1 e.2 added
