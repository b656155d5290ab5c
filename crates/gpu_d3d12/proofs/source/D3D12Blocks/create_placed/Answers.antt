use Rattle.std.proofs.Common.{◌≡◌, ◌∙◌, ℕ, List, refl, sym, ap, subst}
use Rattle.gpu_device.specs.declared.d3d12.event.ResourcePlace.TheVariants.{InHeap}
use Rattle.gpu_device.specs.D3D12.{Placed, Entry}
use Rattle.gpu_d3d12.specs.DeviceVersion.{device_of}
use Rattle.gpu_d3d12.specs.Question.{made_size}
use Rattle.gpu_d3d12.specs.ResourceAnswer.{AsksResource, placed_texts, resource_number}
use Rattle.gpu_d3d12.specs.Journal.{events, with_made}
use Rattle.gpu_d3d12.specs.Source.{SourceState, MakesResource, source_blocks}
use Rattle.gpu_d3d12.specs.declared.journal.ResourceEvent.{ResourceEvent}
use Rattle.gpu_d3d12.proofs.Asking.{Holds, noted, makes_resource, made_blocks, made_holds}
use Rattle.gpu_d3d12.proofs.Journaling.{number_is}
use Rattle.gpu_d3d12.proofs.source.D3D12Blocks.create_placed.Goals as goal
use Rattle.gpu_d3d12.proofs.source.D3D12Blocks.create_placed.Goals.{After-note}

abbrev was : (g : _) (c : After-note g) → SourceState g.row.D.Denot
was g c = let i = c.self.inside in record { device = i.device; first = i.first.value; tier = i.tier; journal = events i.journal }

abbrev entry : (g : _) (c : After-note g) → SourceState g.row.D.Denot → Entry
entry g c s = Placed c.args.heap.0 c.args.offset (made_size (g.D.D3D12Device.properties (device_of s.device)) c.args.question c.args.desc.now.resource_desc.now c.args.desc.now.castable_formats.now)

asked : (g : _) (c : After-note g)
    → AsksResource g.D.D3D12Device (device_of (was g c).device) c.args.question c.args.desc.now (InHeap c.args.heap c.args.offset) (entry g c (was g c)) c.create_placed-answer.ensures.0 c.create_placed-answer.new.device
asked g c =
    let a = c.create_placed-answer.ensures in
    let V = g.D.D3D12Device in
    subst
    (λ (d : g.row.D.Denot). AsksResource V d c.args.question c.args.desc.now (InHeap c.args.heap c.args.offset)
    (Placed c.args.heap.0 c.args.offset (made_size (V.properties d) c.args.question c.args.desc.now.resource_desc.now c.args.desc.now.castable_formats.now)) a.0 c.create_placed-answer.new.device)
    c.device_mut-device.ensures.value a.1

-- what is noted
journal : (g : _) (c : After-note g) → with_made (resource_number c.create_placed-answer.ensures.0) (events c.self.inside.journal) ≡ events c.note.new.self
journal g c =
    let a = c.create_placed-answer.ensures in
    ap (λ o. with_made o (events c.self.inside.journal)) (sym (number_is placed_texts a.0 c.create_placed-answer.result a.2)) ∙ sym c.note.ensures

pub invariant_of-self : goal.invariant_of-self
invariant_of-self g c =
    let V = g.D.D3D12Device in
    let later = (goal.at.invariant_of-self g c).After-note in
    subst (λ (xs : List ResourceEvent). Holds V (noted V (was g later) c.create_placed-answer.new.device xs)) (journal g later)
    (made_holds V (was g later) c.args.question c.args.desc.now (InHeap c.args.heap c.args.offset) (entry g later (was g later)) refl tt c.create_placed-answer.ensures.0 c.self.invariant c.create_placed-answer.new.device (asked g later))

pub returns-clause-makes : goal.returns-clause-makes
returns-clause-makes g c =
    let V = g.D.D3D12Device in
    let later = (goal.at.returns-clause-makes g c).After-note in
    let after = c.create_placed-answer.new.device in
    let a = c.create_placed-answer.ensures in (
      a.0,
      subst (λ (s : SourceState g.row.D.Denot). MakesResource V c.args.desc.now s c.args.question (InHeap c.args.heap c.args.offset) (entry g later s) a.0 (noted V (was g later) after (events c.note.new.self))) c.self.view_is
          (subst (λ (xs : List ResourceEvent). MakesResource V c.args.desc.now (was g later) c.args.question (InHeap c.args.heap c.args.offset) (entry g later (was g later)) a.0 (noted V (was g later) after xs)) (journal g later)
          (makes_resource V (was g later) c.args.question c.args.desc.now (InHeap c.args.heap c.args.offset) (entry g later (was g later)) refl tt a.0 c.self.invariant after (asked g later))),
      a.2,
    )

pub returns-clause-blocks : goal.returns-clause-blocks
returns-clause-blocks g c =
    let V = g.D.D3D12Device in
    let later = (goal.at.returns-clause-blocks g c).After-note in
    let after = c.create_placed-answer.new.device in
    subst (λ (s : SourceState g.row.D.Denot). (n : ℕ) → source_blocks V (noted V (was g later) after (events c.note.new.self)) n ≡ source_blocks V s n) c.self.view_is
    (made_blocks V (was g later) c.args.question c.args.desc.now (InHeap c.args.heap c.args.offset) (entry g later (was g later)) refl tt c.create_placed-answer.ensures.0 c.self.invariant after (asked g later))
