use Rattle.std.proofs.Common.{rules, ◌≡◌, ◌∙◌, ap, sym, subst, true}
use Rattle.gpu_d3d12.specs.MemoryKinds.{memory_kinds, IsFirstServing}
use Rattle.gpu_d3d12.specs.Setup.{kinds_of_device}
use Rattle.gpu_pool.specs.Allocate.{request_at}
use Rattle.gpu_d3d12.specs.Source.{SourceState}
use Rattle.gpu_d3d12.specs.Allocate.{is_valid, AllocatesBy}
use Rattle.gpu_d3d12.proofs.Giving.{attempted}
use Rattle.gpu_d3d12.proofs.Staying.{serves_keeps}
use Rattle.gpu_d3d12.proofs.allocate.allocate_piece.Goals as goal

pub returns-clause-allocates : goal.returns-clause-allocates
returns-clause-allocates g c =
    let a = c.args in
    let first = subst (λ tier. IsFirstServing a.desc.now.location a.desc.now.resource_category (memory_kinds tier) c.type_for-index.result)
    (c.tier.ensures ∙ ap (λ (s : SourceState g.row.D.Denot). s.tier) c.source.ensures.lent) c.type_for-index.ensures.first in
    let valid : is_valid a.desc.now ≡ true = search rules in
    subst (λ v. AllocatesBy g.D.D3D12Device a.desc.now v a.pool.now c.allocate_named.result c.allocate_named.new.self) (sym valid)
    (attempted g.D.D3D12Device a.desc.now c.type_for-index.result a.pool.now first c.request_of.result c.request_of.ensures.asks c.request_of.ensures.shared c.allocate_named.result
    c.allocate_named.new.self c.allocate_named.ensures.allocates)

pub returns-clause-journal : goal.returns-clause-journal
returns-clause-journal g c =
    let a = c.allocate_named.ensures.allocates in
    let old = c.args.pool.now in
    (serves_keeps g.D.D3D12Device (kinds_of_device old.source.tier) (request_at c.type_for-index.result c.request_of.result tt) old a.allocates.0 a.answer c.allocate_named.new.self a.allocates.1).journal
