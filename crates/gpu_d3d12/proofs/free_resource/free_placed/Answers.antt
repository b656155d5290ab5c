use Rattle.std.proofs.Common.{rules, sym, subst}
use Rattle.gpu_pool.specs.RequestState.{pool_of}
use Rattle.gpu_pool.specs.Source.{result_of}
use Rattle.gpu_d3d12.specs.Live.{IsLive}
use Rattle.gpu_d3d12.specs.Over.{FreesPlacedOver}
use Rattle.gpu_d3d12.specs.State.{Pool}
use Rattle.gpu_d3d12.proofs.Creating.{freed_placed}
use Rattle.gpu_d3d12.proofs.free_resource.free_placed.Goals as goal
use Rattle.gpu_d3d12.proofs.free_resource.free_placed.Goals.{After-free_named-2}

abbrev was : (g : _) (c : After-free_named-2 g) → Pool g.row.D.Denot
was g c = pool_of c.pool.inside.source c.pool.inside.requests

pub returns-clause-frees : goal.returns-clause-frees
returns-clause-frees g c =
    let V = g.D.D3D12Device in
    let later = (goal.at.returns-clause-frees g c).After-free_named-2 in
    let a = c.args.allocation.now in
    let live : IsLive c.args.pool.now.slots a = search rules in
    subst (λ (s : Pool g.row.D.Denot). FreesPlacedOver V a c.args.resource.0 s (result_of c.free_named-2.result) c.free_named-2.new.self) c.pool.view_is
    (freed_placed V a c.args.resource.0 (was g later) c.release.new.self c.release.ensures.releases (subst (λ (s : Pool g.row.D.Denot). IsLive s.slots a) (sym c.pool.view_is) live)
    (result_of c.free_named-2.result) c.free_named-2.new.self c.free_named-2.ensures.frees)

pub returns-clause-keeps : goal.returns-clause-keeps
returns-clause-keeps g c = λ b live other.
    c.free_named-2.ensures.keeps b (subst (λ (s : Pool g.row.D.Denot). IsLive s.slots b) (sym c.pool.view_is) live) other
