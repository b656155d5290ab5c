use Rattle.std.proofs.Common.{rules, sym, subst}
use Rattle.gpu_core.specs.declared.piece.Piece.{Piece}
use Rattle.gpu_device.specs.declared.metal.types.MTLHeap.{MTLHeap}
use Rattle.gpu_core.specs.Apart.{AreDistinct}
use Rattle.gpu_pool.specs.Allocation.{piece_of}
use Rattle.gpu_metal.specs.Live.{IsLive}
use Rattle.gpu_metal.specs.Free.{AllocatorFrees}
use Rattle.gpu_metal.specs.State.{State, state_of}
use Rattle.gpu_metal.proofs.Steps.{free_step}
use Rattle.gpu_metal.proofs.allocator.Allocator.free.Goals as goal

pub returns-clause-keeps : goal.returns-clause-keeps
returns-clause-keeps g c = λ b live other. c.free_named.ensures.keeps b (subst (λ (s : State g.row.D.Denot). IsLive s.slots b) (sym c.self.view_is) live) other

pub returns-clause-step : goal.returns-clause-step
returns-clause-step g c =
    let new : State g.row.D.Denot = state_of c.free_named.new.self c.self.inside.debug in
    let frees : AllocatorFrees g.D.MetalDevice c.args.allocation c.args.self.now c.match-free_named.result new = search rules in
    free_step g.D.MetalDevice c.args.allocation c.args.self.now new c.match-free_named.result frees
