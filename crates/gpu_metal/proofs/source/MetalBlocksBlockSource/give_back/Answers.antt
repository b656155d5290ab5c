use Rattle.std.specs.Prelude.{IsSome}
use Rattle.std.proofs.Common.{◌∙◌, refl, sym, subst}
use Rattle.gpu_pool.specs.Source.{Removes}
use Rattle.gpu_metal.specs.Source.{blocks_of}
use Rattle.gpu_metal.specs.Source.{SourceState}
use Rattle.gpu_metal.specs.Source.{GivesHeapBack}
use Rattle.gpu_metal.proofs.Changing.{heap_removes, heap_goes, heap_leaves}
use Rattle.gpu_metal.proofs.source.MetalBlocksBlockSource.give_back.Goals as goal
use Rattle.gpu_metal.proofs.source.MetalBlocksBlockSource.give_back.Goals.{After-release_block_heap}

some : (g : _) (c : After-release_block_heap g) → IsSome (blocks_of (g.D.MetalDevice.held c.self.inside.first.value) (g.D.MetalDevice.held c.self.inside.device) c.args.handle.0)
some g c =
    let V = g.D.MetalDevice in
    subst (λ (s : SourceState g.row.D.Denot). IsSome (blocks_of (V.held s.first) (V.held s.device) c.args.handle.0)) (sym c.self.view_is) c.requires

pub invariant_of-self : goal.invariant_of-self
invariant_of-self g c =
    let V = g.D.MetalDevice in
    let later = (goal.at.invariant_of-self g c).After-release_block_heap in
    let i = c.self.inside in
    let e = c.release_block_heap.ensures in (
      e.constant ∙ c.self.invariant.0,
      heap_goes i.set (V.held i.first.value) (V.held i.device) (V.held c.release_block_heap.new.device) c.args.handle (some g later) e.held_is c.self.invariant.1,
    )

pub returns-clause-removed : goal.returns-clause-removed
returns-clause-removed g c =
    let V = g.D.MetalDevice in
    let later = (goal.at.returns-clause-removed g c).After-release_block_heap in
    let i = c.self.inside in
    let now = V.held c.release_block_heap.new.device in
    subst (λ (s : SourceState g.row.D.Denot). Removes (blocks_of (V.held s.first) (V.held s.device)) c.args.handle.0 (blocks_of (V.held i.first.value) now)) c.self.view_is
    (heap_removes i.set (V.held i.first.value) (V.held i.device) now c.args.handle (some g later) c.release_block_heap.ensures.held_is c.self.invariant.1)

pub returns-clause-given : goal.returns-clause-given
returns-clause-given g c =
    let V = g.D.MetalDevice in
    let later = (goal.at.returns-clause-given g c).After-release_block_heap in
    let i = c.self.inside in
    let after = c.release_block_heap.new.device in
    let here : GivesHeapBack V (record { device = i.device; first = i.first.value; set = i.set }) c.args.handle (record { device = after; first = i.first.value; set = i.set }) =
    record {
      gives = c.release_block_heap.ensures;
      residency = heap_leaves i.set (V.held i.first.value) (V.held i.device) (V.held after) c.args.handle (some g later) c.release_block_heap.ensures.held_is c.self.invariant.1;
      state = refl;
    } in
    subst (λ (s : SourceState g.row.D.Denot). GivesHeapBack V s c.args.handle (record { device = after; first = i.first.value; set = i.set })) c.self.view_is here
