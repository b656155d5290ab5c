use Rattle.std.proofs.Common.{◌∙◌, sym, ap, subst}
use Rattle.gpu_metal.specs.Residency.{releases_recorded, ChangesHeld}
use Rattle.gpu_pool.specs.Handles.{all_handles}
use Rattle.gpu_metal.specs.Blocks.{left_behind, residency_of}
use Rattle.gpu_metal.specs.State.{State}
use Rattle.gpu_metal.proofs.Leaving.{committed_in, empties, left_same}
use Rattle.gpu_metal.proofs.allocator.Allocator.destroy.Goals as goal

pub returns : goal.returns
returns g c =
    let V = g.D.MetalDevice in
    let i = c.self.inside in
    let k = empties V i.pool.source _ c.destroy.result c.destroy.ensures.gives_back in
    let same = c.into_device.ensures.same in
    let firsts = k.first in
    let sets = k.set in
    let set = i.pool.source.set in
    record {
      held = c.into_device.ensures.held
          ∙ (λ j. left_behind (V.held (firsts j)) (sets j) (residency_of (V.held c.destroy.result.device) (sets j)))
          ∙ left_same (V.held i.pool.source.first) set (residency_of (V.held c.destroy.result.device) set) (residency_of (V.held i.pool.source.device) set)
          ((λ j. committed_in (residency_of (V.held c.destroy.result.device) (sym sets j))) ∙ k.committed)
          ∙ ap (λ (s : State g.row.D.Denot). left_behind (V.held s.first) s.setup.residency_set (residency_of (V.held s.device) s.setup.residency_set)) c.self.view_is;
      asks_nothing = subst (λ (s : State g.row.D.Denot). ChangesHeld V s.device (V.held c.into_device.result) (releases_recorded s.setup.residency_set (all_handles s.slots) (V.history s.device)) c.into_device.result) c.self.view_is
          (subst (λ (d : g.row.D.Denot). ChangesHeld V i.pool.source.device (V.held d) (releases_recorded set (all_handles i.pool.slots) (V.history i.pool.source.device)) d) (sym same) k.changes);
    }
