use Rattle.std.proofs.Common.{◌≡◌, ◌∙◌, refl, ℕ, Some, ap, subst}
use Rattle.gpu_device.specs.Held.{range_of}
use Rattle.gpu_device.proofs.Writes.{length_of_range}
use Rattle.gpu_core.specs.Blocks.{BlocksWellFormed}
use Rattle.gpu_vulkan.specs.Apart.{SharesNoByte}
use Rattle.gpu_vulkan.specs.Blocks.{HoldsJustLiveBlocks}
use Rattle.gpu_vulkan.specs.Live.{IsLive}
use Rattle.gpu_vulkan.specs.declared.allocation.Allocation.{Allocation}
use Rattle.gpu_vulkan.specs.Lends.{AreDistinct, written_at}
use Rattle.gpu_vulkan.specs.State.{State, state_of, Pool}
use Rattle.gpu_vulkan.proofs.Listed.{write_step}
use Rattle.gpu_vulkan.proofs.Writing.{own_written, others_kept}
use Rattle.gpu_vulkan.proofs.allocator.Allocator.slice_mut.Goals as goal

pub returns : goal.returns
returns g c =
    let V = g.D.VulkanDevice in
    let L = g.met.D.VulkanDevice in
    let a = c.args.allocation.now in
    let s = c.args.self.now in
    let n = a.device_memory.0 in
    let whole = λ (k : ℕ). L.whole s.device k in
    let sound : BlocksWellFormed s.setup.properties.granularity s.slots =
    subst (λ (s : State g.row.D.Denot). BlocksWellFormed s.setup.properties.granularity s.slots) c.self.view_is c.blocks_are_held.ensures.sound in
    let apart : (x y : Allocation) → IsLive s.slots x → IsLive s.slots y → AreDistinct x y → SharesNoByte x y =
    subst (λ (s : State g.row.D.Denot). (x y : Allocation) → IsLive s.slots x → IsLive s.slots y → AreDistinct x y → SharesNoByte x y) c.self.view_is c.allocations_are_apart.ensures.apart in
    let holds : HoldsJustLiveBlocks s.setup.properties (V.held s.first) (V.held s.device) s.slots =
    subst (λ (s : State g.row.D.Denot). HoldsJustLiveBlocks s.setup.properties (V.held s.first) (V.held s.device) s.slots) c.self.view_is c.blocks_are_held.ensures.holds in
    let value : range_of (V.held s.device) n a.offset a.size ≡ Some c.range_mut.result.now =
    subst (λ (d : g.row.D.Denot). range_of (V.held d) n a.offset a.size ≡ Some c.range_mut.result.now)
    (ap (λ (p : Pool g.row.D.Denot). p.source.device) c.pool.view_is ∙ ap (λ (s : State g.row.D.Denot). s.device) c.self.view_is) c.range_mut.ensures.value in (
      (
        refl,
        λ w. ap (λ (p : Pool g.row.D.Denot). written_at V (state_of p) a w) c.pool.view_is ∙ ap (λ (s : State g.row.D.Denot). written_at V s a w) c.self.view_is,
      ),
      record {
        lends = tt;
        value = value;
        len = length_of_range _ _ _ _ c.range_mut.ensures.value;
        isolated = λ ws count. record {
          own = rw (L.write_leaves_others s.device n a.offset ws)
              (own_written s.setup.properties (V.held s.first) (V.held s.device) s.slots sound holds whole a ws c.requires count);
          others = λ b live other. rw (L.write_leaves_others s.device n a.offset ws)
              (others_kept s.setup.properties (V.held s.first) (V.held s.device) s.slots sound holds whole a ws c.requires count b (apart b a live c.requires.0 other));
          held = L.write_leaves_others s.device n a.offset ws;
          slots = refl;
          setup = refl;
          first = refl;
          budgets = refl;
          history = L.write_records_nothing s.device n a.offset ws;
          refused = L.write_counts_nothing s.device n a.offset ws;
          latest = L.write_names_no_question s.device n a.offset ws;
          constant = L.write_constant s.device n a.offset ws;
        };
        step = λ ws count. write_step V (V.held s.first) s sound holds whole a (L.write_leaves_others s.device) (L.write_counts_nothing s.device) (L.write_names_no_question s.device)
            (L.write_records_nothing s.device)
            c.requires c.range_mut.result.now value ws count;
      },
    )
