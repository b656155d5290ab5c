use Rattle.std.proofs.Common.{◌≡◌, ◌∙◌, ap, sym, subst, Some}
use Rattle.gpu_vulkan.specs.Blocks.{Slots, HoldsJustLiveBlocks}
use Rattle.gpu_vulkan.specs.Lends.{AreDistinct}
use Rattle.gpu_vulkan.specs.Live.{IsLive, piece_of, bytes_at}
use Rattle.gpu_vulkan.specs.Setup.{Setup}
use Rattle.gpu_vulkan.specs.declared.allocation.Allocation.{Allocation}
use Rattle.gpu_vulkan.proofs.Reading.{reads_same, freed_live}
use Rattle.gpu_vulkan.proofs.Untouched.{free_leaves}
use Rattle.gpu_vulkan.proofs.carry.carry.Goals as goal
use Rattle.gpu_vulkan.proofs.carry.carry.Goals.{After-device-2}

-- what was live is live after the copy
copied_live : (g : _) (c : After-device-2 g) (b : Allocation) → IsLive c.args.a.now.slots b → IsLive c.write_over.new.a.slots b
copied_live g c b live = subst (λ (ss : Slots). IsLive ss b) (sym c.write_over.ensures.slots) live

-- an allocation that stays live reads as after the copy
reads : (g : _) (c : After-device-2 g) (b : Allocation) → IsLive c.args.a.now.slots b → IsLive c.free.new.self.slots b
    → bytes_at (g.D.VulkanDevice.held c.free.new.self.device) b ≡ bytes_at (g.D.VulkanDevice.held c.write_over.new.a.device) b
reads g c b live lives =
    let V = g.D.VulkanDevice in
    let copied = c.write_over.new.a in
    let new = c.free.new.self in
    let p = copied.setup.properties in
    let kept = c.free.ensures.constant in
    let leaves = free_leaves V c.args.from copied.slots new.slots copied.device new.device c.free.result c.free.ensures.frees in
    let holds : HoldsJustLiveBlocks p (V.held copied.first) (V.held new.device) new.slots =
    subst (λ d. HoldsJustLiveBlocks p (V.held d) (V.held new.device) new.slots) kept.0
    (subst (λ (s : Setup). HoldsJustLiveBlocks s.properties (V.held new.first) (V.held new.device) new.slots) kept.1 c.device-2.ensures.holds) in
    reads_same p (V.held copied.first) (V.held copied.device) (V.held new.device) copied.slots new.slots b c.device.ensures.holds holds leaves (copied_live g c b live) lives

stays : (g : _) (c : After-device-2 g) (b : Allocation) → IsLive c.args.a.now.slots b → AreDistinct b c.args.from → IsLive c.free.new.self.slots b
stays g c b live other = c.free.ensures.keeps b (copied_live g c b live) other

pub returns-clause-carries : goal.returns-clause-carries
returns-clause-carries g c =
    let from = c.args.from in
    let copied = c.write_over.new.a in
    let new = c.free.new.self in
    let later = (goal.at.returns-clause-carries g c).After-device-2 in
    record {
      copied = copied;
      bytes = c.deref.result.now;
      read = c.read_into.ensures.read ∙ ap Some (sym c.deref.ensures.value);
      writes = c.write_over.ensures;
      frees = freed_live g.D.VulkanDevice from (piece_of from) copied.slots copied.device c.free.result new.slots new.device (copied_live g later from c.requires.first.0) c.free.ensures.frees;
    }

pub returns-clause-live : goal.returns-clause-live
returns-clause-live g c = stays g (goal.at.returns-clause-live g c).After-device-2 c.args.to.now c.requires.second.0 c.requires.other

pub returns-clause-reads : goal.returns-clause-reads
returns-clause-reads g c =
    let later = (goal.at.returns-clause-reads g c).After-device-2 in
    let to = c.args.to.now in
    reads g later to c.requires.second.0 (stays g later to c.requires.second.0 c.requires.other) ∙ c.write_over.ensures.own ∙ ap Some c.deref.ensures.value ∙ sym c.read_into.ensures.read

pub returns-clause-others : goal.returns-clause-others
returns-clause-others g c = λ b live from to.
    let later = (goal.at.returns-clause-others g c).After-device-2 in
    let lives = stays g later b live from in
    (lives, reads g later b live lives ∙ c.write_over.ensures.others b live to)
