use Rattle.std.proofs.Common.{subst}
use Rattle.gpu_core.specs.Blocks.{BlocksWellFormed}
use Rattle.gpu_core.proofs.Apart.{pieces_apart, pieces_pages}
use Rattle.gpu_machine.specs.VulkanState.{State}
use Rattle.gpu_machine.proofs.VulkanBeginning.{well_formed}
use Rattle.gpu_machine.proofs.vulkan.machine.Machine.pieces_are_apart.Goals as goal
use Rattle.gpu_machine.proofs.vulkan.machine.Machine.pieces_are_apart.Goals.{After-blocks_are_sound}

sound : (g : _) (c : After-blocks_are_sound g) → BlocksWellFormed c.args.self.now.setup.properties.granularity c.args.self.now.requests.slots
sound g c =
    let i = c.self.inside in
    let e = c.blocks_are_sound.ensures in
    subst (λ (s : State g.row.H.Denot). BlocksWellFormed s.setup.properties.granularity s.requests.slots) c.self.view_is (well_formed i.setup i.requests c.self.invariant.0 e.types e.sound)

pub returns-clause-sound : goal.returns-clause-sound
returns-clause-sound g c = sound g (goal.at.returns-clause-sound g c).After-blocks_are_sound

pub returns-clause-apart : goal.returns-clause-apart
returns-clause-apart g c =
    let s = c.args.self.now in
    pieces_apart g.H.PartialEq.eq s.requests.slots (λ t. (s.setup.properties.granularity, sound g (goal.at.returns-clause-apart g c).After-blocks_are_sound t))

pub returns-clause-pages : goal.returns-clause-pages
returns-clause-pages g c =
    let s = c.args.self.now in
    λ t p q live_p live_q.
    pieces_pages g.H.PartialEq.eq s.setup.properties.granularity s.requests.slots t (sound g (goal.at.returns-clause-pages g c).After-blocks_are_sound t) p q live_p live_q
