use Rattle.std.proofs.Common.{rules, Some, None, Option, ◌≡◌, ◌∙◌, sym, subst}
use Rattle.gpu_core.specs.declared.piece.Piece.{Piece}
use Rattle.gpu_device.specs.declared.vulkan.types.DeviceMemory.{DeviceMemory}
use Rattle.gpu_vulkan.specs.Free.{FreesPiece, AllocatorFrees}
use Rattle.gpu_vulkan.specs.Live.{piece_of, IsLive}
use Rattle.gpu_vulkan.specs.State.{State, state_of}
use Rattle.gpu_vulkan.specs.Step.{IsStep, Free, freed_as}
use Rattle.gpu_vulkan.proofs.Freeing.{free_step, null_step, constant, piece_freed, piece_kept}
use Rattle.gpu_vulkan.proofs.Live.{others_stay}
use Rattle.gpu_vulkan.proofs.allocator.Allocator.free.Goals.{Joined-free, in-Ok+in-Some-1, in-Ok+in-None-1, in-Err}
use Rattle.gpu_vulkan.proofs.allocator.Allocator.free.Goals as goal

-- the pool's free, in Vulkan's own words
frees : (g : _) (c : Joined-free g)
    → AllocatorFrees g.D.VulkanDevice c.args.allocation c.self.inside.pool.slots c.self.inside.pool.source.device c.match-free.result c.free.new.self.slots c.free.new.self.source.device
frees g c =
    let V = g.D.VulkanDevice in
    let a = c.args.allocation in
    let old = c.self.inside.pool in
    let new = c.free.new.self in
    let is : piece_of a ≡ Some c.in-Some.piece = sym c.piece.ensures ∙ c.in-Some.is in
    subst (λ (o : Option (Piece DeviceMemory)). FreesPiece V a o old.slots old.source.device c.match-free.result new.slots new.source.device) (sym is)
    (elim c.match-free.branch [
      | in-Ok+in-Some-1 w ↦ subst (λ r. FreesPiece V a (Some c.in-Some.piece) old.slots old.source.device r new.slots new.source.device) (sym w.result-is) (piece_freed V old new a c.in-Some.piece (search rules))
      | in-Ok+in-None-1 w ↦ subst (λ r. FreesPiece V a (Some c.in-Some.piece) old.slots old.source.device r new.slots new.source.device) (sym w.result-is) (piece_freed V old new a c.in-Some.piece (search rules))
      | in-Err w ↦ subst (λ r. FreesPiece V a (Some c.in-Some.piece) old.slots old.source.device r new.slots new.source.device) (sym w.result-is) (piece_kept V old new a c.in-Some.piece _ (search rules))
    ])

pub returns-in_default-clause-step : goal.returns-in_default-clause-step
returns-in_default-clause-step g c =
    let none : piece_of c.args.allocation ≡ None = search rules in
    null_step g.D.VulkanDevice c.args.self.now c.args.allocation none

pub returns-clause-step : goal.returns-clause-step
returns-clause-step g c =
    let V = g.D.VulkanDevice in
    let old = c.self.inside.pool in
    let new = c.free.new.self in
    let k = c.blocks_are_held.ensures in
    let kept = constant V old new c.args.allocation c.in-Some.piece _ c.free.ensures.frees in
    let here = frees g ((goal.at.returns-clause-step g c).Joined-free) in
    subst (λ (s : State g.row.D.Denot). IsStep V (Free c.args.allocation) (freed_as c.match-free.result) s (state_of new)) c.self.view_is
    (free_step V (V.held old.source.first) (state_of old) (state_of new) k.sound k.holds (λ n. g.met.D.VulkanDevice.whole old.source.device n) kept.budgets c.args.allocation c.match-free.result here)

pub returns-clause-keeps : goal.returns-clause-keeps
returns-clause-keeps g c = λ b live other.
    let old = c.self.inside.pool in
    let before : IsLive old.slots b = subst (λ (s : State g.row.D.Denot). IsLive s.slots b) (sym c.self.view_is) live in
    others_stay old.slots c.free.new.self.slots c.args.allocation c.in-Some.piece (sym c.piece.ensures ∙ c.in-Some.is) c.free.ensures.keeps b before other

pub returns-clause-frees : goal.returns-clause-frees
returns-clause-frees g c =
    let new = c.free.new.self in
    subst (λ (s : State g.row.D.Denot). AllocatorFrees g.D.VulkanDevice c.args.allocation s.slots s.device c.match-free.result new.slots new.source.device) c.self.view_is (frees g ((goal.at.returns-clause-frees g c).Joined-free))
