-- A second place of Vulkan's machine, as its code comes to it.
use Rattle.std.proofs.Common.{◌≡◌, sym, subst, ℕ, Bool, true, Option, None, Result}
use Rattle.gpu_values.specs.declared.error.AllocationError.{AllocationError}
use Rattle.gpu_core.specs.declared.piece.Piece.{Piece}
use Rattle.gpu_vulkan.specs.Describe.{request_of}
use Rattle.gpu_vulkan.specs.Step.{is_again}
use Rattle.gpu_vulkan.specs.declared.describe.AllocationCreateDesc.{AllocationCreateDesc}
use Rattle.gpu_pool.specs.Move.{ProposesIdle}
use Rattle.gpu_pool.specs.declared.requests.Awaited.{Awaited}
use Rattle.gpu_machine.specs.VulkanMove.{ProposesBy, ProposesIn, Proposes}
use Rattle.gpu_machine.specs.VulkanState.{State}

pub proposed : {H : Type 0} (eq : H → H → Bool) (t : ℕ) (p : Piece H) (d : AllocationCreateDesc) (old new : State H) → old.requests.awaited ≡ None → is_again p.size d ≡ true
    → (result : Result (Option (Piece H)) AllocationError) → ProposesIdle eq t p (request_of d) old.requests result new.requests → new ≡ record old { requests = new.requests } → Proposes eq t p d old result new
proposed eq t p d old new shut valid result proposes others =
    subst (λ (o : Option Awaited). ProposesIn eq t p d o old result new) (sym shut) (subst (λ (v : Bool). ProposesBy eq t p d v old result new) (sym valid) (proposes, others))
