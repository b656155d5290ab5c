-- What a second place for a piece of Vulkan's machine is, and what looking for it leaves.
use Rattle.std.specs.Prelude.{◌≡◌, Bool, true, false, ℕ, Option, Some, None, Result}
use Rattle.gpu_values.specs.Refusal.{invalid_allocation_create_desc}
use Rattle.gpu_values.specs.declared.error.AllocationError.{AllocationError}
use Rattle.gpu_core.specs.declared.piece.Piece.{Piece}
use Rattle.gpu_vulkan.specs.Describe.{request_of}
use Rattle.gpu_vulkan.specs.Step.{is_again}
use Rattle.gpu_vulkan.specs.declared.describe.AllocationCreateDesc.{AllocationCreateDesc}
use Rattle.gpu_pool.specs.Move.{ProposesIdle}
use Rattle.gpu_pool.specs.RequestState.{answer_awaited}
use Rattle.gpu_pool.specs.declared.requests.Awaited.{Awaited}
use Rattle.gpu_machine.specs.VulkanState.{State, IsRefused}

module _ {H : Type 0} (eq : H → H → Bool) (t : ℕ) (p : Piece H) (d : AllocationCreateDesc) where
  abbrev pub ProposesBy : (again : Bool) → State H → Result (Option (Piece H)) AllocationError → State H → Type 0
  ProposesBy false old result new = IsRefused invalid_allocation_create_desc old result new
  ProposesBy true old result new = ProposesIdle eq t p (request_of d) old.requests result new.requests × (new ≡ record old { requests = new.requests })

  abbrev pub ProposesIn : Option Awaited → State H → Result (Option (Piece H)) AllocationError → State H → Type 0
  ProposesIn (Some _) old result new = IsRefused answer_awaited old result new
  ProposesIn None old result new = ProposesBy (is_again p.size d) old result new

  -- a second place is looked for where no question is open, for the piece's request again
  abbrev pub Proposes : State H → Result (Option (Piece H)) AllocationError → State H → Type 0
  Proposes old result new = ProposesIn old.requests.awaited old result new
