-- A request at DirectX 12's machine, as its code comes to it.
use Rattle.std.proofs.Common.{◌≡◌, sym, subst, ℕ, Bool, true, false, Option, None, Result}
use Rattle.gpu_values.specs.declared.error.AllocationError.{AllocationError}
use Rattle.gpu_core.specs.TypeTake.{asked}
use Rattle.gpu_core.specs.declared.piece.Request as type_requests
use Rattle.gpu_d3d12.specs.Allocate.{is_valid, request_in}
use Rattle.gpu_d3d12.specs.Describe.{request_of}
use Rattle.gpu_d3d12.specs.MemoryKinds.{memory_kinds, IsFirstServing}
use Rattle.gpu_d3d12.specs.declared.describe.AllocationCreateDesc.{AllocationCreateDesc}
use Rattle.gpu_pool.specs.Allocate.{RequestAt, request_at}
use Rattle.gpu_pool.specs.Begin as pools
use Rattle.gpu_pool.specs.declared.requests.Awaited.{Awaited}
use Rattle.gpu_machine.specs.D3D12Begin.{begun_in, Tells, BeginsBy, BeginsIn, Begins}
use Rattle.gpu_machine.specs.D3D12State.{State}
use Rattle.gpu_machine.specs.declared.d3d12.answer.Progress.{Progress}

-- what a memory type is asked, as the code asks it
asked_as : (t : ℕ) (r : type_requests.Request) (d : AllocationCreateDesc) → asked r ≡ request_of d → r.dedicated ≡ false → request_at t r tt ≡ request_in t d
asked_as t r d asks shared i = record { memory_type = t; requested_dedicated = shared i; request = asks i; extra = tt }

pub begun : (d : AllocationCreateDesc) (old new : State) (t : ℕ) (r : type_requests.Request) → old.requests.awaited ≡ None → is_valid d ≡ true → IsFirstServing d.location d.resource_category (memory_kinds old.tier) t → asked r ≡ request_of d → r.dedicated ≡ false
    → new ≡ record old { requests = new.requests } → (result : Result Progress AllocationError) → pools.Begins (request_at t r tt) old.requests (begun_in result) new.requests → Tells old.tier t result → Begins old d result new
begun d old new t r shut valid first asks shared others result begins tells =
    subst (λ (o : Option Awaited). BeginsIn o old d result new) (sym shut)
    (subst (λ (v : Bool). BeginsBy d v old result new) (sym valid) (record {
      memory_type = t;
      first = first;
      begins = subst (λ (q : RequestAt (Unit {0})). pools.Begins q old.requests (begun_in result) new.requests) (asked_as t r d asks shared) begins;
      tells = tells;
      others = others;
    }))
