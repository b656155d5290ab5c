-- One attempt, or two: what an allocation in the chosen memory type leaves of the pool.
use Rattle.std.proofs.Common.{◌≡◌, ◌∙◌, refl, subst, ℕ, ◌%◌, Ok, Err, Result, IfOk, Some, None}
use Rattle.gpu_values.specs.Refusal.{refusal_of}
use Rattle.gpu_values.specs.declared.error.AllocationError.{AllocationError}
use Rattle.gpu_device.specs.declared.vulkan.device.VulkanDevice.{Ghosts}
use Rattle.gpu_vulkan.specs.Allocate.{IsAttempt, IsRequestServed, next_type}
use Rattle.gpu_vulkan.specs.Lends.{AreDistinct}
use Rattle.gpu_vulkan.specs.Live.{IsLive}
use Rattle.gpu_vulkan.specs.Rename.{StayLive}
use Rattle.gpu_vulkan.specs.State.{Pool, setup_of, IsConstant}
use Rattle.gpu_vulkan.specs.declared.allocation.Allocation.{Allocation}
use Rattle.gpu_vulkan.specs.declared.describe.AllocationCreateDesc.{AllocationCreateDesc}

-- what `allocate_in_type` says of an attempt
pub record Tries {D : Type 0} (g : Ghosts D) (t : ℕ) (d : AllocationCreateDesc) (old : Pool D) (result : Result Allocation AllocationError) (new : Pool D) : Type 0 where
  pub attempts : IsAttempt g (setup_of old) old.budgets t d old.slots old.source.device result new.slots new.source.device
  pub constant : IsConstant old new
  pub aligned : IfOk result (λ a. a.offset % d.requirements.alignment ≡ 0)
  pub keeps : StayLive old.slots new.slots
  pub live : IfOk result (λ a. IsLive new.slots a × ((b : Allocation) → IsLive old.slots b → AreDistinct b a))

-- the same of both attempts
pub record TypeServes {D : Type 0} (g : Ghosts D) (t : ℕ) (d : AllocationCreateDesc) (old : Pool D) (result : Result Allocation AllocationError) (new : Pool D) : Type 0 where
  pub served : IsRequestServed g (setup_of old) old.budgets t d old.slots old.source.device result new.slots new.source.device
  pub constant : IsConstant old new
  pub aligned : IfOk result (λ a. a.offset % d.requirements.alignment ≡ 0)
  pub keeps : StayLive old.slots new.slots
  pub live : IfOk result (λ a. IsLive new.slots a × ((b : Allocation) → IsLive old.slots b → AreDistinct b a))

module _ {D : Type 0} (g : Ghosts D) (t : ℕ) (d : AllocationCreateDesc) (old : Pool D) where
  pub granted_at_once : (a : Allocation) (new : Pool D) → Tries g t d old (Ok a) new → TypeServes g t d old (Ok a) new
  granted_at_once a new tried =
      record {
        served = record { first = Ok a; mid = new.slots; between = new.source.device; attempt = tried.attempts; followed = (refl, refl, refl) };
        constant = tried.constant;
        aligned = tried.aligned;
        keeps = tried.keeps;
        live = tried.live;
      }

  pub refused_at_once : (e : AllocationError) (new : Pool D) → Tries g t d old (Err e) new → next_type (setup_of old) d (refusal_of e) ≡ None → TypeServes g t d old (Err e) new
  refused_at_once e new tried none =
      record {
        served = record { first = Err e; mid = new.slots; between = new.source.device; attempt = tried.attempts; followed = rw none (refl, refl, refl) };
        constant = tried.constant;
        aligned = tt;
        keeps = tried.keeps;
        live = tt;
      }

  later_live : (mid new : Pool D) (result : Result Allocation AllocationError) → StayLive old.slots mid.slots
      → IfOk result (λ a. IsLive new.slots a × ((b : Allocation) → IsLive mid.slots b → AreDistinct b a))
      → IfOk result (λ a. IsLive new.slots a × ((b : Allocation) → IsLive old.slots b → AreDistinct b a))
  later_live mid new (Ok a) keeps live = (live.0, λ b was. live.1 b (keeps b was))
  later_live mid new (Err e) keeps live = tt

  pub tried_again : (e : AllocationError) (mid : Pool D) → Tries g t d old (Err e) mid → (next : ℕ) → next_type (setup_of old) d (refusal_of e) ≡ Some next
      → (result : Result Allocation AllocationError) (new : Pool D) → Tries g next d mid result new → TypeServes g t d old result new
  tried_again e mid tried next is result new again =
      let setup = tried.constant.setup in
      let budgets = tried.constant.budgets in
      let second : IsAttempt g (setup_of old) old.budgets next d mid.slots mid.source.device result new.slots new.source.device =
      subst (λ b. IsAttempt g (setup_of old) b next d mid.slots mid.source.device result new.slots new.source.device) budgets
      (subst (λ s. IsAttempt g s mid.budgets next d mid.slots mid.source.device result new.slots new.source.device) setup again.attempts) in
      record {
        served = record { first = Err e; mid = mid.slots; between = mid.source.device; attempt = tried.attempts; followed = rw is second };
        constant = record {
          first = again.constant.first ∙ tried.constant.first;
          setup = again.constant.setup ∙ setup;
          budgets = again.constant.budgets ∙ budgets;
        };
        aligned = again.aligned;
        keeps = λ a live. again.keeps a (tried.keeps a live);
        live = later_live mid new result tried.keeps again.live;
      }
