-- By which call a resource is made, case by case.
use Rattle.std.proofs.Common.{◌≡◌, ℕ, true, false, List, [], ◌∷◌, refl, arith}
use Rattle.gpu_device.specs.declared.d3d12.types.Format.{Format}
use Rattle.gpu_d3d12.specs.Question.{resource_question}
use Rattle.gpu_d3d12.specs.declared.device_version.ID3D12DeviceVersion.TheVariants.{Device, Device10, Device12}
use Rattle.gpu_d3d12.specs.declared.question.ResourceStateOrBarrierLayout.{ResourceStateOrBarrierLayout}
use Rattle.gpu_d3d12.specs.declared.question.ResourceStateOrBarrierLayout.TheVariants.{ResourceState, BarrierLayout}
use Rattle.gpu_c.specs.CreateCall.{Version, version_number, is_in_layout, has_some, TellsCall}
use Rattle.gpu_c.specs.Status as status

pub in_state : (v : Version) (b : ResourceStateOrBarrierLayout) (castable : List Format) → is_in_layout b ≡ false → has_some castable ≡ false → TellsCall status.ok 1 (resource_question v b castable)
in_state v (ResourceState s) [] l f = (refl, refl)
in_state v (ResourceState s) (x ∷ xs) l f = absurd (grind (arith, f))
in_state v (BarrierLayout s) castable l f = absurd (grind (arith, l))

pub needs_layout : (v : Version) (b : ResourceStateOrBarrierLayout) (castable : List Format) (call : ℕ) → is_in_layout b ≡ false → has_some castable ≡ true
    → TellsCall status.formats_need_layout call (resource_question v b castable)
needs_layout v (ResourceState s) [] call l f = absurd (grind (arith, f))
needs_layout v (ResourceState s) (x ∷ xs) call l f = refl
needs_layout v (BarrierLayout s) castable call l f = absurd (grind (arith, l))

pub with_formats : (v : Version) (b : ResourceStateOrBarrierLayout) (castable : List Format) → is_in_layout b ≡ true → version_number v ≡ 12 → TellsCall status.ok 3 (resource_question v b castable)
with_formats v (ResourceState s) castable l n = absurd (grind (arith, l))
with_formats (Device d) (BarrierLayout s) castable l n = absurd (omega (arith, n))
with_formats (Device10 d) (BarrierLayout s) castable l n = absurd (omega (arith, n))
with_formats (Device12 d) (BarrierLayout s) castable l n = (refl, refl)

pub needs_device12 : (v : Version) (b : ResourceStateOrBarrierLayout) (castable : List Format) (call : ℕ) → is_in_layout b ≡ true → has_some castable ≡ true → (version_number v ≡ 12 → ⊥)
    → TellsCall status.formats_need_device12 call (resource_question v b castable)
needs_device12 v (ResourceState s) castable call l f n = absurd (grind (arith, l))
needs_device12 v (BarrierLayout s) [] call l f n = absurd (grind (arith, f))
needs_device12 (Device d) (BarrierLayout s) (x ∷ xs) call l f n = refl
needs_device12 (Device10 d) (BarrierLayout s) (x ∷ xs) call l f n = refl
needs_device12 (Device12 d) (BarrierLayout s) (x ∷ xs) call l f n = absurd (n refl)

pub needs_device10 : (v : Version) (b : ResourceStateOrBarrierLayout) (castable : List Format) (call : ℕ) → is_in_layout b ≡ true → has_some castable ≡ false → version_number v ≡ 0
    → TellsCall status.layout_needs_device10 call (resource_question v b castable)
needs_device10 v (ResourceState s) castable call l f n = absurd (grind (arith, l))
needs_device10 v (BarrierLayout s) (x ∷ xs) call l f n = absurd (grind (arith, f))
needs_device10 (Device d) (BarrierLayout s) [] call l f n = refl
needs_device10 (Device10 d) (BarrierLayout s) [] call l f n = absurd (omega (arith, n))
needs_device10 (Device12 d) (BarrierLayout s) [] call l f n = absurd (omega (arith, n))

pub without_formats : (v : Version) (b : ResourceStateOrBarrierLayout) (castable : List Format) → is_in_layout b ≡ true → has_some castable ≡ false → (version_number v ≡ 12 → ⊥) → (version_number v ≡ 0 → ⊥)
    → TellsCall status.ok 2 (resource_question v b castable)
without_formats v (ResourceState s) castable l f n m = absurd (grind (arith, l))
without_formats v (BarrierLayout s) (x ∷ xs) l f n m = absurd (grind (arith, f))
without_formats (Device d) (BarrierLayout s) [] l f n m = absurd (m refl)
without_formats (Device10 d) (BarrierLayout s) [] l f n m = (refl, refl)
without_formats (Device12 d) (BarrierLayout s) [] l f n m = absurd (n refl)
