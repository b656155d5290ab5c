use Rattle.std.proofs.Common.{◌≡◌, ◌∙◌, sym, ap, cond, ℤ, negsuc, to_z, of_z, w32, w64, Some, true, false, Bool, codes, refl}
use Rattle.std.specs.Ordering.{int_eq}
use Rattle.std.proofs.Math.Facts.{to_z-of_z, sfits_widen}
use Rattle.std.proofs.lemmas.Bool.Decides.{Decides-int_eq}
use Rattle.gpu_values.specs.Refusal.{internal, out_of_memory}
use Rattle.gpu_vulkan.specs.BlockAnswer.{memory_refusal}
use Rattle.gpu_vulkan.proofs.block.refusal_of_memory.Goals as goal

pub returns-then-code-eq-OUT_OF_DEVICE_MEMORY : goal.returns-then-code-eq-OUT_OF_DEVICE_MEMORY
returns-then-code-eq-OUT_OF_DEVICE_MEMORY c =
    let is : c.args.code ≡ negsuc 1 = sym (to_z-of_z c.ranges.code) ∙ ap (to_z w32) c.if-code-eq-OUT_OF_DEVICE_MEMORY.true in
    sym (ap memory_refusal is)

-- a code that isn't Vulkan's for lack of device memory
other_refusal : (code : ℤ) (b : Bool) → int_eq code (negsuc 1) ≡ b → (code ≡ negsuc 1 → ⊥) → memory_refusal code ≡ internal (codes "Unexpected error in vkAllocateMemory") (Some code)
other_refusal code true e ne = absurd (ne ((Decides-int_eq code (negsuc 1)).0 e))
other_refusal code false e ne = ap (λ b. cond b out_of_memory (internal (codes "Unexpected error in vkAllocateMemory") (Some code))) e

pub returns : goal.returns
returns c =
    let is : c.from.result ≡ c.args.code = c.from.ensures ∙ to_z-of_z c.ranges.code in
    let wide : to_z w64 (of_z w64 c.args.code) ≡ c.args.code = to_z-of_z (sfits_widen {w = w32} {w' = w64} tt c.ranges.code) in
    ap (λ code. internal (codes "Unexpected error in vkAllocateMemory") (Some (to_z w64 (of_z w64 code)))) is
    ∙ ap (λ code. internal (codes "Unexpected error in vkAllocateMemory") (Some code)) wide
    ∙ sym (other_refusal c.args.code _ refl (λ is. c.if-code-eq-OUT_OF_DEVICE_MEMORY.false (ap (of_z w32) is)))
