use Rattle.std.proofs.Common.{◌≡◌, ◌∙◌, refl, sym, ap, subst, ℕ, Bool, true, false, Ok, Err, ◌&&◌}
use Rattle.gpu_values.specs.Refusal.{refusal_of}
use Rattle.gpu_values.specs.Sizes.{Sizes, sizes_at_most}
use Rattle.gpu_machine.specs.VulkanAsking.{asking_for}
use Rattle.gpu_machine.specs.VulkanAttempt.{AttemptsSized}
use Rattle.gpu_machine.specs.VulkanAttempt.Attempts.{tries_whole, tries_left}
use Rattle.gpu_machine.specs.VulkanDescription.{description_of}
use Rattle.gpu_machine.specs.VulkanRoom.{is_bounded}
use Rattle.gpu_machine.specs.VulkanSmallerBlocks.{sizes_in, sizes_left, bytes_left}
use Rattle.gpu_machine.specs.VulkanState.{State}
use Rattle.gpu_machine.proofs.vulkan.machine.Machine.attempt.Goals as goal
use Rattle.gpu_machine.proofs.vulkan.machine.Machine.attempt.Goals.{else-self-via-then-self+else-is_bounded, else-self-via-else-self}

second_fails : (a b : Bool) → b ≡ false → (a && b) ≡ false
second_fails true b h = h
second_fails false b h = refl

pub returns-in-Ok-clause-attempts : goal.returns-in-Ok-clause-attempts
returns-in-Ok-clause-attempts g c =
    let a = c.args in
    tries_whole refl
    (subst (λ (s : Sizes). AttemptsSized s a.self.now a.index (description_of a.desc.now) (asking_for a.rest.now) (Ok c.in-Ok.progress) c.attempt_sized.new.self) c.sizes_in-sizes.ensures
    c.in-Ok.ensures.attempts)

pub returns-then-is_bounded-clause-attempts : goal.returns-then-is_bounded-clause-attempts
returns-then-is_bounded-clause-attempts g c =
    let a = c.args in
    let t = a.index in
    let k = description_of a.desc.now in
    let kept = asking_for a.rest.now in
    let e = c.in-Err.error in
    let again = c.attempt_sized-then-is_bounded in
    let same = c.in-Err.ensures.refused in
    let seen : c.self.inside.smaller_blocks ≡ a.self.now.smaller_blocks = ap (λ (s : State g.row.H.Denot). s.smaller_blocks) (c.self.view_is ∙ same) in
    let bytes : c.bytes_left.result ≡ bytes_left a.self.now t = c.bytes_left.ensures ∙ ap (λ (s : State g.row.H.Denot). bytes_left s t) same in
    let sizes : c.at_most-left.result ≡ sizes_left a.self.now t =
    c.at_most-left.ensures ∙ ap (λ (s : Sizes). sizes_at_most s c.bytes_left.result) c.sizes_in-sizes.ensures ∙ ap (λ (n : ℕ). sizes_at_most (sizes_in a.self.now t) n) bytes in
    tries_left e (sym seen ∙ c.if-self.true) (sym c.is_bounded.ensures ∙ c.if-is_bounded.true)
    (subst (λ (s : State g.row.H.Denot). AttemptsSized (sizes_in a.self.now t) a.self.now t k kept (Err e) s) same
    (subst (λ (s : Sizes). AttemptsSized s a.self.now t k kept (Err e) c.attempt_sized.new.self) c.sizes_in-sizes.ensures c.in-Err.ensures.attempts))
    (subst (λ (s : Sizes). AttemptsSized s a.self.now t k kept again.result again.new.self) sizes
    (subst (λ (s : State g.row.H.Denot). AttemptsSized c.at_most-left.result s t k kept again.result again.new.self) same again.ensures.attempts))

pub returns-else-self-clause-attempts : goal.returns-else-self-clause-attempts
returns-else-self-clause-attempts g c =
    let a = c.args in
    let e = c.in-Err.error in
    let bounded = is_bounded (refusal_of e) in
    let seen : c.self.inside.smaller_blocks ≡ a.self.now.smaller_blocks = ap (λ (s : State g.row.H.Denot). s.smaller_blocks) (c.self.view_is ∙ c.in-Err.ensures.refused) in
    let unlike : (a.self.now.smaller_blocks && bounded) ≡ false =
    elim c.else-self.branch [
      | else-self-via-then-self+else-is_bounded w ↦ second_fails a.self.now.smaller_blocks bounded (sym w.is_bounded.ensures ∙ w.if-is_bounded.false)
      | else-self-via-else-self w ↦ ap (λ (b : Bool). b && bounded) (sym seen ∙ w.if-self.false)
    ] in
    tries_whole unlike
    (subst (λ (s : Sizes). AttemptsSized s a.self.now a.index (description_of a.desc.now) (asking_for a.rest.now) (Err e) c.attempt_sized.new.self) c.sizes_in-sizes.ensures c.in-Err.ensures.attempts)
