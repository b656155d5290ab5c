use Rattle.std.proofs.Common.{◌≡◌, ◌∙◌, ◌+◌, ◌-◌, arith, Some, None, true, false, refl, ap, sym, subst, take, drop}
use Rattle.gpu_run.specs.VulkanReply as replies
use Rattle.gpu_run.specs.VulkanCommand.{Read, Under}
use Rattle.gpu_run.specs.VulkanServed.{SessionValue, session_of, reply_of, IsCommandServed}
use Rattle.gpu_run.specs.Bindings.{bindings_of}
use Rattle.gpu_run.proofs.VulkanServing.{quiet, short, stayed, served_quietly}
use Rattle.gpu_run.proofs.VulkanReading.{read_of, gets_bound, past_told, data_told}
use Rattle.gpu_run.proofs.vulkan.session.Session.read.Goals as goal
use Rattle.gpu_run.proofs.vulkan.session.Session.read.Goals.{in-Ok, in-Err}

pub returns-in_default : goal.returns-in_default
returns-in_default g c =
    let V = g.D.VulkanDevice in
    let s : SessionValue g.row.D.Denot = record { allocator = c.self.inside.allocator; bound = c.self.inside.bound.entries } in
    let none : bindings_of s.bound c.args.key ≡ None = sym c.in_default.ensures.value in
    subst (λ x. IsCommandServed V (Under c.args.key (Read c.args.at c.args.size)) replies.Unbound x x) c.self.view_is
    (served_quietly V c.args.key (Read c.args.at c.args.size) replies.Unbound s quiet None refl none (refl, stayed (session_of V s)))

pub returns-in_default-mapped_slice : goal.returns-in_default-mapped_slice
returns-in_default-mapped_slice g c =
    let V = g.D.VulkanDevice in
    let s : SessionValue g.row.D.Denot = record { allocator = c.self.inside.allocator; bound = c.self.inside.bound.entries } in
    let a = c.in-Some.allocation.now in
    let found : bindings_of s.bound c.args.key ≡ Some a = sym c.in-Some.ensures.value in
    let read = read_of V s a None c.in_default-mapped_slice.ensures.step in
    subst (λ x. IsCommandServed V (Under c.args.key (Read c.args.at c.args.size)) replies.Unmapped x x) c.self.view_is
    (gets_bound V s c.args.key c.args.at c.args.size a None quiet replies.Unmapped found read refl refl)

pub returns-then-not-fits : goal.returns-then-not-fits
returns-then-not-fits g c =
    let V = g.D.VulkanDevice in
    let s : SessionValue g.row.D.Denot = record { allocator = c.self.inside.allocator; bound = c.self.inside.bound.entries } in
    let a = c.in-Some.allocation.now in
    let xs = c.in-Some-mapped_slice.bytes.now in
    let found : bindings_of s.bound c.args.key ≡ Some a = sym c.in-Some.ensures.value in
    let read = read_of V s a (Some xs) c.in-Some-mapped_slice.ensures.step in
    subst (λ x. IsCommandServed V (Under c.args.key (Read c.args.at c.args.size)) replies.OutOfRange x x) c.self.view_is
    (gets_bound V s c.args.key c.args.at c.args.size a (Some xs) quiet replies.OutOfRange found read refl (sym (past_told true c.args.at c.args.size xs (sym c.fits.ensures ∙ c.if-not-fits.true))))

pub returns : goal.returns
returns g c =
    let V = g.D.VulkanDevice in
    let s : SessionValue g.row.D.Denot = record { allocator = c.self.inside.allocator; bound = c.self.inside.bound.entries } in
    let a = c.in-Some.allocation.now in
    let xs = c.in-Some-mapped_slice.bytes.now in
    let found : bindings_of s.bound c.args.key ≡ Some a = sym c.in-Some.ensures.value in
    let read = read_of V s a (Some xs) c.in-Some-mapped_slice.ensures.step in
    let fit = sym c.fits.ensures ∙ c.if-not-fits.false in
    subst (λ x. IsCommandServed V (Under c.args.key (Read c.args.at c.args.size)) (reply_of c.match-from_slice.result) x x) c.self.view_is
    (elim c.match-from_slice.branch [
      | in-Ok w ↦
          let size : (c.args.at + c.args.size) - c.args.at ≡ c.args.size = omega arith in
          gets_bound V s c.args.key c.args.at c.args.size a (Some xs) quiet (reply_of c.match-from_slice.result) found read refl
          (ap reply_of w.result-is ∙ ap replies.Bytes (w.in-Ok.ensures.items ∙ ap (λ n. take n (drop c.args.at xs)) size) ∙ sym (data_told true c.args.at c.args.size xs fit))
      | in-Err w ↦
          gets_bound V s c.args.key c.args.at c.args.size a (Some xs) short (reply_of c.match-from_slice.result) found read refl
          (ap reply_of w.result-is ∙ sym (data_told false c.args.at c.args.size xs fit))
    ])
