use Rattle.std.proofs.Common.{◌≡◌, ◌∙◌, Some, None, refl, sym, subst}
use Rattle.gpu_vulkan.specs.Lends.{written_at}
use Rattle.gpu_run.specs.VulkanReply as replies
use Rattle.gpu_run.specs.VulkanCommand.{Write, Under}
use Rattle.gpu_run.specs.VulkanServed.{SessionValue, session_of, IsCommandServed}
use Rattle.gpu_run.specs.Bindings.{bindings_of}
use Rattle.gpu_run.proofs.VulkanServing.{quiet, stayed, served_quietly}
use Rattle.gpu_run.proofs.VulkanReading.{read_of, puts_nothing, puts_past, puts_bound}
use Rattle.gpu_run.proofs.vulkan.session.Session.write.Goals as goal

pub returns-in_default : goal.returns-in_default
returns-in_default g c =
    let V = g.D.VulkanDevice in
    let s : SessionValue g.row.D.Denot = record { allocator = c.self.inside.allocator; bound = c.self.inside.bound.entries } in
    let none : bindings_of s.bound c.args.key ≡ None = sym c.in_default.ensures.value in
    subst (λ x. IsCommandServed V (Under c.args.key (Write c.args.at c.args.bytes.now)) replies.Unbound x x) c.self.view_is
    (served_quietly V c.args.key (Write c.args.at c.args.bytes.now) replies.Unbound s quiet None refl none (refl, stayed (session_of V s)))

pub returns-in_default-mapped_slice : goal.returns-in_default-mapped_slice
returns-in_default-mapped_slice g c =
    let V = g.D.VulkanDevice in
    let s : SessionValue g.row.D.Denot = record { allocator = c.self.inside.allocator; bound = c.self.inside.bound.entries } in
    let a = c.in-Some.allocation.now in
    let found : bindings_of s.bound c.args.key ≡ Some a = sym c.in-Some.ensures.value in
    let read = read_of V s a None c.in_default-mapped_slice.ensures.step in
    subst (λ x. IsCommandServed V (Under c.args.key (Write c.args.at c.args.bytes.now)) replies.Unmapped x x) c.self.view_is
    (puts_nothing V s c.args.key c.args.at c.args.bytes.now a None replies.Unmapped found read (refl, stayed (session_of V s)))

pub returns-then-not-fits : goal.returns-then-not-fits
returns-then-not-fits g c =
    let V = g.D.VulkanDevice in
    let s : SessionValue g.row.D.Denot = record { allocator = c.self.inside.allocator; bound = c.self.inside.bound.entries } in
    let a = c.in-Some.allocation.now in
    let xs = c.in-Some-mapped_slice.old.now in
    let found : bindings_of s.bound c.args.key ≡ Some a = sym c.in-Some.ensures.value in
    let read = read_of V s a (Some xs) c.in-Some-mapped_slice.ensures.step in
    subst (λ x. IsCommandServed V (Under c.args.key (Write c.args.at c.args.bytes.now)) replies.OutOfRange x x) c.self.view_is
    (puts_past V s c.args.key c.args.at c.args.bytes.now a xs found read (sym c.fits.ensures ∙ c.if-not-fits.true))

pub returns : goal.returns
returns g c =
    let V = g.D.VulkanDevice in
    let s : SessionValue g.row.D.Denot = record { allocator = c.self.inside.allocator; bound = c.self.inside.bound.entries } in
    let a = c.in-Some.allocation.now in
    let xs = c.in-Some-mapped_slice.old.now in
    let found : bindings_of s.bound c.args.key ≡ Some a = sym c.in-Some.ensures.value in
    let read = read_of V s a (Some xs) c.in-Some-mapped_slice.ensures.step in
    let after = written_at V c.self.inside.allocator a c.put.new.target in
    subst (λ x. IsCommandServed V (Under c.args.key (Write c.args.at c.args.bytes.now)) replies.Done x (record { allocator = after; bound = s.bound })) c.self.view_is
    (puts_bound V s c.args.key c.args.at c.args.bytes.now a xs c.slice_mut.result.now c.put.new.target a.size after found read (sym c.fits.ensures ∙ c.if-not-fits.false)
    (sym c.in-Some-mapped_slice.ensures.value ∙ c.slice_mut.ensures.value) c.put.ensures c.in-Some-mapped_slice.ensures.len (c.slice_mut.ensures.step c.put.new.target) (refl, refl))
