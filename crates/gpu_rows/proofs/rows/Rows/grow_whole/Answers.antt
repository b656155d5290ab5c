use Rattle.std.proofs.Common.{◌≡◌, ◌*◌, ℕ, min, length, sym, ◌∙◌, ap, subst, arith}
use Rattle.gpu_rows.specs.Pages.{ArePages}
use Rattle.gpu_rows.proofs.Placing.{counted, counts}
use Rattle.gpu_rows.proofs.Steps.{cases, whole_step}
use Rattle.gpu_rows.proofs.rows.Rows.grow_whole.Goals as goal

pub returns-then-count-len-clause-ok : goal.returns-then-count-len-clause-ok
returns-then-count-len-clause-ok g c =
    let inside = c.self.inside in
    omega (arith, counts inside.pages.items inside.len inside.room c.args.self.now c.self.invariant c.self.view_is, c.requires.first, cases inside.room, c.self.invariant)

pub add_pages-added-requires-clause-pages : goal.add_pages-added-requires-clause-pages
add_pages-added-requires-clause-pages g c =
    let inside = c.self.inside in
    let pages = inside.pages.items in
    let whole : min 256 inside.room ≡ 256 = omega (arith, counts pages inside.len inside.room c.args.self.now c.self.invariant c.self.view_is, c.requires.first) in
    subst (ArePages 256 256 pages) (sym (counted pages inside.len inside.room c.self.invariant))
    (subst (λ (held : ℕ). ArePages 256 held pages inside.len) whole c.self.invariant.paged)

pub invariant_of-self : goal.invariant_of-self
invariant_of-self g c =
    let inside = c.self.inside in
    let now = c.add_pages-added.new.pages.items in
    let count = c.len-2.result in
    let more = c.add_pages-added.ensures in
    let whole : min 256 (count * 256) ≡ 256 = omega (arith, counts inside.pages.items inside.len inside.room c.args.self.now c.self.invariant c.self.view_is, c.requires.first, more.kept) in
    let same = ap length more.rows ∙ counted inside.pages.items inside.len inside.room c.self.invariant in record {
      paged = subst (λ (held : ℕ). ArePages 256 held now inside.len) (sym whole) (subst (ArePages 256 256 now) same more.pages);
      fit = omega (arith, c.self.invariant, more.kept);
      step = omega (arith, whole_step count, cases (count * 256));
      least = omega (arith);
      most = omega (arith);
      few = omega (arith, more.most, c.requires.few);
    }
