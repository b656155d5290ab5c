use Rattle.std.proofs.Common.{ap, ◌∙◌, ◌≡◌, ◌++◌, subst, refl, rules}
use Rattle.std.specs.Str.Iter.{chars_rest}
use Rattle.std.proofs.lemmas.Str.{IsUtf8-past_char}
use Rattle.gpu_report.specs.Escape.{escaped, escaped_char}
use Rattle.gpu_report.proofs.Escapes.{escaped-cons, escaped-empty}
use Rattle.gpu_report.proofs.Writing.{WritesBefore, writes-all, writes-more, writes-none}
use Rattle.gpu_report.proofs.escape.write_escaped.Goals as goal

pub loop-c-init : goal.loop-c-init
loop-c-init g c = (
  search rules,
  writes-none g.W.Write.write_str_gives c.args.f.now _ _
      (ap (λ s. escaped c.args.form (chars_rest s)) c.into_iter-c-iterator.ensures.into_iter_gives ∙ ap (escaped c.args.form) c.chars-c-items.ensures.rest),
)

pub loop-c-preserved : goal.loop-c-preserved
loop-c-preserved g c =
    let held = c.loop-c.invariant in
    let parts = c.in-Some.ensures.steps.0 in
    let split : escaped c.args.form (chars_rest c.loop-c.c-iterator) ≡ escaped_char c.args.form c.in-Some.c ++ escaped c.args.form (chars_rest c.next.new.self) =
    escaped-cons c.args.form c.in-Some.c (chars_rest c.loop-c.c-iterator) (chars_rest c.next.new.self) held.0 parts in
    let before : WritesBefore g.W.Write.write_str_gives c.args.f.now c.loop-c.f (escaped_char c.args.form c.in-Some.c ++ escaped c.args.form (chars_rest c.next.new.self))
    (escaped c.args.form c.args.text.now) = rw split at held.1 in (
      IsUtf8-past_char _ _ c.in-Some.c held.0 parts,
      writes-more g.W.Write.write_str_gives c.args.f.now c.loop-c.f c.write_char.new.f _ _ _ before (λ plain. c.in_ok-write_char.ensures plain refl),
    )

pub returns : goal.returns
returns g c = λ plain ok.
    let whole = escaped c.args.form c.args.text.now in
    writes-all g.W.Write.write_str_gives c.args.f.now c.loop-c.f whole
    (subst (λ rest. WritesBefore g.W.Write.write_str_gives c.args.f.now c.loop-c.f rest whole)
    (escaped-empty c.args.form (chars_rest c.loop-c.c-iterator) c.in-None.ensures.steps.0.0) c.loop-c.invariant.1) plain
