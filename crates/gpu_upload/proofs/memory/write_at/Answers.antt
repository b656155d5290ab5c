use Rattle.std.proofs.Common.{◌≡◌, ◌∙◌, ◌+◌, ◌-◌, sym, ap, length, take, drop, inl, inr, arith}
use Rattle.std.proofs.lemmas.List.{drop-take}
use Rattle.std.proofs.lemmas.Slice.{take-put_mid_below, drop-put_mid}
use Rattle.gpu_upload.proofs.memory.write_at.Goals as goal

pub returns-clause-others : goal.returns-clause-others
returns-clause-others c = λ o m apart.
    let a = c.args.offset in
    let k = a + length c.args.bytes.now - a in
    let xs = c.args.memory.now in
    let ys = c.copy_from_slice.new.self in
    let after = c.copy_from_slice.ensures.after in
    let inside = c.requires.inside in
    let long : length ys ≡ length c.args.bytes.now = ap (λ zs. length zs) after in
    elim apart [
      | inl before ↦ sym (drop-take o m _) ∙ (ap (λ zs. drop o zs) (take-put_mid_below a k xs ys (o + m) before (omega arith)) ∙ drop-take o m xs)
      | inr behind ↦ ap (λ zs. take m zs) (drop-put_mid a k xs ys o (omega arith) (omega arith) (omega arith))
    ]
