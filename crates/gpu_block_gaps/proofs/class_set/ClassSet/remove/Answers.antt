use Rattle.std.proofs.Common.{◌≡◌, ◌/◌, ◌≤◌, List, ℕ, false, get_or, length, sym, subst, ap, refl, ◌∙◌, arith}
use Rattle.std.proofs.lemmas.List.{with_items_is}
use Rattle.gpu_block_gaps.specs.ClassSet.{ChangesOne, KeepsWords}
use Rattle.gpu_block_gaps.proofs.Words.{tops_cleared, tops_kept, tops_moved, read_at}
use Rattle.gpu_block_gaps.proofs.class_set.ClassSet.remove.Goals as goal

pub invariant_of-self : goal.invariant_of-self
invariant_of-self c =
    let words = c.self.inside.words in
    let tops = c.self.inside.tops in
    let class = c.args.class in
    let new_words = with_items_is words c.clear_bit.new.words (let a = c.clear_bit.ensures.changes.length in let b = c.deref_mut.ensures.len in omega arith) in
    let new_tops = with_items_is tops c.clear_bit-then-index-eq0.new.words
    (let a = c.clear_bit-then-index-eq0.ensures.changes.length in let b = c.deref_mut-then-index-eq0.ensures.len in omega arith) in
    let clear_word = subst (λ (ws : List ℕ). ChangesOne ws c.clear_bit.new.words class false) c.deref_mut.ensures.value c.clear_bit.ensures.changes in
    let kept = subst (λ (ws : List ℕ). KeepsWords ws c.clear_bit.new.words class) c.deref_mut.ensures.value c.clear_bit.ensures.words in
    let clear_top = subst (λ (ws : List ℕ). ChangesOne ws c.clear_bit-then-index-eq0.new.words (class / 64) false) c.deref_mut-then-index-eq0.ensures.value c.clear_bit-then-index-eq0.ensures.changes in
    let none : get_or c.clear_bit.new.words (class / 64) 0 ≡ 0 = read_at c.clear_bit.new.words _ (class / 64) c.index.result.now new_words c.index.ensures (let a = c.clear_bit.ensures.changes.length in let b = ap length c.deref_mut.ensures.value in let d = ap length c.self.view_is in omega arith) ∙ c.if-index-eq0.true in
    tops_moved _ _ _ _ new_words new_tops (tops_cleared words.items c.clear_bit.new.words tops.items c.clear_bit-then-index-eq0.new.words class c.self.invariant clear_word kept none clear_top)

pub invariant_of-self-else-index-eq0 : goal.invariant_of-self-else-index-eq0
invariant_of-self-else-index-eq0 c =
    let words = c.self.inside.words in
    let tops = c.self.inside.tops in
    let class = c.args.class in
    let new_words = with_items_is words c.clear_bit.new.words (let a = c.clear_bit.ensures.changes.length in let b = c.deref_mut.ensures.len in omega arith) in
    let clear_word = subst (λ (ws : List ℕ). ChangesOne ws c.clear_bit.new.words class false) c.deref_mut.ensures.value c.clear_bit.ensures.changes in
    let kept = subst (λ (ws : List ℕ). KeepsWords ws c.clear_bit.new.words class) c.deref_mut.ensures.value c.clear_bit.ensures.words in
    let less = subst (λ (ws : List ℕ). get_or c.clear_bit.new.words (class / 64) 0 ≤ get_or ws (class / 64) 0) c.deref_mut.ensures.value c.clear_bit.ensures.less in
    let some : get_or c.clear_bit.new.words (class / 64) 0 ≡ 0 → ⊥ = λ zero. c.if-index-eq0.false (sym (read_at c.clear_bit.new.words _ (class / 64) c.index.result.now new_words c.index.ensures (let a = c.clear_bit.ensures.changes.length in let b = ap length c.deref_mut.ensures.value in let d = ap length c.self.view_is in omega arith)) ∙ zero) in
    tops_moved _ _ tops.items tops.items new_words refl (tops_kept words.items c.clear_bit.new.words tops.items class c.self.invariant clear_word kept some less)
