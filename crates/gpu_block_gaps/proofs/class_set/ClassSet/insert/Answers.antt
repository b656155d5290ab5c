use Rattle.std.proofs.Common.{◌/◌, List, ℕ, true, subst, arith}
use Rattle.std.proofs.lemmas.List.{with_items_is}
use Rattle.gpu_block_gaps.specs.ClassSet.{ChangesOne, KeepsWords}
use Rattle.gpu_block_gaps.proofs.Words.{tops_set, tops_moved}
use Rattle.gpu_block_gaps.proofs.class_set.ClassSet.insert.Goals as goal

pub invariant_of-self : goal.invariant_of-self
invariant_of-self c =
    let words = c.self.inside.words in
    let tops = c.self.inside.tops in
    let class = c.args.class in
    let new_words = with_items_is words c.set_bit.new.words (let a = c.set_bit.ensures.changes.length in let b = c.deref_mut.ensures.len in omega arith) in
    let new_tops = with_items_is tops c.set_bit-2.new.words (let a = c.set_bit-2.ensures.changes.length in let b = c.deref_mut-2.ensures.len in omega arith) in
    let set_word = subst (λ (ws : List ℕ). ChangesOne ws c.set_bit.new.words class true) c.deref_mut.ensures.value c.set_bit.ensures.changes in
    let kept = subst (λ (ws : List ℕ). KeepsWords ws c.set_bit.new.words class) c.deref_mut.ensures.value c.set_bit.ensures.words in
    let set_top = subst (λ (ws : List ℕ). ChangesOne ws c.set_bit-2.new.words (class / 64) true) c.deref_mut-2.ensures.value c.set_bit-2.ensures.changes in
    tops_moved _ _ _ _ new_words new_tops (tops_set words.items c.set_bit.new.words tops.items c.set_bit-2.new.words class c.self.invariant set_word kept set_top)
