use Rattle.std.proofs.Common.{◌+◌, ◌*◌, ◌/◌, ◌%◌, List, ℕ, get_or, sym, subst, refl, ◌∙◌, arith}
use Rattle.std.specs.Int.{w64, trailing_zeros}
use Rattle.gpu_block_gaps.specs.Key.{bit_of}
use Rattle.gpu_block_gaps.specs.ClassSet.{IsFirst, NoneFrom, is_in}
use Rattle.gpu_block_gaps.proofs.Words.{first_by_tops, first_whole, read_at, some_told, within_of_some}
use Rattle.gpu_block_gaps.proofs.class_set.ClassSet.next_from.Goals as goal

pub returns : goal.returns
returns c =
    let words = c.self.inside.words.items in
    let top : IsFirst (is_in c.self.inside.tops.items) (c.args.class / 64 + 1) c.in_ok-next.next =
    subst (λ (ts : List ℕ). IsFirst (is_in ts) (c.args.class / 64 + 1) c.in_ok-next.next) c.deref.ensures.value c.in_ok-next.ensures in
    let some = some_told (get_or words c.in_ok-next.next 0) (sym (c.self.invariant.told c.in_ok-next.next) ∙ top.is) in
    let word = read_at words words c.in_ok-next.next c.index-2.result.now refl c.index-2.ensures (within_of_some words c.in_ok-next.next some) in
    let first = read_at words words (c.args.class / 64) c.index.result.now refl c.index.ensures (omega arith) in
    let none = subst (λ n. NoneFrom (bit_of n) (c.args.class % 64)) (sym first) c.in_default.ensures in
    let k = trailing_zeros w64 c.index-2.result.now in
    let found = first_whole c.index-2.result.now (omega arith) (λ zero. some (word ∙ zero)) in
    let here = subst (λ n. IsFirst (bit_of n) 0 k) (sym word) found.1 in
    let whole : IsFirst (is_in words) c.args.class (c.in_ok-next.next * 64 + k) =
    first_by_tops words c.self.inside.tops.items c.args.class c.in_ok-next.next k c.self.invariant none top found.0 here in
    subst (λ (ws : List ℕ). IsFirst (is_in ws) c.args.class (c.in_ok-next.next * 64 + k)) c.self.view_is whole
