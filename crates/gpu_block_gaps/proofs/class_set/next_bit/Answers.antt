use Rattle.std.proofs.Common.{arith, ◌≡◌, ◌+◌, ◌*◌, ◌/◌, ◌%◌, ◌<◌, ◌≤◌, ◌⊎◌, inl, inr, ℕ, false}
use Rattle.std.proofs.lemmas.Bool.{cases_lt}
use Rattle.gpu_block_gaps.specs.ClassSet.{is_in}
use Rattle.gpu_block_gaps.proofs.Words.{none_in, first_in, first_behind}
use Rattle.gpu_block_gaps.proofs.class_set.next_bit.Goals as goal

pub loop-at-init : goal.loop-at-init
loop-at-init c = λ j le lt. none_in c.args.words.now (c.args.from / 64) (c.args.from % 64) c.in_default.ensures j (omega arith) lt

pub returns-in-Some-first_from : goal.returns-in-Some-first_from
returns-in-Some-first_from c =
    let found = c.in-Some-first_from.ensures in
    first_behind c.args.words.now c.args.from (c.loop-at.at * 64 + 0) _ (let a = c.loop-at.auto in omega arith) (λ j le lt. c.loop-at.invariant j le (omega arith))
    (first_in c.args.words.now c.loop-at.at 0 c.in-Some-first_from.bit found.0 found.1)

pub loop-at-preserved : goal.loop-at-preserved
loop-at-preserved c = λ j le lt. by_order j le lt (cases_lt j (c.loop-at.at * 64))
  where
    by_order : (j : ℕ) → c.args.from ≤ j → j < (c.loop-at.at + 1) * 64 → (j < c.loop-at.at * 64) ⊎ (c.loop-at.at * 64 ≤ j) → is_in c.args.words.now j ≡ false
    by_order j le lt (inl before) = c.loop-at.invariant j le before
    by_order j le lt (inr after) = none_in c.args.words.now c.loop-at.at 0 c.in_default-first_from.ensures j (omega arith) lt
