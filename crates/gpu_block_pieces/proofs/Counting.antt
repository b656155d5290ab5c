-- What a call looks up, said of the counts of its block.
use Rattle.std.proofs.Common.{◌≡◌, ◌∙◌, ℕ, ◌+◌, ◌≤◌, subst, arith}
use Rattle.gpu_cost.specs.declared.cost.Cost.{Cost}
use Rattle.gpu_cost.specs.Cost.{Counts, counts_of, LooksUp, LooksUpBetween, Rises}
use Rattle.gpu_block_pieces.specs.Search.{LooksUpTo}

pub looked_up : (least n most : ℕ) (first last : Cost) (old : Counts) → counts_of first ≡ old → n ≤ most → LooksUpBetween least n first last → LooksUpTo most old (counts_of last)
looked_up least n most first last old e le l =
    let a = l.from in
    let b = l.to in
    subst (λ (k : Counts). LooksUpTo most k (counts_of last)) e (record { comparisons = l.comparisons; tests = l.tests; rises = omega arith; to = omega arith })

-- just so many are so many at least and at most
pub just : (n : ℕ) (first last : Cost) → LooksUp n first last → LooksUpBetween n n first last
just n first last l =
    let a = l.lookups in
    record { comparisons = l.comparisons; tests = l.tests; from = omega arith; to = omega arith }

-- two calls, one after the other
pub both : (a b c d : ℕ) (first second last : Cost) → LooksUpBetween a b first second → LooksUpBetween c d second last → LooksUpBetween (a + c) (b + d) first last
both a b c d first second last l m =
    let lf = l.from in
    let lt = l.to in
    let mf = m.from in
    let mt = m.to in
    record { comparisons = m.comparisons ∙ l.comparisons; tests = m.tests ∙ l.tests; from = omega arith; to = omega arith }

pub rises : (most : ℕ) (old new : Counts) → LooksUpTo most old new → Rises old new
rises most old new l =
    let a = l.comparisons in
    let b = l.tests in
    record { comparisons = omega arith; tests = omega arith; lookups = l.rises }
