use Rattle.std.proofs.Common.{◌+◌, ◌≤◌, ◌∙◌, ap, subst, arith}
use Rattle.gpu_block_tests.proofs.Counting.{digits_two, two_tests}
use Rattle.gpu_block_tests.proofs.block.search.two_gaps_on_pages.Goals as goal

pub returns : goal.returns
returns c = λ x y r old new ex ey er best s. (
  s.rises,
  subst (λ n. new.comparisons ≤ old.comparisons + n) digits_two s.compared_to,
  s.chosen 2064 4194304 2064 best ∙ ap (λ n. old.tests + n) (two_tests x y r.size ex ey er),
)
