use Rattle.std.proofs.Common.{◌+◌, ◌≤◌, ◌∙◌, ap, subst, arith}
use Rattle.gpu_block_tests.proofs.Counting.{digits_are, one_test}
use Rattle.gpu_block_tests.proofs.block.search.three_gaps.Goals as goal

pub returns : goal.returns
returns c = λ x y r old new ex ey er best s. (
  s.rises,
  subst (λ n. new.comparisons ≤ old.comparisons + n) digits_are.2 s.compared_to,
  s.chosen 110 160 110 best ∙ ap (λ n. old.tests + n) (one_test x y r.size ex ey er),
)
