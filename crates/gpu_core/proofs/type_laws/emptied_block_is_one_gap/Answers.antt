use Rattle.std.proofs.Common.{sym, ◌∙◌}
use Rattle.std.proofs.lemmas.Bool.{false≢true}
use Rattle.gpu_core.proofs.EmptyBlocks.{released_gap, released_form}
use Rattle.gpu_core.proofs.type_laws.emptied_block_is_one_gap.Goals as goal

pub returns : goal.returns
returns c = λ old n new sound shared t e. released_gap old n new sound t e (λ h. false≢true (sym h ∙ (released_form old n new t ∙ shared)))
