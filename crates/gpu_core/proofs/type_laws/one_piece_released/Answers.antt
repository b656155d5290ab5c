use Rattle.std.proofs.Common.{IsTrue}
use Rattle.gpu_block_pieces.specs.Changes.{named}
use Rattle.gpu_core.proofs.OneOutcome.{released_once, refusal_once, name_refusal_once, renamed_once}
use Rattle.gpu_core.proofs.type_laws.one_piece_released.Goals as goal

pub returns-clause-releases : goal.returns-clause-releases
returns-clause-releases g c = λ n several. released_once n (IsTrue several)

pub returns-clause-renames : goal.returns-clause-renames
returns-clause-renames g c = λ old p name. renamed_once old p (named name)

pub returns-clause-refuses : goal.returns-clause-refuses
returns-clause-refuses g c = refusal_once

pub returns-clause-refuses_names : goal.returns-clause-refuses_names
returns-clause-refuses_names g c = name_refusal_once
