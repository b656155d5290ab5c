-- Commands of any API, and those of one alone.
use Rattle.std.proofs.Common.{ℕ, List, Option, Some, None}
use Rattle.gpu_block_session.specs.BlockWords as block
use Rattle.gpu_block_session.specs.declared.block.command.Command as blocks
use Rattle.gpu_run.specs.declared.command.Command.{Command}
use Rattle.gpu_run.specs.declared.command.Command.TheVariants.{Other}
use Rattle.gpu_trace_text.specs.Command.{words, CommandFits, Shared}
use Rattle.gpu_trace_text.specs.Spelled.{Says, Spells}

module _ {R O : Type 0} (request : R → List (List ℕ)) (other : O → List (List ℕ)) (Fits : R → Type 0) (FitsOther : O → Type 0) (line : List (List ℕ)) where
  -- words that one API alone says
  pub other_said : (o : O) → Spells other FitsOther line o → Says (words request other) (CommandFits Fits FitsOther) line (Some (Other o))
  other_said o s = record { is = s.is; fits = s.fits }

  fits_too : (c : Command R O) → Shared Fits c → CommandFits Fits FitsOther c
  fits_too (Other o) f = absurd f
  fits_too c f = f

  none_said : (c : Command R O) → Says other FitsOther line None → Says {A = Command R O} (words request other) (Shared Fits) line None
      → Spells (words request other) (CommandFits Fits FitsOther) line c → ⊥
  none_said (Other o) none s t = none o (record { is = t.is; fits = t.fits })
  none_said c none s t = s c (record { is = t.is; fits = t.fits })

  -- words that it doesn't say are said as in any API
  pub shared_said : (found : Option (Command R O)) → Says other FitsOther line None → Says (words request other) (Shared Fits) line found
      → Says (words request other) (CommandFits Fits FitsOther) line found
  shared_said (Some c) none s = record { is = s.is; fits = fits_too c s.fits }
  shared_said None none s = λ c t. none_said c none s t

-- a command of a block trace
pub block_said : (line : List (List ℕ)) (found : Option blocks.Command) → block.Says line found → Says block.words block.CommandFits line found
block_said line (Some c) s = record { is = s.is; fits = s.fits }
block_said line None s = λ c t. s c (record { is = t.is; fits = t.fits })
