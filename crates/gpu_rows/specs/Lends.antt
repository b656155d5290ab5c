-- What rows are once a row that was lent is given back.
use Rattle.std.specs.Prelude.{ℕ}
use Rattle.std.specs.Borrow.{Lends, Fml, RattleType, MutBor}
use Rattle.gpu_rows.specs.Rows.{Rows, with_row}
use Rattle.gpu_rows.specs.contracts.rows.Rows.{the_row}

-- the index has what was last written through `row`
abbrev pub lends_row : (T : RattleType) → MutBor (Rows T.Denot) → ℕ → MutBor T.Denot → Fml
lends_row T rows index row = Lends (the_row T) T rows row (with_row rows.now index)
