use Rattle.gpu_values.proofs.Amounts.{one_text}
use Rattle.gpu_values.proofs.laws.one_bytes_text.Goals as goal

pub returns : goal.returns
returns c = one_text
