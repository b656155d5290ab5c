use Rattle.json.specs.Value.{value_view}
use Rattle.gpu_report.proofs.Numbers.{reads_number}
use Rattle.gpu_report.proofs.reading.whole_number.Goals as goal

pub returns-clause-printed : goal.returns-clause-printed
returns-clause-printed c = reads_number (value_view c.args.value.now) _ c.as_u64.ensures

pub returns-clause-value : goal.returns-clause-value
returns-clause-value c = c.as_u64.ensures
