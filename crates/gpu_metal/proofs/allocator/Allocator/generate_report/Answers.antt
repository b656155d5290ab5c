use Rattle.std.proofs.Common.{rules, ◌≡◌, IfOk}
use Rattle.gpu_values.specs.Report.{report_of}
use Rattle.gpu_core.specs.Reports.{whole_report}
use Rattle.gpu_metal.proofs.Steps.{report_step}
use Rattle.gpu_metal.proofs.allocator.Allocator.generate_report.Goals as goal

pub returns-clause-step : goal.returns-clause-step
returns-clause-step g c =
    let shown : IfOk c.report.result (λ r. report_of r ≡ whole_report c.args.self.now.slots) = search rules in
    report_step g.D.MetalDevice c.args.self.now c.report.result shown c.report.ensures.cause
