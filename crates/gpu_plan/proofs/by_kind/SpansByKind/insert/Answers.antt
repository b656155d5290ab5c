use Rattle.std.proofs.Common.{◌∙◌, sym}
use Rattle.gpu_plan.specs.declared.resource.Kind.TheVariants.{Linear, Optimal}
use Rattle.std.proofs.lemmas.Result.{on_ok_weaker}
use Rattle.gpu_plan.proofs.Listed.{spans_more, spans_same, apart_kinds, kinds_apart}
use Rattle.gpu_plan.proofs.by_kind.SpansByKind.insert.Goals as goal

pub returns-in-Linear-clause-spans : goal.returns-in-Linear-clause-spans
returns-in-Linear-clause-spans c = λ placed are.
    on_ok_weaker c.insert_span.result (λ added. record {
      linear = spans_more Linear placed c.args.self.now.linear.items _ c.args.one.now c.in-Linear.is added are.linear;
      optimal = spans_same Optimal placed c.args.self.now.optimal.items c.args.one.now (λ e. apart_kinds (sym c.in-Linear.is ∙ e)) are.optimal;
    }) c.insert_span.ensures.added

pub returns-in-Optimal-clause-spans : goal.returns-in-Optimal-clause-spans
returns-in-Optimal-clause-spans c = λ placed are.
    on_ok_weaker c.insert_span-in-Optimal.result (λ added. record {
      linear = spans_same Linear placed c.args.self.now.linear.items c.args.one.now (λ e. kinds_apart (sym c.in-Optimal.is ∙ e)) are.linear;
      optimal = spans_more Optimal placed c.args.self.now.optimal.items _ c.args.one.now c.in-Optimal.is added are.optimal;
    }) c.insert_span-in-Optimal.ensures.added
