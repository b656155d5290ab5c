use Rattle.std.proofs.Common.{string_bytes, length, ◌++◌, codes, sym, ap, ◌∙◌}
use Rattle.std.specs.Option.{unwrap_or}
use Rattle.std.proofs.lemmas.List.{length-map}
use Rattle.gpu_values.specs.Report.{row_of, counts_text}
use Rattle.gpu_values.proofs.report.AllocatorReport.text.Goals as goal

pub returns-clause-text : goal.returns-clause-text
returns-clause-text c =
    let r = c.args.self.now in
    let sums = string_bytes c.in_ok-sums.sums in
    let largest = string_bytes c.in_ok-largest.largest in
    let counts = c.in_ok-counts.ensures.text ∙
    (ap (λ i. counts_text i c.len-2.result) (c.len.ensures ∙ r.blocks.ok.0) ∙ ap (λ i. counts_text (length r.blocks.items) i)
    (c.len-2.ensures ∙ r.allocations.ok.0 ∙ sym (length-map r.allocations.items row_of))) in (
      sums,
      largest,
      c.in_ok-sums.ensures.text,
      λ e. c.in_ok-largest.ensures.none (c.unwrap_or.ensures ∙ ap (λ o. unwrap_or o 18446744073709551615) e),
      c.in_ok-text.ensures.ok ∙ ap (λ k. codes "AllocatorReport { summary: " ++ (sums ++ (codes ", " ++ (k ++ (codes ", largest: [" ++ (largest ++ codes "] }")))))) counts,
    )
