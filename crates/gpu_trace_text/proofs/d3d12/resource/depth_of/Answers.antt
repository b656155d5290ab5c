use Rattle.std.proofs.Common.{◌≡◌, ◌∙◌, sym, arith}
use Rattle.std.proofs.lemmas.Fmt.{decimal_injective}
use Rattle.gpu_trace_text.proofs.d3d12.resource.depth_of.Goals as goal

pub returns-else-depth : goal.returns-else-depth
returns-else-depth c = λ n small is.
    let same : c.in_ok-depth.depth ≡ n = decimal_injective c.in_ok-depth.depth n (omega arith) (omega arith) (sym c.in_ok-depth.ensures ∙ is) in
    omega arith
