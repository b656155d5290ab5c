use Rattle.std.proofs.Common.{◌≡◌, ◌==◌, ◌∙◌, ap}
use Rattle.std.specs.List.{slice_split}
use Rattle.gpu_block_session.specs.Words.{texts}
use Rattle.gpu_trace_text.proofs.D3D12Parts.{all_spelled, not_spelled}
use Rattle.gpu_trace_text.proofs.d3d12.numbers.numbers_of.Goals as goal

pub returns-in_default : goal.returns-in_default
returns-in_default c =
    let are : texts c.deref-part-items.result.now ≡ slice_split (λ b. b == c.args.separator) c.args.word.now = ap texts c.deref-part-items.ensures.value ∙ c.in_ok-parts.ensures in
    not_spelled c.args.separator c.args.word.now c.deref-part-items.result.now c.loop-part.part-index _ are c.requires c.loop-part-test.true c.in_default.ensures

pub returns : goal.returns
returns c =
    let are : texts c.deref-part-items.result.now ≡ slice_split (λ b. b == c.args.separator) c.args.word.now = ap texts c.deref-part-items.ensures.value ∙ c.in_ok-parts.ensures in
    all_spelled c.args.separator c.args.word.now c.deref-part-items.result.now c.loop-part.part-index c.loop-part.numbers.items are c.loop-part-test.false c.loop-part.invariant.spelled c.loop-part.invariant.small
