use Rattle.std.proofs.Common.{◌≡◌, ℕ, List, ◌++◌, drop, subst}
use Rattle.gpu_capture.specs.CaptureState.{text}
use Rattle.gpu_c.specs.Visit.{room_for, copied_into}
use Rattle.gpu_c.proofs.CopiedParts.{copied_parts}
use Rattle.gpu_c.proofs.capture.text_from.Goals as goal

abbrev Copied : (bytes old new : List ℕ) → (count : ℕ) → Type 0
Copied bytes old new count = (new ≡ copied_into bytes old) × (count ≡ room_for bytes old)

all_parts : (c : goal.After-slice_known-5-1) → Copied (drop c.args.from (text c.args.capture.now c.args.is_destroyed)) c.args.buffer.now c.append_part.new.buffer c.append_part.result
all_parts c =
    let t = c.trace-trace.result in
    let device = c.trace-trace.ensures.device in
    let new = c.trace-trace.ensures.new in
    let calls = c.trace-trace.ensures.calls in
    let end = c.trace-trace.ensures.end in
    let same : t.device.now ++ (t.new.now ++ (t.calls.now ++ t.end.now)) ≡ text c.args.capture.now c.args.is_destroyed = cc in
    subst (λ (bytes : List ℕ). Copied (drop c.args.from bytes) c.args.buffer.now c.append_part.new.buffer c.append_part.result) same
    (copied_parts t.device.now t.new.now t.calls.now t.end.now c.args.buffer.now _ _ _ _ c.args.from _ _ _ _ _ _ _ c.saturating_sub-new.ensures c.saturating_sub-calls.ensures
    c.saturating_sub-end.ensures c.append_part-filled.ensures.filled c.append_part-filled.ensures.copied c.append_part-filled-2.ensures.filled c.append_part-filled-2.ensures.copied
    c.append_part-filled-3.ensures.filled c.append_part-filled-3.ensures.copied c.append_part.ensures.filled c.append_part.ensures.copied)

pub returns-clause-filled : goal.returns-clause-filled
returns-clause-filled c = (all_parts c).1

pub returns-clause-copied : goal.returns-clause-copied
returns-clause-copied c = (all_parts c).0
