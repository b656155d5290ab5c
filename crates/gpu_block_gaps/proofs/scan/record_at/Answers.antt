use Rattle.std.proofs.Common.{sym}
use Rattle.gpu_block_gaps.proofs.Surface.{slot_within, slot_past}
use Rattle.gpu_block_gaps.proofs.scan.record_at.Goals as goal

pub returns-then-slot-eq0 : goal.returns-then-slot-eq0
returns-then-slot-eq0 c = λ k le at. slot_past c.args.thread.now.order c.args.slot k (λ s is. (c.sound.ensures.inside s is).0) at c.if-slot-eq0.true

pub record-requires : goal.record-requires
record-requires c = (c.requires.0, slot_within c.args.thread.now.order c.args.slot c.requires.0 c.requires.2 c.if-slot-eq0.false, sym c.requires.2)
