use Rattle.std.proofs.Common.{sym, arith}
use Rattle.gpu_block_chunks.proofs.SlotWrites.{some_here, none_here, none_past}
use Rattle.gpu_block_chunks.proofs.chain.slots.Slots.get.Goals.{then-slot-len-via-then-slot-len, then-slot-len-via-else-slot-len+then-not-index}
use Rattle.gpu_block_chunks.proofs.chain.slots.Slots.get.Goals as goal

pub returns-then-slot-len : goal.returns-then-slot-len
returns-then-slot-len c =
    let named = c.self.invariant.named in
    elim c.then-slot-len.branch [
      | then-slot-len-via-then-slot-len w ↦
          rw (← c.self.view_is) (sym (none_past c.self.inside.cells.items c.self.inside.labels.items c.args.slot named (omega arith)))
      | then-slot-len-via-else-slot-len+then-not-index w ↦
          rw (← c.self.view_is)
          (sym (none_here c.self.inside.cells.items c.self.inside.labels.items c.args.slot w.index.result.now named (omega arith) w.index.ensures (grind arith)))
    ]

pub at-requires : goal.at-requires
at-requires c =
    let named = c.self.invariant.named in
    rw (← c.self.view_is)
    (some_here c.self.inside.cells.items c.self.inside.labels.items c.args.slot c.index.result.now named (omega arith) c.index.ensures (grind arith))
