use Rattle.gpu_block_pieces.proofs.Texts.{text_step}
use Rattle.gpu_core.proofs.memory_types.leaks.texts_of.Goals as goal

pub loop-leak-preserved : goal.loop-leak-preserved
loop-leak-preserved g c =
    text_step c.loop-leak.texts.items c.push.new.self.items c.in_ok-to_string.field-0 c.in-Some.leak c.loop-leak.leak-iterator c.next.new.self _ c.in_ok-push.ensures.items c.in-Some.ensures.steps
    c.in_ok-to_string.ensures.ok c.loop-leak.invariant
