use Rattle.gpu_block_gaps.proofs.Surface.{place_is}
use Rattle.gpu_block_gaps.proofs.thread_place.ThreadPlace.new.Goals as goal

pub returns-clause-place : goal.returns-clause-place
returns-clause-place c = λ k le at. place_is c.args.thread.now.order c.args.slot k c.sound.ensures.distinct (λ s is. (c.sound.ensures.inside s is).0) le at
