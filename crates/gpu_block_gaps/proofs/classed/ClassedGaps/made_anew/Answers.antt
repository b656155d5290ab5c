use Rattle.std.proofs.Common.{ap, arith}
use Rattle.std.proofs.lemmas.List.{length-map}
use Rattle.gpu_block_gaps.specs.Index.{Index}
use Rattle.gpu_block_gaps.specs.Thread.{gap_in}
use Rattle.gpu_block_gaps.proofs.Surface.{gaps_sorted}
use Rattle.gpu_block_gaps.proofs.classed.ClassedGaps.made_anew.Goals as goal

pub put_all-requires-clause-ordered : goal.put_all-requires-clause-ordered
put_all-requires-clause-ordered c = gaps_sorted c.self.inside.thread c.self.inside.forest c.self.invariant.0.0 c.self.invariant.0.1

pub put_all-requires-clause-room : goal.put_all-requires-clause-room
put_all-requires-clause-room c =
    let long = length-map c.self.inside.thread.order (gap_in c.self.inside.thread.gaps) in
    let few = c.sound.ensures.few in
    let seen = ap (λ (x : Index). x.room) c.self.view_is in
    let room = c.in_ok-widen.ensures.room in
    let enough = c.requires.enough in
    let least = few.1 in
    omega arith
