use Rattle.std.proofs.Common.{◌≡◌, ℕ, sym, subst, arith}
use Rattle.gpu_block_gaps.specs.declared.class.Scale.{Scale}
use Rattle.gpu_block_gaps.specs.Class.{EndsAt}
use Rattle.gpu_block_gaps.specs.Ordered.{key_in}
use Rattle.gpu_block_gaps.proofs.Surface.{forest_reserved, thread_reserved}
use Rattle.gpu_block_gaps.proofs.classed.ClassedGaps.widen.Goals as goal

still : (old new : Scale) (longest : ℕ) → new ≡ old → EndsAt old longest → EndsAt new longest
still old new longest same ends = subst (λ (s : Scale). EndsAt s longest) (sym same) ends

pub invariant_of-self : goal.invariant_of-self
invariant_of-self c =
    let are = c.self.invariant.0.1 in
    let e = c.reserve_to.ensures in
    let same = e.trees (key_in c.self.inside.thread.gaps) c.self.invariant.0.0 are.forest in (
      (same.0, forest_reserved c.self.inside.thread c.self.inside.forest c.self.invariant.0.0 are c.reserve_to.new.self same.0 same.1 same.2 e.kept.0 e.kept.1 e.scale),
      still c.self.inside.forest.scale c.reserve_to.new.self.scale c.self.inside.longest e.scale c.self.invariant.1,
    )

pub invariant_of-self-2 : goal.invariant_of-self-2
invariant_of-self-2 c =
    let are = c.self.invariant.0.1 in
    let e = c.reserve_to.ensures in
    let same = e.trees (key_in c.self.inside.thread.gaps) c.self.invariant.0.0 are.forest in
    let mid = forest_reserved c.self.inside.thread c.self.inside.forest c.self.invariant.0.0 are c.reserve_to.new.self same.0 same.1 same.2 e.kept.0 e.kept.1 e.scale in
    let room = c.in_ok-reserve_to.ensures.room in
    let most = c.reserve_to-2.ensures.most in
    let slots = mid.slots in (
      (same.0, thread_reserved c.self.inside.thread c.reserve_to.new.self same.0 mid c.reserve_to-2.new.self c.reserve_to-2.ensures.order c.reserve_to-2.ensures.gaps (let enough = room.1 in omega arith) room.0),
      still c.self.inside.forest.scale c.reserve_to.new.self.scale c.self.inside.longest e.scale c.self.invariant.1,
    )
