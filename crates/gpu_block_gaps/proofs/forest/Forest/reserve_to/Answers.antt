use Rattle.std.proofs.Common.{List, refl, ◌∙◌, sym, subst, arith}
use Rattle.gpu_block_gaps.specs.declared.tree.Fork.{Fork}
use Rattle.gpu_block_gaps.specs.Forest.{AreTrees}
use Rattle.gpu_block_gaps.proofs.Rooms.{reserved}
use Rattle.gpu_block_gaps.proofs.forest.Forest.reserve_to.Goals as goal

pub returns-in_err-reserve-clause-trees : goal.returns-in_err-reserve-clause-trees
returns-in_err-reserve-clause-trees c = λ at trees are.
    let w = c.widen.ensures.trees at trees are in
    let v = c.widen.new.self in
    (w.0, subst (λ (fs : List Fork). AreTrees at v.scale fs v.spare.items v.spare.capacity v.roots.items v.classes w.0) (sym c.reserve.ensures.items) w.1, w.2)

pub returns-in_err-reserve-2-clause-trees : goal.returns-in_err-reserve-2-clause-trees
returns-in_err-reserve-2-clause-trees c = λ at trees are.
    let w = c.widen.ensures.trees at trees are in
    let v = c.widen.new.self in (
      w.0,
      reserved at v.scale v.forks.items c.reserve.new.self.items v.spare.items c.reserve-2.new.self.items v.spare.capacity c.reserve-2.new.self.capacity v.roots.items v.classes w.0
          c.reserve.ensures.items c.reserve-2.ensures.items c.reserve-2.ensures.capacity w.1,
      w.2,
    )

pub loop-self-init : goal.loop-self-init
loop-self-init c =
    let known = c.requires.forest in
    let w = c.widen.ensures.trees known.0 known.1 known.2 in
    let first = w.1.counted in
    let room = c.in_ok-reserve.ensures.ok in
    let spares = c.in_ok-reserve-2.ensures.ok in
    let a = c.saturating_sub.ensures in
    let b = c.saturating_sub-2.ensures in
    let e = c.reserve.ensures.len in
    let f = c.reserve-2.ensures.len in
    let g = c.len.ensures in
    let h = c.len-2.ensures in
    record { trees = λ at trees are. are; forks = omega arith; spare = omega arith; fewer = omega arith; more = omega arith; others = (refl, refl) }

pub loop-self-preserved : goal.loop-self-preserved
loop-self-preserved c =
    let inv = c.loop-self.invariant in
    let room = c.add_slot.ensures.room in
    let slots = c.add_slot.ensures.slots in
    let others = c.add_slot.ensures.others in
    let a = inv.forks in
    let b = inv.spare in
    let e = inv.fewer in
    let f = inv.more in
    let g = c.loop-self-test.true in
    let h = c.len-in-loop-self.ensures in
    record {
      trees = λ at trees are. c.add_slot.ensures.trees at trees (omega arith) (inv.trees at trees are);
      forks = omega arith;
      spare = omega arith;
      fewer = omega arith;
      more = omega arith;
      others = (others.0 ∙ inv.others.0, others.1 ∙ inv.others.1);
    }

pub returns-clause-trees : goal.returns-clause-trees
returns-clause-trees c = λ at trees are.
    let w = c.widen.ensures.trees at trees are in
    let v = c.widen.new.self in
    let start = reserved at v.scale v.forks.items c.reserve.new.self.items v.spare.items c.reserve-2.new.self.items v.spare.capacity c.reserve-2.new.self.capacity v.roots.items v.classes w.0
    c.reserve.ensures.items c.reserve-2.ensures.items c.reserve-2.ensures.capacity w.1 in
    (w.0, c.loop-self.invariant.trees at w.0 start, w.2)
