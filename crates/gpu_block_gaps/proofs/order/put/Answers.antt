use Rattle.std.proofs.Common.{◌∙◌, Some, set, sym, ap, subst, arith}
use Rattle.std.specs.List.{insert}
use Rattle.gpu_block_gaps.specs.Key.{code_of}
use Rattle.gpu_block_gaps.specs.Tree.{Tree}
use Rattle.gpu_block_gaps.specs.Forest.{IsForest, class_in}
use Rattle.gpu_block_gaps.specs.Order.{IsPlaceIn, Gains}
use Rattle.gpu_block_gaps.proofs.Positions.{place_there}
use Rattle.gpu_block_gaps.specs.declared.order.Nearby.{Nearby}
use Rattle.gpu_block_gaps.specs.Index.{IsInserted}
use Rattle.gpu_block_gaps.specs.Ordered.{code, key_in, gaps_of, IsShort, IsNearby, IsIndexed}
use Rattle.gpu_block_gaps.proofs.Indexing.{not_same, spare_left, nearby_rekeyed, forest_rekeyed, put_gap, put_indexed, put_inserted}
use Rattle.gpu_block_gaps.proofs.order.put.Goals.{After-insert}
use Rattle.gpu_block_gaps.proofs.order.put.Goals as goal

pub insert-requires-clause-there : goal.insert-requires-clause-there
insert-requires-clause-there c =
    let are = c.requires.indexed.1 in
    let place = place_there (key_in c.args.thread.now.gaps) c.args.thread.now.order are.ordered.sorted (code_of c.key_of-key.result) in
    (place.0, place.1.within, c.plant-next.ensures.next place.0 place.1)

pub plant-next-requires-clause-new : goal.plant-next-requires-clause-new
plant-next-requires-clause-new c = λ other same.
    let trees = c.requires.indexed.0 in
    let are = c.requires.indexed.1 in
    let near = c.look_near-nearby.ensures trees are in
    let key = c.key_of-key.ensures in
    not_same c.args.thread.now c.args.forest.now trees are c.args.gap (omega arith, omega arith) c.requires.fresh other
    (subst (λ n. IsNearby (key_in c.args.thread.now.gaps) c.args.forest.now.scale trees n (Nearby.Same other)) key
    (subst (λ (n : Nearby). IsNearby (key_in c.args.thread.now.gaps) c.args.forest.now.scale trees (code_of c.key_of-key.result) n) same near))

pub plant-next-requires-clause-spare : goal.plant-next-requires-clause-spare
plant-next-requires-clause-spare c =
    let some = spare_left c.args.thread.now c.args.forest.now c.requires.indexed.0 c.requires.indexed.1 c.requires.room in
    omega arith

both : (c : After-insert) → IsIndexed c.insert.new.self c.plant-next.new.forest × IsInserted (gaps_of c.args.thread.now) c.args.gap (gaps_of c.insert.new.self)
both c =
    let t = c.args.thread.now in
    let f = c.args.forest.now in
    let trees = c.requires.indexed.0 in
    let are = c.requires.indexed.1 in
    let g = c.args.gap in
    let short : IsShort g = (omega arith, omega arith) in
    let key = c.key_of-key.ensures in
    let place = place_there (key_in t.gaps) t.order are.ordered.sorted (code g) in
    let near = subst (λ n. IsNearby (key_in t.gaps) f.scale trees n c.look_near-nearby.result) key (c.look_near-nearby.ensures trees are) in
    let slot = c.vacant-slot.ensures.free in
    let s = c.vacant-slot.result in
    let same = sym c.vacant-slot.ensures.is in
    let next = c.plant-next.ensures.next place.0 (subst (λ n. IsPlaceIn (key_in t.gaps) t.order n place.0) (sym key) place.1) in
    let order = c.insert.ensures.order place.0 place.1.within next ∙ ap (insert t.order place.0) same in
    let gaps = c.insert.ensures.gaps ∙ ap (λ l. set t.gaps l g) same in
    let near' = nearby_rekeyed t f trees are g short c.requires.fresh s slot.1 slot.2 (code g) c.look_near-nearby.result near in
    let planted = c.plant-next.ensures.trees (key_in (set t.gaps s g)) trees (forest_rekeyed t f trees are g short c.requires.fresh s slot.1 slot.2)
    (ap code (put_gap t f trees are g short c.requires.fresh s slot.1 slot.2) ∙ sym key) (subst (λ n. IsNearby (key_in (set t.gaps s g)) f.scale trees n c.look_near-nearby.result) (sym key) near') in
    let planted' = subst (λ n. (new : Tree) × IsForest (key_in (set t.gaps s g)) c.plant-next.new.forest (set trees (class_in f.scale n) (Some new)) × Gains trees (class_in f.scale n) s new) key planted in (
      put_indexed t f trees are g short c.requires.fresh s slot.1 slot.2 c.insert.new.self c.plant-next.new.forest planted'.0 place.0 place.1 c.plant-next.ensures.room order gaps planted'.1 planted'.2,
      put_inserted t f trees are g short c.requires.fresh s slot.1 slot.2 c.insert.new.self c.plant-next.new.forest planted'.0 place.0 place.1 c.plant-next.ensures.room order gaps planted'.1 planted'.2,
    )

pub returns-clause-indexed : goal.returns-clause-indexed
returns-clause-indexed c = (both c).0

pub returns-clause-gaps : goal.returns-clause-gaps
returns-clause-gaps c = (both c).1
