use Rattle.std.proofs.Common.{All, ◌++◌, ◌∷◌, [], ℕ, Bool, true, false, List, if◌then◌else◌, is_ok, sym, subst}
use Rattle.std.proofs.lemmas.List.Elements.{All-push}
use Rattle.gpu_device.proofs.HeapsAndSets.{insert-keeps_heap, insert-keeps_set, insert-is_heap, with_member-keeps_heap, with_member-keeps_set}
use Rattle.gpu_device.specs.Metal.{Held, IsHeap, IsSet}
use Rattle.gpu_device.specs.declared.metal.types.MTLHeap.{MTLHeap}
use Rattle.gpu_sim_metal.specs.Simulation.{held_of}
use Rattle.gpu_device_tests.proofs.metal.refused.add_new.Goals as goal

all_pushed : {X : Type 0} (P : X → Type 0) (b : Bool) (xs : List X) (x : X) → All P xs → P x → All P (if b then (xs ++ x ∷ []) else xs)
all_pushed P true xs x all is = All-push P xs x all is
all_pushed P false xs x all is = all

pub loop-preserved : goal.loop-preserved
loop-preserved c =
    let heap = c.in-Some.heap in
    let new = c.in-Some.ensures.number.1 in
    let is_held = λ (one : MTLHeap). IsHeap (held_of c.add_allocation.new.self) one.0 in
    let as_set = λ (h : Held). IsSet h c.args.set.0 in
    let keeps = λ (n : ℕ) (is : IsHeap (held_of c.loop.sim) n). subst (λ (h : Held). IsHeap h n) (sym c.add_allocation.ensures.adds)
    (with_member-keeps_heap _ _ heap n (subst (λ (h : Held). IsHeap h n) (sym c.in-Some.ensures.holds) (insert-keeps_heap _ heap.0 _ n new is))) in
    let itself = subst (λ (h : Held). IsHeap h heap.0) (sym c.add_allocation.ensures.adds)
    (with_member-keeps_heap _ _ heap heap.0 (subst (λ (h : Held). IsHeap h heap.0) (sym c.in-Some.ensures.holds) (insert-is_heap _ heap.0 _ _))) in (
      subst as_set (sym c.add_allocation.ensures.adds)
          (with_member-keeps_set _ _ heap _ (subst as_set (sym c.in-Some.ensures.holds) (insert-keeps_set _ heap.0 _ _ new c.loop.invariant.0))),
      subst (All is_held) (sym c.push-pushed.ensures.items)
          (all_pushed is_held (is_ok c.push-pushed.result) c.loop.heaps.items heap (λ k d lt. keeps _ (c.loop.invariant.1 k d lt)) itself),
    )
