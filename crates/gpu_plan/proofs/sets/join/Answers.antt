use Rattle.std.proofs.Common.{◌≡◌, ◌∙◌, ◌<◌, ap, sym, ℕ, List, length, slice_set, slice_index_or, arith}
use Rattle.gpu_plan.specs.Sets.{set_for, narrowed}
use Rattle.gpu_plan.specs.declared.sets.MemoryNeeds.{MemoryNeeds}
use Rattle.gpu_plan.proofs.Joining.{within, begins, joins}
use Rattle.gpu_plan.proofs.sets.join.Goals as goal

pub index_mut-requires : goal.index_mut-requires
index_mut-requires c =
    let at : c.set_for-set.result ≡ set_for c.args.r.now c.args.sets.now.items = c.set_for-set.ensures ∙ ap (set_for c.args.r.now) c.deref.ensures.value in
    grind (arith, at, within c.args.r.now c.args.sets.now.items, c.if-set-len.false, c.len.ensures)

pub returns-in_ok-push-clause-sets : goal.returns-in_ok-push-clause-sets
returns-in_ok-push-clause-sets c =
    let at : c.set_for-set.result ≡ set_for c.args.r.now c.args.sets.now.items = c.set_for-set.ensures ∙ ap (set_for c.args.r.now) c.deref.ensures.value in
    let long = sym c.deref.ensures.len ∙ ap (λ (xs : List MemoryNeeds). length xs) c.deref.ensures.value in
    c.in_ok-push.ensures.items ∙ sym (begins c.args.r.now c.args.sets.now.items (sym at ∙ (c.if-set-len.true ∙ (c.len.ensures ∙ long))))

pub returns-else-set-len-clause-sets : goal.returns-else-set-len-clause-sets
returns-else-set-len-clause-sets c =
    let r = c.args.r.now in
    let sets = c.args.sets.now.items in
    let set = c.set_for-set.result in
    let was = c.index_mut.result.now in
    let at : set ≡ set_for r sets = c.set_for-set.ensures ∙ ap (set_for r) c.deref.ensures.value in
    let long = sym c.deref.ensures.len ∙ ap (λ (xs : List MemoryNeeds). length xs) c.deref.ensures.value in
    let there : set_for r sets < length sets = grind (arith, at, within r sets, c.if-set-len.false, c.len.ensures, long) in
    ap (λ (x : MemoryNeeds). slice_set sets set (narrowed x r)) c.index_mut.ensures.value
    ∙ (ap (λ (k : ℕ). slice_set sets k (narrowed (slice_index_or sets k was) r)) at ∙ sym (joins r sets was there))
