use Rattle.std.proofs.Common.{◌≡◌, ◌≤◌, ◌+◌, ◌∷◌, [], ◌++◌, if◌then◌else◌, false, true, is_ok, sym, ap, subst, ◌∙◌, vec_len, arith}
use Rattle.gpu_sim_metal.specs.ResidencySet.{among}
use Rattle.gpu_sim_metal.proofs.Among.{has, has_place, among_add, added_is}
use Rattle.gpu_sim_metal.proofs.residency_set.ResidencySet.add.Goals as goal

lacks : (c : goal.After-push-pushed) → has c.args.self.now.members.items c.args.heap.0 ≡ false
lacks c = ap (λ l. has l c.args.heap.0) (sym c.deref.ensures.value) ∙ sym c.contains.ensures.value ∙ c.if-not-contains.true

fits : (c : goal.After-push-pushed) → vec_len c.args.self.now.members + 1 ≤ c.args.self.now.room
fits c =
    has_place c.args.self.now.members.items c.args.heap.0 (vec_len c.args.self.now.members) c.args.self.now.room c.requires.number c.requires.room (lacks c)
    c.args.self.now.once

fine : (c : goal.After-push-pushed) → is_ok c.push-pushed.result ≡ true
fine c = (c.push-pushed.ensures.succeeds (omega (arith, fits c, c.args.self.now.members_fit)))

pushed : (c : goal.After-push-pushed) → c.push-pushed.new.self.items ≡ c.args.self.now.members.items ++ c.args.heap ∷ []
pushed c =
    c.push-pushed.ensures.items
    ∙ ap (λ b. if b then (c.args.self.now.members.items ++ c.args.heap ∷ []) else c.args.self.now.members.items) (fine c)

longer : (c : goal.After-push-pushed) → vec_len c.push-pushed.new.self ≡ vec_len c.args.self.now.members + 1
longer c =
    c.push-pushed.ensures.len
    ∙ ap (λ b. if b then (vec_len c.args.self.now.members + 1) else (vec_len c.args.self.now.members)) (fine c)

pub invariant_of-self-clause-once : goal.invariant_of-self-clause-once
invariant_of-self-clause-once c =
    let more = among_add c.args.self.now.members.items c.args.heap c.args.self.now.room c.requires.number c.requires.room (lacks c) in
    subst (λ l. vec_len c.push-pushed.new.self ≤ among l c.args.self.now.room) (sym (pushed c))
    (omega (arith, more, longer c, c.args.self.now.once))

pub returns-then-not-contains-clause-members : goal.returns-then-not-contains-clause-members
returns-then-not-contains-clause-members c =
    c.push-pushed.ensures.items
    ∙ ap (λ b. if b then (c.args.self.now.members.items ++ c.args.heap ∷ []) else c.args.self.now.members.items)
    ((c.push-pushed.ensures.succeeds
    (omega (
      arith,
      has_place c.args.self.now.members.items c.args.heap.0 (vec_len c.args.self.now.members) c.args.self.now.room c.requires.number c.requires.room
          (ap (λ l. has l c.args.heap.0) (sym c.deref.ensures.value) ∙ sym c.contains.ensures.value ∙ c.if-not-contains.true) c.args.self.now.once,
      c.args.self.now.members_fit,
    ))))
    ∙ added_is c.args.self.now.members.items c.args.heap (ap (λ l. has l c.args.heap.0) (sym c.deref.ensures.value) ∙ sym c.contains.ensures.value ∙ c.if-not-contains.true)
