use Rattle.std.proofs.Common.{ℕ, ◌≡◌, ◌≤◌, ◌<◌, ◌+◌, ◌*◌, ◌/◌, min, max, ◌∙◌, length, Result, Ok, Err, sym, ap, arith, subst}
use Rattle.std.specs.Result.{OnErr}
use Rattle.std.proofs.lemmas.Result.{on_ok_weaker}
use Rattle.gpu_rows.specs.Rows.{row_count, room_for}
use Rattle.gpu_rows.proofs.Placing.{counts}
use Rattle.gpu_rows.proofs.Steps.{enough, covered, first_step, in_pages}
use Rattle.gpu_rows.proofs.rows.Rows.reserve.Goals as goal

on_err : {T E P : Type 0} (r : Result T E) → P → OnErr r P
on_err (Ok x) p = tt
on_err (Err e) p = p

pub overflow_sub-capacity : goal.overflow_sub-capacity
overflow_sub-capacity g c = omega (arith, counts c.self.inside.pages.items c.self.inside.len c.self.inside.room c.args.self.now c.self.invariant c.self.view_is)

pub returns-then-more-capacity-clause-ok : goal.returns-then-more-capacity-clause-ok
returns-then-more-capacity-clause-ok g c = omega (arith, counts c.self.inside.pages.items c.self.inside.len c.self.inside.room c.args.self.now c.self.invariant c.self.view_is)

pub returns-then-more-capacity-clause-exact : goal.returns-then-more-capacity-clause-exact
returns-then-more-capacity-clause-exact g c =
    let now = c.args.self.now in
    let seen = counts c.self.inside.pages.items c.self.inside.len c.self.inside.room now c.self.invariant c.self.view_is in
    omega (arith, covered (row_count now + c.args.more) now.capacity (subst (λ (n : ℕ). room_for n ≡ n) (sym seen.1) c.self.invariant.step) (omega (arith, seen)))

pub returns-then-more-saturating_sub-clause-succeeds : goal.returns-then-more-saturating_sub-clause-succeeds
returns-then-more-saturating_sub-clause-succeeds g c room =
    absurd (omega (arith, counts c.self.inside.pages.items c.self.inside.len c.self.inside.room c.args.self.now c.self.invariant c.self.view_is))

pub returns-then-more-saturating_sub-clause-full : goal.returns-then-more-saturating_sub-clause-full
returns-then-more-saturating_sub-clause-full g c = omega (arith, counts c.self.inside.pages.items c.self.inside.len c.self.inside.room c.args.self.now c.self.invariant c.self.view_is)

pub grow_first-requires-clause-step : goal.grow_first-requires-clause-step
grow_first-requires-clause-step g c =
    let wanted = c.self.inside.len + c.args.more in
    let first : min 256 (room_for wanted) ≡ c.min.result = omega (arith, c.min.ensures, c.enough_room-room.ensures) in
    subst (λ (n : ℕ). room_for n ≡ n) first (first_step wanted)

pub returns-in_err-grow_first-clause-succeeds : goal.returns-in_err-grow_first-clause-succeeds
returns-in_err-grow_first-clause-succeeds g c room =
    absurd (omega (arith, counts c.self.inside.pages.items c.self.inside.len c.self.inside.room c.args.self.now c.self.invariant c.self.view_is))

pub returns-in_err-grow_first-clause-full : goal.returns-in_err-grow_first-clause-full
returns-in_err-grow_first-clause-full g c =
    let full : c.args.self.now.capacity < row_count c.args.self.now + c.args.more =
    omega (arith, counts c.self.inside.pages.items c.self.inside.len c.self.inside.room c.args.self.now c.self.invariant c.self.view_is) in
    on_err c.from_residual.result full

pub grow_whole-requires-clause-few : goal.grow_whole-requires-clause-few
grow_whole-requires-clause-few g c = omega (arith, enough (c.self.inside.len + c.args.more), c.enough_room-room.ensures)

pub returns-clause-ok : goal.returns-clause-ok
returns-clause-ok g c =
    let now = c.args.self.now in
    let new = c.grow_whole.new.self in
    let wanted = c.self.inside.len + c.args.more in
    let seen = counts c.self.inside.pages.items c.self.inside.len c.self.inside.room now c.self.invariant c.self.view_is in
    let same : row_count new ≡ row_count now = ap length c.grow_whole.ensures.items ∙ ap length c.in_ok-grow_first.ensures.items in
    let room : new.capacity ≡ max c.grow_first.new.self.capacity (256 * (c.enough_room-room.result / 256)) → row_count new + c.args.more ≤ new.capacity =
    λ is. omega (arith, same, seen, enough wanted, in_pages wanted, c.min.ensures, c.enough_room-room.ensures, c.in_ok-grow_first.ensures.ok) in
    on_ok_weaker c.grow_whole.result room c.grow_whole.ensures.ok

pub returns-clause-exact : goal.returns-clause-exact
returns-clause-exact g c =
    let now = c.args.self.now in
    let new = c.grow_whole.new.self in
    let wanted = c.self.inside.len + c.args.more in
    let seen = counts c.self.inside.pages.items c.self.inside.len c.self.inside.room now c.self.invariant c.self.view_is in
    let exact : new.capacity ≡ max c.grow_first.new.self.capacity (256 * (c.enough_room-room.result / 256)) → new.capacity ≡ max now.capacity (room_for (row_count now + c.args.more)) =
    λ is. rw seen.0 (omega (arith, seen, in_pages wanted, c.min.ensures, c.enough_room-room.ensures, c.in_ok-grow_first.ensures.ok)) in
    on_ok_weaker c.grow_whole.result exact c.grow_whole.ensures.ok

pub returns-clause-most : goal.returns-clause-most
returns-clause-most g c =
    let now = c.args.self.now in
    let wanted = c.self.inside.len + c.args.more in
    let seen = counts c.self.inside.pages.items c.self.inside.len c.self.inside.room now c.self.invariant c.self.view_is in
    omega (arith, seen, enough wanted, in_pages wanted, c.min.ensures, c.enough_room-room.ensures, c.in_ok-grow_first.ensures.ok, c.grow_whole.ensures.most)

pub returns-clause-succeeds : goal.returns-clause-succeeds
returns-clause-succeeds g c room =
    absurd (omega (arith, counts c.self.inside.pages.items c.self.inside.len c.self.inside.room c.args.self.now c.self.invariant c.self.view_is))

pub returns-clause-full : goal.returns-clause-full
returns-clause-full g c =
    let full : c.args.self.now.capacity < row_count c.args.self.now + c.args.more =
    omega (arith, counts c.self.inside.pages.items c.self.inside.len c.self.inside.room c.args.self.now c.self.invariant c.self.view_is) in
    on_err c.grow_whole.result full
