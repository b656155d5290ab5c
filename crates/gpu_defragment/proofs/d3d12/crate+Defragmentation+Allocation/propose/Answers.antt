use Rattle.std.proofs.Common.{rules, ◌≡◌, subst, ℕ, Ok, Some}
use Rattle.gpu_d3d12.specs.Step.{IsMoveStep}
use Rattle.gpu_defragment.specs.Defragmentation.{IsWithin, opened}
use Rattle.gpu_defragment.proofs.d3d12.crate+Defragmentation+Allocation.propose.Goals as goal

pub returns-in-Ok-Some-clause-proposes : goal.returns-in-Ok-Some-clause-proposes
returns-in-Ok-Some-clause-proposes g c =
    let step : IsMoveStep g.D.D3D12Device c.args.from c.args.desc.now (Ok (Some c.in-Ok-Some.to)) c.args.allocator.now c.propose_move.new.self = rw c.in-Ok-Some.field-0-is at c.in-Ok-Some.ensures.step in
    let here : IsWithin c.args.self.now c.size-size.result = search rules in
    record {
      within = subst (IsWithin c.args.self.now) c.size-size.ensures here;
      to = c.in-Ok-Some.to;
      step = step;
      state = subst (λ (n : ℕ). c.open_move.new.self ≡ opened c.args.self.now n (record { from = c.args.from; to = c.in-Ok-Some.to })) c.size-size.ensures c.open_move.ensures;
    }
