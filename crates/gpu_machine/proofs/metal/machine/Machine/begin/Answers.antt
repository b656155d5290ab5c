use Rattle.std.proofs.Common.{◌≡◌, refl, sym, subst, rules, true, None, Ok, Err, Result}
use Rattle.gpu_values.specs.declared.error.AllocationError.{AllocationError}
use Rattle.gpu_metal.specs.Allocate.{is_valid}
use Rattle.gpu_metal.specs.Blocks.{is_same_heap}
use Rattle.gpu_pool.specs.Allocate.{request_at}
use Rattle.gpu_pool.specs.Begin as pools
use Rattle.gpu_pool.specs.Live.{IsLive}
use Rattle.gpu_machine.specs.MetalBegin.{begun_in, Tells, Begins}
use Rattle.gpu_machine.specs.MetalState.{State}
use Rattle.gpu_machine.specs.declared.metal.answer.Progress.{Progress}
use Rattle.gpu_machine.specs.declared.metal.answer.Progress.TheVariants as progress
use Rattle.gpu_machine.proofs.MetalBeginning.{begun}
use Rattle.gpu_machine.proofs.metal.machine.Machine.begin.Goals as goal
use Rattle.gpu_machine.proofs.metal.machine.Machine.begin.Goals.{After-begin, in-Err, in-Ok-Piece, in-Ok-Question}

abbrev old : After-begin → State
old c = record { requests = c.self.inside.requests; has_set = c.self.inside.has_set }

abbrev new : After-begin → State
new c = record { requests = c.begin.new.self; has_set = c.self.inside.has_set }

closed : (c : After-begin) → c.self.inside.requests.awaited ≡ None
closed c = search rules

valid : (c : After-begin) → is_valid c.args.desc.now ≡ true
valid c = search rules

begins : (c : After-begin) (result : Result Progress AllocationError) → pools.Begins (request_at c.type_for-index.result c.request_of.result tt) c.self.inside.requests (begun_in result) c.begin.new.self
    → Tells c.type_for-index.result result → Begins c.args.self.now c.args.desc.now result (new c)
begins c result by tells =
    let d = c.args.desc.now in
    subst (λ (s : State). Begins s d result (new c)) c.self.view_is
    (begun d (old c) (new c) c.type_for-index.result c.request_of.result (closed c) (valid c) c.type_for-index.ensures.first c.request_of.ensures.asks c.request_of.ensures.shared refl result by tells)

pub returns-clause-begins : goal.returns-clause-begins
returns-clause-begins c =
    let f = (goal.at.returns-clause-begins c).After-begin in
    elim c.match-begin.branch [
      | in-Err w ↦ rw w.result-is (begins f (Err w.in-Err.error) w.in-Err.ensures.begins tt)
      | in-Ok-Piece w ↦ rw w.result-is (begins f (Ok (progress.Piece (record { memory_type = c.type_for-index.result; piece = w.in-Ok-Piece.piece }))) (rw w.in-Ok-Piece.field-0-is at w.in-Ok-Piece.ensures.begins) refl)
      | in-Ok-Question w ↦ rw w.result-is (begins f (Ok (progress.Question w.question_for.result)) (rw w.question_for.ensures.block (rw w.in-Ok-Question.field-0-is at w.in-Ok-Question.ensures.begins)) w.question_for.ensures.heap)
    ]

pub returns-clause-keeps : goal.returns-clause-keeps
returns-clause-keeps c = λ t p live. c.begin.ensures.keeps t p (subst (λ (s : State). IsLive is_same_heap s.requests.slots t p) (sym c.self.view_is) live)
