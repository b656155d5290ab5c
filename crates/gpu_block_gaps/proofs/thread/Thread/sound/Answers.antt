use Rattle.std.proofs.Common.{◌≢◌, suc, List, ℕ, length, ap, sym, subst, arith}
use Rattle.std.specs.List.{AllPairs}
use Rattle.std.proofs.lemmas.List.{length-map}
use Rattle.gpu_block_gaps.specs.Order.{IsIn}
use Rattle.gpu_block_gaps.specs.Thread.{Threaded}
use Rattle.gpu_block_gaps.specs.Records.{gap_of}
use Rattle.gpu_block_gaps.proofs.Threads.{above_zero}
use Rattle.gpu_block_gaps.proofs.thread.Thread.sound.Goals as goal

pub returns-clause-inside : goal.returns-clause-inside
returns-clause-inside c = λ slot is.
    let order = ap (λ (t : Threaded). t.order) c.self.view_is in
    let gaps = ap (λ (t : Threaded). length t.gaps) c.self.view_is in
    let here = subst (IsIn slot) (sym order) is in
    let long = length-map c.self.inside.records.items gap_of in
    let below = c.self.invariant.inside slot here in
    (above_zero _ _ _ _ c.self.invariant slot here, omega arith)

pub returns-clause-distinct : goal.returns-clause-distinct
returns-clause-distinct c =
    subst (λ (xs : List ℕ). AllPairs (λ a b. a ≢ b) xs) (ap (λ (t : Threaded). t.order) c.self.view_is) (λ i j d lt within. c.self.invariant.distinct (suc i) (suc j) d (omega arith) (omega arith))
