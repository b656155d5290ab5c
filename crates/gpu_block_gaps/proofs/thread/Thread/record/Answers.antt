use Rattle.std.proofs.Common.{◌≡◌, ◌+◌, ◌<◌, suc, ℕ, List, length, get_or, ap, sym, subst, ◌∙◌, arith}
use Rattle.std.proofs.lemmas.List.{get_or-map, get_or_read}
use Rattle.gpu_block_gaps.specs.Order.{IsIn}
use Rattle.gpu_block_gaps.specs.Thread.{Threaded, gap_in, blank}
use Rattle.gpu_block_gaps.specs.declared.thread.Record.{Record}
use Rattle.gpu_block_gaps.specs.Records.{gap_of, next_in, blank_record}
use Rattle.gpu_block_gaps.proofs.thread.Thread.record.Goals.{After-self, After-index}
use Rattle.gpu_block_gaps.proofs.thread.Thread.record.Goals as goal

inside : (c : After-self) → c.args.slot < length c.self.inside.records.items
inside c = c.self.invariant.inside c.args.slot (subst (IsIn c.args.slot) (sym (ap (λ (t : Threaded). t.order) c.self.view_is)) c.requires)

pub index-requires : goal.index-requires
index-requires c = inside c

there : (c : After-index) → c.args.slot < length c.self.inside.records.items
there c = c.self.invariant.inside c.args.slot (subst (IsIn c.args.slot) (sym (ap (λ (t : Threaded). t.order) c.self.view_is)) c.requires)

is : (c : After-index) → c.index.result.now ≡ get_or c.self.inside.records.items c.args.slot blank_record
is c = get_or_read c.self.inside.records.items c.args.slot c.index.result.now (there c) c.index.ensures blank_record

pub returns-clause-gap : goal.returns-clause-gap
returns-clause-gap c =
    ap gap_of (is c) ∙ sym (get_or-map gap_of c.self.inside.records.items c.args.slot blank_record blank (there c)) ∙ ap (λ (t : Threaded). gap_in t.gaps c.args.slot) c.self.view_is

pub returns-clause-next : goal.returns-clause-next
returns-clause-next c = λ k lt at.
    let order = ap (λ (t : Threaded). t.order) c.self.view_is in
    let long = ap (λ (t : Threaded). length t.order) c.self.view_is in
    let e : suc k ≡ k + 1 = omega arith in
    ap (λ (r : Record). r.next) (is c) ∙ ap (next_in c.self.inside.records.items) (at ∙ ap (λ (xs : List ℕ). get_or xs k 0) (sym order)) ∙ (c.self.invariant.linked (suc k) (omega arith)).0
    ∙ ap (λ (xs : List ℕ). get_or xs (suc k) 0) order ∙ ap (λ j. get_or c.args.self.now.order j 0) e
