use Rattle.std.proofs.Common.{Some, sym, ◌∙◌}
use Rattle.gpu_block_pieces.specs.Chunks.{Differ}
use Rattle.gpu_block_pieces.proofs.Pages.{IsFirst, first_here, first_of_page, first_next, offset_within, none_aligned, no_first_within}
use Rattle.gpu_block_pieces.proofs.Powers.{positive_from_test}
use Rattle.gpu_block_pieces.proofs.place.offset_from.Goals as goal

pub returns-in_err-offset : goal.returns-in_err-offset
returns-in_err-offset c =
    let w = c.args.wanted.now in
    rw c.from_residual.ensures (none_aligned w.granularity w.alignment c.args.last (Differ c.args.left w.kind) c.args.start (positive_from_test w.alignment c.requires.aligned) c.in_err-offset.ensures)

pub returns-then-remainder-eq0 : goal.returns-then-remainder-eq0
returns-then-remainder-eq0 c =
    let w = c.args.wanted.now in
    let paged = positive_from_test w.granularity c.requires.paged in
    offset_within w.granularity w.alignment c.args.last (Differ c.args.left w.kind) c.args.start c.args.start (Some c.in_ok-offset.offset) (positive_from_test w.alignment c.requires.aligned)
    (first_of_page w.granularity (Differ c.args.left w.kind) c.args.start paged c.requires.behind (sym c.remainder.ensures ∙ c.if-remainder-eq0.true)) c.in_ok-offset.ensures

pub returns-then-not-differ : goal.returns-then-not-differ
returns-then-not-differ c =
    let w = c.args.wanted.now in
    offset_within w.granularity w.alignment c.args.last (Differ c.args.left w.kind) c.args.start c.args.start (Some c.in_ok-offset.offset) (positive_from_test w.alignment c.requires.aligned)
    (first_here w.granularity (Differ c.args.left w.kind) c.args.start (λ other. absurd (let yes = c.differ.ensures.1 other in let no = c.if-not-differ.true in cc))) c.in_ok-offset.ensures

pub returns-in_err-first : goal.returns-in_err-first
returns-in_err-first c =
    let w = c.args.wanted.now in
    let other : Differ c.args.left w.kind = c.differ.ensures.0 (let no = c.if-not-differ.false in cc) in
    rw c.from_residual-in_err-first.ensures (no_first_within w.granularity w.alignment c.args.last (Differ c.args.left w.kind) c.args.start (positive_from_test w.granularity c.requires.paged) (c.requires.behind other) other
    c.in_err-first.ensures)

pub returns : goal.returns
returns c =
    let w = c.args.wanted.now in
    let other : Differ c.args.left w.kind = c.differ.ensures.0 (let no = c.if-not-differ.false in cc) in
    let first : IsFirst w.granularity (Differ c.args.left w.kind) c.args.start c.in_ok-first.first =
    rw c.in_ok-first.ensures.1 (first_next w.granularity (Differ c.args.left w.kind) c.args.start (positive_from_test w.granularity c.requires.paged) (c.requires.behind other) other) in
    offset_within w.granularity w.alignment c.args.last (Differ c.args.left w.kind) c.args.start c.in_ok-first.first c.round_up-3.result (positive_from_test w.alignment c.requires.aligned) first c.round_up-3.ensures
