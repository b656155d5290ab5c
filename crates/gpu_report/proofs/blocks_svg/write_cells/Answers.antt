use Rattle.std.proofs.Common.{◌≡◌, List, ℕ, [], ◌++◌, refl, ap, ◌∙◌, append-nil, sym}
use Rattle.std.specs.List.{flat_map}
use Rattle.gpu_report.specs.Picture.{Cell, gap_cells, padding_cells, piece_cell, cells_between}
use Rattle.gpu_report.specs.Svg.{cell_svg}
use Rattle.gpu_report.proofs.Cells.{texts-step}
use Rattle.gpu_report.proofs.Writing.{WritesBefore, writes-all, writes-more}
use Rattle.gpu_report.proofs.blocks_svg.write_cells.Goals as goal

pub loop-piece-preserved : goal.loop-piece-preserved
loop-piece-preserved g c =
    let took = g.W.Write.write_str_gives in
    let size = c.args.scale.size in
    let text : Cell → List ℕ = cell_svg size c.args.scale.width in
    let x = c.in-Some.piece in
    let split : flat_map text (cells_between c.loop-piece.end c.loop-piece.piece-iterator size) ≡ flat_map text (gap_cells c.loop-piece.end x.start) ++
    (flat_map text (padding_cells x) ++ (text (piece_cell x) ++ flat_map text (cells_between x.end c.next.new.self size))) =
    ap (λ xs. flat_map text (cells_between c.loop-piece.end xs size)) c.in-Some.ensures.steps ∙ texts-step text c.loop-piece.end size x c.next.new.self in
    let whole : List ℕ = flat_map text (cells_between 0 c.into_iter-piece-iterator.result size) in
    let gap : List ℕ = flat_map text (gap_cells c.loop-piece.end x.start) in
    let padding : List ℕ = flat_map text (padding_cells x) in
    let rest : List ℕ = flat_map text (cells_between x.end c.next.new.self size) in
    let before : WritesBefore took c.args.f.now c.loop-piece.f (gap ++ (padding ++ (text (piece_cell x) ++ rest))) whole = rw split at c.loop-piece.invariant in
    let first = writes-more took c.args.f.now c.loop-piece.f c.write_gap.new.f gap _ whole before (λ plain. rw c.start.ensures at (c.in_ok-write_gap.ensures plain refl)) in
    let second = writes-more took c.args.f.now c.write_gap.new.f c.write_padding.new.f padding _ whole first (λ plain. c.in_ok-write_padding.ensures plain refl) in
    rw c.end-end.ensures (writes-more took c.args.f.now c.write_padding.new.f c.write_piece.new.f (text (piece_cell x)) rest whole second (λ plain. c.in_ok-write_piece.ensures plain refl))

pub returns : goal.returns
returns g c =
    let took = g.W.Write.write_str_gives in
    let size = c.args.scale.size in
    let text : Cell → List ℕ = cell_svg size c.args.scale.width in
    let last : List ℕ = flat_map text (gap_cells c.loop-piece.end size) in
    let whole : List ℕ = flat_map text (cells_between 0 c.into_iter-piece-iterator.result size) in
    let split : flat_map text (cells_between c.loop-piece.end c.loop-piece.piece-iterator size) ≡ last ++ [] =
    ap (λ xs. flat_map text (cells_between c.loop-piece.end xs size)) c.in-None.ensures.steps.0 ∙ sym (append-nil last) in
    let before : WritesBefore took c.args.f.now c.loop-piece.f (last ++ []) whole = rw split at c.loop-piece.invariant in
    λ plain ok.
    rw (sym c.into_iter-piece-iterator.ensures.into_iter_gives)
    (writes-all took c.args.f.now c.write_gap-2.new.f whole
    (writes-more took c.args.f.now c.loop-piece.f c.write_gap-2.new.f last [] whole before (λ q. c.write_gap-2.ensures q ok)) plain)
