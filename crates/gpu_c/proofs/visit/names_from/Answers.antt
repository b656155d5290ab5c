use Rattle.std.proofs.Common.{arith, ◌≡◌, ℕ, ◌+◌, ◌∷◌, ◌++◌, List, take, drop, ap, sym, subst, ◌∙◌, length}
use Rattle.gpu_block_pieces.specs.FreeList.{Extent}
use Rattle.gpu_c.specs.Visit.{pieces_from, room_for, copied_into}
use Rattle.gpu_c.proofs.Filling.{fills_within, pieces_here, pieces_before}
use Rattle.gpu_c.proofs.FillingNames.{FillsNames, names_begin, names_next, names_full, names_end}
use Rattle.gpu_c.proofs.visit.names_from.Goals as goal

pub loop-piece-init : goal.loop-piece-init
loop-piece-init c =
    subst (λ (xs : List Extent). FillsNames (pieces_from c.args.from c.args.pieces) (pieces_from c.args.from xs) c.args.lengths.now c.args.lengths.now c.args.names.now c.args.names.now 0 0)
    (sym c.into_iter-piece-iterator.ensures.into_iter_gives) (names_begin _ _ _)

pub returns-then-count-lengths : goal.returns-then-count-lengths
returns-then-count-lengths c = names_full _ _ _ _ _ _ _ _ c.loop-piece.auto.lengths c.if-count-lengths.true c.loop-piece.invariant

pub bounds-lengths-count : goal.bounds-lengths-count
bounds-lengths-count c = omega (arith, fills_within _ _ _ _ _ c.loop-piece.invariant.by_length, c.if-count-lengths.false)

pub append_text-filled-requires : goal.append_text-filled-requires
append_text-filled-requires c = fills_within _ _ _ _ _ c.loop-piece.invariant.by_text

pub loop-piece-preserved-then-from-offset : goal.loop-piece-preserved-then-from-offset
loop-piece-preserved-then-from-offset c =
    let named : c.name-name.result.now ≡ c.in-Some.piece.name = c.name-name.ensures in
    let here : pieces_from c.args.from c.loop-piece.piece-iterator ≡ c.in-Some.piece ∷ pieces_from c.args.from c.next.new.self = ap (pieces_from c.args.from) c.in-Some.ensures.steps
    ∙ pieces_here c.args.from c.in-Some.piece c.next.new.self (omega (arith, c.if-from-offset.true, c.offset.ensures)) in
    names_next _ _ c.in-Some.piece _ _ _ _ _ _ _ _ _ c.loop-piece.auto.lengths (omega (arith, fills_within _ _ _ _ _ c.loop-piece.invariant.by_length, c.if-count-lengths.false))
    (ap length named)
    (subst (λ (t : List ℕ). c.append_text-filled.result ≡ c.loop-piece.filled + room_for t (drop c.loop-piece.filled c.loop-piece.names)) named c.append_text-filled.ensures.filled)
    (subst (λ (t : List ℕ). c.append_text-filled.new.buffer ≡ take c.loop-piece.filled c.loop-piece.names ++ copied_into t (drop c.loop-piece.filled c.loop-piece.names)) named
    c.append_text-filled.ensures.copied)
    (subst (λ (ys : List Extent). FillsNames (pieces_from c.args.from c.args.pieces) ys c.args.lengths.now c.loop-piece.lengths c.args.names.now c.loop-piece.names c.loop-piece.count c.loop-piece.filled)
    here c.loop-piece.invariant)

pub loop-piece-preserved : goal.loop-piece-preserved
loop-piece-preserved c =
    subst (λ (ys : List Extent). FillsNames (pieces_from c.args.from c.args.pieces) ys c.args.lengths.now c.loop-piece.lengths c.args.names.now c.loop-piece.names c.loop-piece.count c.loop-piece.filled)
    (ap (pieces_from c.args.from) c.in-Some.ensures.steps ∙ pieces_before c.args.from c.in-Some.piece c.next.new.self (omega (arith, c.if-from-offset.false, c.offset.ensures))) c.loop-piece.invariant

pub returns : goal.returns
returns c = names_end _ _ _ _ _ _ _ _ (ap (pieces_from c.args.from) c.in-None.ensures.steps.0) c.loop-piece.invariant
