use Rattle.std.proofs.Common.{arith, List, sym, subst}
use Rattle.gpu_block_pieces.specs.FreeList.{Extent}
use Rattle.gpu_c.specs.Visit.{pieces_from, piece_views}
use Rattle.gpu_c.proofs.Filling.{Fills, fills_begin, fills_full, fills_within, shows_next, skips_next, shows_all}
use Rattle.gpu_c.proofs.visit.fill_from.Goals as goal

pub loop-piece-init : goal.loop-piece-init
loop-piece-init c =
    subst (λ (xs : List Extent). Fills (piece_views (pieces_from c.args.from c.args.pieces)) c.args.views.now (piece_views (pieces_from c.args.from xs)) c.args.views.now 0)
    (sym c.into_iter-piece-iterator.ensures.into_iter_gives) (fills_begin _ _)

pub returns-then-count-views : goal.returns-then-count-views
returns-then-count-views c = fills_full _ _ _ _ _ c.loop-piece.invariant c.if-count-views.true

pub bounds-views-count : goal.bounds-views-count
bounds-views-count c = omega (arith, fills_within _ _ _ _ _ c.loop-piece.invariant, c.if-count-views.false)

pub loop-piece-preserved-then-from-offset : goal.loop-piece-preserved-then-from-offset
loop-piece-preserved-then-from-offset c =
    shows_next _ _ _ _ _ _ _ _ _ _ c.in-Some.ensures.steps c.offset.ensures c.view_of.ensures c.if-from-offset.true
    (omega (arith, fills_within _ _ _ _ _ c.loop-piece.invariant, c.if-count-views.false)) c.loop-piece.invariant

pub loop-piece-preserved : goal.loop-piece-preserved
loop-piece-preserved c =
    skips_next _ _ _ _ _ _ _ _ _ c.in-Some.ensures.steps c.offset.ensures c.if-from-offset.false c.loop-piece.invariant

pub returns : goal.returns
returns c = shows_all _ _ _ _ _ _ c.in-None.ensures.steps.0 c.loop-piece.invariant
