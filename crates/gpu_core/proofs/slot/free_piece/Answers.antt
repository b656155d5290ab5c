use Rattle.std.proofs.Common.{refl, sym, ap, subst, inl}
use Rattle.gpu_block.specs.SubAllocator.{block_of}
use Rattle.gpu_block.specs.Block.{Block, IsSoundBlock}
use Rattle.gpu_core.specs.Slots.{slot_of}
use Rattle.gpu_core.proofs.Found.{released_live, on_ok, on_error, if_error, either_way}
use Rattle.gpu_core.proofs.slot.free_piece.Goals as goal

pub returns-in_default : goal.returns-in_default
returns-in_default g c =
    record {
      released = c.free.ensures.freed;
      live = on_ok c.free.result _ _ c.free.ensures.freed
          (λ t. released_live g.H.PartialEq.eq c.args.piece.now (slot_of c.args.block.now) c.find.result (block_of c.free.new.self) c.find.ensures c.in_default.not-Other c.requires t);
      cause = if_error c.free.result _ _ c.free.ensures.cause (λ e h. inl h);
      refused = on_error c.free.result _ _ c.free.ensures.refused (λ e. ap (λ (b : Block). record { handle = c.args.block.now.handle; block = b }) e);
      handle = refl;
      pages = c.free.ensures.pages;
      sound = either_way c.free.result _ _ c.free.ensures.sound c.free.ensures.refused (λ e. subst IsSoundBlock (sym e) c.requires);
      separated = c.free.ensures.separated;
    }
