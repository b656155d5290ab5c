use Rattle.std.proofs.Common.{ℕ, refl, sym, ap, subst, inl, Some}
use Rattle.gpu_block.specs.SubAllocator.{block_of}
use Rattle.gpu_block.specs.Block.{Block, HasPages, IsSoundBlock, HasPagesApart}
use Rattle.gpu_block.specs.Said.{said_of}
use Rattle.gpu_core.specs.Slots.{slot_of}
use Rattle.gpu_values.specs.Refusal.{refusal_of}
use Rattle.gpu_core.proofs.Starved.{starved_live}
use Rattle.gpu_core.proofs.Found.{renamed_live, on_ok, on_error, if_error, either_way}
use Rattle.gpu_core.proofs.slot.relabel.Goals as goal

pub returns-in_default : goal.returns-in_default
returns-in_default g c =
    let before : (n : ℕ) × (HasPages (block_of c.in-Some.block.sub) n × IsSoundBlock (block_of c.in-Some.block.sub) × HasPagesApart (block_of c.in-Some.block.sub)) = rw c.in-Some.is at c.requires in
    let sound = before.1.1 in
    let after : IsSoundBlock (block_of c.relabel.new.self) = either_way c.relabel.result _ _ c.relabel.ensures.sound c.relabel.ensures.refused
    (λ e. subst IsSoundBlock (sym e) sound) in
    let separated : HasPagesApart (block_of c.relabel.new.self) = either_way c.relabel.result _ _ c.relabel.ensures.separated c.relabel.ensures.refused
    (λ e. subst HasPagesApart (sym e) before.1.2) in
    record {
      renamed = rw c.in-Some.is (on_ok c.relabel.result _ _ c.relabel.ensures.relabelled (λ t. (refl, t)));
      live = rw c.in-Some.is (on_ok c.relabel.result _ _ c.relabel.ensures.relabelled
          (λ t. renamed_live g.H.PartialEq.eq c.args.piece.now (slot_of c.in-Some.block) c.find.result (said_of c.args.said) (block_of c.relabel.new.self) c.find.ensures c.in_default.not-Other
          sound t));
      starved = rw c.in-Some.is (if_error c.relabel.result _ _ c.relabel.ensures.cause
          (λ e h host. starved_live g.H.PartialEq.eq c.args.piece.now (slot_of c.in-Some.block) c.find.result (refusal_of e) c.find.ensures c.in_default.not-Other sound h (ap refusal_of host)));
      no_memory = c.relabel.ensures.starved;
      cause = rw c.in-Some.is (if_error c.relabel.result _ _ c.relabel.ensures.cause (λ e h. inl h));
      refused = rw c.in-Some.is (on_error c.relabel.result _ _ c.relabel.ensures.refused
          (λ e. ap (λ (b : Block). Some (record { handle = c.in-Some.block.handle; block = b })) e));
      kept = rw c.in-Some.is (λ n s. (c.relabel.ensures.pages n s.0, after, separated));
    }
