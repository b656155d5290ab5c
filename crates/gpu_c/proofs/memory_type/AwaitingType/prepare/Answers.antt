use Rattle.std.proofs.Common.{refl, subst, sym, Bool, ℕ}
use Rattle.gpu_core.specs.TypePrepare.{IsPrepared}
use Rattle.gpu_core.specs.declared.piece.Request.{Request}
use Rattle.gpu_core.specs.declared.memory_type.Prepared.{Prepared}
use Rattle.gpu_core.specs.declared.memory_type.Prepared.TheVariants as prepared
use Rattle.gpu_c.specs.MemoryType.{PreparesBy, state_of}
use Rattle.gpu_c.proofs.MemoryTypeLaws.{same_request, is_idle, allocates_piece, awaits}
use Rattle.gpu_c.proofs.memory_type.AwaitingType.prepare.Goals as goal

pub returns-in-Ok-Taken-clause-done : goal.returns-in-Ok-Taken-clause-done
returns-in-Ok-Taken-clause-done c _ =
    let q : Request = record {
      size = c.args.request.now.size;
      alignment = c.args.request.now.alignment;
      kind = c.in-Some-served.kind;
      dedicated = c.args.request.now.dedicated;
      name =
          c.in-Some-served.name;
    } in
    let h : IsPrepared c.self.inside.memory_type c.self.inside.sizes q (prepared.Taken c.in-Ok-Taken.piece) c.prepare.new.self = subst
    (λ (p : Prepared ℕ). IsPrepared c.self.inside.memory_type c.self.inside.sizes q p c.prepare.new.self) c.in-Ok-Taken.field-0-is c.in-Ok-Taken.ensures.prepared in
    record {
      idle = is_idle c.args.self.now c.self.inside.memory_type c.self.inside.sizes c.self.inside.awaited c.self.view_is c.in-None.is;
      served = c.in-Some-served.ensures.served;
      prepares = (
        refl,
        refl,
        allocates_piece c.args.self.now c.self.inside.memory_type c.prepare.new.self c.self.inside.sizes c.self.inside.awaited c.args.request.now c.args.name.now _ c.in-Ok-Taken.piece c.memory_piece.result
            c.self.view_is (same_request c.args.request.now c.args.name.now _ _ c.in-Some-served.ensures.kind.0 c.in-Some-served.ensures.name) c.memory_piece.ensures h.0 h.1
            c.in-Ok-Taken.ensures.capacity (record {
              kind = c.in-Ok-Taken.ensures.kind;
              budget = c.in-Ok-Taken.ensures.budget;
              sound = c.in-Ok-Taken.ensures.sound;
              empty = c.in-Ok-Taken.ensures.empty;
            }),
      );
    }

pub returns-then-status-eq-OK-clause-done : goal.returns-then-status-eq-OK-clause-done
returns-then-status-eq-OK-clause-done c ok =
    let q : Request = record {
      size = c.args.request.now.size;
      alignment = c.args.request.now.alignment;
      kind = c.in-Some-served.kind;
      dedicated = c.args.request.now.dedicated;
      name =
          c.in-Some-served.name;
    } in
    let h : IsPrepared c.self.inside.memory_type c.self.inside.sizes q (prepared.NeedBlock c.in-Ok-NeedBlock.need) c.prepare.new.self = subst
    (λ (p : Prepared ℕ). IsPrepared c.self.inside.memory_type c.self.inside.sizes q p c.prepare.new.self) c.in-Ok-NeedBlock.field-0-is c.in-Ok-NeedBlock.ensures.prepared in
    record {
      idle = is_idle c.args.self.now c.self.inside.memory_type c.self.inside.sizes c.self.inside.awaited c.self.view_is c.in-None.is;
      served = c.in-Some-served.ensures.served;
      prepares = subst (λ (b : Bool). PreparesBy b c.args.self.now c.args.request.now c.args.name.now c.needed.result (state_of c.prepare.new.self c.self.inside.sizes c.await_block.new.awaited))
          (sym c.needed.ensures.asks.0) (
            c.needed.ensures.asks.1,
            awaits c.args.self.now c.self.inside.memory_type c.prepare.new.self c.self.inside.sizes c.self.inside.awaited c.await_block.new.awaited c.args.request.now c.args.name.now _
                c.in-Ok-NeedBlock.need
                c.needed.result.block_size c.needed.result.dedicated
                c.self.view_is (same_request c.args.request.now c.args.name.now _ _ c.in-Some-served.ensures.kind.0 c.in-Some-served.ensures.name) c.await_block.ensures c.needed.ensures.size.0
                c.needed.ensures.size.1
                h.0 h.2 (record { kind = c.in-Ok-NeedBlock.ensures.kind; budget = c.in-Ok-NeedBlock.ensures.budget; sound = c.in-Ok-NeedBlock.ensures.sound; empty = c.in-Ok-NeedBlock.ensures.empty })
                (c.growth_status-status.ensures.within ok),
          );
    }
