use Rattle.std.proofs.Common.{◌≡◌, ℕ, ◌+◌, not, cond, List, Option, subst, sym, ap, ◌∙◌, refl, arith}
use Rattle.gpu_block.specs.SubAllocator.{block_of}
use Rattle.gpu_block.specs.Block.{Block, is_shared, size_of}
use Rattle.gpu_core.specs.TypeState.{Slot, capacity_of, KeepsOneEmptyAtMost}
use Rattle.gpu_core.specs.TypeTake.{with_block}
use Rattle.gpu_core.specs.TypeInvariant.{AreKept}
use Rattle.gpu_core.specs.Slots.{AreSound}
use Rattle.gpu_core.proofs.EmptyBlocks.{holds_some}
use Rattle.gpu_core.proofs.Kept.{installed_kept, count_le}
use Rattle.gpu_core.proofs.memory_type.MemoryType.install.Goals as goal
use Rattle.gpu_core.proofs.memory_type.MemoryType.install.Goals.{After-put-slot, then-not-dedicated, else-not-dedicated}

kept_with : (g : _) (c : After-put-slot g) (shared : ℕ) → cond (not c.args.need.dedicated) 1 0 ≡ shared → AreKept c.self.inside.granularity c.put-slot.new.self.slots
    (c.self.inside.capacity + c.args.need.size) (c.self.inside.shared + shared)
kept_with g c shared counts =
    let i = c.self.inside in
    let ready = c.requires.ready in
    let block : Block = block_of c.into_inner.result in
    let same : block ≡ c.args.need.room.block = ap block_of c.into_inner.ensures ∙ ap (λ r. r.block) c.room.view_is in
    let put = c.put-slot.ensures in
    let s : Slot g.row.H.Denot = record { handle = c.args.handle; block = block } in
    installed_kept i.granularity i.slots.slots i.capacity i.shared c.args.need.dedicated s c.put-slot.new.self.slots c.args.need.size shared c.self.invariant
    (rw same (rw (ap (λ t. t.granularity) c.self.view_is) ready.pages, ready.sound, ready.separated))
    (rw same (holds_some c.args.need.room.block c.args.need.room.chunk_id c.args.need.room.offset c.args.need.room.size ready.holds)) (put.slots ∙ ap (λ k. with_block i.slots.slots k s) put.slot)
    (ap size_of same ∙ ready.size_is) (ap (λ b. cond (is_shared b) 1 0) same ∙ (ap (λ b. cond b 1 0) ready.kind ∙ counts))

pub overflow_add-self-then-not-dedicated : goal.overflow_add-self-then-not-dedicated
overflow_add-self-then-not-dedicated g c =
    let at = (goal.at.overflow_add-self-then-not-dedicated g c).After-put-slot in
    let kept = kept_with g at 1 (rw c.if-not-dedicated.true refl) in
    let le = count_le c.put-slot.new.self.slots in
    let n = kept.shared_is in
    let b = c.put-slot.ensures.length in
    omega arith

pub invariant_of-self : goal.invariant_of-self
invariant_of-self g c =
    kept_with g ((goal.at.invariant_of-self g c).After-put-slot) 1 (rw c.if-not-dedicated.true refl)

pub invariant_of-self-else-not-dedicated : goal.invariant_of-self-else-not-dedicated
invariant_of-self-else-not-dedicated g c =
    subst (λ n. AreKept c.self.inside.granularity c.put-slot.new.self.slots (c.self.inside.capacity + c.args.need.size) n) (omega arith)
    (kept_with g ((goal.at.invariant_of-self-else-not-dedicated g c).After-put-slot) 0 (rw c.if-not-dedicated.false refl))

pub returns-clause-capacity : goal.returns-clause-capacity
returns-clause-capacity g c =
    let after : List (Option (Slot g.row.H.Denot)) = c.put-slot.new.self.slots in
    let slots : c.if-not-dedicated.self.slots ≡ after =
    elim c.if-not-dedicated.branch [
      | then-not-dedicated w ↦ ap (λ t. t.slots) w.self-is
      | else-not-dedicated w ↦ ap (λ t. t.slots) w.self-is
    ] in
    let kept = kept_with g ((goal.at.returns-clause-capacity g c).After-put-slot) (cond (not c.args.need.dedicated) 1 0) refl in
    let new = kept.capacity_is in
    let old = c.self.invariant.capacity_is in
    let seen : capacity_of c.self.inside.slots.slots ≡ capacity_of c.args.self.now.slots = ap (λ t. capacity_of t.slots) c.self.view_is in
    let here : capacity_of c.if-not-dedicated.self.slots ≡ capacity_of after = ap capacity_of slots in
    omega arith

pub returns-clause-empty : goal.returns-clause-empty
returns-clause-empty g c =
    let kept = kept_with g ((goal.at.returns-clause-empty g c).After-put-slot) (cond (not c.args.need.dedicated) 1 0) refl in
    elim c.if-not-dedicated.branch [
      | then-not-dedicated w ↦ subst (λ t. KeepsOneEmptyAtMost t.slots) (sym w.self-is) kept.empty
      | else-not-dedicated w ↦ subst (λ t. KeepsOneEmptyAtMost t.slots) (sym w.self-is) kept.empty
    ]

pub returns-clause-sound : goal.returns-clause-sound
returns-clause-sound g c =
    let kept = kept_with g ((goal.at.returns-clause-sound g c).After-put-slot) (cond (not c.args.need.dedicated) 1 0) refl in
    elim c.if-not-dedicated.branch [
      | then-not-dedicated w ↦ subst (λ t. AreSound t.granularity t.slots) (sym w.self-is) kept.sound
      | else-not-dedicated w ↦ subst (λ t. AreSound t.granularity t.slots) (sym w.self-is) kept.sound
    ]
