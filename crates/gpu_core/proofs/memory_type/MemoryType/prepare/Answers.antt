use Rattle.std.proofs.Common.{◌≡◌, Bool, false, sym, ap, subst, ◌∙◌, cond, nat_lt, ◌||◌}
use Rattle.std.proofs.lemmas.Bool.{false≢true}
use Rattle.std.specs.Prelude.{IsNone}
use Rattle.gpu_values.specs.Sizes.{shared_block_size}
use Rattle.gpu_block.specs.Block.{TakesIn}
use Rattle.gpu_core.specs.TypeState.{capacity_of}
use Rattle.gpu_core.specs.TypeTake.{asked, fresh_block, PreparesPiece, NoneServes, NeedsBlock, has_dedicated_block, next_shared_size}
use Rattle.gpu_core.specs.TypeInvariant.{AreKept}
use Rattle.gpu_core.proofs.Needs.{none_of, fresh_taken}
use Rattle.gpu_core.proofs.Kept.{prepared_kept, same_kept}
use Rattle.gpu_core.proofs.memory_type.MemoryType.prepare.Goals as goal
use Rattle.gpu_core.proofs.memory_type.MemoryType.prepare.Goals.{After-reserve, In-Some, then-not-dedicated+in_ok-piece+in_default, else-not-dedicated, then-request, else-request, then-dedicated}
use Rattle.gpu_core.proofs.memory_type.MemoryType.prepare.Goals.{else-dedicated}

inside_kept : (g : _) (c : After-reserve g) → AreKept c.if-not-dedicated.self-inside.granularity c.if-not-dedicated.self-inside.slots.slots c.if-not-dedicated.self-inside.capacity
    c.if-not-dedicated.self-inside.shared
inside_kept g c =
    let i = c.self.inside in
    elim c.if-not-dedicated.branch [
      | then-not-dedicated+in_ok-piece+in_default w ↦
          (let none : IsNone w.in_ok-piece.field-0 = none_of w.in_ok-piece.field-0 w.in_default.not-Some in
          let same = w.in_ok-piece.ensures.none none in
          subst (λ x. AreKept x.granularity x.slots.slots x.capacity x.shared) (sym w.self-inside-is)
          (same_kept i.granularity i.slots.slots i.capacity i.shared w.allocate.new.self.slots c.self.invariant same.1))
      | else-not-dedicated w ↦ subst (λ x. AreKept x.granularity x.slots.slots x.capacity x.shared) (sym w.self-inside-is) c.self.invariant
    ]

reserved_kept : (g : _) (c : After-reserve g) → AreKept c.if-not-dedicated.self-inside.granularity c.reserve.new.self.slots c.if-not-dedicated.self-inside.capacity
    c.if-not-dedicated.self-inside.shared
reserved_kept g c =
    let x = c.if-not-dedicated.self-inside in
    same_kept x.granularity x.slots.slots x.capacity x.shared c.reserve.new.self.slots (inside_kept g c) c.reserve.ensures.slots

taken_kept : (g : _) (c : In-Some g) → AreKept c.self.inside.granularity c.allocate.new.self.slots c.self.inside.capacity c.self.inside.shared
taken_kept g c =
    let i = c.self.inside in
    let took : PreparesPiece i.slots.slots (asked c.args.request.now) c.in-Some.piece c.allocate.new.self.slots = rw c.in-Some.is at c.in_ok-piece.ensures.took in
    prepared_kept i.granularity i.slots.slots i.capacity i.shared (asked c.args.request.now) c.in-Some.piece c.allocate.new.self.slots c.self.invariant c.allocate.ensures.kept took

pub invariant_of-self-in-Some : goal.invariant_of-self-in-Some
invariant_of-self-in-Some g c = taken_kept g ((goal.at.invariant_of-self-in-Some g c).In-Some)

pub returns-in-Some-clause-empty : goal.returns-in-Some-clause-empty
returns-in-Some-clause-empty g c = (taken_kept g ((goal.at.returns-in-Some-clause-empty g c).In-Some)).empty

pub returns-in-Some-clause-capacity : goal.returns-in-Some-clause-capacity
returns-in-Some-clause-capacity g c =
    sym (taken_kept g ((goal.at.returns-in-Some-clause-capacity g c).In-Some)).capacity_is ∙ c.self.invariant.capacity_is ∙ ap (λ t. capacity_of t.slots) c.self.view_is

pub invariant_of-self-in_err-room : goal.invariant_of-self-in_err-room
invariant_of-self-in_err-room g c = reserved_kept g ((goal.at.invariant_of-self-in_err-room g c).After-reserve)

pub invariant_of-self-2 : goal.invariant_of-self-2
invariant_of-self-2 g c = reserved_kept g ((goal.at.invariant_of-self-2 g c).After-reserve)

pub invariant_of-self-in_err-reserve : goal.invariant_of-self-in_err-reserve
invariant_of-self-in_err-reserve g c =
    reserved_kept g ((goal.at.invariant_of-self-in_err-reserve g c).After-reserve)

pub returns-in_err-room-clause-empty : goal.returns-in_err-room-clause-empty
returns-in_err-room-clause-empty g c =
    (reserved_kept g ((goal.at.returns-in_err-room-clause-empty g c).After-reserve)).empty

pub returns-clause-empty : goal.returns-clause-empty
returns-clause-empty g c = (reserved_kept g ((goal.at.returns-clause-empty g c).After-reserve)).empty

-- what went before the slot was reserved: a look through the shared blocks that found none, or nothing
inside_same : (g : _) (c : After-reserve g) → (c.if-not-dedicated.self-inside.granularity ≡ c.self.inside.granularity) × (c.if-not-dedicated.self-inside.slots.slots ≡ c.self.inside.slots.slots) ×
    (c.if-request.dedicated ≡ false → NoneServes c.self.inside.slots.slots (asked c.args.request.now))
inside_same g c =
    elim c.if-not-dedicated.branch [
      | then-not-dedicated+in_ok-piece+in_default w ↦
          (let none : IsNone w.in_ok-piece.field-0 = none_of w.in_ok-piece.field-0 w.in_default.not-Some in
          let same = w.in_ok-piece.ensures.none none in
          (ap (λ x. x.granularity) w.self-inside-is, ap (λ x. x.slots.slots) w.self-inside-is ∙ same.1, λ h. same.0))
      | else-not-dedicated w ↦
          (ap (λ x. x.granularity) w.self-inside-is, ap (λ x. x.slots.slots) w.self-inside-is, λ h. absurd (false≢true (sym h ∙ w.if-not-dedicated.false)))
    ]

next_is : (g : _) (c : After-reserve g) → c.memblock_size-next.result ≡ next_shared_size c.args.self.now c.args.sizes.now
next_is g c =
    c.memblock_size-next.ensures.size ∙ (ap (shared_block_size c.args.sizes.now c.self.inside.is_host) c.self.invariant.shared_is ∙ ap (λ t. next_shared_size t c.args.sizes.now) c.self.view_is)

kind_is : (g : _) (c : After-reserve g) → c.if-request.dedicated ≡ has_dedicated_block c.args.self.now c.args.sizes.now c.args.request.now.dedicated c.args.request.now.size
kind_is g c =
    let above : Bool = nat_lt (next_shared_size c.args.self.now c.args.sizes.now) c.args.request.now.size in
    elim c.if-request.branch [
      | then-request w ↦ w.dedicated-is ∙ (w.if-request.true ∙ sym (ap (λ b. b || above) w.if-request.true))
      | else-request w ↦ w.dedicated-is ∙ (ap (λ n. nat_lt n c.args.request.now.size) (next_is g c) ∙ sym (ap (λ b. b || above) w.if-request.false))
    ]

pub returns-clause-prepared : goal.returns-clause-prepared
returns-clause-prepared g c =
    let at = (goal.at.returns-clause-prepared g c).After-reserve in
    let same = inside_same g at in
    let seen : c.self.inside.slots.slots ≡ c.args.self.now.slots = ap (λ t. t.slots) c.self.view_is in
    let pages : c.if-not-dedicated.self-inside.granularity ≡ c.args.self.now.granularity = same.0 ∙ ap (λ t. t.granularity) c.self.view_is in
    let size : c.if-dedicated.size ≡ cond c.if-request.dedicated c.args.request.now.size (next_shared_size c.args.self.now c.args.sizes.now) =
    elim c.if-dedicated.branch [
      | then-dedicated w ↦ w.size-is ∙ sym (ap (λ b. cond b c.args.request.now.size (next_shared_size c.args.self.now c.args.sizes.now)) w.if-dedicated.true)
      | else-dedicated w ↦ w.size-is ∙ (next_is g at ∙ sym (ap (λ b. cond b c.args.request.now.size (next_shared_size c.args.self.now c.args.sizes.now)) w.if-dedicated.false))
    ] in
    let taken = fresh_taken c.if-request.dedicated c.if-dedicated.size c.if-not-dedicated.self-inside.granularity (asked c.args.request.now) c.in_ok-room.room.offset c.in_ok-room.room.chunk_id
    c.in_ok-room.room.block c.in_ok-room.ensures.takes in
    let needs : NeedsBlock c.args.self.now c.args.sizes.now c.args.request.now.dedicated (asked c.args.request.now) c.if-dedicated.size c.if-request.dedicated c.in_ok-room.room =
    record {
      kind = kind_is g at;
      size_is = size;
      none = λ h. subst (λ xs. NoneServes xs (asked c.args.request.now)) seen (same.2 h);
      takes = subst (λ n. TakesIn (fresh_block c.if-request.dedicated c.if-dedicated.size n) (asked c.args.request.now) c.in_ok-room.room.offset c.in_ok-room.room.chunk_id c.in_ok-room.room.block)
          pages c.in_ok-room.ensures.takes;
      piece = c.in_ok-room.ensures.piece;
      begins = c.in_ok-room.ensures.begins;
    } in (
      needs,
      record {
        room = c.in_ok-reserve.ensures.room;
        size_is = taken.0;
        kind = taken.1;
        pages = c.in_ok-room.ensures.pages;
        sound = c.in_ok-room.ensures.sound;
        separated = c.in_ok-room.ensures.separated;
        holds = c.in_ok-room.ensures.holds;
      },
      c.reserve.ensures.slots ∙ (same.1 ∙ seen),
    )
