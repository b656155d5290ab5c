use Rattle.std.proofs.Common.{rules, ◌≡◌, ◌∙◌, refl, sym, ap, subst, true, ℕ, inl, inr, Ok, Err, Some, None}
use Rattle.gpu_vulkan.specs.Live.{IsLive, IsMapped}
use Rattle.gpu_vulkan.specs.Move.{IsSecondPlace}
use Rattle.gpu_vulkan.specs.State.{State}
use Rattle.gpu_vulkan.specs.Step.{IsMoveStep}
use Rattle.gpu_vulkan.specs.Types.{is_mapped}
use Rattle.gpu_vulkan.specs.declared.allocation.Allocation.{Allocation}
use Rattle.gpu_vulkan.proofs.allocator.Allocator.move_mapped.Goals as goal
use Rattle.gpu_vulkan.proofs.allocator.Allocator.move_mapped.Goals.{In-Ok-Some}

was_mapped : (g : _) (c : In-Ok-Some g) → IsMapped c.args.self.now.setup.properties c.args.self.now.slots c.args.allocation
was_mapped g c = search rules

second : (g : _) (c : In-Ok-Some g) → IsSecondPlace c.args.desc.now.requirements.alignment c.args.self.now.slots c.args.allocation c.in-Ok-Some.to c.propose_move.new.self.slots
second g c = rw c.in-Ok-Some.field-0-is at c.in-Ok-Some.ensures.gives

same_types : (g : _) (c : In-Ok-Some g) → c.propose_move.new.self.setup ≡ c.args.self.now.setup
same_types g c = ap (λ (s : State g.row.D.Denot). s.setup) c.propose_move.ensures.others

mapped_in : {D : Type 0} (old new : State D) (a : Allocation) (t : ℕ) → new.setup ≡ old.setup → a.memory_type_index ≡ t → is_mapped old.setup.properties t ≡ true → IsLive new.slots a
    → IsMapped new.setup.properties new.slots a
mapped_in old new a t setup type mapped live = (live, ap (λ s. is_mapped s.properties a.memory_type_index) setup ∙ ap (is_mapped old.setup.properties) type ∙ mapped)

pub carry-requires-clause-first : goal.carry-requires-clause-first
carry-requires-clause-first g c =
    let later = (goal.at.carry-requires-clause-first g c).In-Ok-Some in
    let was = was_mapped g later in
    mapped_in c.args.self.now c.propose_move.new.self c.args.allocation c.args.allocation.memory_type_index (same_types g later) refl was.1 (c.propose_move.ensures.keeps c.args.allocation was.0)

pub carry-requires-clause-second : goal.carry-requires-clause-second
carry-requires-clause-second g c =
    let later = (goal.at.carry-requires-clause-second g c).In-Ok-Some in
    let was = was_mapped g later in
    let two = second g later in
    mapped_in c.args.self.now c.propose_move.new.self c.in-Ok-Some.to c.args.allocation.memory_type_index (same_types g later) two.memory_type was.1 two.live

pub carry-requires-clause-other : goal.carry-requires-clause-other
carry-requires-clause-other g c =
    let later = (goal.at.carry-requires-clause-other g c).In-Ok-Some in
    λ types slots numbers. (second g later).other c.args.allocation (was_mapped g later).0 (sym types) (sym slots) (sym numbers)

pub carry-requires-clause-size : goal.carry-requires-clause-size
carry-requires-clause-size g c = (second g (goal.at.carry-requires-clause-size g c).In-Ok-Some).size

-- ---- it stays

pub returns-then-not-mapped-clause-moves : goal.returns-then-not-mapped-clause-moves
returns-then-not-mapped-clause-moves g c = inr (refl, refl, inl (search rules))

pub returns-in-Err-clause-moves : goal.returns-in-Err-clause-moves
returns-in-Err-clause-moves g c = (refl, refl, record { mapped = search rules; cause = inl refl })

pub returns-in-Err-propose_move-clause-moves : goal.returns-in-Err-propose_move-clause-moves
returns-in-Err-propose_move-clause-moves g c =
    let e = c.in-Err-propose_move in
    let step = subst (λ (s : State g.row.D.Denot). IsMoveStep g.D.VulkanDevice c.args.allocation c.args.desc.now (Err e.error) c.args.self.now s) e.ensures.refused e.ensures.step in
    (refl, e.ensures.refused, record { mapped = search rules; cause = inr step })

pub returns-in-Ok-None-clause-moves : goal.returns-in-Ok-None-clause-moves
returns-in-Ok-None-clause-moves g c =
    let e = c.in-Ok-None in
    let same : c.propose_move.new.self ≡ c.args.self.now = e.ensures.none (search rules) in
    let step : IsMoveStep g.D.VulkanDevice c.args.allocation c.args.desc.now (Ok None) c.args.self.now c.propose_move.new.self = rw e.field-0-is at e.ensures.step in
    inr (refl, same, inr (subst (λ (s : State g.row.D.Denot). IsMoveStep g.D.VulkanDevice c.args.allocation c.args.desc.now (Ok None) c.args.self.now s) same step))

-- ---- it is moved

pub returns-clause-moves : goal.returns-clause-moves
returns-clause-moves g c =
    let e = c.in-Ok-Some in
    let step : IsMoveStep g.D.VulkanDevice c.args.allocation c.args.desc.now (Ok (Some e.to)) c.args.self.now c.propose_move.new.self = rw e.field-0-is at e.ensures.step in
    inl (record { proposed = c.propose_move.new.self; step = step; carries = c.carry.ensures.carries })

pub returns-clause-others : goal.returns-clause-others
returns-clause-others g c = λ b live from.
    let later = (goal.at.returns-clause-others g c).In-Ok-Some in
    let k = c.carry.ensures.others b (c.propose_move.ensures.keeps b live) from ((second g later).other b live) in
    (k.0, k.1 ∙ c.propose_move.ensures.reads b live)

pub returns-clause-reads : goal.returns-clause-reads
returns-clause-reads g c =
    let later = (goal.at.returns-clause-reads g c).In-Ok-Some in
    c.carry.ensures.reads ∙ c.propose_move.ensures.reads c.args.allocation (was_mapped g later).0

pub returns-clause-gives : goal.returns-clause-gives
returns-clause-gives g c =
    let two = second g (goal.at.returns-clause-gives g c).In-Ok-Some in
    inr (record { live = c.carry.ensures.live; other = two.other; memory_type = two.memory_type; size = two.size; aligned = two.aligned; ahead = two.ahead })
