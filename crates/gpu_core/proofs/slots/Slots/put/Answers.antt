use Rattle.std.proofs.Common.{◌≡◌, ◌∙◌, ◌<◌, length, subst, sym, ap, arith, true, nat_lt, vec_capacity}
use Rattle.std.specs.Prelude.{◌||◌, min}
use Rattle.std.specs.Option.{option_map, is_some}
use Rattle.std.proofs.lemmas.List.{length-map}
use Rattle.gpu_core.specs.TypeState.{highest_empty}
use Rattle.gpu_core.specs.TypeTake.{new_slot}
use Rattle.gpu_core.specs.Slots.{slot_of, slots_of, SlotList, OthersAreNoted}
use Rattle.gpu_core.proofs.NewSlots.{is_new_slot, new_within}
use Rattle.gpu_core.proofs.Noted.{put_inside, put_behind, put_there, end_room}
use Rattle.gpu_core.proofs.slots.Slots.put.Goals as goal
use Rattle.gpu_core.proofs.slots.Slots.put.Goals.{After-new_slot-slot, then-slot-len, else-slot-len}

-- the slot is where the block goes
slot_is : (g : _) (c : After-new_slot-slot g) → c.new_slot-slot.result ≡ new_slot c.args.is_dedicated (slots_of c.self.inside.blocks.items)
slot_is g c = c.new_slot-slot.ensures ∙ ap (λ (s : SlotList _). new_slot c.args.is_dedicated s.slots) (sym c.self.view_is)

-- there is room behind the slots where it goes there
has_end : (g : _) (c : After-new_slot-slot g) → c.new_slot-slot.result ≡ length (slots_of c.self.inside.blocks.items)
    → length (slots_of c.self.inside.blocks.items) < min (vec_capacity c.self.inside.blocks) (min c.self.inside.notes.longest.room c.self.inside.notes.vacant.room)
has_end g c end =
    let own = c.self.inside in
    end_room c.args.is_dedicated (slots_of own.blocks.items) (min (vec_capacity own.blocks) (min own.notes.longest.room own.notes.vacant.room))
    (subst (λ (s : SlotList _). (is_some (highest_empty s.slots) || nat_lt (length s.slots) s.room) ≡ true) (sym c.self.view_is) c.requires) (sym (slot_is g c) ∙ end)

pub put_block-requires-clause-within : goal.put_block-requires-clause-within
put_block-requires-clause-within g c =
    let old = slots_of c.self.inside.blocks.items in
    let is = slot_is g ((goal.at.put_block-requires-clause-within g c).After-new_slot-slot) in
    let long = length-map c.self.inside.blocks.items (option_map slot_of) in
    let within = new_within old (new_slot c.args.is_dedicated old) (is_new_slot c.args.is_dedicated old) in
    omega (arith, is, long, within)

pub put_block-requires-clause-room : goal.put_block-requires-clause-room
put_block-requires-clause-room g c = λ end.
    let long = length-map c.self.inside.blocks.items (option_map slot_of) in
    let room = has_end g ((goal.at.put_block-requires-clause-room g c).After-new_slot-slot) (omega (arith, end, long)) in
    omega (arith, end, long, room)

pub push-requires-clause-longest : goal.push-requires-clause-longest
push-requires-clause-longest g c =
    let noted = c.self.invariant.as_long in
    let room = has_end g ((goal.at.push-requires-clause-longest g c).After-new_slot-slot) (omega (arith, noted, c.if-slot-len.true, c.len.ensures)) in
    omega (arith, noted, room)

pub push-requires-clause-vacant : goal.push-requires-clause-vacant
push-requires-clause-vacant g c =
    let noted = c.self.invariant.as_long in
    let many = c.self.invariant.as_many in
    let room = has_end g ((goal.at.push-requires-clause-vacant g c).After-new_slot-slot) (omega (arith, noted, c.if-slot-len.true, c.len.ensures)) in
    omega (arith, many, room)

pub measure-requires-clause-within : goal.measure-requires-clause-within
measure-requires-clause-within g c =
    let new = c.put_block.new.slots.items in
    let is = slot_is g ((goal.at.measure-requires-clause-within g c).After-new_slot-slot) in
    let there = put_there (slots_of c.self.inside.blocks.items) c.args.is_dedicated c.new_slot-slot.result (slot_of c.args.block) (slots_of new) is c.put_block.ensures.slots in
    let n = length-map new (option_map slot_of) in
    let blocks : c.deref.result.now ≡ new = c.deref.ensures.value ∙ elim c.if-slot-len.branch [
      | then-slot-len w ↦ ap (λ x. x.blocks.items) w.self-inside-is
      | else-slot-len w ↦ ap (λ x. x.blocks.items) w.self-inside-is
    ] in
    subst (λ xs. c.new_slot-slot.result < length xs) (sym blocks) (omega (arith, there, n))

pub measure-requires-clause-others : goal.measure-requires-clause-others
measure-requires-clause-others g c =
    let own = c.self.inside in
    let old = slots_of own.blocks.items in
    let slot = c.new_slot-slot.result in
    let new = c.put_block.new.slots.items in
    let put = c.put_block.ensures.slots in
    let is = slot_is g ((goal.at.measure-requires-clause-others g c).After-new_slot-slot) in
    let blocks : c.deref.result.now ≡ new = c.deref.ensures.value ∙ elim c.if-slot-len.branch [
      | then-slot-len w ↦ ap (λ x. x.blocks.items) w.self-inside-is
      | else-slot-len w ↦ ap (λ x. x.blocks.items) w.self-inside-is
    ] in
    let noted : OthersAreNoted slot c.if-slot-len.self-inside.notes (slots_of new) = elim c.if-slot-len.branch [
      | then-slot-len w ↦
          subst (λ x. OthersAreNoted slot x.notes (slots_of new)) (sym w.self-inside-is)
          (put_behind own.notes w.push.new.self old slot (slot_of c.args.block) (slots_of new) c.self.invariant w.push.ensures.longest w.push.ensures.vacant put
          (omega (arith, w.if-slot-len.true, c.len.ensures)))
      | else-slot-len w ↦
          subst (λ x. OthersAreNoted slot x.notes (slots_of new)) (sym w.self-inside-is)
          (put_inside own.notes old c.args.is_dedicated slot (slot_of c.args.block) (slots_of new) c.self.invariant is put (λ e. absurd (omega (arith, e, w.if-slot-len.false, c.len.ensures))))
    ] in
    subst (λ xs. OthersAreNoted slot c.if-slot-len.self-inside.notes (slots_of xs)) (sym blocks) noted
