use Rattle.std.proofs.Common.{◌≡◌, ◌≤◌, ℕ, length}
use Rattle.gpu_sim_base.specs.Numbers.{item_at}
use Rattle.gpu_sim_metal.specs.Objects.{held_by, HasRoom, AllHaveRoom}
use Rattle.gpu_sim_metal.proofs.objects.make_room_in_all.Given as goal

-- the sets so far have the room, none has less than it had, and what is held stays
abbrev pub invariant-loop-index : goal.invariant-loop-index
invariant-loop-index l = (held_by l.numbers.slots.items ≡ held_by l.fn.numbers.slots.items)
    × (length l.numbers.slots.items ≡ length l.fn.numbers.slots.items)
    × ((count : ℕ) → AllHaveRoom count l.fn.numbers.slots.items → AllHaveRoom count l.numbers.slots.items)
    × ((number : ℕ) → number ≤ l.index → HasRoom l.room (item_at l.numbers.slots.items number))
