use Rattle.std.proofs.Common.{◌≡◌, ◌+◌, ◌-◌, refl, sym, ap, subst, ◌∙◌, arith}
use Rattle.gpu_device.specs.Held.{HasRange, range_in}
use Rattle.gpu_sim.specs.declared.memory.Slot.{Slot}
use Rattle.gpu_sim.specs.Memory.{slot_bytes, write_slot}
use Rattle.gpu_sim.specs.Memories.{with_slot}
use Rattle.gpu_sim.proofs.Slots.{opened, open_slot, bytes_at, written_memories_is}
use Rattle.gpu_sim.proofs.memories.Memories.part_mut.Goals as goal

pub overflow_sub-index : goal.overflow_sub-index
overflow_sub-index c = (opened c.args.self.now.slots.items c.args.number c.args.start c.args.len c.requires).positive

pub index_mut-requires : goal.index_mut-requires
index_mut-requires c = let o = opened c.args.self.now.slots.items c.args.number c.args.start c.args.len c.requires in omega (arith, o.within, c.args.self.now.slots.ok.0)

pub part_mut-requires : goal.part_mut-requires
part_mut-requires c =
    let o = opened c.args.self.now.slots.items c.args.number c.args.start c.args.len c.requires in
    subst (λ (x : Slot). HasRange (slot_bytes x) c.args.start c.args.len)
    (sym (open_slot c.args.self.now.slots.items c.args.number c.args.start c.args.len c.index_mut.result.now o c.index_mut.ensures.value)) o.has

pub returns : goal.returns
returns c =
    let ss = c.args.self.now.slots.items in
    let o = opened ss c.args.number c.args.start c.args.len c.requires in
    let same = open_slot ss c.args.number c.args.start c.args.len c.index_mut.result.now o c.index_mut.ensures.value in
    let e : c.args.number - 1 + 1 ≡ c.args.number = omega (arith, o.positive) in (
      (refl, λ w. ap (λ (x : Slot). with_slot c.args.self.now (c.args.number - 1) (write_slot x c.args.start w)) same ∙ written_memories_is c.args.self.now c.args.number c.args.start w o.positive),
      record {
        lends = tt;
        value = ap (range_in c.args.start c.args.len) (sym (bytes_at ss c.args.number (c.args.number - 1) c.index_mut.result.now e o.within c.index_mut.ensures.value)) ∙ c.part_mut.ensures.value;
      },
    )
