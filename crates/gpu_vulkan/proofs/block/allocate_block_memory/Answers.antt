use Rattle.std.proofs.Common.{◌∙◌, sym, ap, Some, Ok, true, ◌∷◌, refl, rules}
use Rattle.std.specs.FinMap.{remove}
use Rattle.gpu_device.specs.Held.{Held, size_of, mapped_with, raised}
use Rattle.gpu_device.proofs.Changes.{size-new}
use Rattle.gpu_device.proofs.Maps.{remove-insert}
use Rattle.gpu_device.specs.declared.vulkan.event.Event.TheVariants.{AskedMapping, Freed}
use Rattle.gpu_vulkan.specs.BlockAnswer.{Declined, Granted, Mapped, NotMapped, mapping_answer}
use Rattle.gpu_vulkan.proofs.block.allocate_block_memory.Goals as goal

pub returns-in-Err : goal.returns-in-Err
returns-in-Err g c = (
  Declined c.in-Err.code,
  record {
    fits = tt;
    number = tt;
    held = c.in-Err.ensures.refuses;
    history = c.in-Err.ensures.recorded;
    count = c.in-Err.ensures.counts_refusal;
    latest = c.allocate_memory.ensures.names_question;
    constant = c.allocate_memory.ensures.constant;
  },
  search rules,
)

pub returns-then-not-mapped : goal.returns-then-not-mapped
returns-then-not-mapped g c = (
  Granted c.in-Ok.memory.0,
  record {
    fits = c.if-not-mapped.true;
    number = c.in-Ok.ensures.number;
    held = c.in-Ok.ensures.grants;
    history = c.in-Ok.ensures.recorded;
    count = c.in-Ok.ensures.counts_no_grant;
    latest = c.allocate_memory.ensures.names_question;
    constant = c.allocate_memory.ensures.constant;
  },
  refl,
)

pub returns-in-Ok-map_new : goal.returns-in-Ok-map_new
returns-in-Ok-map_new g c =
    let h = g.D.VulkanDevice.held c.args.device.now in
    let n = c.in-Ok.memory.0 in
    let made = c.in-Ok.ensures.grants in
    let xs = c.in-Ok-map_new.ensures.maps.0 in (
      Mapped n xs,
      record {
        fits = (c.if-not-mapped.false, c.in-Ok-map_new.ensures.maps.1 ∙ ap (λ (k : Held). size_of k n) made ∙ size-new h n c.args.info.now);
        number = c.in-Ok.ensures.number;
        held = c.in-Ok-map_new.ensures.maps.2 ∙ ap (λ (k : Held). mapped_with k n xs) made;
        history = c.in-Ok-map_new.ensures.recorded ∙ ap (λ h. AskedMapping c.in-Ok.memory (Ok true) ∷ h) c.in-Ok.ensures.recorded;
        count = c.in-Ok-map_new.ensures.counts_no_grant ∙ c.in-Ok.ensures.counts_no_grant;
        latest = c.map_new.ensures.names_no_question ∙ c.allocate_memory.ensures.names_question;
        constant = c.map_new.ensures.constant ∙ c.allocate_memory.ensures.constant;
      },
      refl,
    )

pub returns-in-Err-map_new : goal.returns-in-Err-map_new
returns-in-Err-map_new g c =
    let h = g.D.VulkanDevice.held c.args.device.now in
    let n = c.in-Ok.memory.0 in (
      NotMapped n c.in-Err-map_new.ensures.cause.0,
      record {
        fits = c.if-not-mapped.false;
        number = tt;
        held = c.in-Err-map_new.ensures.gives_back ∙ ap (λ (k : Held). remove k n) c.in-Ok.ensures.grants ∙ remove-insert h n _ c.in-Ok.ensures.number.1;
        history = c.in-Err-map_new.ensures.cause.2
            ∙ ap (λ h. Freed c.in-Ok.memory ∷ AskedMapping c.in-Ok.memory (mapping_answer c.in-Err-map_new.ensures.cause.0) ∷ h) c.in-Ok.ensures.recorded;
        count = c.in-Err-map_new.ensures.counts_refusal ∙ ap raised c.in-Ok.ensures.counts_no_grant;
        latest = c.map_new.ensures.names_no_question ∙ c.allocate_memory.ensures.names_question;
        constant = c.map_new.ensures.constant ∙ c.allocate_memory.ensures.constant;
      },
      ap Some (sym c.in-Err-map_new.ensures.cause.1),
    )
