use Rattle.std.proofs.Common.{◌≡◌, ◌∙◌, ◌++◌, [], ◌∷◌, ℕ, Bool, ap, sym, subst, map, take, arith, refl, ◌+◌, get_or, All, None}
use Rattle.std.proofs.lemmas.List.{map-append}
use Rattle.std.proofs.lemmas.Option.{slice_get-get_or}
use Rattle.gpu_core.specs.TypeState.{TypeState}
use Rattle.gpu_device.specs.declared.vulkan.types.MemoryTypeInfo.{MemoryTypeInfo}
use Rattle.std.proofs.lemmas.List.Elements.{All-append, All-cons, All-nil}
use Rattle.gpu_vulkan.specs.Types.{is_host_visible}
use Rattle.gpu_core.specs.Blocks.{Slots}
use Rattle.gpu_core.specs.Budgets.{Budgets, budgets}
use Rattle.gpu_core.specs.Types.{Types, slots_of, kinds}
use Rattle.gpu_vulkan.proofs.Taken.{taken_next}
use Rattle.gpu_vulkan.proofs.setup.empty_types.Goals as goal

pub loop-info-preserved : goal.loop-info-preserved
loop-info-preserved g c =
    let types = c.loop-info.types.items in
    let infos = c.args.memory_types.now in
    let i = c.loop-info.info-index in
    let t : TypeState g.row.H.Denot = c.new.result in
    let kind : MemoryTypeInfo → Bool × ℕ = λ info. (is_host_visible info, c.args.granularity) in
    let pushed : c.push_reserved.new.self.items ≡ types ++ t ∷ [] = c.push_reserved.ensures.items in
    let none : MemoryTypeInfo = record { property_flags = record { 0 = 0 }; heap_index = 0 } in
    let info = get_or infos i none in
    let next : take i infos ++ info ∷ [] ≡ take (i + 1) infos = taken_next infos (take i infos) i info refl (slice_get-get_or infos i none c.loop-info-test.true) in
    let own : (t.is_host, t.granularity) ≡ kind info =
    ap (λ b. (b, t.granularity)) (c.new.ensures.kind.0 ∙ c.is_mapped.ensures) ∙ ap (λ n. (is_host_visible info, n)) c.new.ensures.kind.1 in
    record {
      kinds_are =
          ap kinds pushed ∙ map-append _ types (t ∷ [])
          ∙ ap (λ ks. ks ++ (t.is_host, t.granularity) ∷ []) c.loop-info.invariant.kinds_are
          ∙ ap (λ k. map kind (take i infos) ++ k ∷ []) own
          ∙ sym (map-append kind (take i infos) (info ∷ []))
          ∙ ap (map kind) next;
      empty =
          subst (λ (ts : Types g.row.H.Denot). All (λ slots. slots ≡ []) (slots_of ts)) (sym pushed)
          (subst (λ (ss : Slots g.row.H.Denot). All (λ slots. slots ≡ []) ss) (sym (map-append _ types (t ∷ [])))
          (All-append (λ slots. slots ≡ []) (slots_of types) (t.slots ∷ []) c.loop-info.invariant.empty
          (All-cons (λ slots. slots ≡ []) t.slots [] c.new.ensures.slots (All-nil (λ slots. slots ≡ [])))));
      unbounded =
          subst (λ (ts : Types g.row.H.Denot). All (λ b. b ≡ None) (budgets ts)) (sym pushed)
          (subst (λ (bs : Budgets). All (λ b. b ≡ None) bs) (sym (map-append (λ (x : TypeState g.row.H.Denot). x.budget) types (t ∷ [])))
          (All-append (λ b. b ≡ None) (budgets types) (t.budget ∷ []) c.loop-info.invariant.unbounded (All-cons (λ b. b ≡ None) t.budget [] c.new.ensures.budget (All-nil (λ b. b ≡ None)))));
      room = omega (arith, c.loop-info.invariant.room, c.push_reserved.ensures.capacity);
    }
