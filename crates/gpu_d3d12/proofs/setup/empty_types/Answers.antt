use Rattle.std.proofs.Common.{◌≡◌, ◌∙◌, ◌++◌, [], ◌∷◌, ℕ, Bool, ap, sym, subst, map, take, arith, refl, ◌+◌, All, None, rules}
use Rattle.std.proofs.lemmas.List.{map-append}
use Rattle.std.proofs.lemmas.List.Elements.{All-append, All-cons, All-nil}
use Rattle.gpu_core.specs.TypeState.{TypeState}
use Rattle.gpu_device.specs.declared.d3d12.types.ID3D12Heap.{ID3D12Heap}
use Rattle.gpu_core.specs.Blocks.{Slots}
use Rattle.gpu_core.specs.Budgets.{Budgets, budgets}
use Rattle.gpu_core.specs.Types.{Types, slots_of, kinds}
use Rattle.gpu_d3d12.specs.Heaps.{is_host}
use Rattle.gpu_d3d12.specs.MemoryKinds.{memory_kinds}
use Rattle.gpu_d3d12.specs.declared.memory_kind.MemoryKind.{MemoryKind}
use Rattle.gpu_d3d12.proofs.Lists.{take_next}
use Rattle.gpu_d3d12.proofs.setup.empty_types.Goals as goal

-- one byte is a page
pub new-requires : goal.new-requires
unfolding lib.Count.ones
new-requires c = refl

pub loop-index-preserved : goal.loop-index-preserved
loop-index-preserved c =
    let types = c.loop-index.types.items in
    let all = memory_kinds c.args.tier in
    let i = c.loop-index.index in
    let t : TypeState ID3D12Heap = c.new.result in
    let kind : MemoryKind → Bool × ℕ = λ k. (is_host k, 1) in
    let pushed : c.push_reserved.new.self.items ≡ types ++ t ∷ [] = c.push_reserved.ensures.items in
    let next : take i all ++ c.kind_at.result ∷ [] ≡ take (i + 1) all = sym (take_next all i c.kind_at.result c.kind_at.ensures) in
    let own : (t.is_host, t.granularity) ≡ kind c.kind_at.result =
    ap (λ b. (b, t.granularity)) (c.new.ensures.kind.0 ∙ c.is_host.ensures) ∙ ap (λ n. (is_host c.kind_at.result, n)) c.new.ensures.kind.1 in
    record {
      counted = c.loop-index.invariant.counted;
      kinds_are =
          ap kinds pushed ∙ map-append _ types (t ∷ [])
          ∙ ap (λ ks. ks ++ (t.is_host, t.granularity) ∷ []) c.loop-index.invariant.kinds_are
          ∙ ap (λ k. map kind (take i all) ++ k ∷ []) own
          ∙ sym (map-append kind (take i all) (c.kind_at.result ∷ []))
          ∙ ap (map kind) next;
      empty =
          subst (λ (ts : Types ID3D12Heap). All (λ slots. slots ≡ []) (slots_of ts)) (sym pushed)
          (subst (λ (ss : Slots ID3D12Heap). All (λ slots. slots ≡ []) ss) (sym (map-append _ types (t ∷ [])))
          (All-append (λ slots. slots ≡ []) (slots_of types) (t.slots ∷ []) c.loop-index.invariant.empty
          (All-cons (λ slots. slots ≡ []) t.slots [] c.new.ensures.slots (All-nil (λ slots. slots ≡ [])))));
      unbounded =
          subst (λ (ts : Types ID3D12Heap). All (λ b. b ≡ None) (budgets ts)) (sym pushed)
          (subst (λ (bs : Budgets). All (λ b. b ≡ None) bs) (sym (map-append (λ (x : TypeState ID3D12Heap). x.budget) types (t ∷ [])))
          (All-append (λ b. b ≡ None) (budgets types) (t.budget ∷ []) c.loop-index.invariant.unbounded (All-cons (λ b. b ≡ None) t.budget [] c.new.ensures.budget (All-nil (λ b. b ≡ None)))));
      len = omega (arith, c.loop-index.invariant.len, c.push_reserved.ensures.len);
      room = omega (arith, c.loop-index.invariant.room, c.push_reserved.ensures.capacity);
    }

pub loop-index-init : goal.loop-index-init
loop-index-init c = search rules
