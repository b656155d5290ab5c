-- Memory of whole pages leaves no page to its neighbours.
use Rattle.std.proofs.Common.{◌≡◌, ◌≢◌, ◌∙◌, ℕ, ◌+◌, ◌-◌, ◌*◌, ◌/◌, ◌%◌, ◌<◌, ◌≤◌, List, length, slice_index, ⊎_elim, arith}
use Rattle.std.specs.Prelude.{All}
use Rattle.std.proofs.lemmas.Nat.{div-add-mod', mul-le}
use Rattle.std.proofs.Math.Nat.{div-mul-le_self, mul-mod_left}
use Rattle.gpu_plan.specs.declared.resource.Resource.{Resource}
use Rattle.gpu_plan.specs.declared.resource.Kind.{Kind}
use Rattle.gpu_plan.specs.declared.memory.Memory.{Memory}
use Rattle.gpu_plan.specs.Plan.{IsValid, ShareByte, SharePage, no_resource, resource_at}
use Rattle.gpu_plan.specs.OrderPlan.{IsHeap}
use Rattle.gpu_plan.specs.Memory.{AreMixed, IsOfOneKind, IsOfWholePages, IsMemoryFor, LiesBeside}
use Rattle.gpu_plan.proofs.Paging.{page_mono, before_page_end}
use Rattle.gpu_plan.proofs.Rounding.{next_multiple_above}

module _ (g : ℕ) (pos : 0 < g) where
  -- a page begins no later than a byte on it or on a later page
  begins_before : (a q last : ℕ) → a % g ≡ 0 → a ≤ q → q / g ≤ last / g → a ≤ last
  begins_before a q last whole le before =
      let same = div-add-mod' a g in
      let first : a / g ≤ last / g = omega (arith, page_mono g a q pos le, before) in
      let step : a / g * g ≤ last / g * g = mul-le (a / g) g (last / g) g first (omega arith) in
      let under : last / g * g ≤ last = div-mul-le_self last g in
      omega arith

  -- a byte on a page before its end, or on an earlier page
  lies_before : (e p last : ℕ) → e % g ≡ 0 → last < e → p / g ≤ last / g → p < e
  lies_before e p last whole lt before =
      let under : last / g * g ≤ last = div-mul-le_self last g in
      let end : (last / g + 1) * g ≤ e = next_multiple_above g e (last / g) pos whole (omega arith) in
      let next : (last / g + 1) * g ≡ last / g * g + g = omega arith in
      let ahead : p < last / g * g + g = before_page_end g last p pos before in
      omega arith

  sum_whole : (a b : ℕ) → a % g ≡ 0 → b % g ≡ 0 → (a + b) % g ≡ 0
  sum_whole a b wa wb =
      let sa = div-add-mod' a g in
      let sb = div-add-mod' b g in
      let same : a + b ≡ (a / g + b / g) * g = omega arith in
      rw same (mul-mod_left (a / g + b / g) g)

-- a page that a part of memory shares is one of the memory's
part_shares : (g place size o s p n : ℕ) → 0 < g → 0 < s → o + s ≤ size → SharePage g (place + o) s p n → SharePage g place size p n
part_shares g place size o s p n pos some fits share =
    let front = page_mono g place (place + o) pos (omega arith) in
    let back = page_mono g (place + o + s - 1) (place + size - 1) pos (omega (arith, some, fits)) in
    (omega (arith, front, share.0), omega (arith, back, share.1))

-- and memory of whole pages shares a byte then
page_is_byte : (g place size o s p n : ℕ) → 0 < g → 0 < s → 0 < n → o + s ≤ size → place % g ≡ 0 → size % g ≡ 0 → SharePage g (place + o) s p n → ShareByte place size p n
page_is_byte g place size o s p n pos some other fits begins ends share =
    let before = begins_before g pos place (place + o) (p + n - 1) begins (omega arith) share.0 in
    let ahead = lies_before g pos (place + size) p (place + o + s - 1) (sum_whole g pos place size begins ends) (omega (arith, some, fits)) share.1 in
    (omega (arith, before, other), ahead)

module _ (g : ℕ) (resources : List Resource) (offsets : List ℕ) (heap : ℕ) (m : Memory) (place i : ℕ) (kind : Kind) (p n : ℕ) where
  pub none_shared : 0 < g → All IsValid resources → IsHeap resources offsets heap → IsMemoryFor g resources heap m → (AreMixed resources → place % g ≡ 0)
      → LiesBeside g m place kind p n → i < length resources → (resource_at resources i).kind ≢ kind
      → SharePage g (place + slice_index offsets i) (resource_at resources i).size p n → ⊥
  none_shared pos valid heaped serves whole beside i_lt differ share =
      let o = slice_index offsets i in
      let s = (resource_at resources i).size in
      let some : 0 < s = (valid i no_resource i_lt).0 in
      let within : o + s ≤ heap = heaped.within i i_lt in
      ⊎_elim
      (λ (one : IsOfOneKind resources heap m).
      beside.pages (λ same. differ (one.kind i no_resource i_lt ∙ same)) (part_shares g place m.size o s p n pos some (omega (arith, within, one.size)) share))
      (λ (pages : IsOfWholePages g resources heap m).
      beside.bytes (page_is_byte g place m.size o s p n pos some beside.sized (omega (arith, within, pages.room)) (whole pages.mixed) pages.whole share))
      serves
