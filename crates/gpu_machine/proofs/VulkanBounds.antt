-- A block is above a memory type's bound just where one of what bounds it forbids it.
use Rattle.std.proofs.Common.{◌≡◌, ℕ, zero, suc, ◌+◌, ◌-◌, ◌<◌, ◌≤◌, min, List, [], ◌∷◌, Option, Some, None, Bool, true, false, refl, sym, ap, subst, ◌∙◌, if◌then◌else◌, arith}
use Rattle.std.specs.Prelude.{◌==◌, ◌||◌, not, nat_lt, nat_le, slice_get, IsSomeAnd}
use Rattle.std.specs.Option.{option_map}
use Rattle.std.proofs.lemmas.Bool.Decides.{nat_tests}
use Rattle.std.proofs.lemmas.Option.{same_Some}
use Rattle.gpu_core.specs.Blocks.{Slots, slots_at}
use Rattle.gpu_core.specs.Budgets.{budget_at}
use Rattle.gpu_core.specs.TypeState.{capacity_of, fits_budget}
use Rattle.gpu_device.specs.declared.vulkan.types.MemoryTypeInfo.{MemoryTypeInfo}
use Rattle.gpu_machine.specs.VulkanAttempt.{is_forbidden}
use Rattle.gpu_machine.specs.VulkanBlockCount.{has_most}
use Rattle.gpu_machine.specs.VulkanBound.{lesser, heap_left, held_where_full, bound_at, BoundsBlocks}
use Rattle.gpu_machine.specs.VulkanHeapLimit.{Limits, limit_at, held_from, held_in, is_above, passes_of}
use Rattle.gpu_machine.specs.VulkanState.{State}

-- ---- the lesser of two bounds bounds what one of them does
least_above : (a b n : ℕ) → nat_lt (min a b) n ≡ (nat_lt a n || nat_lt b n)
least_above a b n = grind (arith, nat_tests)

or_none : (b : Bool) → b ≡ (b || false)
or_none true = refl
or_none false = refl

lesser_above : (held size : ℕ) (a b : Option ℕ) → is_above held (lesser a b) size ≡ (is_above held a size || is_above held b size)
lesser_above held size None b = refl
lesser_above held size (Some a) None = or_none (nat_lt a (held + size))
lesser_above held size (Some a) (Some b) = least_above a b (held + size)

-- ---- a budget
below : (b n : ℕ) → nat_lt b n ≡ not (nat_le n b)
below b n = grind (arith, nat_tests)

budget_above : (held size : ℕ) (budget : Option ℕ) → is_above held budget size ≡ not (fits_budget budget (held + size))
budget_above held size None = refl
budget_above held size (Some b) = below b (held + size)

-- ---- the number of blocks
more : (held size : ℕ) → 0 < size → nat_lt held (held + size) ≡ true
more held size some = grind (arith, nat_tests)

count_by : (held size : ℕ) (full : Bool) → 0 < size → is_above held (if full then Some held else None) size ≡ full
count_by held size true some = more held size some
count_by held size false some = refl

-- the sum of the sizes of a heap's blocks, of the memory types from the u-th on but the t-th
abbrev pub others_from : {H : Type 0} → List MemoryTypeInfo → (heap t u : ℕ) → Slots H → ℕ
others_from [] heap t u slots = 0
others_from (info ∷ infos) heap t u slots =
    (if u == t then 0 else if info.heap_index == heap then capacity_of (slots_at slots u) else 0) + others_from infos heap t (suc u) slots

module _ {H : Type 0} (slots : Slots H) where
  abbrev held : ℕ → ℕ
  held t = capacity_of (slots_at slots t)

  -- ---- the limit of a heap

  -- behind the t-th memory type each other one counts
  all_others : (infos : List MemoryTypeInfo) (heap t u : ℕ) → t < u → held_from infos heap u slots ≡ others_from infos heap t u slots
  all_others [] heap t u behind = refl
  all_others (info ∷ infos) heap t u behind =
      let apart : (u == t) ≡ false = grind (arith, nat_tests) in
      let here = if info.heap_index == heap then held u else 0 in
      ap (λ (n : ℕ). here + n) (all_others infos heap t (suc u) (omega arith)) ∙ ap (λ (b : Bool). (if b then 0 else here) + others_from infos heap t (suc u) slots) (sym apart)

  same_heap : (heap : ℕ) → (heap == heap) ≡ true
  same_heap heap = grind (arith, nat_tests)

  -- the heap's blocks are the t-th memory type's and the others'
  split_sum : (infos : List MemoryTypeInfo) (info : MemoryTypeInfo) (k u : ℕ) → slice_get infos k ≡ Some info
      → held_from infos info.heap_index u slots ≡ others_from infos info.heap_index (u + k) u slots + held (u + k)
  split_sum [] info k u at = cc
  split_sum (here ∷ infos) info zero u at =
      let is : here ≡ info = same_Some here info at in
      let this : (u == u + 0) ≡ true = grind (arith, nat_tests) in
      let heap : (here.heap_index == info.heap_index) ≡ true = ap (λ (i : MemoryTypeInfo). i.heap_index == info.heap_index) is ∙ same_heap info.heap_index in
      let rest = all_others infos info.heap_index (u + 0) (suc u) (omega arith) in
      let mine = ap (λ (b : Bool). if b then held u else 0) heap in
      let none = ap (λ (b : Bool). if b then 0 else (if here.heap_index == info.heap_index then held u else 0)) this in
      let place : u ≡ u + 0 = omega arith in
      let same = ap held place in
      omega (arith, rest, mine, none, same)
  split_sum (here ∷ infos) info (suc k) u at =
      let apart : (u == u + suc k) ≡ false = grind (arith, nat_tests) in
      let later : suc u + k ≡ u + suc k = omega arith in
      let rest = split_sum infos info k (suc u) at in
      let moved = ap (λ (t : ℕ). others_from infos info.heap_index t (suc u) slots + held t) later in
      let other = ap (λ (b : Bool). if b then 0 else (if here.heap_index == info.heap_index then held u else 0)) apart in
      omega (arith, rest, moved, other)

  pub whole : (infos : List MemoryTypeInfo) (info : MemoryTypeInfo) (t : ℕ) → slice_get infos t ≡ Some info
      → held_in infos info.heap_index slots ≡ others_from infos info.heap_index t 0 slots + held t
  whole infos info t at =
      let place : 0 + t ≡ t = omega arith in
      split_sum infos info t 0 at ∙ ap (λ (n : ℕ). others_from infos info.heap_index n 0 slots + held n) place

  pub others_sum : (o : Option MemoryTypeInfo) (infos : List MemoryTypeInfo) (heap t : ℕ) → slice_get infos t ≡ o → IsSomeAnd o (λ info. info.heap_index ≡ heap)
      → held_in infos heap slots ≡ others_from infos heap t 0 slots + held t
  others_sum None infos heap t at is = absurd is
  others_sum (Some info) infos heap t at is = subst (λ (h : ℕ). held_in infos h slots ≡ others_from infos h t 0 slots + held t) is (whole infos info t at)

  by_limit : (limit : Option ℕ) (others all mine size : ℕ) → all ≡ others + mine → 0 < size → is_above mine (option_map (λ l. l - others) limit) size ≡ is_above all limit size
  by_limit None others all mine size sum some = refl
  by_limit (Some l) others all mine size sum some = grind (arith, nat_tests)

  heap_above : (o : Option MemoryTypeInfo) (infos : List MemoryTypeInfo) (limits : Limits) (t size : ℕ) → slice_get infos t ≡ o → 0 < size
      → is_above (held t) (heap_left o infos limits slots t) size ≡ passes_of o infos limits slots size
  heap_above None infos limits t size at some = refl
  heap_above (Some info) infos limits t size at some =
      let sum = whole infos info t at in
      by_limit (limit_at limits info.heap_index) (held_in infos info.heap_index slots - held t) (held_in infos info.heap_index slots) (held t) size (omega arith) some

-- ---- all of them
pub bounds : {H : Type 0} (s : State H) (t : ℕ) → BoundsBlocks s t (bound_at s t)
bounds s t = λ size some.
    let slots = s.requests.slots in
    let infos = s.setup.properties.types in
    let mine = capacity_of (slots_at slots t) in
    let budget = budget_at s.requests.budgets t in
    let full = has_most s.most_blocks slots in
    let count = held_where_full s.most_blocks slots t in
    let heap = heap_left (slice_get infos t) infos s.limits slots t in
    let passes = passes_of (slice_get infos t) infos s.limits slots size in
    lesser_above mine size budget (lesser count heap)
    ∙ ap (λ (b : Bool). is_above mine budget size || b) (lesser_above mine size count heap)
    ∙ ap (λ (b : Bool). is_above mine budget size || (b || is_above mine heap size)) (count_by mine size full some)
    ∙ ap (λ (b : Bool). is_above mine budget size || (full || b)) (heap_above slots (slice_get infos t) infos s.limits t size refl some)
    ∙ ap (λ (b : Bool). b || (full || passes)) (budget_above mine size budget)
