-- How many questions a request by a location asks.
use Rattle.std.proofs.Common.{◌≡◌, ◌∙◌, refl, sym, ap, subst, ⊎_elim, ℕ, zero, suc, Bool, true, false, Option, Some, None, Ok, Err, Result, arith, ◌+◌, ◌≤◌, ◌&&◌}
use Rattle.std.specs.Prelude.{IsOk}
use Rattle.gpu_values.specs.Refusal.{Refusal, refusal_of, refusal_in}
use Rattle.gpu_values.specs.Sizes.{Sizes}
use Rattle.gpu_values.specs.declared.error.AllocationError.{AllocationError}
use Rattle.gpu_core.proofs.Options.{none_some, some_same}
use Rattle.gpu_device.specs.declared.vulkan.device.VulkanDevice.{Ghosts}
use Rattle.gpu_pool.specs.Begin as pools
use Rattle.gpu_pool.specs.declared.requests.Awaited.{Awaited}
use Rattle.gpu_pool.specs.declared.requests.Question as pool_questions
use Rattle.gpu_vulkan.specs.Allocate.{next_type, is_valid}
use Rattle.gpu_vulkan.specs.BlockAnswer.{BlockAnswer, Declined, Granted, Mapped, NotMapped, memory_refusal, map_refusal}
use Rattle.gpu_vulkan.specs.Choice.{best_type}
use Rattle.gpu_vulkan.specs.declared.describe.AllocationCreateDesc.{AllocationCreateDesc}
use Rattle.gpu_machine.specs.VulkanAttempt.{AttemptsSized, IsAboveHeap, IsAboveLimit, BeginsWithinHeap}
use Rattle.gpu_machine.specs.VulkanAttempt.Attempts.{tries_whole, tries_left}
use Rattle.gpu_machine.specs.VulkanBegin.{Tries, Follows, IsDenied, BeginsAt, BeginsBy, BeginsIn, DeclinesIn, closed, GoesOnFor, TriesSmaller, IsDeniedSmaller, ShrinksTo, Shrinks}
use Rattle.gpu_machine.specs.VulkanDescription.{description_of}
use Rattle.gpu_machine.specs.VulkanRun.{State, Allocated, Progress, Hears, Finishes, Runs, most_questions}
use Rattle.gpu_machine.specs.VulkanSmallerBlocks.{portion_if, smaller_portion, may_be_smaller}
use Rattle.gpu_machine.specs.VulkanRoom.{lacks_room}
use Rattle.gpu_machine.specs.declared.vulkan.answer.Progress.TheVariants as progress
use Rattle.gpu_machine.specs.declared.vulkan.asking.Asking.{Asking}
use Rattle.gpu_machine.specs.declared.vulkan.smaller_blocks.Portion.{Portion}
use Rattle.gpu_machine.specs.declared.vulkan.smaller_blocks.Portion.TheVariants as portion

-- the questions of one memory type, from the one for this portion on
abbrev of_portion : (smaller_blocks : Bool) → Portion → ℕ
of_portion false p = 1
of_portion true portion.Whole = 3
of_portion true portion.Half = 2
of_portion true portion.Quarter = 1

-- the questions of an attempt and of those after it
abbrev left : (smaller_blocks is_second : Bool) → Portion → ℕ
left smaller_blocks true p = of_portion smaller_blocks p
left smaller_blocks false p = of_portion smaller_blocks p + of_portion smaller_blocks portion.Whole

one_at_least : (smaller_blocks : Bool) (p : Portion) → 1 ≤ of_portion smaller_blocks p
one_at_least false p = omega (arith)
one_at_least true portion.Whole = omega (arith)
one_at_least true portion.Half = omega (arith)
one_at_least true portion.Quarter = omega (arith)

some_left : (smaller_blocks is_second : Bool) (p : Portion) → 1 ≤ left smaller_blocks is_second p
some_left smaller_blocks true p = one_at_least smaller_blocks p
some_left smaller_blocks false p = omega (arith, one_at_least smaller_blocks p)

second_is_less : (smaller_blocks : Bool) (p : Portion) → suc (left smaller_blocks true portion.Whole) ≤ left smaller_blocks false p
second_is_less smaller_blocks p = omega (arith, one_at_least smaller_blocks p)

-- a smaller portion, where there is one, leaves fewer questions
abbrev IsSmaller : (smaller_blocks : Bool) → Portion → Option Portion → Type 0
IsSmaller smaller_blocks p None = Unit {0}
IsSmaller smaller_blocks p (Some q) = suc (of_portion smaller_blocks q) ≤ of_portion smaller_blocks p

is_smaller : (smaller_blocks may : Bool) (p : Portion) → IsSmaller smaller_blocks p (portion_if (smaller_blocks && may) p)
is_smaller false may p = tt
is_smaller true false p = tt
is_smaller true true portion.Whole = omega (arith)
is_smaller true true portion.Half = omega (arith)
is_smaller true true portion.Quarter = tt

smaller_is_less : (smaller_blocks is_second : Bool) (p q : Portion) → suc (of_portion smaller_blocks q) ≤ of_portion smaller_blocks p → suc (left smaller_blocks is_second q) ≤ left smaller_blocks is_second p
smaller_is_less smaller_blocks true p q h = h
smaller_is_less smaller_blocks false p q h = omega (arith, h)

all_are : (smaller_blocks : Bool) → left smaller_blocks false portion.Whole ≤ most_questions smaller_blocks
all_are false = omega (arith)
all_are true = omega (arith)

less_than_all : (smaller_blocks : Bool) → left smaller_blocks true portion.Whole ≤ most_questions smaller_blocks
less_than_all smaller_blocks = omega (arith, second_is_less smaller_blocks portion.Whole, all_are smaller_blocks)

module _ {D : Type 0} (g : Ghosts D) (d : AllocationCreateDesc) (smaller_blocks : Bool) where
  -- what is kept of the request while a question is open
  abbrev kept : (is_second : Bool) → Portion → Asking
  kept is_second p = record { description = description_of d; is_second = is_second; preference = None; portion = p }

  record Awaits (is_second : Bool) (p : Portion) (s : State) : Type 0 where
    asking : s.asking ≡ Some (kept is_second p)
    shrinks_so : s.smaller_blocks ≡ smaller_blocks

  -- so many questions at most are left
  abbrev Leaves : (most : ℕ) → Result Progress AllocationError → State → Type 0
  Leaves most (Err e) next = Unit {0}
  Leaves most (Ok (progress.Piece a)) next = Unit {0}
  Leaves most (Ok (progress.Question q)) next = (is_second : Bool) × (p : Portion) × Awaits is_second p next × (left smaller_blocks is_second p ≤ most)

  refused : (r : Refusal) (most : ℕ) (heard : Result Progress AllocationError) (next : State) → refusal_in heard ≡ Some r → Leaves most heard next
  refused r most (Ok x) next h = absurd (none_some r h)
  refused r most (Err e) next h = tt

  begun : (sizes : Sizes) (old : State) (t : ℕ) (is_second : Bool) (p : Portion) (most : ℕ) (heard : Result Progress AllocationError) (next : State) → old.smaller_blocks ≡ smaller_blocks
      → left smaller_blocks is_second p ≤ most → BeginsWithinHeap sizes old t (description_of d) (kept is_second p) heard next → Leaves most heard next
  begun sizes old t is_second p most (Err e) next so few h = tt
  begun sizes old t is_second p most (Ok (progress.Piece a)) next so few h = tt
  begun sizes old t is_second p most (Ok (progress.Question q)) next so few h =
      (is_second, p, record { asking = ap (λ (s : State). s.asking) h.state; shrinks_so = ap (λ (s : State). s.smaller_blocks) h.state ∙ so }, few)

  attempted : (sizes : Sizes) (old : State) (t : ℕ) (is_second : Bool) (p : Portion) (most : ℕ) (heard : Result Progress AllocationError) (next : State) → old.smaller_blocks ≡ smaller_blocks
      → left smaller_blocks is_second p ≤ most → AttemptsSized sizes old t (description_of d) (kept is_second p) heard next → Leaves most heard next
  attempted sizes old t is_second p most heard next so few h =
      ⊎_elim (λ (large : IsAboveHeap old t (description_of d) heard next). refused _ most heard next large.refused.0)
      (λ rest.
      ⊎_elim (λ (above : IsAboveLimit sizes old t (description_of d) heard next). refused _ most heard next above.refused.0)
      (λ (within : BeginsWithinHeap sizes old t (description_of d) (kept is_second p) heard next). begun sizes old t is_second p most heard next so few within)
      rest)
      h

  tried : (old : State) (t : ℕ) (is_second : Bool) (most : ℕ) (heard : Result Progress AllocationError) (next : State) → old.smaller_blocks ≡ smaller_blocks
      → left smaller_blocks is_second portion.Whole ≤ most → Tries old t d is_second heard next → Leaves most heard next
  tried old t is_second most heard next so few (tries_whole unlike whole) = attempted _ old t is_second portion.Whole most heard next so few whole
  tried old t is_second most heard next so few (tries_left cause smaller bounded whole again) = attempted _ old t is_second portion.Whole most heard next so few again

  followed : (o : Option ℕ) (r : Refusal) (old : State) (most : ℕ) (heard : Result Progress AllocationError) (next : State) → old.smaller_blocks ≡ smaller_blocks → left smaller_blocks true portion.Whole ≤ most
      → Follows old d o r heard next → Leaves most heard next
  followed None r old most heard next so few h = refused r most heard next h.0
  followed (Some t) r old most heard next so few h = tried old t true most heard next so few h

  -- after the last smaller block
  gone_on : (is_second : Bool) (p : Portion) (r : Refusal) (old : State) (most : ℕ) (heard : Result Progress AllocationError) (next : State) → old.smaller_blocks ≡ smaller_blocks
      → left smaller_blocks is_second p ≤ suc most → GoesOnFor (kept is_second p) old d r heard next → Leaves most heard next
  gone_on true p r old most heard next so few h = refused r most heard next h.0
  gone_on false p r old most heard next so few h =
      followed (next_type old.setup d r) r old most heard next so (omega (arith, second_is_less smaller_blocks p, few)) h

  shrunk : (o : Option Portion) (is_second : Bool) (p : Portion) (block : pool_questions.Question) (r : Refusal) (old : State) (most : ℕ) (heard : Result Progress AllocationError) (next : State)
      → IsSmaller smaller_blocks p o → old.smaller_blocks ≡ smaller_blocks → left smaller_blocks is_second p ≤ suc most → ShrinksTo o (kept is_second p) block old d r heard next → Leaves most heard next
  shrunk None is_second p block r old most heard next less so few h = gone_on is_second p r old most heard next so few h
  shrunk (Some q) is_second p block r old most heard next less so few h =
      ⊎_elim
      (λ (tries : IsOk heard × TriesSmaller (kept is_second p) block q old heard next).
      attempted _ old block.memory_type is_second q most heard next so (omega (arith, smaller_is_less smaller_blocks is_second p q less, few)) tries.1)
      (λ (denied : IsDeniedSmaller (kept is_second p) block q old d heard next). gone_on is_second p (refusal_of denied.cause) old most heard next so few denied.follows)
      h

  declined : (o : Option Awaited) (is_second : Bool) (p : Portion) (r : Refusal) (mid : State) (most : ℕ) (heard : Result Progress AllocationError) (next : State) → Awaits is_second p mid
      → left smaller_blocks is_second p ≤ suc most → DeclinesIn o mid r heard next → Leaves most heard next
  declined None is_second p r mid most heard next waits few h = refused _ most heard next h.0
  declined (Some a) is_second p r mid most heard next waits few h =
      let block = pools.question_of a in
      let same : kept is_second p ≡ h.0 = some_same _ _ (sym waits.asking ∙ h.1.kept) in
      let all : Shrinks (kept is_second p) block (closed mid) d r heard next =
      subst (λ (k : Asking). Shrinks k block (closed mid) d r heard next) (sym same) (h.1.follows d (ap (λ (k : Asking). k.description) same)) in
      let size = d.requirements.size in
      let by : ShrinksTo (smaller_portion smaller_blocks p block size r) (kept is_second p) block (closed mid) d r heard next =
      subst (λ (b : Bool). ShrinksTo (smaller_portion b p block size r) (kept is_second p) block (closed mid) d r heard next) waits.shrinks_so all in
      shrunk (smaller_portion smaller_blocks p block size r) is_second p block r (closed mid) most heard next (is_smaller smaller_blocks (lacks_room r && may_be_smaller block size) p) waits.shrinks_so few by

  granted : (heard : Result Progress AllocationError) (a : Allocated) (most : ℕ) (next : State) → heard ≡ Ok (progress.Piece a) → Leaves most heard next
  granted heard a most next is = subst (λ (x : Result Progress AllocationError). Leaves most x next) (sym is) tt

  heard_so : (answer : BlockAnswer) (is_second : Bool) (p : Portion) (mid : State) (most : ℕ) (heard : Result Progress AllocationError) (next : State) → Awaits is_second p mid
      → left smaller_blocks is_second p ≤ suc most → Hears mid answer heard next → Leaves most heard next
  heard_so (Declined code) is_second p mid most heard next waits few h = declined mid.requests.awaited is_second p (memory_refusal code) mid most heard next waits few h
  heard_so (Granted number) is_second p mid most heard next waits few h = granted heard h.piece most next h.is
  heard_so (Mapped number bytes) is_second p mid most heard next waits few h = granted heard h.piece most next h.is
  heard_so (NotMapped number code) is_second p mid most heard next waits few h = declined mid.requests.awaited is_second p (map_refusal code) mid most heard next waits few h

  -- so many questions suffice as are left
  onward : (most n : ℕ) (heard : Result Progress AllocationError) (mid : State) (device : D) (told : Result Allocated AllocationError) (new : State) (after : D) → Leaves most heard mid
      → Finishes g d n mid device heard told new after → Finishes g d most mid device heard told new after
  onward most n (Err e) mid device told new after leaves fin = fin
  onward most n (Ok (progress.Piece a)) mid device told new after leaves fin = fin
  onward zero n (Ok (progress.Question q)) mid device told new after leaves fin = absurd (omega (arith, some_left smaller_blocks leaves.0 leaves.1, leaves.3))
  onward (suc most) zero (Ok (progress.Question q)) mid device told new after leaves fin = absurd fin
  onward (suc most) (suc n) (Ok (progress.Question q)) mid device told new after leaves fin = (
    fin.0,
    fin.1,
    fin.2,
    fin.3,
    onward most n fin.0 fin.1 fin.2 told new after (heard_so fin.3.answer leaves.0 leaves.1 mid most fin.0 fin.1 leaves.2 leaves.3 fin.3.hears) fin.4,
  )

  -- ---- from the beginning

  found : (o : Option ℕ) (old : State) (heard : Result Progress AllocationError) (next : State) → old.smaller_blocks ≡ smaller_blocks → BeginsAt o old d heard next → Leaves (most_questions smaller_blocks) heard next
  found None old heard next so h = refused _ _ heard next h.0
  found (Some t) old heard next so h =
      ⊎_elim
      (λ (s : IsOk heard × Tries old t d false heard next). tried old t false (most_questions smaller_blocks) heard next so (all_are smaller_blocks) s.1)
      (λ (s : IsDenied old t d heard next).
      followed (next_type old.setup d (refusal_of s.cause)) (refusal_of s.cause) old (most_questions smaller_blocks) heard next so (less_than_all smaller_blocks) s.follows)
      h

  valid : (b : Bool) (old : State) (heard : Result Progress AllocationError) (next : State) → old.smaller_blocks ≡ smaller_blocks → BeginsBy b old d heard next → Leaves (most_questions smaller_blocks) heard next
  valid false old heard next so h = refused _ _ heard next h.0
  valid true old heard next so h = found (best_type old.setup.properties.types d.requirements.memory_type_bits d.location) old heard next so h

  begun_in : (o : Option Awaited) (old : State) (heard : Result Progress AllocationError) (next : State) → old.smaller_blocks ≡ smaller_blocks → BeginsIn o old d heard next → Leaves (most_questions smaller_blocks) heard next
  begun_in (Some a) old heard next so h = refused _ _ heard next h.0
  begun_in None old heard next so h = valid (is_valid d) old heard next so h

-- so many questions suffice
pub asks_few : {D : Type 0} (g : Ghosts D) (n : ℕ) (old new : State) (d : AllocationCreateDesc) (device after : D) (told : Result Allocated AllocationError) → Runs g d n old device told new after
    → Runs g d (most_questions old.smaller_blocks) old device told new after
asks_few g n old new d device after told runs = record {
  first = runs.first;
  mid = runs.mid;
  begins = runs.begins;
  finishes = onward g d old.smaller_blocks (most_questions old.smaller_blocks) n runs.first runs.mid device told new after (begun_in g d old.smaller_blocks old.requests.awaited old runs.first runs.mid refl runs.begins) runs.finishes;
}
