-- Answers of the machine as answers of an allocator behind a handle.
use Rattle.std.proofs.Common.{◌≡◌, ℕ, ◌≤◌, ◌<◌, true, false, Bool, List, [], ◌∷◌, map, Option, Some, None, Ok, Err, refl, sym, ap, ◌∙◌, subst, arith, ⊎_elim, ◌||◌}
use Rattle.std.specs.Prelude.{IsSome, length}
use Rattle.std.specs.List.{list_any}
use Rattle.gpu_values.specs.Refusal.{Refusal, refusal_of}
use Rattle.gpu_values.specs.Sizes.{Sizes}
use Rattle.gpu_values.specs.declared.error.AllocationError.{AllocationError}
use Rattle.gpu_block.specs.Block.{HoldsPiece}
use Rattle.gpu_core.specs.TypeRelease.{SlotHolds}
use Rattle.gpu_core.specs.TypeState.{Slot, slot_at}
use Rattle.gpu_core.specs.declared.piece.Piece.{Piece}
use Rattle.gpu_core.specs.Blocks.{Slots, slots_at}
use Rattle.gpu_core.specs.Budgets.{Budgets}
use Rattle.gpu_pool.specs.Idle.{FreesIn, RenamesIn, RenamesIdle, SetsBudgetIn, SetsBudgetIdle, SetsWordIn, SetsWordIdle}
use Rattle.gpu_pool.specs.Live as machine_live
use Rattle.gpu_pool.specs.RequestState.{RequestState, with_sizes}
use Rattle.gpu_pool.proofs.Beginning.{sized_back}
use Rattle.gpu_pool.specs.declared.requests.Awaited.{Awaited}
use Rattle.gpu_vulkan.specs.declared.describe.AllocationCreateDesc.{AllocationCreateDesc}
use Rattle.gpu_pool.specs.Begin as pools
use Rattle.gpu_machine.specs.VulkanAttempt.{AttemptsSized, IsAboveLimit, BeginsWithinHeap}
use Rattle.gpu_machine.specs.VulkanAttempt.Attempts.{tries_whole, tries_left}
use Rattle.gpu_machine.specs.VulkanBegin.{request_in, asking_of, Tries, Begins, BeginsIn, BeginsBy, BeginsAt, MakesAttempts, Follows, Grants, GrantsIn}
use Rattle.gpu_machine.specs.VulkanCalls.{MachineFrees, memory_in}
use Rattle.gpu_machine.specs.VulkanDescription.{description_of}
use Rattle.gpu_machine.specs.VulkanSmallerBlocks.{sizes_in, sizes_left}
use Rattle.gpu_machine.specs.declared.vulkan.answer.Allocated.{Allocated}
use Rattle.gpu_machine.specs.declared.vulkan.answer.MemoryBack.{MemoryBack}
use Rattle.gpu_c.specs.Allocator.{State, is_same_block, piece_told, Names, IsLive}
use Rattle.gpu_c.specs.declared.allocator_values.AllocatorPiece.{AllocatorPiece}
use Rattle.gpu_c.specs.declared.mapped_memory.MappedMemory.{MappedMemory}
use Rattle.gpu_c.specs.declared.memory_type_values.MemoryPiece.{MemoryPiece}

pub list_any-map : {A B : Type 0} (p : B → Bool) (f : A → B) (xs : List A) → list_any p (map f xs) ≡ list_any (λ x. p (f x)) xs
list_any-map p f [] = refl
list_any-map p f (x ∷ xs) = ap (λ b. p (f x) || b) (list_any-map p f xs)

-- ---- pieces: liveness is of what C is told of a piece

abbrev Holds : MemoryPiece → (address : ℕ) → Option (Slot MappedMemory) → Type 0
Holds m address None = ⊥
Holds m address (Some s) = (is_same_block s.handle (record { memory = m.block; address = address }) ≡ true) × HoldsPiece s.block m.number m.offset m.size

told_holds : (p : Piece MappedMemory) (s : Option (Slot MappedMemory)) → SlotHolds is_same_block p s → Holds (piece_told p) p.handle.address s
told_holds p None h = absurd h
told_holds p (Some s) h = h

holds_told : (p : Piece MappedMemory) (s : Option (Slot MappedMemory)) → Holds (piece_told p) p.handle.address s → SlotHolds is_same_block p s
holds_told p None h = absurd h
holds_told p (Some s) h = h

abbrev Lives : Slots MappedMemory → (t : ℕ) → Piece MappedMemory → Type 0
Lives slots t p = machine_live.IsLive is_same_block slots t p

same_live : (slots : Slots MappedMemory) (t : ℕ) (named : AllocatorPiece) (p q : Piece MappedMemory) → Names named p → Names named q → Lives slots t p → Lives slots t q
same_live slots t named p q a b live =
    holds_told q (slot_at (slots_at slots t) q.slot)
    (subst (λ (n : ℕ). Holds (piece_told q) n (slot_at (slots_at slots t) q.slot)) (a.address ∙ sym b.address)
    (subst (λ (m : MemoryPiece). Holds m p.handle.address (slot_at (slots_at slots t) m.slot)) (a.piece ∙ sym b.piece) (told_holds p (slot_at (slots_at slots t) p.slot) live)))

-- what C names is live just where the piece is
pub is_dead : (s : State) (p : AllocatorPiece) (q : Piece MappedMemory) → Names p q → (Lives s.requests.slots p.memory_type q → ⊥) → IsLive s p → ⊥
is_dead s p q e dead live = dead (same_live s.requests.slots p.memory_type p live.piece q live.named e live.live)

pub lives : (s : State) (p : AllocatorPiece) (q : Piece MappedMemory) → Names p q → IsLive s p → Lives s.requests.slots p.memory_type q
lives s p q e live = same_live s.requests.slots p.memory_type p live.piece q live.named e live.live

pub is_live : (s : State) (p : AllocatorPiece) (q : Piece MappedMemory) → Names p q → Lives s.requests.slots p.memory_type q → IsLive s p
is_live s p q e live = record { piece = q; named = e; live = live }

-- no piece has the number 0
pub has_number : (s : State) (p : AllocatorPiece) → p.piece.number ≡ 0 → IsLive s p → ⊥
has_number s p zero live =
    let e = ap (λ (m : MemoryPiece). m.number) live.named.piece in let ok = live.piece.chunk_id.ok in omega (arith, e, zero, ok)

-- ---- what a refusal leaves

module _ (old new : State) (d : AllocationCreateDesc) (e : AllocationError) where
  sized_same : (sizes : Sizes) (t : ℕ) (is_second : Bool) → AttemptsSized sizes old t (description_of d) (asking_of d is_second) (Err e) new → old.requests.awaited ≡ None → new ≡ old
  sized_same sizes t is_second h closed =
      ⊎_elim (λ large. large.refused.1)
      (λ rest. ⊎_elim (λ (above : IsAboveLimit sizes old t (description_of d) (Err e) new). above.refused.1)
      (λ (within : BeginsWithinHeap sizes old t (description_of d) (asking_of d is_second) (Err e) new).
      let begun : pools.BeginsIn (request_in t d) None (with_sizes sizes old.requests) (Err e) (with_sizes sizes new.requests) =
      subst (λ (o : Option Awaited). pools.BeginsIn (request_in t d) o (with_sizes sizes old.requests) (Err e) (with_sizes sizes new.requests)) closed within.begins in
      within.state ∙ ap (λ (r : RequestState MappedMemory). record old { requests = r }) (sized_back sizes new.requests old.requests within.sizes_stay begun.1))
      rest)
      h

  tries_same : (t : ℕ) (is_second : Bool) → Tries old t d is_second (Err e) new → old.requests.awaited ≡ None → new ≡ old
  tries_same t is_second (tries_whole unlike whole) closed = sized_same (sizes_in old t) t is_second whole closed
  tries_same t is_second (tries_left cause smaller bounded whole again) closed = sized_same (sizes_left old t) t is_second again closed

  follows_same : (o : Option ℕ) (r : Refusal) → old.requests.awaited ≡ None → Follows old d o r (Err e) new → new ≡ old
  follows_same None r closed h = h.1
  follows_same (Some t) r closed h = tries_same t true h closed

  attempts_same : (t : ℕ) → old.requests.awaited ≡ None → MakesAttempts old t d (Err e) new → new ≡ old
  attempts_same t closed h = ⊎_elim (λ a. absurd (grind (arith, a.0))) (λ b. follows_same _ (refusal_of b.cause) closed b.follows) h

  at_same : (o : Option ℕ) → old.requests.awaited ≡ None → BeginsAt o old d (Err e) new → new ≡ old
  at_same None closed h = h.1
  at_same (Some t) closed h = attempts_same t closed h

  by_same : (valid : Bool) → old.requests.awaited ≡ None → BeginsBy valid old d (Err e) new → new ≡ old
  by_same true closed h = at_same _ closed h
  by_same false closed h = h.1

  in_same : (o : Option Awaited) → old.requests.awaited ≡ o → BeginsIn o old d (Err e) new → new ≡ old
  in_same None is h = by_same _ is h
  in_same (Some a) is h = h.1

  -- a refused request changes nothing
  pub begins_same : Begins old d (Err e) new → new ≡ old
  begins_same h = in_same old.requests.awaited refl h

module _ (old new : State) (memory : MappedMemory) where
  refused_in : (o : Option Awaited) (e : AllocationError) → GrantsIn o old memory (Err e) new → (o ≡ None) × (new ≡ old)
  refused_in None e h = (refl, h.1)
  refused_in (Some a) e h = absurd h

  pub not_granted : (e : AllocationError) → Grants old memory (Err e) new → (old.requests.awaited ≡ None) × (new ≡ old)
  not_granted e h = refused_in old.requests.awaited e h

  granted_in : (o : Option Awaited) (a : Allocated MappedMemory) → GrantsIn o old memory (Ok a) new → IsSome o
  granted_in None a h = absurd (grind (arith, h.0))
  granted_in (Some w) a h = refl

  pub was_awaited : (a : Allocated MappedMemory) → Grants old memory (Ok a) new → IsSome old.requests.awaited
  was_awaited a h = granted_in old.requests.awaited a h

module _ (old new : State) (t : ℕ) (p : Piece MappedMemory) where
  freed_in : (o : Option Awaited) (back : Option MappedMemory) → o ≡ None → FreesIn is_same_block o old.requests t p (Ok back) new.requests → Lives old.requests.slots t p
  freed_in None back closed h = h.0
  freed_in (Some a) back closed h = absurd (grind (arith, closed))

  pub freed_lived : (back : Option (MemoryBack MappedMemory)) → old.requests.awaited ≡ None → MachineFrees is_same_block old t p (Ok back) new → Lives old.requests.slots t p
  freed_lived back closed h = freed_in old.requests.awaited (memory_in back) closed h.frees

  worded_in : (o : Option Awaited) (word : ℕ) → o ≡ None → SetsWordIn is_same_block o old.requests t p word (Ok tt) new.requests → Lives old.requests.slots t p
  worded_in None word closed h = h.0.live
  worded_in (Some a) word closed h = absurd (grind (arith, closed))

  pub worded_lived : (word : ℕ) → old.requests.awaited ≡ None → SetsWordIdle is_same_block old.requests t p word (Ok tt) new.requests → Lives old.requests.slots t p
  worded_lived word closed h = worded_in old.requests.awaited word closed h

  not_freed_in : (o : Option Awaited) (e : AllocationError) → o ≡ None → FreesIn is_same_block o old.requests t p (Err e) new.requests → (Lives old.requests.slots t p → ⊥) × (new.requests ≡ old.requests)
  not_freed_in None e closed h = (h.0, h.2)
  not_freed_in (Some a) e closed h = absurd (grind (arith, closed))

  pub not_freed : (e : AllocationError) → old.requests.awaited ≡ None → MachineFrees is_same_block old t p (Err e) new → (Lives old.requests.slots t p → ⊥) × (new ≡ old)
  not_freed e closed h =
      let n = not_freed_in old.requests.awaited e closed h.frees in
      (n.0, h.state ∙ ap (λ (r : RequestState MappedMemory). record old { requests = r }) n.1)

  not_renamed_in : (o : Option Awaited) (name : List ℕ) (e : AllocationError) → RenamesIn is_same_block o old.requests t p name (Err e) new.requests → new.requests ≡ old.requests
  not_renamed_in None name e h = h.1
  not_renamed_in (Some a) name e h = h.1

  pub not_renamed : (name : List ℕ) (e : AllocationError) → RenamesIdle is_same_block old.requests t p name (Err e) new.requests → new ≡ record old { requests = new.requests } → new ≡ old
  not_renamed name e h others = others ∙ ap (λ (r : RequestState MappedMemory). record old { requests = r }) (not_renamed_in old.requests.awaited name e h)

module _ (old new : State) (t : ℕ) (budget : Option ℕ) where
  not_set_in : (o : Option Awaited) (e : AllocationError) → o ≡ None → SetsBudgetIn o old.requests t budget (Err e) new.requests → (length old.requests.budgets ≤ t) × (new.requests ≡ old.requests)
  not_set_in None e closed h = (h.0.sets.0, h.1 ∙ ap (λ (bs : Budgets). record old.requests { budgets = bs }) h.0.sets.2)
  not_set_in (Some a) e closed h = absurd (grind (arith, closed))

  pub not_set : (e : AllocationError) → old.requests.awaited ≡ None → SetsBudgetIdle old.requests t budget (Err e) new.requests → new ≡ record old { requests = new.requests }
      → (length old.requests.budgets ≤ t) × (new ≡ old)
  not_set e closed h others =
      let n = not_set_in old.requests.awaited e closed h in
      (n.0, others ∙ ap (λ (r : RequestState MappedMemory). record old { requests = r }) n.1)

  set_in : (o : Option Awaited) → o ≡ None → SetsBudgetIn o old.requests t budget (Ok tt) new.requests → t < length old.requests.budgets
  set_in None closed h = h.0.sets.0
  set_in (Some a) closed h = absurd (grind (arith, closed))

  pub was_there : old.requests.awaited ≡ None → SetsBudgetIdle old.requests t budget (Ok tt) new.requests → t < length old.requests.budgets
  was_there closed h = set_in old.requests.awaited closed h
