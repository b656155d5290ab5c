-- What an allocator ends as, once a slice of an allocation's bytes that was lent to be written has ended.
use Rattle.std.specs.Prelude.{◌≡◌, ℕ, List, Option, Some, None}
use Rattle.std.specs.Borrow.{Lends, LendsIf, Fml, RattleType, MutBor, Array, u8}
use Rattle.std.specs.Int.NonZero.{non_zero_u64_get}
use Rattle.std.specs.declared.num.NonZeroU64.{NonZeroU64}
use Rattle.gpu_device.specs.declared.vulkan.device.VulkanDevice.{Ghosts}
use Rattle.gpu_device.specs.Held.{with_range}
use Rattle.gpu_vulkan.specs.Live.{IsLive, bytes_at}
use Rattle.gpu_vulkan.specs.State.{State}
use Rattle.gpu_vulkan.specs.contracts.allocator.Allocator.{the_row}
use Rattle.gpu_vulkan.specs.declared.allocation.Allocation.{Allocation}

-- the allocator over the device after ws was written at the allocation's place
abbrev pub written_at : {D : Type 0} → Ghosts D → State D → Allocation → List ℕ → State D
written_at g s a ws = record s { device = g.written s.device a.device_memory.0 a.offset ws }

abbrev pub lends_piece : (D : RattleType) (g : Ghosts D.Denot) → MutBor (State D.Denot) → Allocation → MutBor (List ℕ) → Fml
lends_piece D g s a r = Lends (the_row D g) (Array u8 0) s r (written_at g s.now a)

-- the same where there is a slice; else the allocator stays as it is
abbrev pub lends_piece_if : (D : RattleType) (g : Ghosts D.Denot) → MutBor (State D.Denot) → Allocation → Option (MutBor (List ℕ)) → Fml
lends_piece_if D g s a r = LendsIf (the_row D g) (Array u8 0) s r (written_at g s.now a) s.now

abbrev pub number_in : Option NonZeroU64 → ℕ
number_in None = 0
number_in (Some n) = non_zero_u64_get n

-- two allocations are different pieces: of another memory type, in another slot, or under another number
abbrev pub AreDistinct : Allocation → Allocation → Type 0
AreDistinct a b = a.memory_type_index ≡ b.memory_type_index → a.memory_block_index ≡ b.memory_block_index → number_in a.chunk_id ≡ number_in b.chunk_id → ⊥

-- ws is written at the allocation's place, and all else is as before: every other live allocation's bytes, the rest of what the
-- device holds, what it was asked, blocks and budgets
pub record ChangesOnly {D : Type 0} (g : Ghosts D) (old : State D) (a : Allocation) (ws : List ℕ) (new : State D) : Type 0 where
  pub own : bytes_at (g.held new.device) a ≡ Some ws
  pub others : (b : Allocation) → IsLive old.slots b → AreDistinct b a → bytes_at (g.held new.device) b ≡ bytes_at (g.held old.device) b
  pub held : g.held new.device ≡ with_range (g.held old.device) a.device_memory.0 a.offset ws
  pub slots : new.slots ≡ old.slots
  pub setup : new.setup ≡ old.setup
  pub first : new.first ≡ old.first
  pub budgets : new.budgets ≡ old.budgets
  pub history : g.history new.device ≡ g.history old.device
  pub refused : g.refused new.device ≡ g.refused old.device
  pub latest : g.latest new.device ≡ g.latest old.device
  pub constant : g.properties new.device ≡ g.properties old.device
