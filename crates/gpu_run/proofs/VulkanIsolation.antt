-- A write reaches one list.
use Rattle.std.proofs.Common.{◌≡◌, ℕ, ◌+◌, List, length, Option, Some, None, Bool, true, false, ap}
use Rattle.std.specs.Prelude.{◌≢◌, nat_le}
use Rattle.gpu_vulkan.specs.Live.{IsLive}
use Rattle.gpu_vulkan.specs.Setup.{Setup}
use Rattle.gpu_vulkan.specs.Step.{id_of}
use Rattle.gpu_vulkan.specs.declared.allocation.Allocation.{Allocation}
use Rattle.gpu_run.specs.VulkanCommand.{Write}
use Rattle.gpu_run.specs.VulkanReply.{SessionReply}
use Rattle.gpu_run.specs.VulkanSession.{SessionState, IsOwn, CommandEnvironment, WritesIn, WritesOver, ServesAt}
use Rattle.gpu_run.proofs.VulkanEqualButBytes.{other_place}

module _ (setup : Setup) (key other at : ℕ) (bytes : List ℕ) (o : CommandEnvironment) (reply : SessionReply) (old new : SessionState) (b : Allocation) (own : IsOwn old) (apart : key ≢ other)
    (bound : old.bound other ≡ Some b) (live : IsLive old.model.slots b) where
  abbrev Leaves : Type 0
  Leaves = new.model.byte_view.allocation_bytes (id_of b) ≡ old.model.byte_view.allocation_bytes (id_of b)

  unchanged : new ≡ old → Leaves
  unchanged e = ap (λ s. s.model.byte_view.allocation_bytes (id_of b)) e

  put_in : (a : Allocation) (xs : List ℕ) (fits : Bool) → old.bound key ≡ Some a → WritesIn setup a at bytes xs fits o reply old new → Leaves
  put_in a xs false found h = unchanged h.1.1
  put_in a xs true found h = let one = h.1.2 in one.writes.others (id_of b) (other_place a b (own.apart key other a b found bound one.live.0 live apart))

  put_over : (a : Allocation) (read : Option (List ℕ)) → old.bound key ≡ Some a → WritesOver setup a at bytes read o reply old new → Leaves
  put_over a None found h = unchanged h.1.1
  put_over a (Some xs) found h = put_in a xs (nat_le (at + length bytes) (length xs)) found h

  pub write_apart : (found : Option Allocation) → old.bound key ≡ found → ServesAt setup key found (Write at bytes) o reply old new → Leaves
  write_apart None e h = unchanged h.1.1
  write_apart (Some a) e h = put_over a h.0 e h.2
