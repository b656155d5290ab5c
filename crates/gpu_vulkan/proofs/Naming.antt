-- What a rename is, from the pool's words.
use Rattle.std.proofs.Common.{◌≡◌, ℕ, List, Ok, Err, inl, inr}
use Rattle.gpu_values.specs.Refusal.{Refusal}
use Rattle.gpu_core.specs.declared.piece.Piece.{Piece}
use Rattle.gpu_device.specs.declared.vulkan.types.DeviceMemory.{DeviceMemory}
use Rattle.gpu_core.specs.Blocks.{slots_at}
use Rattle.gpu_core.specs.Rename.{IsNotNamed, IsRenamed}
use Rattle.gpu_pool.specs.Allocate.{Environment, NothingMet, NoHostMemory, Answered}
use Rattle.gpu_pool.specs.Rename as pools
use Rattle.gpu_vulkan.specs.Live.{is_same_memory}
use Rattle.gpu_vulkan.specs.State.{Pool}

module _ (t : ℕ) (p : Piece DeviceMemory) (name : List ℕ) {D : Type 0} (old new : Pool D) where
  named_by : (met : Environment DeviceMemory) → pools.RenamesBy is_same_memory t p name old met (Ok tt) new → IsRenamed is_same_memory t p name old.slots new.slots × (new ≡ record old { slots = new.slots })
  named_by NothingMet r = r
  named_by NoHostMemory r = absurd r
  named_by (Answered size answer) r = absurd r

  pub named : pools.Renames is_same_memory t p name old (Ok tt) new → IsRenamed is_same_memory t p name old.slots new.slots × (new ≡ record old { slots = new.slots })
  named r = named_by r.0 r.1

  refused_by : (e : Refusal) (met : Environment DeviceMemory) → pools.RenamesBy is_same_memory t p name old met (Err e) new → IsNotNamed is_same_memory (slots_at old.slots t) p e × (new ≡ old)
  refused_by e NothingMet r = (inr (r.0.dead, r.0.other, r.0.cause), r.1)
  refused_by e NoHostMemory r = (inl (r.0, r.1), r.2)
  refused_by e (Answered size answer) r = absurd r

  pub refused : (e : Refusal) → pools.Renames is_same_memory t p name old (Err e) new → IsNotNamed is_same_memory (slots_at old.slots t) p e × (new ≡ old)
  refused e r = refused_by e r.0 r.1
