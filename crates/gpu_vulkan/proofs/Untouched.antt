-- Calls that write nothing leave the memory that is held before and after.
use Rattle.std.proofs.Common.{◌≡◌, ◌∙◌, ℕ, Bool, true, false, Option, Some, None, Ok, Err, Result, sym, ap, subst, inl, inr}
use Rattle.std.specs.FinMap.{get, insert, remove}
use Rattle.std.proofs.lemmas.Bool.{cases_eq}
use Rattle.gpu_core.specs.declared.piece.Piece.{Piece}
use Rattle.gpu_values.specs.declared.error.AllocationError.{AllocationError}
use Rattle.gpu_device.proofs.Changes.{get-mapped_other}
use Rattle.gpu_device.proofs.Maps.{get-insert_other, get-remove_same, get-remove_other}
use Rattle.gpu_device.specs.Held.{Held, Entry, new_entry}
use Rattle.gpu_device.specs.declared.vulkan.device.VulkanDevice.{Ghosts}
use Rattle.gpu_device.specs.declared.vulkan.types.DeviceMemory.{DeviceMemory}
use Rattle.gpu_device.specs.declared.vulkan.types.MemoryAllocateInfo.{MemoryAllocateInfo}
use Rattle.gpu_core.specs.Budgets.{Budgets}
use Rattle.gpu_vulkan.specs.Allocate.{IsAttempt, IsFollowed, IsFound, AllocatesBy, AllocatorAllocates, is_valid}
use Rattle.gpu_vulkan.specs.Attempt.{Asked, IsAfter}
use Rattle.gpu_vulkan.specs.BlockAnswer.{BlockAnswer, Declined, Granted, Mapped, NotMapped, IsNew, answer_number, held_after}
use Rattle.gpu_vulkan.specs.Types.{is_mapped}
use Rattle.gpu_vulkan.specs.Blocks.{Slots}
use Rattle.gpu_vulkan.specs.Free.{GivesBack}
use Rattle.gpu_vulkan.specs.Free.{FreesPiece, AllocatorFrees}
use Rattle.gpu_vulkan.specs.Live.{piece_of}
use Rattle.gpu_vulkan.specs.Setup.{Setup}
use Rattle.gpu_vulkan.specs.Untouched.{LeavesMemory}
use Rattle.gpu_vulkan.specs.declared.allocation.Allocation.{Allocation}
use Rattle.gpu_vulkan.specs.declared.describe.AllocationCreateDesc.{AllocationCreateDesc}

-- what was held is held as it was
abbrev StayHeld : (old new : Held) → Type 0
StayHeld old new = (number : ℕ) (x : Entry) → get old number ≡ Some x → get new number ≡ Some x

some_same : (x y : Entry) → Some x ≡ Some y → x ≡ y
some_same x y e = cc

none_some : (x : Entry) → None ≡ Some x → ⊥
none_some x e = cc

leaves : (old new : Held) → StayHeld old new → LeavesMemory old new
leaves old new stay = λ number x y e f. some_same y x (sym f ∙ stay number x e)

same_held : (old new : Held) → new ≡ old → StayHeld old new
same_held old new is = λ number x e. ap (λ (h : Held). get h number) is ∙ e

pub same_leaves : (old new : Held) → new ≡ old → LeavesMemory old new
same_leaves old new is = leaves old new (same_held old new is)

added : (held : Held) (info : MemoryAllocateInfo) (answer : BlockAnswer) → IsNew held (answer_number answer) → StayHeld held (held_after held info answer)
added held info (Declined code) new = λ number x e. e
added held info (NotMapped number code) new = λ number x e. e
added held info (Granted n) new = λ number x e. elim (cases_eq n number) [
  | inl same ↦ absurd (none_some x (sym new.1 ∙ ap (get held) same ∙ e))
  | inr apart ↦ get-insert_other held n number (new_entry info) (λ f. apart (sym f)) ∙ e
]
added held info (Mapped n bytes) new = λ number x e. elim (cases_eq n number) [
  | inl same ↦ absurd (none_some x (sym new.1 ∙ ap (get held) same ∙ e))
  | inr apart ↦ get-mapped_other (insert held n (new_entry info)) n bytes number (λ f. apart (sym f)) ∙ (get-insert_other held n number (new_entry info) (λ f. apart (sym f)) ∙ e)
]

module _ {D : Type 0} (g : Ghosts D) where
  asked_leaves : (mapped : Bool) (asked : Option Asked) (device after : D) → IsAfter g device mapped asked after → StayHeld (g.held device) (g.held after)
  asked_leaves mapped None device after is = same_held (g.held device) (g.held after) (ap g.held is)
  asked_leaves mapped (Some a) device after is = subst (λ (h : Held). StayHeld (g.held device) h) (sym is.held) (added (g.held device) a.info a.answer is.number)

  attempt_leaves : (setup : Setup) (budgets : Budgets) (t : ℕ) (d : AllocationCreateDesc) (old : Slots) (device : D) (result : Result Allocation AllocationError) (new : Slots) (after : D)
      → IsAttempt g setup budgets t d old device result new after → StayHeld (g.held device) (g.held after)
  attempt_leaves setup budgets t d old device result new after a = asked_leaves (is_mapped setup.properties t) a.environment.asked device after a.asked

  followed_leaves : (setup : Setup) (budgets : Budgets) (d : AllocationCreateDesc) (next : Option ℕ) (mid : Slots) (between : D) (first result : Result Allocation AllocationError) (new : Slots)
      (after : D)
      → IsFollowed g setup budgets d next mid between first result new after → StayHeld (g.held between) (g.held after)
  followed_leaves setup budgets d None mid between first result new after f = same_held (g.held between) (g.held after) (ap g.held f.2)
  followed_leaves setup budgets d (Some t) mid between first result new after f = attempt_leaves setup budgets t d mid between result new after f

  found_leaves : (setup : Setup) (budgets : Budgets) (d : AllocationCreateDesc) (found : Option ℕ) (old : Slots) (device : D) (result : Result Allocation AllocationError) (new : Slots) (after : D)
      → IsFound g setup budgets d found old device result new after → StayHeld (g.held device) (g.held after)
  found_leaves setup budgets d None old device result new after f = same_held (g.held device) (g.held after) (ap g.held f.device_is)
  found_leaves setup budgets d (Some t) old device result new after f = λ number x e.
      followed_leaves setup budgets d _ f.mid f.between f.first result new after f.followed number x (attempt_leaves setup budgets t d old device f.first f.mid f.between f.attempt number x e)

  valid_leaves : (setup : Setup) (budgets : Budgets) (d : AllocationCreateDesc) (valid : Bool) (old : Slots) (device : D) (result : Result Allocation AllocationError) (new : Slots) (after : D)
      → AllocatesBy g setup budgets d valid old device result new after → StayHeld (g.held device) (g.held after)
  valid_leaves setup budgets d false old device result new after f = same_held (g.held device) (g.held after) (ap g.held f.device_is)
  valid_leaves setup budgets d true old device result new after f = found_leaves setup budgets d _ old device result new after f

  pub allocate_leaves : (setup : Setup) (budgets : Budgets) (d : AllocationCreateDesc) (old new : Slots) (device after : D) (result : Result Allocation AllocationError)
      → AllocatorAllocates g setup budgets d old device result new after → LeavesMemory (g.held device) (g.held after)
  allocate_leaves setup budgets d old new device after result f = leaves (g.held device) (g.held after) (valid_leaves setup budgets d (is_valid d) old device result new after f)

  given_back : (went : Option DeviceMemory) (device after : D) → GivesBack g device went after → LeavesMemory (g.held device) (g.held after)
  given_back None device after is = same_leaves (g.held device) (g.held after) (ap g.held is)
  given_back (Some m) device after is = λ number x y e f. elim (cases_eq m.0 number) [
    | inl same ↦ absurd (none_some y (sym (ap (λ (h : Held). get h number) is.held ∙ ap (get (remove (g.held device) m.0)) (sym same) ∙ get-remove_same (g.held device) m.0) ∙ f))
    | inr apart ↦ some_same y x (sym f ∙ (ap (λ (h : Held). get h number) is.held ∙ (get-remove_other (g.held device) m.0 number (λ z. apart (sym z)) ∙ e)))
  ]

  piece_leaves : (a : Allocation) (p : Option (Piece DeviceMemory)) (old new : Slots) (device after : D) (result : Result (Unit {0}) (AllocationError × Allocation)) → FreesPiece g a p old device
      result new after
      → LeavesMemory (g.held device) (g.held after)
  piece_leaves a None old new device after (Ok u) f = same_leaves (g.held device) (g.held after) (ap g.held f.1)
  piece_leaves a None old new device after (Err e) f = absurd f
  piece_leaves a (Some p) old new device after (Ok u) f = given_back f.1.went device after f.1.gives_back
  piece_leaves a (Some p) old new device after (Err e) f = same_leaves (g.held device) (g.held after) (ap g.held f.4)

  pub free_leaves : (a : Allocation) (old new : Slots) (device after : D) (result : Result (Unit {0}) (AllocationError × Allocation)) → AllocatorFrees g a old device result new after → LeavesMemory
      (g.held device) (g.held after)
  free_leaves a old new device after result f = piece_leaves a (piece_of a) old new device after result f
