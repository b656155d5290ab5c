-- A new name, a report and the leaks' texts are steps of the model.
use Rattle.std.proofs.Common.{◌≡◌, ◌∙◌, ℕ, ◌-◌, ◌<◌, refl, sym, ap, subst, Bool, true, false, List, [], ◌∷◌, map, length, slice_set, Option, Some, None, Ok, Err, Result, ⊎_elim, IfOk}
use Rattle.std.proofs.Common.{IfErr}
use Rattle.std.specs.Prelude.{if◌then◌else◌, ◌||◌, ◌==◌, ◌&&◌, string_bytes, nat_lt, nat_le, Vec, String}
use Rattle.std.specs.Global.{Global}
use Rattle.std.specs.Option.{option_map, option_to_list}
use Rattle.std.specs.Int.NonZero.{non_zero_u64_get}
use Rattle.gpu_block.specs.Block.{Block, free_list, dedicated, extents_of, RenamesIn}
use Rattle.gpu_block_pieces.specs.Changes.{named, relabel, relabelled}
use Rattle.gpu_block.specs.Dedicated.{held_extents}
use Rattle.gpu_block_pieces.specs.FreeList.{Extent}
use Rattle.gpu_block_pieces.specs.Leak.{leak_text}
use Rattle.gpu_values.specs.Refusal.{refusal_of}
use Rattle.gpu_values.specs.Report.{report_of}
use Rattle.gpu_core.specs.TypeRelease.{SlotRelabels}
use Rattle.gpu_core.specs.TypeState.{Slot, slot_at}
use Rattle.gpu_core.specs.declared.piece.Piece.{Piece}
use Rattle.gpu_core.proofs.Slotted.{set_only}
use Rattle.gpu_values.specs.declared.error.AllocationError.{AllocationError}
use Rattle.gpu_values.specs.declared.error.AllocationError.TheVariants.{HostOutOfMemory}
use Rattle.gpu_values.specs.declared.report.AllocatorReport.{AllocatorReport}
use Rattle.gpu_device.specs.Held.{Held, bytes_of, range_in}
use Rattle.gpu_device.specs.declared.vulkan.device.VulkanDevice.{Ghosts}
use Rattle.gpu_device.specs.declared.vulkan.types.DeviceMemory.{DeviceMemory}
use Rattle.gpu_vulkan.specs.Blocks.{Slots}
use Rattle.gpu_core.specs.Blocks.{slots_at, block_at}
use Rattle.gpu_vulkan.specs.ByteView.{byte_view_of, list_in, rest_in, piece_bytes, piece_of_number, is_covered, byte_at}
use Rattle.gpu_core.specs.Leaks.{all_leaks}
use Rattle.gpu_vulkan.specs.Live.{is_same_memory}
use Rattle.gpu_vulkan.specs.Live.{piece_of}
use Rattle.gpu_core.specs.Rename.{IsRenamed}
use Rattle.gpu_vulkan.specs.Rename.{RenamesBy, Renames}
use Rattle.gpu_core.specs.Reports.{whole_report}
use Rattle.gpu_pool.specs.Source.{result_of}
use Rattle.gpu_vulkan.specs.Attempt.{unseen}
use Rattle.gpu_vulkan.specs.State.{State}
use Rattle.gpu_vulkan.proofs.Listed.{done_reply}
use Rattle.gpu_vulkan.specs.Step.{model_of, Rename, Report, Leaks, RenameStep, KeepsTheRest, IsStep, CallEnvironment, nothing_met, reply_of_done, reply_of_report, reply_of_leaks}
use Rattle.gpu_vulkan.specs.declared.allocation.Allocation.{Allocation}
use Rattle.gpu_vulkan.proofs.OneStep.{byte_views_alike}
use Rattle.gpu_core.proofs.Placed.{OnlyBlock, only_block, some_below, same_place}
use Rattle.gpu_pool.proofs.Freeing.{type_below}

-- ---- a name is no part of a piece's bytes

name_kept : (b : Bool) (x : Extent) (name : List ℕ) → (let y : Extent = if b then record x { name = name } else x in (y.offset ≡ x.offset) × (y.end ≡ x.end) × (y.chunk_id ≡ x.chunk_id))
name_kept true x name = (refl, refl, refl)
name_kept false x name = (refl, refl, refl)

-- lists of pieces with the same numbers and ranges
abbrev IsAlike : Option Extent → Option Extent → Type 0
IsAlike None None = Unit {0}
IsAlike (Some x) (Some y) = (x.offset ≡ y.offset) × (x.end ≡ y.end)
IsAlike None (Some y) = ⊥
IsAlike (Some x) None = ⊥

alike_bytes : (bytes : Option (List ℕ)) (a b : Option Extent) → IsAlike a b → piece_bytes bytes a ≡ piece_bytes bytes b
alike_bytes bytes None None h = refl
alike_bytes bytes (Some x) (Some y) h =
    let o = h.0 in
    let e = h.1 in
    λ i. range_in (o i) (e i - o i) bytes
alike_bytes bytes None (Some y) h = absurd h
alike_bytes bytes (Some x) None h = absurd h

module _ (n : ℕ) (name : List ℕ) where
  abbrev f : Extent → Extent
  f x = relabelled n (named name) x

  kept : (x : Extent) → ((f x).offset ≡ x.offset) × ((f x).end ≡ x.end) × ((f x).chunk_id ≡ x.chunk_id)
  kept x = name_kept (x.chunk_id == n) x name

  found_by : (x : Extent) (k : ℕ) (b : Bool) (rest more : Option Extent) → IsAlike more rest → IsAlike (if b then Some (f x) else more) (if b then Some x else rest)
  found_by x k true rest more h = ((kept x).0, (kept x).1)
  found_by x k false rest more h = h

  named_number : (xs : List Extent) (k : ℕ) → IsAlike (piece_of_number (map f xs) k) (piece_of_number xs k)
  named_number [] k = tt
  named_number (x ∷ xs) k =
      subst (λ m. IsAlike (if m == k then Some (f x) else piece_of_number (map f xs) k) (piece_of_number (x ∷ xs) k)) (sym (kept x).2)
      (found_by x k (x.chunk_id == k) (piece_of_number xs k) (piece_of_number (map f xs) k) (named_number xs k))

  named_covered : (xs : List Extent) (at : ℕ) → is_covered (map f xs) at ≡ is_covered xs at
  named_covered [] at = refl
  named_covered (x ∷ xs) at =
      let o = (kept x).0 in
      let e = (kept x).1 in
      let rest = named_covered xs at in
      λ i. (nat_le (o i) at && nat_lt at (e i)) || rest i

one_number : (o : Option Extent) (name : List ℕ) (k : ℕ) → IsAlike (piece_of_number (option_to_list (option_map (relabel (named name)) o)) k) (piece_of_number (option_to_list o) k)
one_number None name k = tt
one_number (Some x) name k = alike_if (x.chunk_id == k)
  where
    alike_if : (b : Bool) → IsAlike (if b then Some (relabel (named name) x) else None) (if b then Some x else None)
    alike_if true = (refl, refl)
    alike_if false = tt

one_covered : (o : Option Extent) (name : List ℕ) (at : ℕ) → is_covered (option_to_list (option_map (relabel (named name)) o)) at ≡ is_covered (option_to_list o) at
one_covered None name at = refl
one_covered (Some x) name at = refl

block_number_alike : (old : Block) (n : ℕ) (name : List ℕ) (new : Block) → RenamesIn old n name new → (k : ℕ) → IsAlike (piece_of_number (extents_of new) k) (piece_of_number (extents_of old) k)
block_number_alike (free_list old) n name (free_list new) r k = subst (λ (xs : List Extent). IsAlike (piece_of_number xs k) (piece_of_number old.extents k)) (sym r.extents)
    (named_number n name old.extents k)
block_number_alike (free_list old) n name (dedicated new) r k = absurd r
block_number_alike (dedicated old) n name (free_list new) r k = absurd r
block_number_alike (dedicated old) n name (dedicated new) r k =
    subst (λ (xs : List Extent). IsAlike (piece_of_number xs k) (piece_of_number (held_extents old) k)) (sym (ap held_extents r.2)) (one_number old.piece name k)

block_covered_alike : (old : Block) (n : ℕ) (name : List ℕ) (new : Block) → RenamesIn old n name new → (at : ℕ) → is_covered (extents_of new) at ≡ is_covered (extents_of old) at
block_covered_alike (free_list old) n name (free_list new) r at = ap (λ (xs : List Extent). is_covered xs at) r.extents ∙ named_covered n name old.extents at
block_covered_alike (free_list old) n name (dedicated new) r at = absurd r
block_covered_alike (dedicated old) n name (free_list new) r at = absurd r
block_covered_alike (dedicated old) n name (dedicated new) r at = ap (λ d. is_covered (held_extents d) at) r.2 ∙ one_covered old.piece name at

slot_list : (held : Held) (n : ℕ) (name : List ℕ) (a b : Option (Slot DeviceMemory)) → SlotRelabels n (named name) a b → (k : ℕ) → list_in held b k ≡ list_in held a k
slot_list held n name None b r k = absurd r
slot_list held n name (Some a) None r k = absurd r
slot_list held n name (Some a) (Some b) r k =
    ap (λ (m : DeviceMemory). piece_bytes (bytes_of held m.0) (piece_of_number (extents_of b.block) k)) r.0
    ∙ alike_bytes (bytes_of held a.handle.0) (piece_of_number (extents_of b.block) k) (piece_of_number (extents_of a.block) k) (block_number_alike a.block n name b.block r.1 k)

slot_rest : (held : Held) (n : ℕ) (name : List ℕ) (a b : Option (Slot DeviceMemory)) → SlotRelabels n (named name) a b → (at : ℕ) → rest_in held b at ≡ rest_in held a at
slot_rest held n name None b r at = absurd r
slot_rest held n name (Some a) None r at = absurd r
slot_rest held n name (Some a) (Some b) r at =
    ap (λ (m : DeviceMemory). if is_covered (extents_of b.block) at then None else byte_at (bytes_of held m.0) at) r.0
    ∙ ap (λ c. if c then None else byte_at (bytes_of held a.handle.0) at) (block_covered_alike a.block n name b.block r.1 at)

slot_there : (n : ℕ) (name : List ℕ) (slots : List (Option (Slot DeviceMemory))) (i : ℕ) (a b : Option (Slot DeviceMemory)) → slot_at slots i ≡ a → SlotRelabels n (named name) a b → i < length slots
slot_there n name slots i None b at r = absurd r
slot_there n name slots i (Some a) b at r = some_below slots i a at

-- a new name leaves every byte where it was
pub renamed_byte_view : (held : Held) (t : ℕ) (p : Piece DeviceMemory) (name : List ℕ) (old new : Slots) → IsRenamed is_same_memory t p name old new → byte_view_of held new ≡ byte_view_of held old
renamed_byte_view held t p name old new r =
    let n = non_zero_u64_get p.chunk_id in
    let slots = slots_at old t in
    let b = r.renames.slot in
    let inside = slot_there n name slots p.slot (slot_at slots p.slot) b refl r.renames.renames in
    let new_is : new ≡ slice_set old t (slice_set slots p.slot b) = r.slots ∙ ap (slice_set old t) r.renames.slots in
    let only : OnlyBlock old t p.slot b new =
    subst (λ (ss : Slots). OnlyBlock old t p.slot b ss) (sym new_is) (only_block old t p.slot b (slice_set slots p.slot b) (type_below is_same_memory old t p r.live) (set_only slots p.slot b inside)) in
    byte_views_alike (byte_view_of held new) (byte_view_of held old)
    (λ q.
    ⊎_elim
    (λ here.
    let type = here.0 in
    let slot = here.1 in
    (λ i. list_in held (block_at new (type i) (slot i)) q.chunk_id) ∙ ap (λ s. list_in held s q.chunk_id) only.at
    ∙ slot_list held n name (block_at old t p.slot) b r.renames.renames q.chunk_id ∙ sym (λ i. list_in held (block_at old (type i) (slot i)) q.chunk_id))
    (λ away. ap (λ s. list_in held s q.chunk_id) (only.others q.memory_type q.slot away))
    (same_place q.memory_type t q.slot p.slot))
    (λ u j at.
    ⊎_elim
    (λ here.
    let type = here.0 in
    let slot = here.1 in
    (λ i. rest_in held (block_at new (type i) (slot i)) at) ∙ ap (λ s. rest_in held s at) only.at
    ∙ slot_rest held n name (block_at old t p.slot) b r.renames.renames at ∙ sym (λ i. rest_in held (block_at old (type i) (slot i)) at))
    (λ away. ap (λ s. rest_in held s at) (only.others u j away))
    (same_place u t j p.slot))

-- ---- the calls

-- what a call meets with that asks the device nothing
abbrev no_question : Bool → CallEnvironment
no_question host = record { first = record { host = host; asked = None }; second = nothing_met }

module _ {D : Type 0} (g : Ghosts D) (old new : State D) (device : new.device ≡ old.device) (budgets : new.budgets ≡ old.budgets) where
  same_model : new.slots ≡ old.slots → model_of g new ≡ model_of g old
  same_model slots = λ i. record { slots = slots i; budgets = budgets i; byte_view = byte_view_of (g.held (device i)) (slots i); history = g.history (device i) }

  -- how a rename ends, as the model's
  record Renaming (a : Allocation) (o : Option (Piece DeviceMemory)) (name : List ℕ) (result : Result (Unit {0}) AllocationError) : Type 0 where
    pub host : Bool
    pub step : RenameStep old.setup a.memory_type_index o name host (result_of result) (model_of g old) (model_of g new)

  same_pool : new.slots ≡ old.slots → unseen old.setup new.budgets new.slots ≡ unseen old.setup old.budgets old.slots
  same_pool slots = λ i. unseen old.setup (budgets i) (slots i)

  same_rest : new.slots ≡ old.slots → KeepsTheRest (model_of g old) (model_of g new)
  same_rest slots = record { byte_view = λ i. byte_view_of (g.held (device i)) (slots i); history = ap g.history device }

  renaming : (a b : Allocation) (o : Option (Piece DeviceMemory)) (name : List ℕ) (result : Result (Unit {0}) AllocationError) → RenamesBy a o name old.slots result b new.slots → Renaming a o name
      result
  renaming a b None name (Ok u) r = record { host = true; step = (refl, same_model r.1) }
  renaming a b None name (Err e) r = record { host = false; step = (r.0, same_model r.2) }
  renaming a b (Some p) name (Ok u) r = record {
    host = true;
    step = (
      (r.1, λ i. unseen old.setup (budgets i) new.slots),
      record {
        byte_view = ap (λ d. byte_view_of (g.held d) new.slots) device ∙ renamed_byte_view (g.held old.device) a.memory_type_index p name old.slots new.slots r.1;
        history = ap g.history device;
      },
    );
  }
  renaming a b (Some p) name (Err e) r =
      ⊎_elim
      (λ starved. record { host = false; step = ((starved.0, starved.1, same_pool r.2), same_rest r.2) })
      (λ dead. record { host = true; step = ((record { dead = dead.0; other = dead.1; cause = dead.2 }, same_pool r.2), same_rest r.2) })
      r.0

  pub rename_step : (a b : Allocation) (name : List ℕ) (result : Result (Unit {0}) AllocationError) → Renames a name old.slots result b new.slots → IsStep g (Rename a name) (reply_of_done result) old new
  rename_step a b name result r =
      let s = renaming a b (piece_of a) name result r in
      record {
        environment = no_question s.host;
        step = ((refl, refl), result_of result, done_reply result, s.step);
        count = ap g.refused device;
        latest = ap g.latest device;
      }

module _ {D : Type 0} (g : Ghosts D) (s : State D) where
  pub report_step : (result : Result AllocatorReport AllocationError) → IfOk result (λ r. report_of r ≡ whole_report s.slots) → IfErr result (λ e. e ≡ HostOutOfMemory) → IsStep g Report
      (reply_of_report result) s s
  report_step (Ok r) told refused = record { environment = no_question true; step = ((refl, refl), Ok (report_of r), refl, told, refl); count = refl; latest = refl }
  report_step (Err e) told refused = record { environment = no_question false; step = ((refl, refl), Err (refusal_of e), refl, ap refusal_of refused, refl); count = refl; latest = refl }

  pub leaks_step : (result : Result (Vec (String Global) Global) AllocationError) → IfOk result (λ v. map string_bytes v.items ≡ map leak_text (all_leaks s.slots)) → IfErr result
      (λ e. e ≡ HostOutOfMemory)
      → IsStep g Leaks (reply_of_leaks result) s s
  leaks_step (Ok v) told refused = record { environment = no_question true; step = ((refl, refl), Ok (map string_bytes v.items), refl, told, refl); count = refl; latest = refl }
  leaks_step (Err e) told refused = record { environment = no_question false; step = ((refl, refl), Err (refusal_of e), refl, ap refusal_of refused, refl); count = refl; latest = refl }
