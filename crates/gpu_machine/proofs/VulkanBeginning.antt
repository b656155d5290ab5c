-- Requests at Vulkan's machine, as its code comes to them, and its other calls as the allocator's.
use Rattle.std.proofs.Common.{◌≡◌, ◌∙◌, refl, sym, ap, subst, inl, inr, ⊎_elim, ℕ, Bool, true, false, List, [], ◌∷◌, zero, suc, length, Option, Some, None, Ok, Err, Result, arith, IsTrue}
use Rattle.std.specs.Borrow.{Bor}
use Rattle.std.specs.List.{slice_get}
use Rattle.std.specs.Option.{option_map, unwrap_or}
use Rattle.std.specs.Prelude.{◌↔◌, IsOk, IsSome}
use Rattle.std.proofs.lemmas.Bool.{cases_lt}
use Rattle.std.proofs.lemmas.List.{length-map, get_or_past}
use Rattle.gpu_values.specs.Refusal.{Refusal, refusal_of}
use Rattle.gpu_values.specs.declared.error.AllocationError.{AllocationError}
use Rattle.gpu_core.specs.Blocks.{Slots, slots_at}
use Rattle.gpu_core.specs.TypeRelease.{IsFreeRefusal}
use Rattle.gpu_block.specs.Block.{Block}
use Rattle.gpu_core.specs.Blocks.{BlocksWellFormed}
use Rattle.gpu_core.specs.Slots.{AreSound}
use Rattle.gpu_core.specs.TypeState.{Slot, TypeState, slot_at, block_number}
use Rattle.gpu_core.specs.Types.{Types, slots_of}
use Rattle.gpu_core.specs.TypeReport.{block_in}
use Rattle.gpu_core.proofs.Options.{none_some, some_same}
use Rattle.gpu_pool.specs.State.{IsSoundAt}
use Rattle.gpu_vulkan.proofs.Leaving.{kind_told}
use Rattle.gpu_core.specs.Rename.{IsNotNamed}
use Rattle.gpu_core.specs.declared.piece.Piece.{Piece}
use Rattle.gpu_device.specs.declared.vulkan.device.VulkanDevice.{Ghosts}
use Rattle.gpu_device.specs.declared.vulkan.types.DeviceMemory.{DeviceMemory}
use Rattle.gpu_pool.specs.Begin as pools
use Rattle.gpu_pool.specs.Idle.{FreesIn, RenamesIn, RenamesIdle}
use Rattle.gpu_pool.specs.RequestState.{RequestState}
use Rattle.gpu_pool.specs.declared.requests.Awaited.{Awaited}
use Rattle.gpu_pool.specs.declared.requests.Question.{Question}
use Rattle.gpu_vulkan.specs.Free as allocators
use Rattle.gpu_vulkan.specs.Free.{GivesBack}
use Rattle.gpu_vulkan.specs.Live.{is_same_memory, piece_of}
use Rattle.gpu_vulkan.specs.Rename as names
use Rattle.gpu_vulkan.specs.Rename.{IsNamed}
use Rattle.gpu_vulkan.specs.Setup.{Setup}
use Rattle.gpu_vulkan.specs.Types.{is_host_visible}
use Rattle.gpu_vulkan.specs.declared.allocation.Allocation.{Allocation}
use Rattle.gpu_vulkan.specs.declared.describe.AllocationCreateDesc.{AllocationCreateDesc}
use Rattle.gpu_vulkan.specs.Allocate.{next_type}
use Rattle.gpu_vulkan.specs.declared.preference.Preference.{Preference}
use Rattle.gpu_machine.specs.VulkanBegin.{Follows, Declines, DeclinesIn, closed, GoesOnBy, TriesSmaller, IsDeniedSmaller, ShrinksTo, Shrinks}
use Rattle.gpu_machine.specs.VulkanByFlags.{FollowsDown}
use Rattle.gpu_machine.specs.VulkanDescription.{Description, description_of}
use Rattle.gpu_machine.specs.VulkanCalls.{MachineFrees, memory_in}
use Rattle.gpu_machine.specs.VulkanHeapLimit.{Limits}
use Rattle.gpu_machine.specs.VulkanSmallerBlocks.{smaller_portion}
use Rattle.gpu_machine.specs.VulkanState.{State, IsOver, KeepsRequest}
use Rattle.gpu_machine.specs.declared.vulkan.answer.MemoryBack.{MemoryBack}
use Rattle.gpu_machine.specs.declared.vulkan.answer.Progress.{Progress}
use Rattle.gpu_machine.specs.declared.vulkan.asking.Asking.{Asking}
use Rattle.gpu_machine.specs.declared.vulkan.smaller_blocks.Portion.{Portion}

-- there are as many memory types as the device has
pub as_many : {H : Type 0} (setup : Setup) (requests : RequestState H) → IsOver setup requests → length requests.kinds ≡ length setup.properties.types
as_many setup requests over =
    ap (λ (ks : List (Bool × ℕ)). length ks) over.kinds ∙ length-map {B = Bool × ℕ} setup.properties.types (λ info. (is_host_visible info, setup.properties.granularity))

-- ---- frees and names as the allocator's

module _ {D : Type 0} (g : Ghosts D) (old new : State DeviceMemory) (a : Allocation) (p : Piece DeviceMemory) (closed : old.requests.awaited ≡ None) (is : piece_of a ≡ Some p) where
  pub freed : (back : Option (MemoryBack DeviceMemory)) (device after : D) → MachineFrees is_same_memory old a.memory_type_index p (Ok back) new → GivesBack g device (memory_in back) after
      → allocators.AllocatorFrees g a old.requests.slots device (Ok tt) new.requests.slots after
  freed back device after h gives =
      let f : FreesIn is_same_memory None old.requests a.memory_type_index p (Ok (memory_in back)) new.requests =
      subst (λ (o : Option Awaited). FreesIn is_same_memory o old.requests a.memory_type_index p (Ok (memory_in back)) new.requests) closed h.frees in
      subst (λ (o : Option (Piece DeviceMemory)). allocators.FreesPiece g a o old.requests.slots device (Ok tt) new.requests.slots after) (sym is) (
        f.0,
        record { went = memory_in back; left = f.1.left; releases = f.1.releases; slots = f.1.slots; gives_back = gives },
      )

  pub not_freed : (e f : AllocationError) (device : D) → MachineFrees is_same_memory old a.memory_type_index p (Err e) new → refusal_of f ≡ refusal_of e
      → allocators.AllocatorFrees g a old.requests.slots device (Err (f, a)) new.requests.slots device
  not_freed e f device h same =
      let n : FreesIn is_same_memory None old.requests a.memory_type_index p (Err e) new.requests =
      subst (λ (o : Option Awaited). FreesIn is_same_memory o old.requests a.memory_type_index p (Err e) new.requests) closed h.frees in
      subst (λ (o : Option (Piece DeviceMemory)). allocators.FreesPiece g a o old.requests.slots device (Err (f, a)) new.requests.slots device) (sym is) (
        n.0,
        subst (λ (r : Refusal). IsFreeRefusal is_same_memory p (slot_at (slots_at old.requests.slots a.memory_type_index) p.slot) r) (sym same) n.1,
        refl,
        ap (λ (s : RequestState DeviceMemory). s.slots) n.2,
        refl,
      )

module _ (old new : RequestState DeviceMemory) (a : Allocation) (p : Piece DeviceMemory) (name : List ℕ) (closed : old.awaited ≡ None) (is : piece_of a ≡ Some p) where
  pub renamed : (b : Allocation) → RenamesIdle is_same_memory old a.memory_type_index p name (Ok tt) new → IsNamed a name b → names.Renames a name old.slots (Ok tt) b new.slots
  renamed b h named =
      let r : RenamesIn is_same_memory None old a.memory_type_index p name (Ok tt) new = subst (λ (o : Option Awaited). RenamesIn is_same_memory o old a.memory_type_index p name (Ok tt) new) closed h in
      subst (λ (o : Option (Piece DeviceMemory)). names.RenamesBy a o name old.slots (Ok tt) b new.slots) (sym is) (named, r.0)

  pub not_renamed : (e f : AllocationError) → RenamesIdle is_same_memory old a.memory_type_index p name (Err e) new → refusal_of f ≡ refusal_of e → names.Renames a name old.slots (Err f) a new.slots
  not_renamed e f h same =
      let r : RenamesIn is_same_memory None old a.memory_type_index p name (Err e) new = subst (λ (o : Option Awaited). RenamesIn is_same_memory o old a.memory_type_index p name (Err e) new) closed h in
      subst (λ (o : Option (Piece DeviceMemory)). names.RenamesBy a o name old.slots (Err f) a new.slots) (sym is) (
        subst (λ (why : Refusal). IsNotNamed is_same_memory (slots_at old.slots a.memory_type_index) p why) (sym same) r.0,
        refl,
        ap (λ (s : RequestState DeviceMemory). s.slots) r.1,
      )

-- ---- whether a question is open

closed_by : (o : Option Awaited) → (IsSome o → ⊥) → o ≡ None
closed_by None h = refl
closed_by (Some a) h = absurd (h refl)

-- no question is open where `awaits_answer` says so
pub is_closed : (o : Option Awaited) (b : Bool) → b ≡ false → (IsTrue b ↔ IsSome o) → o ≡ None
is_closed o b is says = closed_by o (λ h. absurd (grind (arith, subst IsTrue is (says.1 h))))

-- ---- looks

-- handle and pieces of a slot make its block
pub slot_told : {H : Type 0} (s : Option (Slot H)) (h : H) (b : Block) → block_number s ≡ Some h → block_in s ≡ Some b → s ≡ Some (record { handle = h; block = b })
slot_told None h b named held = absurd (none_some h named)
slot_told (Some s) h b named held = λ i. Some (record { handle = some_same s.handle h named i; block = some_same s.block b held i })

-- the blocks of each memory type are sound with the device's pages
pub well_formed : {H : Type 0} (setup : Setup) (requests : RequestState H) → IsOver setup requests → length requests.slots ≡ length requests.kinds → ((t : ℕ) → IsSoundAt requests.kinds requests.slots t)
    → BlocksWellFormed setup.properties.granularity requests.slots
well_formed setup requests over long sound t =
    let p = setup.properties in
    ⊎_elim
    (λ below. subst (λ (k : Bool × ℕ). AreSound k.1 (slots_at requests.slots t)) (kind_told p t below) (subst (λ (ks : List (Bool × ℕ)). IsSoundAt ks requests.slots t) over.kinds (sound t)))
    (λ past.
    let many = as_many setup requests over in
    subst (AreSound p.granularity) (sym (get_or_past requests.slots t [] (omega (arith, past, many, long)))) (λ i. tt))
    (cases_lt t (length p.types))

-- ---- after a refusal of the driver

kept_awaited : (o : Option Awaited) (asking : Option Asking) (r : Asking) → KeepsRequest o asking → asking ≡ Some r → (a : Awaited) × (o ≡ Some a)
kept_awaited None None r k is = absurd (none_some r is)
kept_awaited None (Some s) r k is = absurd k
kept_awaited (Some a) None r k is = absurd k
kept_awaited (Some a) (Some s) r k is = (a, refl)

declined_in : {H : Type 0} (requests left : RequestState H) (o : Option Awaited) → pools.DeclinesIn o requests (Ok tt) left → left.slots ≡ requests.slots
declined_in requests left None h = absurd (none_some _ h.0)
declined_in {H} requests left (Some a) h = ap (λ (s : RequestState H). s.slots) h

-- the blocks are as they were
pub declined_keeps : {H : Type 0} (requests left : RequestState H) → pools.Declines requests (Ok tt) left → left.slots ≡ requests.slots
declined_keeps requests left h = declined_in requests left requests.awaited h

-- the description that says this, its name where that of d lies
abbrev saying : AllocationCreateDesc → Description → AllocationCreateDesc
saying d k = record { name = record d.name { now = k.name }; requirements = k.requirements; location = k.location; linear = k.linear; allocation_scheme = k.scheme }

module _ {H : Type 0} (old : State H) (result : Result (Progress H) AllocationError) (new : State H) where
  -- a description that says the same leads to the same
  follows_alike : (refusal : Refusal) (d e : AllocationCreateDesc) → description_of d ≡ description_of e → Follows old d (next_type old.setup d refusal) refusal result new
      → Follows old e (next_type old.setup e refusal) refusal result new
  follows_alike refusal d e same h = subst (λ (k : Description). Follows old (saying e k) (next_type old.setup (saying e k) refusal) refusal result new) same h

  -- and goes on so
  goes_on_alike : (p : Option Preference) (is_second : Bool) (refusal : Refusal) (d e : AllocationCreateDesc) → description_of d ≡ description_of e → GoesOnBy p is_second old d refusal result new
      → GoesOnBy p is_second old e refusal result new
  goes_on_alike None true refusal d e same h = h
  goes_on_alike None false refusal d e same h = follows_alike refusal d e same h
  goes_on_alike (Some p) is_second refusal d e same h = subst (λ (k : Description). FollowsDown p old k refusal result new) same h

  -- also by smaller blocks
  shrinks_alike : (o : Option Portion) (r : Asking) (block : Question) (refusal : Refusal) (d e : AllocationCreateDesc) → description_of d ≡ description_of e
      → ShrinksTo o r block old d refusal result new → ShrinksTo o r block old e refusal result new
  shrinks_alike None r block refusal d e same h = goes_on_alike r.preference r.is_second refusal d e same h
  shrinks_alike (Some p) r block refusal d e same h =
      ⊎_elim (λ (tries : IsOk result × TriesSmaller r block p old result new). inl tries)
      (λ (denied : IsDeniedSmaller r block p old d result new). inr (record {
        cause = denied.cause;
        tries = denied.tries;
        follows = goes_on_alike r.preference r.is_second (refusal_of denied.cause) d e same denied.follows;
      }))
      h

module _ {H : Type 0} (setup : Setup) (limits : Limits) (most : Option ℕ) (smaller_blocks : Bool) (requests : RequestState H) (asking : Option Asking) (kept : KeepsRequest requests.awaited asking) (r : Asking)
    (is : asking ≡ Some r) where
  abbrev before : State H
  before = record { setup = setup; limits = limits; most_blocks = most; smaller_blocks = smaller_blocks; requests = requests; asking = asking }

  -- what is left of the request counts
  pub goes_on : (left : RequestState H) → pools.Declines requests (Ok tt) left → (block : Question) → Some block ≡ option_map pools.question_of requests.awaited → (lent : AllocationCreateDesc)
      → description_of lent ≡ r.description → (refusal : Refusal) → (result : Result (Progress H) AllocationError) (new : State H)
      → Shrinks r block (record { setup = setup; limits = limits; most_blocks = most; smaller_blocks = smaller_blocks; requests = left; asking = None }) lent refusal result new
      → Declines before refusal result new
  goes_on left over block asks lent says refusal result new follows =
      let a = kept_awaited requests.awaited asking r kept is in
      let closes : left ≡ record requests { awaited = None } = subst (λ (o : Option Awaited). pools.DeclinesIn o requests (Ok tt) left) a.1 over in
      let asked : block ≡ pools.question_of a.0 = some_same _ _ (asks ∙ ap (λ (o : Option Awaited). option_map pools.question_of o) a.1) in
      let idle : Shrinks r block (closed before) lent refusal result new =
      subst (λ (q : RequestState H). Shrinks r block (record { setup = setup; limits = limits; most_blocks = most; smaller_blocks = smaller_blocks; requests = q; asking = None }) lent refusal result new) closes follows in
      let of_it : Shrinks r (pools.question_of a.0) (closed before) lent refusal result new = subst (λ (b : Question). Shrinks r b (closed before) lent refusal result new) asked idle in
      subst (λ (o : Option Awaited). DeclinesIn o before refusal result new) (sym a.1) (
        r,
        record {
          kept = is;
          follows = λ d same.
              shrinks_alike (closed before) result new (smaller_portion smaller_blocks r.portion (pools.question_of a.0) r.description.requirements.size refusal) r (pools.question_of a.0) refusal lent d (says ∙ sym same)
              of_it;
        },
      )

-- ---- a memory type that is lent

module _ {H : Type 0} where
  slots_got : (types : Types H) (t : ℕ) → slots_at (slots_of types) t ≡ unwrap_or (option_map (λ (k : TypeState H). k.slots) (slice_get types t)) []
  slots_got [] t = refl
  slots_got (k ∷ types) zero = refl
  slots_got (k ∷ types) (suc t) = slots_got types t

  lent_slots : (r : Option (Bor (TypeState H))) → unwrap_or (option_map (λ (k : TypeState H). k.slots) (option_map (λ (b : Bor (TypeState H)). b.now) r)) []
      ≡ unwrap_or (option_map (λ (b : Bor (TypeState H)). b.now.slots) r) []
  lent_slots None = refl
  lent_slots (Some b) = refl

  -- the slots of the memory type that is lent, or none
  pub slots_lent : (ss : Slots H) (types : Types H) (t : ℕ) (r : Option (Bor (TypeState H))) → slots_of types ≡ ss
      → option_map (λ (b : Bor (TypeState H)). b.now) r ≡ slice_get types t → slots_at ss t ≡ unwrap_or (option_map (λ (b : Bor (TypeState H)). b.now.slots) r) []
  slots_lent ss types t r same lent =
      ap (λ (all : Slots H). slots_at all t) (sym same) ∙ slots_got types t
      ∙ ap (λ (o : Option (TypeState H)). unwrap_or (option_map (λ (k : TypeState H). k.slots) o) []) (sym lent) ∙ lent_slots r
