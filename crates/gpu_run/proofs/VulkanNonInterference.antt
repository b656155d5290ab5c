-- Two runs that differ in the bytes of others alone stay alike.
use Rattle.std.proofs.Common.{◌≡◌, ◌∙◌, ◌⊎◌, ℕ, ◌+◌, ◌<◌, ◌≤◌, List, [], ◌∷◌, length, take, drop, Option, Some, None, Bool, true, false, refl, sym, ap, subst, inl, inr, arith, ⊎_elim}
use Rattle.std.specs.Prelude.{nat_le, slice_get, if◌then◌else◌, ◌==◌}
use Rattle.std.specs.List.{AllZip}
use Rattle.std.specs.Option.{option_map}
use Rattle.std.proofs.lemmas.Bool.Decides.{nat_tests}
use Rattle.gpu_values.specs.Refusal.{Refusal, host_out_of_memory}
use Rattle.gpu_core.specs.declared.piece.Piece.{Piece}
use Rattle.gpu_device.specs.declared.vulkan.types.DeviceMemory.{DeviceMemory}
use Rattle.gpu_vulkan.specs.EqualButBytes.{EqualButBytesDescription, EqualButBytesCall, EqualButBytesReply}
use Rattle.gpu_vulkan.specs.Types.{is_mapped}
use Rattle.gpu_vulkan.specs.Blocks.{Slots}
use Rattle.gpu_vulkan.specs.ByteView.{AllocationId, Writes}
use Rattle.gpu_vulkan.specs.Live.{IsLiveIn}
use Rattle.gpu_vulkan.specs.Live.{piece_of, null_allocation, IsLive, IsMapped}
use Rattle.gpu_vulkan.specs.Rename.{IsNamed}
use Rattle.gpu_vulkan.specs.Setup.{Setup}
use Rattle.gpu_vulkan.specs.Reply as answers
use Rattle.gpu_vulkan.specs.Step as model
use Rattle.gpu_vulkan.specs.Step.{ModelState, CallEnvironment, Step, IsRead, id_of, id_in, FreeStep, RenameStep, is_again, PlaceStep, MoveStep, WriteStep}
use Rattle.gpu_vulkan.specs.declared.allocation.Allocation.{Allocation}
use Rattle.gpu_vulkan.specs.declared.describe.AllocationCreateDesc.{AllocationCreateDesc}
use Rattle.gpu_vulkan.proofs.EqualButBytes.{step_alike}
use Rattle.gpu_run.specs.VulkanCommand.{Wanted, Describes, KeyCommand, Alloc, Move, Null, Free, Rename, Write, Read, SessionCommand, Under, Report, Leaks, Capacity, SetBudget}
use Rattle.gpu_run.specs.VulkanReply.{SessionReply, Allocated, Done, Bytes, Busy, Unbound, NoPlace, Unmapped, OutOfRange, Error}
use Rattle.gpu_run.specs.VulkanSession.{SessionState, SessionInvariant, shown, CommandEnvironment, Stays, Binds, BindsPlace, ServesAlloc, ServesMoveTo, ServesMove, ServesNull, SessionFrees, BindsNamed, Renames, overwritten, WritesIn}
use Rattle.gpu_run.specs.VulkanSession.{WritesOver, WritesAt, reply_to_part, reply_to_read, ReadsAt, ServesBound, ServesUnbound, ServesAt, reply_by, Asks, SessionServes, Runs}
use Rattle.gpu_run.specs.VulkanLaws.{EqualButBytesKeyCommand, EqualButBytesCommand, EqualButBytesCommandEnvironment, Written, everything, written_after, EqualButBytesAnswer}
use Rattle.gpu_run.specs.VulkanLaws.{EqualButBytesReplies, NonInterference}
use Rattle.gpu_run.proofs.Binding.{bound_here}
use Rattle.gpu_run.proofs.VulkanOwning.{null_dead, some_same, none_some, freed_null}
use Rattle.gpu_run.proofs.VulkanChanges.{Gained, Lost, gained, not_gained, placed, not_placed, move_refused, place_piece, size_piece, lost, named_bytes, shown_same, told_same, summed_same, budget_set_bytes}
use Rattle.gpu_run.proofs.VulkanKeptBudgets.{budgets_next}
use Rattle.gpu_run.proofs.VulkanRanges.{length_range, get_range}
use Rattle.gpu_run.proofs.VulkanEqualButBytes.{byte_of, handle, Alike, alike_kept, alike_given, alike_null, alike_named, alike_returned, alike_unbound, alike_written}

-- ---- handles

live_piece : (a : Allocation) (o : Option (Piece DeviceMemory)) (slots : Slots) → piece_of a ≡ o → IsLive slots a → (p : Piece DeviceMemory) × (piece_of a ≡ Some p)
live_piece a None slots e live = absurd (null_dead slots a e live)
live_piece a (Some p) slots e live = (p, e)

-- a live piece's place is its handle's
same_place_of : (a b : Allocation) (slots : Slots) → handle a ≡ handle b → IsLive slots a → id_of a ≡ id_of b
same_place_of a b slots same live =
    let p = live_piece a (piece_of a) slots refl live in
    let q : piece_of b ≡ Some p.0 = sym (ap (λ h. h.piece) same) ∙ p.1 in
    place_piece a p.0 p.1 ∙ ap (λ t. id_in t p.0) (ap (λ h. h.memory_type) same) ∙ sym (place_piece b p.0 q)

free_as : (setup : Setup) (a b : Allocation) (o : CallEnvironment) (s new : ModelState) → handle a ≡ handle b → Step setup (model.Free b) o answers.Done s new
    → Step setup (model.Free a) o answers.Done s new
free_as setup a b o s new same h = (h.0, h.1, h.2, subst (λ z. FreeStep setup z.memory_type z.piece h.1 s new) (sym same) h.3)

rename_as : (setup : Setup) (a b : Allocation) (name : List ℕ) (o : CallEnvironment) (model_reply : answers.Reply) (s new : ModelState) → handle a ≡ handle b → Step setup (model.Rename b name) o
    model_reply s new → Step setup (model.Rename a name) o model_reply s new
rename_as setup a b name o model_reply s new same h = (h.0, h.1, h.2, subst (λ z. RenameStep setup z.memory_type z.piece name o.first.host h.1 s new) (sym same) h.3)

-- a proposed move of what has the same handle
moved_as : (setup : Setup) (a b : Allocation) (d : AllocationCreateDesc) (again : Bool) (o : CallEnvironment) (model_reply : answers.Reply) (s new : ModelState) → handle a ≡ handle b
    → MoveStep setup b d again o model_reply s new → MoveStep setup a d again o model_reply s new
moved_as setup a b d false o model_reply s new same h = h
moved_as setup a b d true o model_reply s new same h = (
  h.0,
  h.1,
  subst (λ z. model_reply ≡ answers.placed_with z.memory_type h.1) (sym same) h.2,
  subst (λ z. PlaceStep setup z.memory_type z.piece d o.first.host h.1 s new) (sym same) h.3,
)

move_as : (setup : Setup) (a b : Allocation) (d : AllocationCreateDesc) (o : CallEnvironment) (model_reply : answers.Reply) (s new : ModelState) → handle a ≡ handle b
    → Step setup (model.ProposeMove b d) o model_reply s new → Step setup (model.ProposeMove a d) o model_reply s new
move_as setup a b d o model_reply s new same h =
    let again : is_again b.size d ≡ is_again a.size d = ap (λ z. is_again z.size d) (sym same) in
    moved_as setup a b d (is_again a.size d) o model_reply s new same (subst (λ z. MoveStep setup b d z o model_reply s new) again h)

named_handle : (a b : Allocation) (name : List ℕ) → IsNamed a name b → handle b ≡ handle a
named_handle a b name h = ap handle h.others

named_place : (a b : Allocation) (name : List ℕ) → IsNamed a name b → id_of b ≡ id_of a
named_place a b name h = ap id_of h.others

same_description : (d e : AllocationCreateDesc) (w : Wanted) → Describes d w → Describes e w → EqualButBytesDescription d e
same_description d e w x y = record {
  requirements = x.requirements ∙ sym y.requirements;
  location = x.location ∙ sym y.location;
  linear = x.linear ∙ sym y.linear;
  scheme = x.scheme ∙ sym y.scheme;
  name = x.name ∙ sym y.name;
}

-- ---- what both read

-- both read bytes of the same place, as many
pub record BothRead (s t : SessionState) (a b : Allocation) (x y : Option (List ℕ)) : Type 0 where
  pub xs : List ℕ
  pub ys : List ℕ
  pub left : x ≡ Some xs
  pub right : y ≡ Some ys
  pub live : IsLive s.model.slots a
  pub here : s.model.byte_view.allocation_bytes (id_of a) ≡ Some xs
  pub there : t.model.byte_view.allocation_bytes (id_of a) ≡ Some ys
  pub place : id_of a ≡ id_of b
  pub long : length xs ≡ length ys

module _ (setup : Setup) (s t : SessionState) (a b : Allocation) (same : handle a ≡ handle b) (slots : s.model.slots ≡ t.model.slots)
    (sizes : (q : AllocationId) → option_map length (s.model.byte_view.allocation_bytes q) ≡ option_map length (t.model.byte_view.allocation_bytes q)) where
  mapped_there : IsMapped setup.properties s.model.slots a → IsMapped setup.properties t.model.slots b
  mapped_there m = (
    subst (λ z. IsLiveIn t.model.slots z.memory_type z.piece) same (subst (λ z. IsLive z a) slots m.0),
    ap (λ z. is_mapped setup.properties z.memory_type) (sym same) ∙ m.1,
  )

  mapped_here : IsMapped setup.properties t.model.slots b → IsMapped setup.properties s.model.slots a
  mapped_here m = (
    subst (λ z. IsLive z a) (sym slots) (subst (λ z. IsLiveIn t.model.slots z.memory_type z.piece) (sym same) m.0),
    ap (λ z. is_mapped setup.properties z.memory_type) same ∙ m.1,
  )

  both_read : (x y : Option (List ℕ)) → IsRead setup a s.model x → IsRead setup b t.model y → ((x ≡ None) × (y ≡ None)) ⊎ BothRead s t a b x y
  both_read None None h k = inl (refl, refl)
  both_read None (Some ys) h k = absurd (h (mapped_here k.0))
  both_read (Some xs) None h k = absurd (k (mapped_there h.0))
  both_read (Some xs) (Some ys) h k =
      let place = same_place_of a b s.model.slots same h.0.0 in
      let there = ap t.model.byte_view.allocation_bytes place ∙ k.1 in
      inr (record {
        xs = xs;
        ys = ys;
        left = refl;
        right = refl;
        live = h.0.0;
        here = h.1;
        there = there;
        place = place;
        long = some_same (length xs) (length ys) (sym (ap (option_map length) h.1) ∙ sizes (id_of a) ∙ ap (option_map length) there);
      })

-- ---- one command of each run

pub record Next (ours : ℕ → Bool) (written : Written) (command : SessionCommand) (reply other_reply : SessionReply) (new next : SessionState) : Type 0 where
  pub reply_alike : EqualButBytesAnswer ours written command reply other_reply
  pub alike : Alike ours (written_after command reply written) new next

module _ (ours : ℕ → Bool) (written : Written) (setup : Setup) (s t new next : SessionState) (o p : CommandEnvironment) (reply other_reply : SessionReply) (kept : SessionInvariant setup s)
    (kept_new : SessionInvariant setup new) (alike : Alike ours written s t)
    (budgets : s.model.budgets ≡ t.model.budgets) (met : EqualButBytesCommandEnvironment o p) where
  next_at : (command : SessionCommand) (x y : SessionReply) → reply ≡ x → other_reply ≡ y → EqualButBytesAnswer ours written command x y → Alike ours (written_after command x written) new next → Next
      ours written command reply other_reply new next
  next_at command x y e f same now =
      subst (λ z. Next ours written command z other_reply new next) (sym e) (subst (λ z. Next ours written command x z new next) (sym f) (record { reply_alike = same; alike = now }))

  -- nothing changes in both
  unchanged : new ≡ s → next ≡ t → Alike ours written new next
  unchanged e f =
      alike_kept ours written setup s t new next kept kept_new alike (ap (λ x. x.bound) e) (ap (λ x. x.bound) f)
      (ap (λ x. x.model.slots) e ∙ alike.slots ∙ sym (ap (λ x. x.model.slots) f)) (ap (λ x. x.model.byte_view) e) (ap (λ x. x.model.byte_view) f)

  -- ---- requests

  -- a number stands for a new piece of the same place in both
  given_at : (command : SessionCommand) (key u : ℕ) (w : Wanted) (d e : AllocationCreateDesc) (q : Piece DeviceMemory)
      → EqualButBytesAnswer ours written command (Allocated (shown setup w u q)) (Allocated (shown setup w u q))
      → ((now : Alike ours (λ k i. if key == k then false else written k i) new next) → Alike ours (written_after command (Allocated (shown setup w u q)) written) new next)
      → new.model.slots ≡ next.model.slots → Gained (is_mapped setup.properties u) (id_in u q) q.size s.model.byte_view new.model.byte_view
      → Gained (is_mapped setup.properties u) (id_in u q) q.size t.model.byte_view next.model.byte_view → Binds setup key w d (answers.Allocated u q) reply s.bound new.bound
      → Binds setup key w e (answers.Allocated u q) other_reply t.bound next.bound
      → Next ours written command reply other_reply new next
  given_at command key u w d e q answer onward slots h k b c =
      let one = b.0 in
      let two = c.0 in
      let place : id_of one ≡ id_in u q = place_piece one q b.1.piece ∙ ap (λ z. id_in z q) b.1.memory_type in
      let long : one.size ≡ two.size = size_piece one q b.1.piece ∙ sym (size_piece two q c.1.piece) in
      let same : handle one ≡ handle two = (λ i. record { memory_type = (b.1.memory_type ∙ sym c.1.memory_type) i; piece = (b.1.piece ∙ sym c.1.piece) i; size = long i }) in
      let m = subst (λ r. Gained (is_mapped setup.properties u) r q.size s.model.byte_view new.model.byte_view) (sym place) h in
      let n = subst (λ r. Gained (is_mapped setup.properties u) r q.size t.model.byte_view next.model.byte_view) (sym place) k in
      let here : new.bound key ≡ Some one = ap (λ f. f key) b.3 ∙ bound_here s.bound key key (Some one) refl in
      let live : IsLive new.model.slots one = ⊎_elim (λ null. absurd (none_some q (sym null ∙ b.1.piece))) (λ z. z) (kept_new.own.live key one here) in
      next_at command (Allocated (shown setup w u q)) (Allocated (shown setup w u q)) b.2 c.2 answer
      (onward (alike_given ours written setup s t new next kept kept_new alike key one two (is_mapped setup.properties u) q.size b.3 c.3 same live slots m n))

  given_both : (key u : ℕ) (w : Wanted) (d e : AllocationCreateDesc) (q : Piece DeviceMemory) → new.model.slots ≡ next.model.slots → Step setup (model.Allocate d) o.call (answers.Allocated u q) s.model
      new.model
      → Step setup (model.Allocate e) p.call (answers.Allocated u q) t.model next.model → Binds setup key w d (answers.Allocated u q) reply s.bound new.bound
      → Binds setup key w e (answers.Allocated u q) other_reply t.bound next.bound
      → Next ours written (Under key (Alloc w)) reply other_reply new next
  given_both key u w d e q slots h k b c =
      given_at (Under key (Alloc w)) key u w d e q refl (λ z. z) slots (gained setup d u o.call q s.model new.model h) (gained setup e u p.call q t.model next.model k) b c

  failed_both : (key : ℕ) (w : Wanted) (d e : AllocationCreateDesc) (r : Refusal) → new.model.slots ≡ next.model.slots → Step setup (model.Allocate d) o.call (answers.Error r) s.model new.model
      → Step setup (model.Allocate e) p.call (answers.Error r) t.model next.model → Binds setup key w d (answers.Error r) reply s.bound new.bound
      → Binds setup key w e (answers.Error r) other_reply t.bound next.bound
      → Next ours written (Under key (Alloc w)) reply other_reply new next
  failed_both key w d e r slots h k b c =
      next_at (Under key (Alloc w)) (Error r) (Error r) b.0 c.0 refl
      (alike_kept ours written setup s t new next kept kept_new alike b.1 c.1 slots (not_gained setup d o.call r s.model new.model h) (not_gained setup e p.call r t.model next.model k))

  binds_both : (key : ℕ) (w : Wanted) (d e : AllocationCreateDesc) (x y : answers.Reply) → EqualButBytesReply x y → new.model.slots ≡ next.model.slots → Step setup (model.Allocate d) o.call x s.model
      new.model
      → Step setup (model.Allocate e) p.call y t.model next.model → Binds setup key w d x reply s.bound new.bound → Binds setup key w e y other_reply t.bound next.bound → Next ours written
      (Under key (Alloc w)) reply other_reply new next
  binds_both key w d e (answers.Allocated u q) y same slots h k b c =
      given_both key u w d e q slots h (subst (λ z. Step setup (model.Allocate e) p.call z t.model next.model) (sym same) k) b
      (subst (λ z. Binds setup key w e z other_reply t.bound next.bound) (sym same) c)
  binds_both key w d e (answers.Error r) y same slots h k b c =
      failed_both key w d e r slots h (subst (λ z. Step setup (model.Allocate e) p.call z t.model next.model) (sym same) k) b
      (subst (λ z. Binds setup key w e z other_reply t.bound next.bound) (sym same) c)
  binds_both key w d e (answers.Budget z) y same slots h k b2 c = absurd b2
  binds_both key w d e x y same slots h k b c = absurd b

  take_both : (key : ℕ) (w : Wanted) (room also : Bool) → room ≡ also → ServesAlloc setup key w room o.call reply s new → ServesAlloc setup key w also p.call other_reply t next → Next ours written
      (Under key (Alloc w)) reply other_reply new next
  take_both key w false false e h k = next_at (Under key (Alloc w)) (Error host_out_of_memory) (Error host_out_of_memory) h.1 k.1 refl (unchanged h.2 k.2)
  take_both key w true true e h k =
      let law = step_alike setup o.call p.call h.model_reply k.model_reply s.model new.model t.model next.model kept.sound alike.slots budgets met.call (model.Allocate h.description)
      (model.Allocate k.description)
      (same_description h.description k.description w h.describes k.describes) h.step k.step in
      binds_both key w h.description k.description h.model_reply k.model_reply law.0 law.1.0 h.step k.step h.binds k.binds
  take_both key w false true e h k = absurd (cc)
  take_both key w true false e h k = absurd (cc)

  null_both : (key : ℕ) (room also : Bool) → room ≡ also → ServesNull key room reply s new → ServesNull key also other_reply t next → Next ours written (Under key Null) reply other_reply new next
  null_both key false false e h k = next_at (Under key Null) (Error host_out_of_memory) (Error host_out_of_memory) h.0 k.0 refl (unchanged h.1 k.1)
  null_both key true true e h k =
      next_at (Under key Null) Done Done h.0 k.0 refl
      (alike_null ours written setup s t new next kept kept_new alike key null_allocation null_allocation (ap (λ x. x.bound) h.1) (ap (λ x. x.bound) k.1) refl refl
      (ap (λ x. x.model.slots) h.1 ∙ alike.slots ∙ sym (ap (λ x. x.model.slots) k.1)) (ap (λ x. x.model.byte_view) h.1) (ap (λ x. x.model.byte_view) k.1))
  null_both key false true e h k = absurd (cc)
  null_both key true false e h k = absurd (cc)

  -- ---- an allocation goes

  return_both : (key : ℕ) (a b : Allocation) → handle a ≡ handle b → s.bound key ≡ Some a → SessionFrees setup key a o.call reply s new → SessionFrees setup key b p.call other_reply t next → Next ours written
      (Under key Free) reply other_reply new next
  return_both key a b same found h k =
      let step = free_as setup a b p.call t.model next.model same k.step in
      let law = step_alike setup o.call p.call answers.Done answers.Done s.model new.model t.model next.model kept.sound alike.slots budgets met.call (model.Free a) (model.Free a) refl h.step step in
      next_at (Under key Free) Done Done h.done k.done refl (⊎_elim
      (λ null.
      alike_unbound ours written setup s t new next kept kept_new alike key h.bound k.bound law.1.0
      (ap (λ x. x.byte_view) (freed_null setup a o.call s.model new.model h.step null)) (ap (λ x. x.byte_view) (freed_null setup a p.call t.model next.model step null)))
      (λ live.
      let q = live_piece a (piece_of a) s.model.slots refl live in
      let place = place_piece a q.0 q.1 in
      alike_returned ours written setup s t new next kept kept_new alike key a found live h.bound k.bound law.1.0
      (subst (λ r. Lost r s.model.byte_view new.model.byte_view) (sym place) (lost setup a o.call q.0 s.model new.model h.step q.1))
      (subst (λ r. Lost r t.model.byte_view next.model.byte_view) (sym place) (lost setup a p.call q.0 t.model next.model step q.1)))
      (kept.own.live key a found))

  -- ---- a new name

  named_both : (key : ℕ) (a b : Allocation) (name : List ℕ) (x y : answers.Reply) → handle a ≡ handle b → s.bound key ≡ Some a → EqualButBytesReply x y → new.model.slots ≡ next.model.slots →
      new.model.byte_view ≡ s.model.byte_view → next.model.byte_view ≡ t.model.byte_view
      → BindsNamed key a name x reply s.bound new.bound → BindsNamed key b name y other_reply t.bound next.bound → Next ours written (Under key (Rename name)) reply other_reply new next
  named_both key a b name answers.Done y same found model_reply slots m n h k =
      let k2 = subst (λ z. BindsNamed key b name z other_reply t.bound next.bound) (sym model_reply) k in
      next_at (Under key (Rename name)) Done Done h.0 k2.0 refl
      (alike_named ours written setup s t new next kept kept_new alike key a h.1.0 k2.1.0 found h.1.2 k2.1.2 (named_handle a h.1.0 name h.1.1 ∙ same ∙ sym (named_handle b k2.1.0 name k2.1.1))
      (named_handle a h.1.0 name h.1.1) (named_place a h.1.0 name h.1.1) slots m n)
  named_both key a b name (answers.Error r) y same found model_reply slots m n h k =
      let k2 = subst (λ z. BindsNamed key b name z other_reply t.bound next.bound) (sym model_reply) k in
      next_at (Under key (Rename name)) (Error r) (Error r) h.0 k2.0 refl (alike_kept ours written setup s t new next kept kept_new alike h.1 k2.1 slots m n)
  named_both key a b name d y same found model_reply slots m n h k = absurd h

  rename_both : (key : ℕ) (a b : Allocation) (name : List ℕ) → handle a ≡ handle b → s.bound key ≡ Some a → Renames setup key a name o.call reply s new → Renames setup key b name p.call other_reply t
      next
      → Next ours written (Under key (Rename name)) reply other_reply new next
  rename_both key a b name same found h k =
      let step = rename_as setup a b name p.call k.model_reply t.model next.model same k.step in
      let law = step_alike setup o.call p.call h.model_reply k.model_reply s.model new.model t.model next.model kept.sound alike.slots budgets met.call (model.Rename a name) (model.Rename a name)
      refl h.step step in
      named_both key a b name h.model_reply k.model_reply same found law.0 law.1.0 (named_bytes setup a name o.call h.model_reply s.model new.model h.step)
      (named_bytes setup a name p.call k.model_reply t.model next.model step) h.binds k.binds

  -- ---- writes

  put_fits : (key at : ℕ) (ws vs : List ℕ) (a b : Allocation) (x y : Option (List ℕ)) (fits : Bool) → length ws ≡ length vs → (ours key ≡ true → ws ≡ vs) → s.bound key ≡ Some a →
      (r : BothRead s t a b x y)
      → nat_le (at + length ws) (length r.xs) ≡ fits → nat_le (at + length vs) (length r.ys) ≡ fits → WritesIn setup a at ws r.xs fits o reply s new → WritesIn setup b at vs r.ys fits p other_reply t
      next
      → Next ours written (Under key (Write at ws)) reply other_reply new next
  put_fits key at ws vs a b x y false as_many mine found r fit fit_too h k = next_at (Under key (Write at ws)) OutOfRange OutOfRange h.0 k.0 refl (unchanged h.1.1 k.1.1)
  put_fits key at ws vs a b x y true as_many mine found r fit fit_too h k =
      let le : at + length ws ≤ length r.xs = grind (arith, nat_tests, fit) in
      let le_too : at + length vs ≤ length r.ys = grind (arith, nat_tests, fit_too) in
      let one = h.1.2 in
      let two = k.1.2 in
      let n = subst (λ q. Writes q (overwritten r.ys at vs) t.model.byte_view next.model.byte_view) (sym r.place) two.writes in
      next_at (Under key (Write at ws)) Done Done h.0 k.0 refl
      (alike_written ours written setup s t new next kept kept_new alike key at a ws vs r.xs r.ys found r.live h.2 k.2 (one.slots ∙ alike.slots ∙ sym two.slots) as_many mine r.here r.there le le_too
      one.writes n)

  put_both : (key at : ℕ) (ws vs : List ℕ) (a b : Allocation) → length ws ≡ length vs → (ours key ≡ true → ws ≡ vs) → handle a ≡ handle b → s.bound key ≡ Some a → WritesAt setup a at ws o reply s new
      → WritesAt setup b at vs p other_reply t next
      → Next ours written (Under key (Write at ws)) reply other_reply new next
  put_both key at ws vs a b as_many mine same found h k = ⊎_elim
      (λ none.
      let one = subst (λ z. WritesOver setup a at ws z o reply s new) none.0 h.2 in
      let two = subst (λ z. WritesOver setup b at vs z p other_reply t next) none.1 k.2 in
      next_at (Under key (Write at ws)) Unmapped Unmapped one.0 two.0 refl (unchanged one.1.1 two.1.1))
      (λ r.
      let one = subst (λ z. WritesOver setup a at ws z o reply s new) r.left h.2 in
      let two = subst (λ z. WritesOver setup b at vs z p other_reply t next) r.right k.2 in
      let fit = nat_le (at + length ws) (length r.xs) in
      let fits : nat_le (at + length vs) (length r.ys) ≡ fit = (λ i. nat_le (at + sym as_many i) (sym r.long i)) in
      put_fits key at ws vs a b h.0 k.0 fit as_many mine found r refl fits one (subst (λ z. WritesIn setup b at vs r.ys z p other_reply t next) fits two))
      (both_read setup s t a b same alike.slots alike.sizes h.0 k.0 h.1 k.1)

  -- ---- reads

  part_both : (key at size : ℕ) (a : Allocation) (xs ys : List ℕ) (room also : Bool) → room ≡ also → length xs ≡ length ys → at + size ≤ length xs
      → (ours key ≡ true → (i : ℕ) → written key i ≡ true → slice_get xs i ≡ slice_get ys i)
      → reply ≡ reply_to_part room (take size (drop at xs)) → other_reply ≡ reply_to_part also (take size (drop at ys)) → Alike ours written new next → Next ours written (Under key (Read at size))
      reply other_reply new next
  part_both key at size a xs ys false false e long fit bytes h k now = next_at (Under key (Read at size)) (Error host_out_of_memory) (Error host_out_of_memory) h k refl now
  part_both key at size a xs ys true true e long fit bytes h k now =
      let fit_too : at + size ≤ length ys = omega (arith, long, fit) in
      next_at (Under key (Read at size)) (Bytes (take size (drop at xs))) (Bytes (take size (drop at ys))) h k (
        (length_range xs at size fit ∙ sym (length_range ys at size fit_too)),
        λ mine i lt w.
            let small : i < size = (let n = length_range xs at size fit in omega (arith, n, lt)) in
            get_range xs at size i small ∙ bytes mine (at + i) w ∙ sym (get_range ys at size i small),
      ) now
  part_both key at size a xs ys false true e long fit bytes h k now = absurd (cc)
  part_both key at size a xs ys true false e long fit bytes h k now = absurd (cc)

  read_both : (key at size : ℕ) (a b : Allocation) (x y : Option (List ℕ)) (r : BothRead s t a b x y) (fits : Bool) → nat_le (at + size) (length r.xs) ≡ fits → s.bound key ≡ Some a
      → reply ≡ (if fits then reply_to_part o.room (take size (drop at r.xs)) else OutOfRange) → other_reply ≡ (if fits then reply_to_part p.room (take size (drop at r.ys)) else OutOfRange) → Alike
      ours written new next
      → Next ours written (Under key (Read at size)) reply other_reply new next
  read_both key at size a b x y r false fit found h k now = next_at (Under key (Read at size)) OutOfRange OutOfRange h k refl now
  read_both key at size a b x y r true fit found h k now =
      let le : at + size ≤ length r.xs = grind (arith, nat_tests, fit) in
      part_both key at size a r.xs r.ys o.room p.room met.room r.long le
      (λ mine i w. sym (ap (λ z. byte_of z i) r.here) ∙ alike.bytes key a mine found r.live i w ∙ ap (λ z. byte_of z i) r.there) h k now

  get_both : (key at size : ℕ) (a b : Allocation) → handle a ≡ handle b → s.bound key ≡ Some a → ReadsAt setup a at size o reply s new → ReadsAt setup b at size p other_reply t next → Next ours
      written (Under key (Read at size)) reply other_reply new next
  get_both key at size a b same found h k =
      let now = unchanged h.3.1 k.3.1 in
      ⊎_elim
      (λ none. next_at (Under key (Read at size)) Unmapped Unmapped (h.2 ∙ ap (reply_to_read o.room at size) none.0) (k.2 ∙ ap (reply_to_read p.room at size) none.1) refl now)
      (λ r.
      let fit = nat_le (at + size) (length r.xs) in
      let fits : nat_le (at + size) (length r.ys) ≡ fit = (λ i. nat_le (at + size) (sym r.long i)) in
      read_both key at size a b h.0 k.0 r fit refl found (h.2 ∙ ap (reply_to_read o.room at size) r.left)
      (k.2 ∙ ap (reply_to_read p.room at size) r.right ∙ ap (λ z. if z then reply_to_part p.room (take size (drop at r.ys)) else OutOfRange) fits) now)
      (both_read setup s t a b same alike.slots alike.sizes h.0 k.0 h.1 k.1)

  -- ---- a second place

  place_both : (key to : ℕ) (w : Wanted) (a : Allocation) (d e : AllocationCreateDesc) (x y : answers.Reply) → EqualButBytesReply x y → new.model.slots ≡ next.model.slots
      → Step setup (model.ProposeMove a d) o.call x s.model new.model → Step setup (model.ProposeMove a e) p.call y t.model next.model
      → BindsPlace setup to w d x reply s.bound new.bound → BindsPlace setup to w e y other_reply t.bound next.bound
      → Next ours written (Under key (Move to w)) reply other_reply new next
  place_both key to w a d e (answers.SecondPlace u (Some q)) y same slots h k b c =
      let k2 = subst (λ z. Step setup (model.ProposeMove a e) p.call z t.model next.model) (sym same) k in
      given_at (Under key (Move to w)) to u w d e q refl (λ z. z) slots (placed setup a d u o.call q s.model new.model h) (placed setup a e u p.call q t.model next.model k2) b
      (subst (λ z. BindsPlace setup to w e z other_reply t.bound next.bound) (sym same) c)
  place_both key to w a d e (answers.SecondPlace u None) y same slots h k b c =
      let k2 = subst (λ z. Step setup (model.ProposeMove a e) p.call z t.model next.model) (sym same) k in
      let c2 = subst (λ z. BindsPlace setup to w e z other_reply t.bound next.bound) (sym same) c in
      next_at (Under key (Move to w)) NoPlace NoPlace b.0 c2.0 refl
      (alike_kept ours written setup s t new next kept kept_new alike b.1 c2.1 slots (not_placed setup a d u o.call s.model new.model h) (not_placed setup a e u p.call t.model next.model k2))
  place_both key to w a d e (answers.Error r) y same slots h k b c =
      let k2 = subst (λ z. Step setup (model.ProposeMove a e) p.call z t.model next.model) (sym same) k in
      let c2 = subst (λ z. BindsPlace setup to w e z other_reply t.bound next.bound) (sym same) c in
      next_at (Under key (Move to w)) (Error r) (Error r) b.0 c2.0 refl
      (alike_kept ours written setup s t new next kept kept_new alike b.1 c2.1 slots (move_refused setup a d o.call r s.model new.model h) (move_refused setup a e p.call r t.model next.model k2))
  place_both key to w a d e x y same slots h k b c = absurd b

  move_in_room : (key to : ℕ) (w : Wanted) (a b : Allocation) (room also : Bool) → room ≡ also → handle a ≡ handle b → ServesMoveTo setup to a w room o.call reply s new
      → ServesMoveTo setup to b w also p.call other_reply t next → Next ours written (Under key (Move to w)) reply other_reply new next
  move_in_room key to w a b false false e same h k = next_at (Under key (Move to w)) (Error host_out_of_memory) (Error host_out_of_memory) h.1 k.1 refl (unchanged h.2 k.2)
  move_in_room key to w a b true true e same h k =
      let step = move_as setup a b k.description p.call k.model_reply t.model next.model same k.step in
      let law = step_alike setup o.call p.call h.model_reply k.model_reply s.model new.model t.model next.model kept.sound alike.slots budgets met.call (model.ProposeMove a h.description)
      (model.ProposeMove a k.description)
      (refl, same_description h.description k.description w h.describes k.describes) h.step step in
      place_both key to w a h.description k.description h.model_reply k.model_reply law.0 law.1.0 h.step step h.binds k.binds
  move_in_room key to w a b false true e same h k = absurd (cc)
  move_in_room key to w a b true false e same h k = absurd (cc)

  -- ---- under a number

  stay_both : (command : SessionCommand) (x : SessionReply) → EqualButBytesAnswer ours written command x x →
      ((now : Alike ours written new next) → Alike ours (written_after command x written) new next)
      → (reply ≡ x) × Stays o s new → (other_reply ≡ x) × Stays p t next → Next ours written command reply other_reply new next
  stay_both command x same onward h k = next_at command x x h.0 k.0 same (onward (unchanged h.1.1 k.1.1))

  move_both : (key to : ℕ) (w : Wanted) (a b : Allocation) (x y : Option Allocation) → option_map handle x ≡ option_map handle y → handle a ≡ handle b → ServesMove setup to x a w o reply s new
      → ServesMove setup to y b w p other_reply t next → Next ours written (Under key (Move to w)) reply other_reply new next
  move_both key to w a b (Some c) (Some d) e same h k = stay_both (Under key (Move to w)) Busy refl (λ z. z) h k
  move_both key to w a b None None e same h k = move_in_room key to w a b o.room p.room met.room same h k
  move_both key to w a b None (Some d) e same h k = absurd (cc)
  move_both key to w a b (Some c) None e same h k = absurd (cc)

  free_both : (key : ℕ) (command to : KeyCommand) → EqualButBytesKeyCommand (ours key) command to → ServesUnbound setup key command o reply s new → ServesUnbound setup key to p other_reply t next →
      Next ours written (Under key command) reply other_reply new next
  free_both key (Alloc w) to e h k = take_both key w o.room p.room met.room h (subst (λ d. ServesUnbound setup key d p other_reply t next) (sym e) k)
  free_both key (Move place w) to e h k = stay_both (Under key (Move place w)) Unbound refl (λ z. z) h (subst (λ d. ServesUnbound setup key d p other_reply t next) (sym e) k)
  free_both key Null to e h k =
      let k2 = subst (λ d. ServesUnbound setup key d p other_reply t next) (sym e) k in
      null_both key o.room p.room met.room h.1 k2.1
  free_both key Free to e h k = stay_both (Under key Free) Unbound refl (λ z. z) h (subst (λ d. ServesUnbound setup key d p other_reply t next) (sym e) k)
  free_both key (Rename name) to e h k = stay_both (Under key (Rename name)) Unbound refl (λ z. z) h (subst (λ d. ServesUnbound setup key d p other_reply t next) (sym e) k)
  free_both key (Read at size) to e h k = stay_both (Under key (Read at size)) Unbound refl (λ z. z) h (subst (λ d. ServesUnbound setup key d p other_reply t next) (sym e) k)
  free_both key (Write at ws) (Write there vs) e h k = stay_both (Under key (Write at ws)) Unbound refl (λ z. z) h k
  free_both key command other e h k = absurd (cc)

  bound_both : (key : ℕ) (command to : KeyCommand) (a b : Allocation) → EqualButBytesKeyCommand (ours key) command to → handle a ≡ handle b → s.bound key ≡ Some a → ServesBound setup key a command o
      reply s new → ServesBound setup key b to p other_reply t next
      → Next ours written (Under key command) reply other_reply new next
  bound_both key (Alloc w) to a b e same found h k = stay_both (Under key (Alloc w)) Busy refl (λ z. z) h (subst (λ d. ServesBound setup key b d p other_reply t next) (sym e) k)
  bound_both key (Move place w) to a b e same found h k =
      move_both key place w a b (s.bound place) (t.bound place) (alike.bound place) same h (subst (λ d. ServesBound setup key b d p other_reply t next) (sym e) k)
  bound_both key Null to a b e same found h k = stay_both (Under key Null) Busy refl (λ z. z) h (subst (λ d. ServesBound setup key b d p other_reply t next) (sym e) k)
  bound_both key Free to a b e same found h k = return_both key a b same found h (subst (λ d. ServesBound setup key b d p other_reply t next) (sym e) k)
  bound_both key (Rename name) to a b e same found h k = rename_both key a b name same found h (subst (λ d. ServesBound setup key b d p other_reply t next) (sym e) k)
  bound_both key (Read at size) to a b e same found h k = get_both key at size a b same found h (subst (λ d. ServesBound setup key b d p other_reply t next) (sym e) k)
  bound_both key (Write at ws) (Write there vs) a b e same found h k = put_both key at ws vs a b e.1 e.2 same found h
      (subst (λ z. ServesBound setup key b (Write z vs) p other_reply t next) (sym e.0) k)
  bound_both key command other a b e same found h k = absurd (cc)

  under_both : (key : ℕ) (command to : KeyCommand) (x y : Option Allocation) → EqualButBytesKeyCommand (ours key) command to → option_map handle x ≡ option_map handle y → s.bound key ≡ x → ServesAt
      setup key x command o reply s new → ServesAt setup key y to p other_reply t next
      → Next ours written (Under key command) reply other_reply new next
  under_both key command to None None e same found h k = free_both key command to e h k
  under_both key command to (Some a) (Some b) e same found h k = bound_both key command to a b e (some_same (handle a) (handle b) same) found h k
  under_both key command to None (Some b) e same found h k = absurd (cc)
  under_both key command to (Some a) None e same found h k = absurd (cc)

  -- ---- what is shown and reply

  told_both : (x y : answers.Reply) (u v : SessionReply) → EqualButBytesReply x y → reply_by x ≡ Some u → reply_by y ≡ Some v → u ≡ v
  told_both (answers.Allocated i q) y u v same e f = absurd (none_some u e)
  told_both (answers.SecondPlace i place) y u v same e f = absurd (none_some u e)
  told_both (answers.Budget b) y u v same e f = absurd (none_some u e)
  told_both (answers.Bytes xs) y u v same e f = absurd (none_some u e)
  told_both x y u v same e f = some_same u v (sym e ∙ ap reply_by same ∙ f)

  asks_both : (call : model.Call) → ((o : CallEnvironment) (model_reply : answers.Reply) (old now : ModelState) → Step setup call o model_reply old now → now.byte_view ≡ old.byte_view)
      → ((x y : answers.Reply) → Step setup call o.call x s.model new.model → Step setup call p.call y t.model next.model → EqualButBytesReply x y × (new.model.slots ≡ next.model.slots))
      → Asks setup call o.call reply s new → Asks setup call p.call other_reply t next → (reply ≡ other_reply) × Alike ours written new next
  asks_both call stays law h k =
      let both = law h.model_reply k.model_reply h.step k.step in
      let one = stays o.call h.model_reply s.model new.model h.step in
      let two = stays p.call k.model_reply t.model next.model k.step in (
        told_both h.model_reply k.model_reply reply other_reply both.0 h.reply_is k.reply_is,
        alike_kept ours written setup s t new next kept kept_new alike h.bound k.bound both.1 one two,
      )

  lawful : (call : model.Call) → ((other : model.Call) → call ≡ other → EqualButBytesCall call other) → (x y : answers.Reply) → Step setup call o.call x s.model new.model → Step setup call p.call y
      t.model next.model
      → EqualButBytesReply x y × (new.model.slots ≡ next.model.slots)
  lawful call same x y h k =
      let once = step_alike setup o.call p.call x y s.model new.model t.model next.model kept.sound alike.slots budgets met.call call call (same call refl) h k in
      (once.0, once.1.0)

  step_next : (command other : SessionCommand) → EqualButBytesCommand ours command other → SessionServes setup command o reply s new → SessionServes setup other p other_reply t next → Next ours written command
      reply other_reply new next
  step_next (Under key command) (Under to deed2) e h k =
      let k2 = subst (λ z. SessionServes setup (Under z deed2) p other_reply t next) (sym e.0) k in
      under_both key command deed2 (s.bound key) (t.bound key) e.1 (alike.bound key) refl h k2
  step_next Report other e h k =
      let both = asks_both model.Report (λ z x y w a. ap (λ q. q.byte_view) (shown_same setup z x y w a)) (lawful model.Report (λ z f. f)) h
      (subst (λ z. SessionServes setup z p other_reply t next) (sym e) k) in
      record { reply_alike = both.0; alike = both.1 }
  step_next Leaks other e h k =
      let both = asks_both model.Leaks (λ z x y w a. ap (λ q. q.byte_view) (told_same setup z x y w a)) (lawful model.Leaks (λ z f. f)) h (subst (λ z. SessionServes setup z p other_reply t next) (sym e) k)
      in
      record { reply_alike = both.0; alike = both.1 }
  step_next Capacity other e h k =
      let both = asks_both model.Capacity (λ z x y w a. ap (λ q. q.byte_view) (summed_same setup z x y w a)) (lawful model.Capacity (λ z f. f)) h
      (subst (λ z. SessionServes setup z p other_reply t next) (sym e) k) in
      record { reply_alike = both.0; alike = both.1 }
  step_next (SetBudget u budget) other e h k =
      let call = model.SetBudget u budget in
      let both = asks_both call (budget_set_bytes setup u budget) (lawful call (λ z f. f)) h (subst (λ z. SessionServes setup z p other_reply t next) (sym e) k) in
      record { reply_alike = both.0; alike = both.1 }
  step_next command call e h k = absurd (cc)

-- ---- whole runs

runs_alike : (ours : ℕ → Bool) (written : Written) (setup : Setup) (s t end other_end : SessionState) (commands others : List SessionCommand) (o p : List CommandEnvironment)
    (reply other_reply : List SessionReply) → SessionInvariant setup s → Alike ours written s t → s.model.budgets ≡ t.model.budgets
    → AllZip (EqualButBytesCommand ours) commands others → AllZip EqualButBytesCommandEnvironment o p → Runs setup s commands o reply end → Runs setup t others p other_reply other_end →
    EqualButBytesReplies ours written commands reply other_reply
runs_alike ours written setup s t end other_end [] [] [] [] [] [] kept a same x c h k = tt
runs_alike ours written setup s t end other_end [] [] [] [] [] (v ∷ other_reply) kept a same x c h k = absurd k
runs_alike ours written setup s t end other_end [] [] [] (q ∷ p) reply other_reply kept a same x c h k = absurd c
runs_alike ours written setup s t end other_end [] (y ∷ others) o p reply other_reply kept a same x c h k = absurd x
runs_alike ours written setup s t end other_end (y ∷ commands) [] o p reply other_reply kept a same x c h k = absurd x
runs_alike ours written setup s t end other_end (y ∷ commands) (z ∷ others) (r ∷ o) [] reply other_reply kept a same x c h k = absurd c
runs_alike ours written setup s t end other_end (y ∷ commands) (z ∷ others) (r ∷ o) (q ∷ p) (u ∷ reply) [] kept a same x c h k = absurd k
runs_alike ours written setup s t end other_end (y ∷ commands) (z ∷ others) (r ∷ o) (q ∷ p) (u ∷ reply) (v ∷ other_reply) kept a same x c h k =
    let n = step_next ours written setup s t h.0 k.0 r q u v kept h.2 a same c.0 y z x.0 h.1 k.1 in
    let now = budgets_next ours setup s t h.0 k.0 r q u v kept.sound a.slots same c.0 y z x.0 h.1 k.1 in
    (n.reply_alike, runs_alike ours (written_after y u written) setup h.0 k.0 end other_end commands others o p reply other_reply h.2 n.alike now x.1 c.1 h.3 k.3)
runs_alike ours written setup s t end other_end d b y z w other_reply kept a same x c h k = absurd h

pub non_interference : NonInterference
non_interference ours setup start end other_end commands others o p reply other_reply kept x c h k =
    runs_alike ours everything setup start start end other_end commands others o p reply other_reply kept
    (record { bound = λ j. refl; slots = refl; sizes = λ q. refl; bytes = λ key a mine e live i w. refl }) refl x c h k
