-- What the allocator's steps do to the lists of live pieces.
use Rattle.std.proofs.Common.{◌≡◌, ◌∙◌, ℕ, List, length, Option, Some, None, Ok, Err, Result, Bool, true, false, refl, sym, ap, subst}
use Rattle.std.specs.Prelude.{if◌then◌else◌}
use Rattle.std.specs.Option.{option_map}
use Rattle.std.specs.declared.num.NonZeroU64.{NonZeroU64}
use Rattle.gpu_values.specs.Refusal.{Refusal}
use Rattle.gpu_core.specs.declared.piece.Piece.{Piece}
use Rattle.gpu_device.specs.declared.vulkan.types.DeviceMemory.{DeviceMemory}
use Rattle.gpu_vulkan.specs.Allocate.{is_valid}
use Rattle.gpu_vulkan.specs.Attempt.{AttemptEnvironment, Asked, Answer}
use Rattle.gpu_vulkan.specs.Types.{is_mapped}
use Rattle.gpu_vulkan.specs.ByteView.{AllocationId, is_same_id, ByteView, IsOutOf, SplitsRest}
use Rattle.gpu_vulkan.specs.Live.{piece_of}
use Rattle.gpu_vulkan.specs.Setup.{Setup}
use Rattle.gpu_vulkan.specs.Reply as answers
use Rattle.gpu_vulkan.specs.Step.{ModelState, CallEnvironment, Step, Allocate, Free, Rename, ProposeMove, Report, Leaks, Capacity, SetBudget, Place, is_again, BytesPlaced, MoveStep}
use Rattle.gpu_vulkan.specs.Step.{id_in, id_of, BytesAfter, AttemptStep, Follows, next_by, FoundStep, AllocateStep, MayDrop, FreeStep, reply_of}
use Rattle.gpu_vulkan.specs.declared.allocation.Allocation.{Allocation}
use Rattle.gpu_vulkan.specs.declared.describe.AllocationCreateDesc.{AllocationCreateDesc}
use Rattle.gpu_vulkan.proofs.OneStep.{rename_rest}

-- a place of a live piece comes in, with a list of that size where its memory is mapped
pub record Gained (mapped : Bool) (q : AllocationId) (size : ℕ) (old new : ByteView) : Type 0 where
  pub here : option_map length (new.allocation_bytes q) ≡ (if mapped then Some size else None)
  pub others : (r : AllocationId) → is_same_id q r ≡ false → new.allocation_bytes r ≡ old.allocation_bytes r

-- a place of a live piece goes
pub record Lost (q : AllocationId) (old new : ByteView) : Type 0 where
  pub gone : new.allocation_bytes q ≡ None
  pub others : (r : AllocationId) → is_same_id q r ≡ false → new.allocation_bytes r ≡ old.allocation_bytes r

as_long_as : (mapped : Bool) (rest : ℕ → Option ℕ) (start size : ℕ) (list : Option (List ℕ)) → IsOutOf mapped rest start size list → option_map length list ≡ (if mapped then Some size else None)
as_long_as false rest start size list h = ap (option_map length) h
as_long_as true rest start size None h = absurd h
as_long_as true rest start size (Some xs) h = ap Some h.0

taken_out : (mapped : Bool) (q : AllocationId) (start size : ℕ) (old mid new : ByteView) → ((r : AllocationId) → mid.allocation_bytes r ≡ old.allocation_bytes r) → SplitsRest mapped q start size mid
    new → Gained mapped q size old new
taken_out mapped q start size old mid new same t = record {
  here = as_long_as mapped (mid.unallocated_bytes q.memory_type q.slot) start size (new.allocation_bytes q) t.list;
  others = λ r apart. t.others r apart ∙ same r;
}

attempt_gained : (mapped : Bool) (t : ℕ) (asked : Option Asked) (p : Piece DeviceMemory) (old new : ByteView) → BytesAfter mapped t asked (Ok p) old new → Gained mapped (id_in t p) p.size old new
attempt_gained mapped t None p old new h = taken_out mapped (id_in t p) p.offset p.size old old new (λ r. refl) h
attempt_gained mapped t (Some a) p old new h = taken_out mapped (id_in t p) p.offset p.size old h.0 new h.1.allocation_bytes h.2

-- a refused attempt leaves the bytes
attempt_refused : (mapped : Bool) (t : ℕ) (asked : Option Asked) (r : Refusal) (old new : ByteView) → BytesAfter mapped t asked (Err r) old new → new ≡ old
attempt_refused mapped t None r old new h = h
attempt_refused mapped t (Some a) r old new h = h

given_same : (t u : ℕ) (p q : Piece DeviceMemory) → answers.Allocated t p ≡ answers.Allocated u q → (t ≡ u) × (p ≡ q)
given_same t u p q e = (cc, cc)

given_fails : {A : Type 0} (t : ℕ) (p : Piece DeviceMemory) (r : Refusal) → answers.Allocated t p ≡ answers.Error r → A
given_fails t p r e = absurd (cc)

fails_given : {A : Type 0} (t : ℕ) (p : Piece DeviceMemory) (r : Refusal) → answers.Error r ≡ answers.Allocated t p → A
fails_given t p r e = absurd (cc)

module _ (setup : Setup) (d : AllocationCreateDesc) where
  -- an attempt that gives what was told
  given_by : (u t : ℕ) (o : AttemptEnvironment) (answer : Answer) (p : Piece DeviceMemory) (old new : ModelState) → answers.Allocated t p ≡ reply_of u answer → AttemptStep setup u d o answer old new
      → Gained (is_mapped setup.properties t) (id_in t p) p.size old.byte_view new.byte_view
  given_by u t o (Ok q) p old new e a =
      let same = given_same t u p q e in
      let here = attempt_gained (is_mapped setup.properties u) u o.asked q old.byte_view new.byte_view a.bytes in
      let G : ℕ → Type 0 = λ x. Gained (is_mapped setup.properties x) (id_in x q) q.size old.byte_view new.byte_view in
      let H : Piece DeviceMemory → Type 0 = λ x. Gained (is_mapped setup.properties t) (id_in t x) x.size old.byte_view new.byte_view in
      subst H (sym same.1) (subst G (sym same.0) here)
  given_by u t o (Err r) p old new e a = given_fails t p r e

  given_after : (next : Option ℕ) (t u : ℕ) (o : AttemptEnvironment) (r : Refusal) (p : Piece DeviceMemory) (old mid new : ModelState) → mid.byte_view ≡ old.byte_view → Follows setup d next o u
      (Err r) mid (answers.Allocated t p) new
      → Gained (is_mapped setup.properties t) (id_in t p) p.size old.byte_view new.byte_view
  given_after None t u o r p old mid new same f = given_fails t p r f.1
  given_after (Some v) t u o r p old mid new same f =
      let G : ByteView → Type 0 = λ b. Gained (is_mapped setup.properties t) (id_in t p) p.size b new.byte_view in
      subst G same (given_by v t o f.0 p mid new f.2 f.1)

  served_given : (u t : ℕ) (o : CallEnvironment) (answer : Answer) (p : Piece DeviceMemory) (old mid new : ModelState) → AttemptStep setup u d o.first answer old mid
      → Follows setup d (next_by setup d answer) o.second u answer mid (answers.Allocated t p) new → Gained (is_mapped setup.properties t) (id_in t p) p.size old.byte_view new.byte_view
  served_given u t o (Ok q) p old mid new a f =
      let G : ModelState → Type 0 = λ s. Gained (is_mapped setup.properties t) (id_in t p) p.size old.byte_view s.byte_view in
      subst G (sym f.2) (given_by u t o.first (Ok q) p old mid f.1 a)
  served_given u t o (Err r) p old mid new a f =
      given_after (next_by setup d (Err r)) t u o.second r p old mid new (attempt_refused (is_mapped setup.properties u) u o.first.asked r old.byte_view mid.byte_view a.bytes) f

  found_given : (found : Option ℕ) (t : ℕ) (o : CallEnvironment) (p : Piece DeviceMemory) (old new : ModelState) → FoundStep setup d found o (answers.Allocated t p) old new
      → Gained (is_mapped setup.properties t) (id_in t p) p.size old.byte_view new.byte_view
  found_given None t o p old new h = given_fails t p _ h.reply_is
  found_given (Some u) t o p old new h = served_given u t o h.answer p old h.mid new h.attempt h.follows

  valid_given : (valid : Bool) (t : ℕ) (o : CallEnvironment) (p : Piece DeviceMemory) (old new : ModelState) → AllocateStep setup d valid o (answers.Allocated t p) old new
      → Gained (is_mapped setup.properties t) (id_in t p) p.size old.byte_view new.byte_view
  valid_given false t o p old new h = given_fails t p _ h.reply_is
  valid_given true t o p old new h = found_given _ t o p old new h

  pub gained : (t : ℕ) (o : CallEnvironment) (p : Piece DeviceMemory) (old new : ModelState) → Step setup (Allocate d) o (answers.Allocated t p) old new
      → Gained (is_mapped setup.properties t) (id_in t p) p.size old.byte_view new.byte_view
  gained t o p old new h = valid_given (is_valid d) t o p old new h

  -- ---- a refusal leaves the bytes

  failed_by : (u : ℕ) (o : AttemptEnvironment) (answer : Answer) (r : Refusal) (old new : ModelState) → answers.Error r ≡ reply_of u answer → AttemptStep setup u d o answer old new → new.byte_view ≡
      old.byte_view
  failed_by u o (Ok q) r old new e a = fails_given u q r e
  failed_by u o (Err s) r old new e a = attempt_refused (is_mapped setup.properties u) u o.asked s old.byte_view new.byte_view a.bytes

  failed_after : (next : Option ℕ) (u : ℕ) (o : AttemptEnvironment) (s r : Refusal) (old mid new : ModelState) → mid.byte_view ≡ old.byte_view
      → Follows setup d next o u (Err s) mid (answers.Error r) new
      → new.byte_view ≡ old.byte_view
  failed_after None u o s r old mid new same f = ap (λ x. x.byte_view) f.2 ∙ same
  failed_after (Some v) u o s r old mid new same f = failed_by v o f.0 r mid new f.2 f.1 ∙ same

  served_failed : (u : ℕ) (o : CallEnvironment) (answer : Answer) (r : Refusal) (old mid new : ModelState) → AttemptStep setup u d o.first answer old mid
      → Follows setup d (next_by setup d answer) o.second u answer mid (answers.Error r) new → new.byte_view ≡ old.byte_view
  served_failed u o (Ok q) r old mid new a f = fails_given u q r f.1
  served_failed u o (Err s) r old mid new a f =
      failed_after (next_by setup d (Err s)) u o.second s r old mid new (attempt_refused (is_mapped setup.properties u) u o.first.asked s old.byte_view mid.byte_view a.bytes) f

  found_failed : (found : Option ℕ) (o : CallEnvironment) (r : Refusal) (old new : ModelState) → FoundStep setup d found o (answers.Error r) old new → new.byte_view ≡ old.byte_view
  found_failed None o r old new h = ap (λ x. x.byte_view) h.same
  found_failed (Some u) o r old new h = served_failed u o h.answer r old h.mid new h.attempt h.follows

  valid_failed : (valid : Bool) (o : CallEnvironment) (r : Refusal) (old new : ModelState) → AllocateStep setup d valid o (answers.Error r) old new → new.byte_view ≡ old.byte_view
  valid_failed false o r old new h = ap (λ x. x.byte_view) h.same
  valid_failed true o r old new h = found_failed _ o r old new h

  pub not_gained : (o : CallEnvironment) (r : Refusal) (old new : ModelState) → Step setup (Allocate d) o (answers.Error r) old new → new.byte_view ≡ old.byte_view
  not_gained o r old new h = valid_failed (is_valid d) o r old new h

-- ---- a second place

placed_fails : {A : Type 0} (u : ℕ) (x : Option (Piece DeviceMemory)) (r : Refusal) → answers.SecondPlace u x ≡ answers.Error r → A
placed_fails u x r e = absurd (cc)

fails_placed : {A : Type 0} (u : ℕ) (x : Option (Piece DeviceMemory)) (r : Refusal) → answers.Error r ≡ answers.SecondPlace u x → A
fails_placed u x r e = absurd (cc)

placed_is : (t u : ℕ) (answer : Place) (x : Option (Piece DeviceMemory)) → answers.SecondPlace u x ≡ answers.placed_with t answer → (t ≡ u) × (answer ≡ Ok x)
placed_is t u (Ok y) x e = (cc, cc)
placed_is t u (Err r) x e = placed_fails u x r e

failed_is : (t : ℕ) (answer : Place) (r : Refusal) → answers.Error r ≡ answers.placed_with t answer → answer ≡ Err r
failed_is t (Ok x) r e = fails_placed t x r e
failed_is t (Err s) r e = (cc)

module _ (setup : Setup) (a : Allocation) (d : AllocationCreateDesc) where
  placed_by : (again : Bool) (u : ℕ) (o : CallEnvironment) (x : Option (Piece DeviceMemory)) (old new : ModelState) → MoveStep setup a d again o (answers.SecondPlace u x) old new
      → BytesPlaced (is_mapped setup.properties u) u (Ok x) old.byte_view new.byte_view
  placed_by false u o x old new h = placed_fails u x _ h.reply_is
  placed_by true u o x old new h =
      let is = placed_is a.memory_type_index u h.1 x h.2 in
      let bytes = subst (λ z. BytesPlaced (is_mapped setup.properties a.memory_type_index) a.memory_type_index z old.byte_view new.byte_view) is.1 h.3.bytes in
      subst (λ z. BytesPlaced (is_mapped setup.properties z) z (Ok x) old.byte_view new.byte_view) is.0 bytes

  -- a second place is gained as a new piece is
  pub placed : (u : ℕ) (o : CallEnvironment) (q : Piece DeviceMemory) (old new : ModelState) → Step setup (ProposeMove a d) o (answers.SecondPlace u (Some q)) old new
      → Gained (is_mapped setup.properties u) (id_in u q) q.size old.byte_view new.byte_view
  placed u o q old new h =
      taken_out (is_mapped setup.properties u) (id_in u q) q.offset q.size old.byte_view old.byte_view new.byte_view (λ r. refl) (placed_by (is_again a.size d) u o (Some q) old new h)

  -- where there is none, or none was looked for, no byte changes
  pub not_placed : (u : ℕ) (o : CallEnvironment) (old new : ModelState) → Step setup (ProposeMove a d) o (answers.SecondPlace u None) old new → new.byte_view ≡ old.byte_view
  not_placed u o old new h = placed_by (is_again a.size d) u o None old new h

  refused_by : (again : Bool) (o : CallEnvironment) (r : Refusal) (old new : ModelState) → MoveStep setup a d again o (answers.Error r) old new → new.byte_view ≡ old.byte_view
  refused_by false o r old new h = ap (λ x. x.byte_view) h.same
  refused_by true o r old new h =
      subst (λ z. BytesPlaced (is_mapped setup.properties a.memory_type_index) a.memory_type_index z old.byte_view new.byte_view) (failed_is a.memory_type_index h.1 r h.2) h.3.bytes

  pub move_refused : (o : CallEnvironment) (r : Refusal) (old new : ModelState) → Step setup (ProposeMove a d) o (answers.Error r) old new → new.byte_view ≡ old.byte_view
  move_refused o r old new h = refused_by (is_again a.size d) o r old new h

-- ---- places

-- the place of a piece's allocation is the piece's
place_by : (a : Allocation) (chunk : Option NonZeroU64) (p : Piece DeviceMemory) → a.chunk_id ≡ chunk → piece_of a ≡ Some p → id_of a ≡ id_in a.memory_type_index p
place_by a None p e is = absurd (let f = sym (ap (λ n. piece_of (record a { chunk_id = n })) e) ∙ is in cc)
place_by a (Some n) p e is =
    let there : piece_of (record a { chunk_id = Some n }) ≡ Some p = sym (ap (λ c. piece_of (record a { chunk_id = c })) e) ∙ is in
    let q : Piece DeviceMemory = record { slot = a.memory_block_index; chunk_id = n; offset = a.offset; size = a.size; handle = a.device_memory } in
    let same : q ≡ p = (let f : Some q ≡ Some p = there in cc) in
    ap (λ c. id_of (record a { chunk_id = c })) e ∙ ap (id_in a.memory_type_index) same

pub place_piece : (a : Allocation) (p : Piece DeviceMemory) → piece_of a ≡ Some p → id_of a ≡ id_in a.memory_type_index p
place_piece a p is = place_by a a.chunk_id p refl is

-- a piece's allocation is as long as the piece
size_by : (a : Allocation) (chunk : Option NonZeroU64) (p : Piece DeviceMemory) → a.chunk_id ≡ chunk → piece_of a ≡ Some p → a.size ≡ p.size
size_by a None p e is = absurd (let f = sym (ap (λ n. piece_of (record a { chunk_id = n })) e) ∙ is in cc)
size_by a (Some n) p e is =
    let there : piece_of (record a { chunk_id = Some n }) ≡ Some p = sym (ap (λ c. piece_of (record a { chunk_id = c })) e) ∙ is in
    let q : Piece DeviceMemory = record { slot = a.memory_block_index; chunk_id = n; offset = a.offset; size = a.size; handle = a.device_memory } in
    let same : q ≡ p = (let f : Some q ≡ Some p = there in cc) in
    ap (λ r. r.size) same

pub size_piece : (a : Allocation) (p : Piece DeviceMemory) → piece_of a ≡ Some p → a.size ≡ p.size
size_piece a p is = size_by a a.chunk_id p refl is

-- ---- a free

dropped : (t i : ℕ) (went : Option DeviceMemory) (mid new : ByteView) → MayDrop t i went mid new → (r : AllocationId) → new.allocation_bytes r ≡ mid.allocation_bytes r
dropped t i None mid new h r = ap (λ b. b.allocation_bytes r) h
dropped t i (Some m) mid new h r = h.allocation_bytes r

done_is_ok : (x : Result (Unit {0}) Refusal) → answers.Done ≡ answers.done_with x → x ≡ Ok tt
done_is_ok (Ok u) e = refl
done_is_ok (Err r) e = absurd (cc)

-- a free that is done
pub freed : (setup : Setup) (a : Allocation) (o : CallEnvironment) (old new : ModelState) → Step setup (Free a) o answers.Done old new → FreeStep setup a.memory_type_index (piece_of a) (Ok tt) old new
freed setup a o old new step = subst (λ x. FreeStep setup a.memory_type_index (piece_of a) x old new) (done_is_ok step.1 step.2) step.3

pub lost : (setup : Setup) (a : Allocation) (o : CallEnvironment) (p : Piece DeviceMemory) (old new : ModelState) → Step setup (Free a) o answers.Done old new → piece_of a ≡ Some p → Lost
    (id_in a.memory_type_index p) old.byte_view new.byte_view
lost setup a o p old new step is =
    let release = subst (λ z. FreeStep setup a.memory_type_index z (Ok tt) old new) is (freed setup a o old new step) in
    let same = dropped a.memory_type_index p.slot release.frees.went release.mid new.byte_view release.drops in
    record {
      gone = same (id_in a.memory_type_index p) ∙ release.back.gone;
      others = λ r apart. same r ∙ release.back.others r apart;
    }

-- ---- what changes no byte

pub named_bytes : (setup : Setup) (a : Allocation) (name : List ℕ) (o : CallEnvironment) (reply : answers.Reply) (old new : ModelState) → Step setup (Rename a name) o reply old new → new.byte_view ≡
    old.byte_view
named_bytes setup a name o reply old new h = (rename_rest setup a.memory_type_index (piece_of a) name o.first.host h.1 old new h.3).byte_view

pub shown_same : (setup : Setup) (o : CallEnvironment) (reply : answers.Reply) (old new : ModelState) → Step setup Report o reply old new → new ≡ old
shown_same setup o reply old new h = h.4

pub told_same : (setup : Setup) (o : CallEnvironment) (reply : answers.Reply) (old new : ModelState) → Step setup Leaks o reply old new → new ≡ old
told_same setup o reply old new h = h.4

pub summed_same : (setup : Setup) (o : CallEnvironment) (reply : answers.Reply) (old new : ModelState) → Step setup Capacity o reply old new → new ≡ old
summed_same setup o reply old new h = h.2

pub budget_set_bytes : (setup : Setup) (t : ℕ) (budget : Option ℕ) (o : CallEnvironment) (reply : answers.Reply) (old new : ModelState)
    → Step setup (SetBudget t budget) o reply old new → new.byte_view ≡ old.byte_view
budget_set_bytes setup t budget o reply old new h = h.4.byte_view
