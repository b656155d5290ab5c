-- Steps of a memory type as steps of what lies behind its handle.
use Rattle.std.proofs.Common.{◌≡◌, ℕ, ◌+◌, ◌<◌, ◌≤◌, ◌^◌, Bool, true, false, List, Option, Some, None, refl, sym, ap, ◌∙◌, subst, nat_eq}
use Rattle.std.specs.Prelude.{IsTrue}
use Rattle.std.proofs.lemmas.Bool.{eqb-true}
use Rattle.gpu_values.specs.Sizes.{Sizes}
use Rattle.gpu_values.specs.declared.allocation_type.AllocationType.{AllocationType}
use Rattle.gpu_block_pieces.specs.Request.{Request, request}
use Rattle.gpu_core.specs.TypeState.{Slot, TypeState, slot_at, capacity_of, fits_budget, KeepsOneEmptyAtMost}
use Rattle.gpu_core.specs.Slots.{AreSound}
use Rattle.gpu_core.specs.TypeTake.{has_dedicated_block, PreparesPiece, NeedsBlock, Installs}
use Rattle.gpu_core.specs.TypeRelease.{SlotHolds, IsLive, has_others, ReleasesPiece, RenamesPiece, SetsWordOf}
use Rattle.gpu_core.specs.declared.piece.Piece.{Piece}
use Rattle.gpu_core.specs.declared.need.NeedBlock.{NeedBlock}
use Rattle.gpu_c.specs.Request.{kind_named}
use Rattle.gpu_c.specs.MemoryType.{AwaitingState, state_of, type_of, memory_piece, memory_block, SlotHasPiece, IsLiveIn, asked_of_type, AllocatesPiece, AwaitsNeeded, Awaits, InstallsBy, InstallsAwaited}
use Rattle.gpu_c.specs.MemoryType.{FreesPiece, NamesMemory, SetsWord}
use Rattle.gpu_c.specs.declared.memory_type_values.MemoryRequest.{MemoryRequest}
use Rattle.gpu_c.specs.declared.memory_type_values.MemoryPiece.{MemoryPiece}
use Rattle.gpu_c.specs.declared.memory_type_values.MemoryBlock.{MemoryBlock}

-- what no step of a memory type changes, and what holds after each
pub record Stays (t t' : TypeState ℕ) : Type 0 where
  pub kind : (t'.is_host ≡ t.is_host) × (t'.granularity ≡ t.granularity)
  pub budget : t'.budget ≡ t.budget
  pub sound : AreSound t'.granularity t'.slots
  pub empty : KeepsOneEmptyAtMost t'.slots

-- then the state changes in its slots and in what is awaited alone
pub changed : (t t' : TypeState ℕ) (sizes : Sizes) (a a' b : Option NeedBlock) → Stays t t' → a' ≡ b → state_of t' sizes a' ≡ record (state_of t sizes a) { slots = t'.slots; awaited = b }
changed t t' sizes a a' b s e = λ i. record { is_host = s.kind.0 i; granularity = s.kind.1 i; slots = t'.slots; budget = s.budget i; sizes = sizes; awaited = e i }

-- ---- pieces

pub slot_has : (p : Piece ℕ) (s : Option (Slot ℕ)) → SlotHolds nat_eq p s → SlotHasPiece (memory_piece p) s
slot_has p None h = absurd h
slot_has p (Some s) h = (eqb-true s.handle p.handle h.0, h.1)

-- a live piece, as C sees it
pub live_memory_piece : (t : TypeState ℕ) (sizes : Sizes) (a : Option NeedBlock) (p : Piece ℕ) → IsLive nat_eq t.slots p → IsLiveIn (state_of t sizes a) (memory_piece p)
live_memory_piece t sizes a p h = (p.chunk_id.ok, slot_has p (slot_at t.slots p.slot) h)

-- ---- install, free, rename

pub installs_awaited : (old : AwaitingState) (t t' : TypeState ℕ) (sizes : Sizes) (a a' : Option NeedBlock) (need : NeedBlock) (number : ℕ) (p : Piece ℕ) (out : MemoryPiece)
    → state_of t sizes a ≡ old → a ≡ Some need → a' ≡ None → out ≡ memory_piece p → Installs t.slots need.dedicated need.room number p t'.slots → capacity_of t'.slots ≡ capacity_of t.slots +
    need.size → Stays t t'
    → InstallsAwaited old number out (state_of t' sizes a')
installs_awaited old t t' sizes a a' need number p out view awaited done reported installs capacity stays =
    subst (λ (s : AwaitingState). InstallsAwaited s number out (state_of t' sizes a')) view
    (subst (λ (b : Option NeedBlock). InstallsBy b (state_of t sizes a) number out (state_of t' sizes a')) (sym awaited)
    (record { piece = p; reported = reported; installs = installs; capacity = capacity; formed = record { sound = stays.sound; empty = stays.empty }; same = changed t t' sizes a a' None stays done }))

pub frees_piece : (old : AwaitingState) (t t' : TypeState ℕ) (sizes : Sizes) (a : Option NeedBlock) (p : Piece ℕ) (cp : MemoryPiece) (went : Option ℕ) (gone : MemoryBlock)
    → state_of t sizes a ≡ old → a ≡ None → memory_piece p ≡ cp → IsLive nat_eq t.slots p → ReleasesPiece (IsTrue (has_others t.slots)) t.slots p went t'.slots → gone ≡ memory_block went → capacity_of
    t'.slots ≤ capacity_of t.slots → Stays t t'
    → FreesPiece old cp gone (state_of t' sizes a)
frees_piece old t t' sizes a p cp went gone view idle named live releases reported capacity stays =
    subst (λ (s : AwaitingState). FreesPiece s cp gone (state_of t' sizes a)) view
    (subst (λ (q : MemoryPiece). FreesPiece (state_of t sizes a) q gone (state_of t' sizes a)) named
    (record {
      idle = idle;
      live = live_memory_piece t sizes a p live;
      piece = p;
      named = refl;
      went = went;
      releases = releases;
      reported = reported;
      capacity = capacity;
      formed = record
          { sound = stays.sound; empty = stays.empty };
      same = changed t t' sizes a a a stays refl;
    }))

pub names_memory : (old : AwaitingState) (t t' : TypeState ℕ) (sizes : Sizes) (a : Option NeedBlock) (p : Piece ℕ) (cp : MemoryPiece) (name : List ℕ)
    → state_of t sizes a ≡ old → a ≡ None → memory_piece p ≡ cp → IsLive nat_eq t.slots p → RenamesPiece t.slots p name t'.slots → capacity_of t'.slots ≡ capacity_of t.slots → Stays t t'
    → NamesMemory old cp name (state_of t' sizes a)
names_memory old t t' sizes a p cp name view idle named live renames capacity stays =
    subst (λ (s : AwaitingState). NamesMemory s cp name (state_of t' sizes a)) view
    (subst (λ (q : MemoryPiece). NamesMemory (state_of t sizes a) q name (state_of t' sizes a)) named
    (record {
      idle = idle;
      live = live_memory_piece t sizes a p live;
      piece = p;
      named = refl;
      renames = renames;
      capacity = capacity;
      formed = record { sound = stays.sound; empty = stays.empty };
      same =
          changed t t' sizes a a a stays refl;
    }))

pub words_memory : (old : AwaitingState) (t t' : TypeState ℕ) (sizes : Sizes) (a : Option NeedBlock) (p : Piece ℕ) (cp : MemoryPiece) (word : ℕ)
    → state_of t sizes a ≡ old → a ≡ None → memory_piece p ≡ cp → IsLive nat_eq t.slots p → SetsWordOf t.slots p word t'.slots → capacity_of t'.slots ≡ capacity_of t.slots → Stays t t'
    → SetsWord old cp word (state_of t' sizes a)
words_memory old t t' sizes a p cp word view idle named live sets capacity stays =
    subst (λ (s : AwaitingState). SetsWord s cp word (state_of t' sizes a)) view
    (subst (λ (q : MemoryPiece). SetsWord (state_of t sizes a) q word (state_of t' sizes a)) named
    (record {
      idle = idle;
      live = live_memory_piece t sizes a p live;
      piece = p;
      named = refl;
      sets = sets;
      capacity = capacity;
      formed = record { sound = stays.sound; empty = stays.empty };
      same = changed t t' sizes a a a stays refl;
    }))

-- ---- prepare

-- what is asked of the type is what C asked
pub same_request : (r : MemoryRequest) (name name' : List ℕ) (kind : AllocationType) → kind ≡ kind_named r.kind → name' ≡ name → request r.size r.alignment kind name' ≡ asked_of_type r name
same_request r name name' kind k n = λ i. record { size = r.size; alignment = r.alignment; kind = k i; name = n i }

-- nothing is awaited
pub is_idle : (old : AwaitingState) (t : TypeState ℕ) (sizes : Sizes) (a : Option NeedBlock) → state_of t sizes a ≡ old → a ≡ None → old.awaited ≡ None
is_idle old t sizes a view idle = ap (λ (s : AwaitingState). s.awaited) (sym view) ∙ idle

pub allocates_piece : (old : AwaitingState) (t t' : TypeState ℕ) (sizes : Sizes) (a : Option NeedBlock) (r : MemoryRequest) (name : List ℕ) (s : Request) (p : Piece ℕ) (out : MemoryPiece)
    → state_of t sizes a ≡ old → s ≡ asked_of_type r name → out ≡ memory_piece p → has_dedicated_block t sizes r.dedicated r.size ≡ false → PreparesPiece t.slots s p t'.slots → capacity_of t'.slots ≡
    capacity_of t.slots → Stays t t'
    → AllocatesPiece old r name out (state_of t' sizes a)
allocates_piece old t t' sizes a r name s p out view same reported shared takes capacity stays =
    subst (λ (z : AwaitingState). AllocatesPiece z r name out (state_of t' sizes a)) view
    (record {
      piece = p;
      reported = reported;
      shared = shared;
      takes = subst (λ (q : Request). PreparesPiece t.slots q p t'.slots) same takes;
      capacity = capacity;
      formed = record
          { sound = stays.sound; empty = stays.empty };
      same = changed t t' sizes a a a stays refl;
    })

pub needs_block : (t : TypeState ℕ) (sizes : Sizes) (a : Option NeedBlock) (r : MemoryRequest) (s : Request) (need : NeedBlock)
    → NeedsBlock t sizes r.dedicated s need.size need.dedicated need.room → NeedsBlock (type_of (state_of t sizes a)) sizes r.dedicated s need.size need.dedicated need.room
needs_block t sizes a r s need h = record { kind = h.kind; size_is = h.size_is; none = h.none; takes = h.takes; piece = h.piece; begins = h.begins }

pub awaits_needed : (old : AwaitingState) (r : MemoryRequest) (name : List ℕ) (size : ℕ) (is_dedicated : Bool) (a : Option NeedBlock) (need : NeedBlock)
    → a ≡ Some need → size ≡ need.size → is_dedicated ≡ need.dedicated → NeedsBlock (type_of old) old.sizes r.dedicated (asked_of_type r name) need.size need.dedicated need.room
    → AwaitsNeeded old r name size is_dedicated a
awaits_needed old r name size is_dedicated a need e es ed h = subst (λ (b : Option NeedBlock). AwaitsNeeded old r name size is_dedicated b) (sym e) (sym es, sym ed, h)

pub awaits : (old : AwaitingState) (t t' : TypeState ℕ) (sizes : Sizes) (a a' : Option NeedBlock) (r : MemoryRequest) (name : List ℕ) (s : Request) (need : NeedBlock) (size : ℕ) (is_dedicated : Bool)
    → state_of t sizes a ≡ old → s ≡ asked_of_type r name → a' ≡ Some need → size ≡ need.size → is_dedicated ≡ need.dedicated
    → NeedsBlock t sizes r.dedicated s need.size need.dedicated need.room → t'.slots ≡ t.slots → Stays t t'
    → (capacity_of t'.slots + need.size < 2 ^ 64) × (fits_budget t'.budget (capacity_of t'.slots + need.size) ≡ true)
    → Awaits old r name size is_dedicated (state_of t' sizes a')
awaits old t t' sizes a a' r name s need size is_dedicated view same e es ed needs slots stays fits =
    let cap : capacity_of t'.slots + need.size ≡ capacity_of t.slots + size = ap (λ (xs : List (Option (Slot ℕ))). capacity_of xs + need.size) slots ∙ ap (λ (n : ℕ). capacity_of t.slots + n) (sym es)
    in
    subst (λ (z : AwaitingState). Awaits z r name size is_dedicated (state_of t' sizes a')) view
    (record {
      needed = awaits_needed (state_of t sizes a) r name size is_dedicated a' need e es ed
          (needs_block t sizes a r (asked_of_type r name) need (subst (λ (q : Request). NeedsBlock t sizes r.dedicated q need.size need.dedicated need.room) same needs));
      fits = subst (λ (n : ℕ). n < 2 ^ 64) cap fits.0;
      in_budget = subst (λ (b : Option ℕ). fits_budget b (capacity_of t.slots + size) ≡ true) stays.budget (subst (λ (n : ℕ). fits_budget t'.budget n ≡ true) cap fits.1);
      same = λ i. record { is_host = stays.kind.0 i; granularity = stays.kind.1 i; slots = slots i; budget = stays.budget i; sizes = sizes; awaited = a' };
    })
