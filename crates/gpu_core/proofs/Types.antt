-- One memory type changes among all.
use Rattle.std.proofs.Common.{◌≡◌, ◌≢◌, ◌∙◌, ◌⊎◌, refl, sym, ap, subst, ℕ, zero, suc, ◌+◌, ◌<◌, ◌≤◌, Bool, List, [], ◌∷◌, length, slice_get, slice_set, Option, Some, arith, inl, inr, ⊎_elim, ◌^◌}
use Rattle.std.specs.Prelude.{All}
use Rattle.std.specs.Option.{option_map}
use Rattle.std.proofs.lemmas.Bool.{cases_lt}
use Rattle.std.proofs.lemmas.List.{map-set, set-get_or, length-map}
use Rattle.std.proofs.lemmas.List.Elements.{All-nil, All-cons, All-head, All-tail}
use Rattle.std.proofs.lemmas.List.Sums.{sum_by-cons}
use Rattle.std.proofs.lemmas.Option.{slice_get-map, slice_get-get_or, get_or_from_slice_get}
use Rattle.std.proofs.Math.Seq.{map-set_same}
use Rattle.gpu_core.specs.TypeState.{TypeState, Slot, capacity_of, KeepsOneEmptyAtMost}
use Rattle.gpu_core.specs.Slots.{AreSound}
use Rattle.gpu_core.specs.Blocks.{Slots, slots_at, total_capacity, BlocksWellFormed, EachKeepsOneEmptyAtMost}
use Rattle.gpu_core.specs.Budgets.{budgets}
use Rattle.gpu_core.specs.Types.{Types, slots_of, kinds, type_of, no_type, MemoryTypesInvariant}
use Rattle.gpu_core.proofs.Options.{none_some, some_same}

abbrev kind : {H : Type 0} → TypeState H → Bool × ℕ
kind t = (t.is_host, t.granularity)

abbrev pub WellFormed : {H : Type 0} → TypeState H → Type 0
WellFormed t = AreSound t.granularity t.slots

abbrev pub OneEmpty : {H : Type 0} → TypeState H → Type 0
OneEmpty t = KeepsOneEmptyAtMost t.slots

-- no slots have no empty block
pub none_empty : {H : Type 0} → KeepsOneEmptyAtMost {H = H} []
none_empty = record { one = λ i j here there. absurd here; whole = λ i here. absurd here }

pub kinds_set : {H : Type 0} (types : Types H) (i : ℕ) (old new : TypeState H) → slice_get types i ≡ Some old
    → new.is_host ≡ old.is_host → new.granularity ≡ old.granularity → kinds (slice_set types i new) ≡ kinds types
kinds_set types i old new at host pages =
    map-set_same kind types i new old
    (ap (λ b. (b, new.granularity)) host ∙ ap (λ n. (old.is_host, n)) pages ∙ sym (ap kind (get_or_from_slice_get types i old old at)))

pub budgets_set : {H : Type 0} (types : Types H) (i : ℕ) (old new : TypeState H) → slice_get types i ≡ Some old → new.budget ≡ old.budget → budgets (slice_set types i new) ≡ budgets types
budgets_set {H} types i old new at same =
    map-set_same (λ (t : TypeState H). t.budget) types i new no_type (same ∙ sym (ap (λ (t : TypeState H). t.budget) (get_or_from_slice_get types i old no_type at)))

pub slots_set : {H : Type 0} (types : Types H) (i : ℕ) (new : TypeState H) → slots_of (slice_set types i new) ≡ slice_set (slots_of types) i new.slots
slots_set types i new = map-set _ types i new

-- the slots of a type after those of one were set
pub slots_after : {H : Type 0} (ss : Slots H) (i : ℕ) (x : List (Option (Slot H))) (t : ℕ) → i < length ss
    → ((t ≡ i) × (slots_at (slice_set ss i x) t ≡ x)) ⊎ ((t ≢ i) × (slots_at (slice_set ss i x) t ≡ slots_at ss t))
slots_after [] i x t below = absurd (omega (arith, below))
slots_after (s ∷ ss) zero x zero below = inl (refl, refl)
slots_after (s ∷ ss) zero x (suc t) below = inr (λ e. absurd (omega (arith, e)), refl)
slots_after (s ∷ ss) (suc i) x zero below = inr (λ e. absurd (omega (arith, e)), refl)
slots_after (s ∷ ss) (suc i) x (suc t) below =
    ⊎_elim (λ h. inl (ap suc h.0, h.1)) (λ h. inr (λ e. h.0 (omega (arith, e)), h.1)) (slots_after ss i x t (omega (arith, below)))

pub well_formed_set : {H : Type 0} (pages : ℕ) (ss : Slots H) (i : ℕ) (x : List (Option (Slot H))) → i < length ss → AreSound pages x → BlocksWellFormed pages ss
    → BlocksWellFormed pages (slice_set ss i x)
well_formed_set pages ss i x below sound all t =
    ⊎_elim (λ h. subst (AreSound pages) (sym h.1) sound) (λ h. subst (AreSound pages) (sym h.1) (all t)) (slots_after ss i x t below)

pub slots_are : {H : Type 0} (types : Types H) (i : ℕ) (t : TypeState H) → slice_get types i ≡ Some t → t.slots ≡ slots_at (slots_of types) i
slots_are {H} types i t at =
    sym (get_or_from_slice_get (slots_of types) i t.slots [] (slice_get-map _ types i ∙ ap (option_map (λ (s : TypeState H). s.slots)) at))

-- the type at an index is the one that stands there
pub type_is : {H : Type 0} (types : Types H) (i : ℕ) (t : TypeState H) → slice_get types i ≡ Some t → type_of types i ≡ t
type_is types i t at = get_or_from_slice_get types i t no_type at

-- slots that are set again as they were
pub slots_same : {H : Type 0} (ss : Slots H) (i : ℕ) → slice_set ss i (slots_at ss i) ≡ ss
slots_same ss i = set-get_or ss i []

-- the slots of a type that isn't there
pub slots_past : {H : Type 0} (types : Types H) (i : ℕ) → length types ≤ i → slots_at (slots_of types) i ≡ []
slots_past [] i past = refl
slots_past (t ∷ ts) zero past = absurd (omega (arith, past))
slots_past (t ∷ ts) (suc i) past = slots_past ts i (omega (arith, past))

-- a type's share of all
pub share_below : {H : Type 0} (types : Types H) (i : ℕ) (t : TypeState H) → slice_get types i ≡ Some t → capacity_of t.slots ≤ total_capacity (slots_of types)
share_below [] i t at = absurd (none_some t at)
share_below {H} (x ∷ xs) zero t at =
    let same : capacity_of x.slots ≡ capacity_of t.slots = ap (λ (s : TypeState H). capacity_of s.slots) (some_same x t at) in
    let split : total_capacity (slots_of (x ∷ xs)) ≡ capacity_of x.slots + total_capacity (slots_of xs) = sum_by-cons (λ s. capacity_of s) x.slots (slots_of xs) in
    omega (arith, same, split)
share_below (x ∷ xs) (suc i) t at =
    let rest = share_below xs i t at in
    let split : total_capacity (slots_of (x ∷ xs)) ≡ capacity_of x.slots + total_capacity (slots_of xs) = sum_by-cons (λ s. capacity_of s) x.slots (slots_of xs) in
    omega (arith, rest, split)

-- the sum after the slots of one type were set
pub total_set : {H : Type 0} (ss : Slots H) (i : ℕ) (x : List (Option (Slot H))) → i < length ss
    → total_capacity (slice_set ss i x) + capacity_of (slots_at ss i) ≡ total_capacity ss + capacity_of x
total_set [] i x below = absurd (omega (arith, below))
total_set (s ∷ ss) zero x below =
    let new = sum_by-cons (λ s. capacity_of s) x ss in
    let old = sum_by-cons (λ s. capacity_of s) s ss in
    omega (arith, new, old)
total_set (s ∷ ss) (suc i) x below =
    let rest = total_set ss i x (omega (arith, below)) in
    let new = sum_by-cons (λ s. capacity_of s) s (slice_set ss i x) in
    let old = sum_by-cons (λ s. capacity_of s) s ss in
    omega (arith, rest, new, old)

-- the same where a type changes, and the code's sum with it
pub sum_kept : {H : Type 0} (types : Types H) (i : ℕ) (old new : TypeState H) (before after : ℕ) → slice_get types i ≡ Some old → i < length types → before ≡ total_capacity (slots_of types)
    → after + capacity_of old.slots ≡ before + capacity_of new.slots → after ≡ total_capacity (slots_of (slice_set types i new))
sum_kept {H} types i old new before after at below is moved =
    let long = length-map types (λ (t : TypeState H). t.slots) in
    let total = total_set (slots_of types) i new.slots (omega (arith, below, long)) in
    let set = ap (λ (ss : Slots H). total_capacity ss) (slots_set types i new) in
    let was = ap (λ (ss : List (Option (Slot H))). capacity_of ss) (slots_are types i old at) in
    omega (arith, total, set, was, is, moved)

-- ---- what stays so by every call

all_set : {A : Type 0} (P : A → Type 0) (xs : List A) (i : ℕ) (x : A) → All P xs → P x → All P (slice_set xs i x)
all_set P [] i x all here = all
all_set P (y ∷ ys) zero x all here = All-cons P x ys here (All-tail P y ys all)
all_set P (y ∷ ys) (suc i) x all here = All-cons P y (slice_set ys i x) (All-head P y ys all) (all_set P ys i x (All-tail P y ys all) here)

-- one type changes to one that is well formed, and the sum stays in 64 bits
pub invariant_set : {H : Type 0} (types : Types H) (i : ℕ) (old new : TypeState H) → slice_get types i ≡ Some old → i < length types
    → MemoryTypesInvariant types → WellFormed new → OneEmpty new → (total_capacity (slots_of types) + capacity_of new.slots < 2 ^ 64 + capacity_of old.slots)
    → MemoryTypesInvariant (slice_set types i new)
invariant_set {H} types i old new at below inv good one fits =
    let long = length-map types (λ (t : TypeState H). t.slots) in
    let total = total_set (slots_of types) i new.slots (omega (arith, below, long)) in
    let set = ap (λ (ss : Slots H). total_capacity ss) (slots_set types i new) in
    let was = ap (λ (ss : List (Option (Slot H))). capacity_of ss) (slots_are types i old at) in
    record {
      well_formed = all_set WellFormed types i new inv.well_formed good;
      empty = all_set OneEmpty types i new inv.empty one;
      sum = omega (arith, total, set, was, fits);
    }

-- memory types without blocks sum up to nothing
pub sum_empty : {H : Type 0} (types : Types H) → All (λ slots. slots ≡ []) (slots_of types) → 0 ≡ total_capacity (slots_of types)
sum_empty [] empty = refl
sum_empty (t ∷ ts) empty =
    let rest = sum_empty ts (All-tail (λ slots. slots ≡ []) t.slots (slots_of ts) empty) in
    let here : capacity_of t.slots ≡ 0 = ap (λ ss. capacity_of ss) (All-head (λ slots. slots ≡ []) t.slots (slots_of ts) empty) in
    let split = sum_by-cons (λ s. capacity_of s) t.slots (slots_of ts) in
    omega (arith, rest, here, split)

pub invariant_empty : {H : Type 0} (types : Types H) → All (λ slots. slots ≡ []) (slots_of types) → MemoryTypesInvariant types
invariant_empty types empty =
    let none = sum_empty types empty in
    record { well_formed = formed types empty; empty = ones types empty; sum = omega (arith, none) }
  where
    formed : {H : Type 0} (types : Types H) → All (λ slots. slots ≡ []) (slots_of types) → All WellFormed types
    formed [] empty = All-nil WellFormed
    formed (t ∷ ts) empty =
        All-cons WellFormed t ts (subst (AreSound t.granularity) (sym (All-head (λ slots. slots ≡ []) t.slots (slots_of ts) empty)) (λ i. tt))
        (formed ts (All-tail (λ slots. slots ≡ []) t.slots (slots_of ts) empty))

    ones : {H : Type 0} (types : Types H) → All (λ slots. slots ≡ []) (slots_of types) → All OneEmpty types
    ones [] empty = All-nil OneEmpty
    ones (t ∷ ts) empty =
        All-cons OneEmpty t ts (subst KeepsOneEmptyAtMost (sym (All-head (λ slots. slots ≡ []) t.slots (slots_of ts) empty)) none_empty)
        (ones ts (All-tail (λ slots. slots ≡ []) t.slots (slots_of ts) empty))

pub type_there : {H : Type 0} (types : Types H) (i : ℕ) → i < length types → slice_get types i ≡ Some (type_of types i)
type_there types i below = slice_get-get_or types i no_type below

pub slots_here : {H : Type 0} (types : Types H) (i : ℕ) → i < length types → (type_of types i).slots ≡ slots_at (slots_of types) i
slots_here types i below = slots_are types i (type_of types i) (type_there types i below)

pub each_at : {A : Type 0} (P : A → Type 0) (xs : List A) (i : ℕ) (x : A) → All P xs → slice_get xs i ≡ Some x → P x
each_at P [] i x all at = absurd (none_some x at)
each_at P (y ∷ ys) zero x all at = subst P (some_same y x at) (All-head P y ys all)
each_at P (y ∷ ys) (suc i) x all at = each_at P ys i x (All-tail P y ys all) at

-- the blocks of a memory type are well formed with its pages, also of one that isn't there
pub type_sound : {H : Type 0} (types : Types H) → MemoryTypesInvariant types → (t : ℕ) → AreSound (type_of types t).granularity (slots_at (slots_of types) t)
type_sound types kept t =
    ⊎_elim
    (λ (below : t < length types).
    let there = type_there types t below in
    subst (AreSound (type_of types t).granularity) (slots_are types t (type_of types t) there) (each_at WellFormed types t (type_of types t) kept.well_formed there))
    (λ past. subst (AreSound (type_of types t).granularity) (sym (slots_past types t past)) (λ i. tt))
    (cases_lt t (length types))

-- at most one block of a memory type is without pieces, also of one that isn't there
pub type_empty : {H : Type 0} (types : Types H) → MemoryTypesInvariant types → EachKeepsOneEmptyAtMost (slots_of types)
type_empty types kept t =
    ⊎_elim
    (λ (below : t < length types).
    let there = type_there types t below in
    subst KeepsOneEmptyAtMost (slots_are types t (type_of types t) there) (each_at OneEmpty types t (type_of types t) kept.empty there))
    (λ past. subst KeepsOneEmptyAtMost (sym (slots_past types t past)) none_empty)
    (cases_lt t (length types))

-- another memory type is as it was
pub type_elsewhere : {H : Type 0} (types : Types H) (i : ℕ) (x : TypeState H) (t : ℕ) → t ≢ i → type_of (slice_set types i x) t ≡ type_of types t
type_elsewhere [] i x t away = refl
type_elsewhere (y ∷ ys) zero x zero away = absurd (away refl)
type_elsewhere (y ∷ ys) zero x (suc t) away = refl
type_elsewhere (y ∷ ys) (suc i) x zero away = refl
type_elsewhere (y ∷ ys) (suc i) x (suc t) away = type_elsewhere ys i x t (λ e. away (ap suc e))
