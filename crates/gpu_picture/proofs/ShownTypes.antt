-- The views and the usages of the memory types from the i-th on.
use Rattle.std.proofs.Common.{◌≡◌, ◌∙◌, sym, ap, ℕ, suc, zero, ◌+◌, ◌<◌, length, get_or, List, [], ◌∷◌, ◌++◌, map, drop, slice_get, Some, None, refl, add-one, append_assoc}
use Rattle.std.proofs.lemmas.Option.{slice_get-get_or}
use Rattle.gpu_core.specs.TypeState.{TypeState}
use Rattle.gpu_core.specs.Types.{Types, slots_of, no_type}
use Rattle.gpu_report.specs.View.{ShownBlock, shown_from}
use Rattle.gpu_report.specs.Samples.{usage_of}
use Rattle.gpu_report.specs.declared.timeline.samples.Usage.{Usage}
use Rattle.gpu_picture.specs.Draw.{shown_types}

drop_at : {H : Type 0} (types : Types H) (i : ℕ) (t : TypeState H) → Some t ≡ slice_get types i → drop i types ≡ t ∷ drop (suc i) types
drop_at [] i t is = cc
drop_at (u ∷ types) zero t is = let same : t ≡ u = cc in rw same refl
drop_at (u ∷ types) (suc i) t is = drop_at types i t is

one_type : {H : Type 0} (types : Types H) (i : ℕ) (t : TypeState H) → Some t ≡ slice_get types i
    → shown_types i (drop i types) ≡ shown_from i t.granularity 0 t.slots ++ shown_types (i + 1) (drop (i + 1) types)
one_type types i t is = rw (drop_at types i t is, add-one) refl

-- where those of one memory type are added to those of the memory types before it, the rest is that of the memory types behind it
pub one_more : {H : Type 0} (types : Types H) (i : ℕ) (t : TypeState H) (old new total : List ShownBlock)
    → Some t ≡ slice_get types i → new ≡ old ++ shown_from i t.granularity 0 t.slots → old ++ shown_types i (drop i types) ≡ total
    → new ++ shown_types (i + 1) (drop (i + 1) types) ≡ total
one_more types i t old new total is added kept =
    ap (λ l. l ++ shown_types (i + 1) (drop (i + 1) types)) added
    ∙ append_assoc old (shown_from i t.granularity 0 t.slots) (shown_types (i + 1) (drop (i + 1) types))
    ∙ ap (λ l. old ++ l) (sym (one_type types i t is))
    ∙ kept

-- a memory type below the count of all is there
pub not_missing : {H : Type 0} (types : Types H) (i : ℕ) → i < length types → None ≡ slice_get types i → ⊥
not_missing types i h is = let e : None ≡ Some (get_or types i no_type) = is ∙ slice_get-get_or types i no_type h in cc

one_usage : {H : Type 0} (types : Types H) (i : ℕ) (t : TypeState H) → Some t ≡ slice_get types i
    → map usage_of (slots_of (drop i types)) ≡ usage_of t.slots ∷ map usage_of (slots_of (drop (i + 1) types))
one_usage types i t is = rw (drop_at types i t is, add-one) refl

-- where one memory type's usage is added to those of the memory types before it, the rest is that of the memory types behind it
pub usages_more : {H : Type 0} (types : Types H) (i : ℕ) (t : TypeState H) (old new total : List Usage)
    → Some t ≡ slice_get types i → new ≡ old ++ usage_of t.slots ∷ [] → old ++ map usage_of (slots_of (drop i types)) ≡ total
    → new ++ map usage_of (slots_of (drop (i + 1) types)) ≡ total
usages_more types i t old new total is added kept =
    ap (λ l. l ++ map usage_of (slots_of (drop (i + 1) types))) added
    ∙ append_assoc old (usage_of t.slots ∷ []) (map usage_of (slots_of (drop (i + 1) types)))
    ∙ ap (λ l. old ++ l) (sym (one_usage types i t is))
    ∙ kept
