-- The ids of chunks in slots, after one of the slots is written, and in a row of more slots.
use Rattle.std.proofs.Common.{◌≡◌, ◌≢◌, ℕ, ◌+◌, ◌-◌, ◌^◌, ◌<◌, ◌≤◌, zero, suc, List, [], ◌∷◌, ◌++◌, map, length, get_or, set, replicate}
use Rattle.std.proofs.Common.{Option, Some, None, IsSome, refl, sym, ap, ◌∙◌, subst, inl, inr, append_assoc, append-nil, pow_mono, arith}
use Rattle.std.specs.Option.{option_map}
use Rattle.std.proofs.lemmas.Bool.{cases_eq}
use Rattle.std.proofs.lemmas.List.{length-append, length-map, length-replicate, length-set, get_or-set_same, get_or-set_other, ext_get_or, replicate-append-replicate}
use Rattle.gpu_block_chunks.specs.declared.chain.eras.Eras.{Eras}
use Rattle.gpu_block_chunks.specs.Eras.{newest, own_chain}
use Rattle.gpu_block_chunks.specs.declared.chain.link.LinkedChunk.{LinkedChunk}
use Rattle.gpu_block_chunks.specs.ChunkIds.{id_at, id_of, ids_of, link_at, AreChains, AreKnown, AreFound, IsOf}
use Rattle.gpu_block_chunks.proofs.IdRows.{led_to}
use Rattle.gpu_block_chunks.proofs.IdGrowth.{get_more, more_chains, wide_chains}
use Rattle.gpu_block_chunks.proofs.Eras.{own_within}

-- ---- the id in each slot
map_at : (chunks : List (Option LinkedChunk)) (s : ℕ) → get_or (map id_of chunks) s None ≡ id_of (get_or chunks s None)
map_at [] s = refl
map_at (c ∷ chunks) zero = refl
map_at (c ∷ chunks) (suc s) = map_at chunks s

pub ids_at : (chunks : List (Option LinkedChunk)) (n s : ℕ) → id_at (ids_of chunks n) s ≡ id_of (get_or chunks s None)
ids_at chunks n s = get_more (map id_of chunks) (n - length chunks) s ∙ map_at chunks s

pub ids_long : (chunks : List (Option LinkedChunk)) (n : ℕ) → length chunks ≤ n → length (ids_of chunks n) ≡ n
ids_long chunks n enough =
    let whole = length-append (map id_of chunks) (replicate (n - length chunks) None) in
    let first = length-map chunks id_of in
    let rest = length-replicate {A = Option ℕ} (n - length chunks) None in
    omega arith

-- ---- where a link leads, there is a chunk
has_chunk : (o : Option LinkedChunk) (k : ℕ) → id_of o ≡ Some k → IsSome o
has_chunk None k e = absurd (let no : None ≡ Some k = e in cc)
has_chunk (Some n) k e = refl

pub chunk_led_to : (chain_of : ℕ → ℕ) (heads fs : List (Option ℕ)) (chunks : List (Option LinkedChunk)) (chain : ℕ) (before : Option ℕ) (s : ℕ) → AreChains chain_of heads fs (ids_of chunks (length fs))
    → chain < length heads → IsOf (ids_of chunks (length fs)) chain_of chain before → Some s ≡ link_at heads fs chain before → IsSome (get_or chunks s None)
chunk_led_to chain_of heads fs chunks chain before s are bound of is =
    let has = led_to chain_of heads fs (ids_of chunks (length fs)) chain before s are bound of (sym is) in has_chunk (get_or chunks s None) has.id (sym (ids_at chunks (length fs) s) ∙ has.at)

-- ---- the chunk in one slot is changed, and keeps its id
pub ids_changed : (chunks new : List (Option LinkedChunk)) (n s : ℕ) (change : LinkedChunk → LinkedChunk) → new ≡ set chunks s (option_map change (get_or chunks s None))
    → ((x : LinkedChunk) → ((change x).chunk).chunk_id ≡ (x.chunk).chunk_id) → ids_of new n ≡ ids_of chunks n
ids_changed chunks new n s change is same = ap (λ (row : List (Option LinkedChunk)). ids_of row n) is ∙ by_map (set chunks s (option_map change (get_or chunks s None))) (ids_set chunks s) (length-set chunks s (option_map change (get_or chunks s None)))
  where
    one : (o : Option LinkedChunk) → id_of (option_map change o) ≡ id_of o
    one None = refl
    one (Some x) = ap (λ (k : ℕ). Some k) (same x)

    ids_set : (row : List (Option LinkedChunk)) (at : ℕ) → map id_of (set row at (option_map change (get_or row at None))) ≡ map id_of row
    ids_set [] at = refl
    ids_set (c ∷ row) zero = ap (λ (id : Option ℕ). id ∷ map id_of row) (one c)
    ids_set (c ∷ row) (suc at) = ap (λ (ids : List (Option ℕ)). id_of c ∷ ids) (ids_set row at)

    by_map : (row : List (Option LinkedChunk)) → map id_of row ≡ map id_of chunks → length row ≡ length chunks → ids_of row n ≡ ids_of chunks n
    by_map row ids long = ap (λ (first : List (Option ℕ)). first ++ replicate (n - length row) None) ids ∙ ap (λ (m : ℕ). map id_of chunks ++ replicate (n - m) None) long

-- ---- one slot is written
pub ids_set : (old new : List (Option LinkedChunk)) (n s : ℕ) (c : Option LinkedChunk) → length old ≤ n → length new ≤ n → s < n → get_or new s None ≡ c
    → ((t : ℕ) → t ≢ s → get_or new t None ≡ get_or old t None) → ids_of new n ≡ set (ids_of old n) s (id_of c)
ids_set old new n s c was is within here others =
    let long = ids_long old n was in
    ext_get_or None (ids_of new n) (set (ids_of old n) s (id_of c)) (ids_long new n is ∙ sym long ∙ sym (length-set (ids_of old n) s (id_of c))) (λ t inside.
    elim (cases_eq t s) as (λ _. get_or (ids_of new n) t None ≡ get_or (set (ids_of old n) s (id_of c)) t None) [
      | inl same ↦
          ap (λ (u : ℕ). get_or (ids_of new n) u None) same ∙ ids_at new n s ∙ ap id_of here
          ∙ sym (get_or-set_same (ids_of old n) s (id_of c) None (omega arith)) ∙ ap (λ (u : ℕ). get_or (set (ids_of old n) s (id_of c)) u None) (sym same)
      | inr differs ↦ ids_at new n t ∙ ap id_of (others t differs) ∙ sym (ids_at old n t) ∙ sym (get_or-set_other (ids_of old n) s t (id_of c) None differs)
    ])

-- ---- there are more slots
pub ids_more : (chunks : List (Option LinkedChunk)) (n m : ℕ) → length chunks ≤ n → n ≤ m → ids_of chunks m ≡ ids_of chunks n ++ replicate (m - n) None
ids_more chunks n m enough more =
    let parts : m - length chunks ≡ (n - length chunks) + (m - n) = omega arith in
    ap (λ (u : ℕ). map id_of chunks ++ replicate u None) parts
    ∙ ap (λ (rest : List (Option ℕ)). map id_of chunks ++ rest) (sym (replicate-append-replicate {A = Option ℕ} (n - length chunks) (m - n) None))
    ∙ sym (append_assoc (map id_of chunks) (replicate (n - length chunks) None) (replicate (m - n) None))

pub more_found : (eras : Eras) (heads fs : List (Option ℕ)) (chunks : List (Option LinkedChunk)) (more : ℕ) → AreFound eras heads fs chunks → length fs + more ≤ 2 ^ newest eras → length fs + more < 2 ^ 32
    → AreFound eras heads (fs ++ replicate more None) chunks
more_found eras heads fs chunks more found enough few =
    let whole = length-append fs (replicate more None) in
    let added = length-replicate {A = Option ℕ} more None in
    let had = found.enough in
    let headed = found.headed in
    let long : length (fs ++ replicate more None) ≡ length fs + more = omega arith in
    let rest : (length fs + more) - length fs ≡ more = omega arith in
    let ids : ids_of chunks (length (fs ++ replicate more None)) ≡ ids_of chunks (length fs) ++ replicate more None =
    ap (ids_of chunks) long ∙ ids_more chunks (length fs) (length fs + more) found.enough (omega arith)
    ∙ ap (λ (m : ℕ). ids_of chunks (length fs) ++ replicate m None) rest in
    record {
      chained = subst (λ (row : List (Option ℕ)). AreChains (own_chain eras) heads (fs ++ replicate more None) row) (sym ids) (more_chains (own_chain eras) heads fs (ids_of chunks (length fs)) more found.chained (omega arith) few);
      known = subst (AreKnown eras) (sym ids) (λ s k at. found.known s k (sym (get_more (ids_of chunks (length fs)) more s) ∙ at));
      short = omega arith;
      headed = found.headed;
      eras_few = found.eras_few;
      enough = omega arith;
    }

-- ---- there are more heads, which lead to no slot
pub wide_found : (eras : Eras) (heads fs : List (Option ℕ)) (chunks : List (Option LinkedChunk)) (more : ℕ) → AreFound eras heads fs chunks → AreFound eras (heads ++ replicate more None) fs chunks
wide_found eras heads fs chunks more found =
    let whole = length-append heads (replicate more None) in
    let added = length-replicate {A = Option ℕ} more None in
    let had = found.headed in
    record {
      chained = wide_chains (own_chain eras) (own_chain eras) heads fs (ids_of chunks (length fs)) more found.chained (λ s k at. refl) (λ k. let inside = own_within eras k in omega arith);
      known = found.known;
      short = found.short;
      headed = omega arith;
      eras_few = found.eras_few;
      enough = found.enough;
    }

-- ---- there are more chains, for ids that are yet to come
pub later_found : (eras new : Eras) (heads fs : List (Option ℕ)) (chunks : List (Option LinkedChunk)) → AreFound eras heads fs chunks → newest eras ≤ newest new → newest new < 33
    → 2 ^ newest new ≤ length heads → new.latest ≡ eras.latest → ((k : ℕ) → k ≤ eras.latest → own_chain new k ≡ own_chain eras k) → AreFound new heads fs chunks
later_found eras new heads fs chunks found later few headed same kept =
    let had = found.short in
    let grown : 2 ^ newest eras ≤ 2 ^ newest new = pow_mono later in
    record {
      chained = subst (λ (hs : List (Option ℕ)). AreChains (own_chain new) hs fs (ids_of chunks (length fs))) (append-nil heads)
          (wide_chains (own_chain eras) (own_chain new) heads fs (ids_of chunks (length fs)) 0 found.chained (λ s k at. kept k (found.known s k at)) (λ k. let inside = own_within new k in omega arith));
      known = λ s k at. let less = found.known s k at in omega arith;
      short = omega arith;
      headed = headed;
      eras_few = few;
      enough = found.enough;
    }
