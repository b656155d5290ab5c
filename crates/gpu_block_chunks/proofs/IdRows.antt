-- The chains of ids in slots, after one of them is put into a slot or taken out of one.
use Rattle.std.proofs.Common.{◌≡◌, ◌≢◌, ℕ, ◌<◌, ◌≤◌, max, List, ◌++◌, length, get_or, set, take, drop, Option, Some, None, refl, sym, ap, ◌∙◌, subst, inl, inr, arith}
use Rattle.std.proofs.Math.Seq.{take-append_seam}
use Rattle.std.proofs.lemmas.Bool.{cases_lt}
use Rattle.std.proofs.lemmas.List.{length-set, get_or_past, get_or-set_same}
use Rattle.gpu_block_chunks.specs.declared.chain.eras.Eras.{Eras}
use Rattle.gpu_block_chunks.specs.ChunkIds.{id_at, slot_of, link_at, HasGreatest, LeadsTo, IsAbove, IsOf, IsBelow, AreLinked, AreChains, AreKnown, IsPlace, ChangesLink, PutsBehind}
use Rattle.gpu_block_chunks.proofs.IdChains.{reach, same_id, was, left, inserted, removed}
use Rattle.gpu_block_chunks.proofs.IdSlots.{slot_none, slot_absent, link_set}

-- a row that is written whole
pub whole : (old new : List (Option ℕ)) (n : ℕ) → length new ≡ length old → n ≡ length old → take n (new ++ drop (length new) old) ≡ new
whole old new n same count =
    let is : n ≡ length new = omega arith in
    ap (λ (m : ℕ). take m (new ++ drop (length new) old)) is ∙ take-append_seam new (drop (length new) old)

pub id_within : (ids : List (Option ℕ)) (s k : ℕ) → id_at ids s ≡ Some k → s < length ids
id_within ids s k at = elim (cases_lt s (length ids)) as (λ _. s < length ids) [ inl lt ↦ lt | inr ge ↦ absurd (let no : None ≡ Some k = sym (get_or_past ids s None ge) ∙ at in cc) ]

-- the number in a slot, if there is one
abbrev pub rank : Option ℕ → ℕ
rank None = 0
rank (Some k) = k

pub falls : (ids : List (Option ℕ)) (s t m n : ℕ) → id_at ids s ≡ Some m → id_at ids t ≡ Some n → m < n → rank (id_at ids s) < rank (id_at ids t)
falls ids s t m n at_s at_t less =
    let a : rank (id_at ids s) ≡ m = ap rank at_s in
    let b : rank (id_at ids t) ≡ n = ap rank at_t in
    omega arith

-- an id's own chain has a head
pub own_inside : (chain_of : ℕ → ℕ) (heads fs ids : List (Option ℕ)) (k chain : ℕ) → AreChains chain_of heads fs ids → chain ≡ chain_of k → chain < length heads
own_inside chain_of heads fs ids k chain are own = let inside = are.inside k in omega arith

-- the slot to which a link leads
pub led_to : (chain_of : ℕ → ℕ) (heads fs ids : List (Option ℕ)) (chain : ℕ) (before : Option ℕ) (s : ℕ) → AreChains chain_of heads fs ids → chain < length heads → IsOf ids chain_of chain before
    → link_at heads fs chain before ≡ Some s → HasGreatest ids (λ m. (chain_of m ≡ chain) × IsBelow ids before m) s
led_to chain_of heads fs ids chain before s are bound of leads = subst (LeadsTo ids (λ m. (chain_of m ≡ chain) × IsBelow ids before m)) leads (are.linked chain before bound of)

pub below_of : (ids : List (Option ℕ)) (s k : ℕ) → IsAbove ids s k → IsBelow ids (Some s) k
below_of ids s k above = λ top e. let one = same_id ids s top above.0 e above.1 in let more = above.2 in omega arith

-- the link at the place of an id leads to its slot
pub leads_home : (chain_of : ℕ → ℕ) (heads fs ids : List (Option ℕ)) (k : ℕ) (before : Option ℕ) → AreChains chain_of heads fs ids → IsPlace chain_of heads fs ids (chain_of k) k before
    → (s : ℕ) → id_at ids s ≡ Some k → link_at heads fs (chain_of k) before ≡ Some s
leads_home chain_of heads fs ids k before are place s at =
    let r = reach ids _ (link_at heads fs (chain_of k) before) (are.linked (chain_of k) before (are.inside k) place.inside) s k at (refl, place.below) in
    let more = r.no_less in
    let most = place.last r.slot r.id r.leads r.at in
    let one : r.id ≡ k = omega arith in
    r.leads ∙ ap (λ (u : ℕ). Some u) (are.distinct r.slot s k (r.at ∙ ap (λ (u : ℕ). Some u) one) at)

-- where the link at its place leads to no slot with the id, no slot has it
pub none_home : (chain_of : ℕ → ℕ) (heads fs ids : List (Option ℕ)) (k : ℕ) (before : Option ℕ) → AreChains chain_of heads fs ids → (chain : ℕ) → chain ≡ chain_of k
    → IsPlace chain_of heads fs ids chain k before → (link : Option ℕ) → link ≡ link_at heads fs chain before → ((s : ℕ) → link ≡ Some s → id_at ids s ≢ Some k) → slot_of ids k ≡ None
none_home chain_of heads fs ids k before are chain own at link is none =
    slot_absent ids k (λ s (has : id_at ids s ≡ Some k).
    let home = leads_home chain_of heads fs ids k before are (subst (λ (c : ℕ). IsPlace chain_of heads fs ids c k before) own at) s has in
    none s (is ∙ ap (λ (c : ℕ). link_at heads fs c before) own ∙ home) has)

-- ---- links are written
pub put_behind : (heads fs new_heads new_fs : List (Option ℕ)) (chain : ℕ) (before : Option ℕ) (s : ℕ) (x : Option ℕ) → before ≢ Some s → s < length fs → x ≡ link_at heads fs chain before
    → ChangesLink (link_at heads (set fs s x)) (link_at new_heads new_fs) chain before (Some s) → PutsBehind (link_at heads fs) (link_at new_heads new_fs) chain before s
put_behind heads fs new_heads new_fs chain before s x ne within is links =
    record {
      first = links.changed;
      rest = λ other. links.others other (Some s) (λ (e : Some s ≡ before). ne (sym e)) ∙ get_or-set_same fs s x None within ∙ is;
      others = λ other p differs apart. links.others other p differs ∙ link_set heads fs s x other p apart;
      heads = λ other differs. links.heads other differs;
    }

module _ (chain_of : ℕ → ℕ) (heads fs new_heads new_fs ids : List (Option ℕ)) (are : AreChains chain_of heads fs ids) (k s : ℕ) (before : Option ℕ)
    (heads_length : length new_heads ≡ length heads) (fs_length : length new_fs ≡ length fs) where
  -- ---- an id is put into a slot without one
  module _ (place : IsPlace chain_of heads fs ids (chain_of k) k before) (within : s < length ids) (vacant : id_at ids s ≡ None) (new : slot_of ids k ≡ None)
      (links : PutsBehind (link_at heads fs) (link_at new_heads new_fs) (chain_of k) before s) where
    put_linked : AreLinked (set ids s (Some k)) chain_of (length heads) (link_at new_heads new_fs)
    put_linked =
        inserted ids chain_of (length heads) (link_at heads fs) (link_at new_heads new_fs) are.linked are.distinct s k before within vacant (slot_none ids k new)
        (record { inside = place.inside; below = place.below; last = place.last }) links.first links.rest links.others links.heads

    put_distinct : (t u m : ℕ) → id_at (set ids s (Some k)) t ≡ Some m → id_at (set ids s (Some k)) u ≡ Some m → t ≡ u
    put_distinct t u m at_t at_u =
        elim (was ids s k within vacant t m at_t) as (λ _. t ≡ u) [
          | inl a ↦
              elim (was ids s k within vacant u m at_u) as (λ _. t ≡ u) [
                | inl b ↦ a.0 ∙ sym b.0
                | inr b ↦ absurd (slot_none ids k new u (b ∙ ap (λ (v : ℕ). Some v) a.1))
              ]
          | inr a ↦
              elim (was ids s k within vacant u m at_u) as (λ _. t ≡ u) [
                | inl b ↦ absurd (slot_none ids k new t (a ∙ ap (λ (v : ℕ). Some v) b.1))
                | inr b ↦ are.distinct t u m a b
              ]
        ]

    pub put_chains : AreChains chain_of new_heads new_fs (set ids s (Some k))
    put_chains =
        record {
          inside = λ m. let old = are.inside m in omega arith;
          linked = subst (λ (n : ℕ). AreLinked (set ids s (Some k)) chain_of n (link_at new_heads new_fs)) (sym heads_length) put_linked;
          distinct = put_distinct;
          long = length-set ids s (Some k) ∙ are.long ∙ sym fs_length;
          enough = (let old = are.enough in omega arith);
          few = (let old = are.few in omega arith);
        }

  -- ---- an id is taken out of its slot
  module _ (chain : ℕ) (own : chain ≡ chain_of k) (place_at : IsPlace chain_of heads fs ids chain k before) (there : id_at ids s ≡ Some k)
      (next : Option ℕ) (follows : next ≡ get_or fs s None) (links_at : ChangesLink (link_at heads fs) (link_at new_heads new_fs) chain before next) where
    place : IsPlace chain_of heads fs ids (chain_of k) k before
    place = subst (λ (c : ℕ). IsPlace chain_of heads fs ids c k before) own place_at

    links : ChangesLink (link_at heads fs) (link_at new_heads new_fs) (chain_of k) before next
    links = subst (λ (c : ℕ). ChangesLink (link_at heads fs) (link_at new_heads new_fs) c before next) own links_at

    out_linked : AreLinked (set ids s None) chain_of (length heads) (link_at new_heads new_fs)
    out_linked =
        removed ids chain_of (length heads) (link_at heads fs) (link_at new_heads new_fs) are.linked are.distinct s k before (id_within ids s k there) there place.inside
        (leads_home chain_of heads fs ids k before are place s there) (are.inside k) (links.changed ∙ follows) (λ chain p ne other. links.others chain p ne) links.heads

    old_id : (t m : ℕ) → id_at (set ids s None) t ≡ Some m → (t ≢ s) × (id_at ids t ≡ Some m)
    old_id t m at = left ids s k there (id_within ids s k there) t m at

    pub out_chains : AreChains chain_of new_heads new_fs (set ids s None)
    out_chains =
        record {
          inside = λ m. let old = are.inside m in omega arith;
          linked = subst (λ (n : ℕ). AreLinked (set ids s None) chain_of n (link_at new_heads new_fs)) (sym heads_length) out_linked;
          distinct = λ t u m at_t at_u. are.distinct t u m (old_id t m at_t).1 (old_id u m at_u).1;
          long = length-set ids s None ∙ are.long ∙ sym fs_length;
          enough = (let old = are.enough in omega arith);
          few = (let old = are.few in omega arith);
        }

-- no slot has an id that was taken out of its slot
pub out_gone : (chain_of : ℕ → ℕ) (heads fs ids : List (Option ℕ)) (k s : ℕ) → AreChains chain_of heads fs ids → id_at ids s ≡ Some k → slot_of (set ids s None) k ≡ None
out_gone chain_of heads fs ids k s are there =
    slot_absent (set ids s None) k (λ t (at : id_at (set ids s None) t ≡ Some k).
    let old = left ids s k there (id_within ids s k there) t k at in
    old.0 (are.distinct t s k old.1 there))

-- ---- no id is later than the latest
pub put_known : (eras : Eras) (ids : List (Option ℕ)) (s k : ℕ) → s < length ids → id_at ids s ≡ None → AreKnown eras ids → AreKnown (record eras { latest = max eras.latest k }) (set ids s (Some k))
put_known eras ids s k within vacant known = λ t m at.
    elim (was ids s k within vacant t m at) as (λ _. m ≤ max eras.latest k) [
      | inl e ↦ let is = e.1 in omega arith
      | inr old ↦ let less = known t m old in omega arith
    ]

pub out_known : (eras : Eras) (ids : List (Option ℕ)) (s k : ℕ) → id_at ids s ≡ Some k → AreKnown eras ids → AreKnown eras (set ids s None)
out_known eras ids s k there known = λ t m at. known t m (left ids s k there (id_within ids s k there) t m at).1
