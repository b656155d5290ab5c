-- What a Metal device holds, as a heap comes or goes.
use Rattle.std.specs.Prelude.{IsSome}
use Rattle.std.proofs.Common.{◌≡◌, ◌≢◌, ◌∙◌, ◌⊎◌, refl, sym, ap, subst, ⊎_elim, inl, inr, ℕ, zero, suc, List, [], ◌∷◌, ◌++◌, slice_get, Option, Some, None, Contains, true, false}
use Rattle.std.proofs.lemmas.Bool.{cases_eq}
use Rattle.std.specs.FinMap.{get, insert}
use Rattle.gpu_device.specs.Metal.{Held, Entry, Heap, Set, IsHeapEntry, IsSetEntry, add_member, remove_member, remove_if_heap, without_heap, with_member, without_member, with_commit}
use Rattle.gpu_device.specs.declared.metal.types.HeapDescriptor.{HeapDescriptor}
use Rattle.gpu_device.specs.declared.metal.types.MTLHeap.{MTLHeap}
use Rattle.gpu_device.specs.declared.metal.types.MTLResidencySet.{MTLResidencySet}
use Rattle.gpu_device.proofs.HeapsAndSets.{get-without_heap_other, get-with_member_other, get-without_member_other, get-with_member, get-without_member, get-with_commit, get-with_commit_other}
use Rattle.gpu_device.proofs.Maps.{get-insert_same, get-insert_other, get-remove_same, held_alike}
use Rattle.gpu_core.proofs.Options.{none_some, some_same}
use Rattle.gpu_metal.specs.MemoryKinds.{locations, heap_descriptor}
use Rattle.gpu_metal.specs.Residency.{HoldsSet, with_joined, with_left, with_committed}
use Rattle.gpu_pool.specs.Source.{HeldBlock, Adds, Removes}
use Rattle.gpu_metal.specs.Source.{heap_type, entry_block, new_block, blocks_of, IsNotSet, HasBlocks, SetHasBlocks, HoldsFirst, joined, left, committed}
use Rattle.gpu_metal.specs.Blocks.{residency_of, entry_residency, left_behind}
use Rattle.gpu_metal.proofs.Members.{In, in_of, contains_of, in_either, in_left, in_right, added, distinct_push, in_remaining, of_remaining, distinct_remaining, same_heap}
use Rattle.gpu_values.specs.declared.memory_location.MemoryLocation.{MemoryLocation}
use Rattle.gpu_values.specs.declared.memory_location.MemoryLocation.TheVariants.{GpuOnly, CpuToGpu, GpuToCpu}

-- the heaps of a memory type's location are of that memory type
pub type_at : (t : ℕ) (l : MemoryLocation) → slice_get locations t ≡ Some l → heap_type (heap_descriptor l) ≡ Some t
type_at zero l at = ap (λ k. heap_type (heap_descriptor k)) (sym (some_same GpuOnly l at))
type_at (suc zero) l at = ap (λ k. heap_type (heap_descriptor k)) (sym (some_same CpuToGpu l at))
type_at (suc (suc zero)) l at = ap (λ k. heap_type (heap_descriptor k)) (sym (some_same GpuToCpu l at))
type_at (suc (suc (suc t))) l at = absurd (none_some l at)

-- ---- one entry

new_none : (x : Option Entry) → new_block x None ≡ None
new_none None = refl
new_none (Some e) = refl

pub new_set : (x : Option Entry) (members committed : List MTLHeap) → new_block x (Some (Set members committed)) ≡ None
new_set None members committed = refl
new_set (Some e) members committed = refl

abbrev as_block : (t size : ℕ) → HeldBlock
as_block t size = record { memory_type = t; size = size }

heap_block : (desc : HeapDescriptor) (t size : ℕ) → heap_type desc ≡ Some t → entry_block (Some (Heap desc size)) ≡ Some (as_block t size)
heap_block desc t size is i = elim (is i) as (λ _. Option HeldBlock) [ None ↦ None | Some k ↦ Some (as_block k size) ]

false_true : false ≡ true → ⊥
false_true e = cc

pub is_some_none : {A : Type 0} (x : Option A) → x ≡ None → IsSome x → ⊥
is_some_none x none is = cc

some_of : {A : Type 0} (x : Option A) (a : A) → x ≡ Some a → IsSome x
some_of x a is = subst IsSome (sym is) refl

pub new_same : (x : Option Entry) → new_block x x ≡ None
new_same None = refl
new_same (Some e) = refl

-- what is a block wasn't held at first, and is a heap now
heap_of : (x now : Option Entry) → IsSome (new_block x now) → (x ≡ None) × IsHeapEntry now
heap_of None None is = absurd (false_true is)
heap_of None (Some (Heap desc size)) is = (refl, tt)
heap_of None (Some (Set members committed)) is = absurd (false_true is)
heap_of (Some e) now is = absurd (false_true is)

module _ (first held : Held) where
  abbrev block : ℕ → Option HeldBlock
  block n = blocks_of first held n

  pub block_heap : (n : ℕ) → IsSome (block n) → (get first n ≡ None) × IsHeapEntry (get held n)
  block_heap n is = heap_of (get first n) (get held n) is

  same_block : (now : Held) (n : ℕ) → get now n ≡ get held n → blocks_of first now n ≡ block n
  same_block now n same = ap (new_block (get first n)) same

  no_block : (n : ℕ) → get held n ≡ None → block n ≡ None
  no_block n none = ap (new_block (get first n)) none ∙ new_none (get first n)

  no_set_block : (n : ℕ) (members committed : List MTLHeap) → get held n ≡ Some (Set members committed) → block n ≡ None
  no_set_block n members committed is = ap (new_block (get first n)) is ∙ new_set (get first n) members committed

  -- what isn't held wasn't held at first
  first_none : (set : Option MTLResidencySet) → HoldsFirst set first held → (n : ℕ) → get held n ≡ None → get first n ≡ None
  first_none set h n none = by (get first n) refl
    where
      by : (x : Option Entry) → get first n ≡ x → get first n ≡ None
      by None is = is
      by (Some e) is = absurd (none_some e (sym none ∙ h.stays n e is))

-- ---- the set

not_set : (set : Option MTLResidencySet) (first held : Held) → SetHasBlocks set first held → (n : ℕ) → ((members committed : List MTLHeap) → get held n ≡ Some (Set members committed) → ⊥) → IsNotSet set n
not_set None first held r n other = tt
not_set (Some set) first held r n other = λ same. other r.members r.committed (ap (get held) same ∙ r.at)

at_set : (set : Option MTLResidencySet) (n : ℕ) → IsNotSet set n ⊎ (set ≡ Some (record { 0 = n }))
at_set None n = inl tt
at_set (Some set) n = ⊎_elim (λ same. inr (λ i. Some (record { 0 = sym same i }))) (λ ne. inl ne) (cases_eq n set.0)

joined_other : (h : Held) (set : Option MTLResidencySet) (heap : MTLHeap) (n : ℕ) → IsNotSet set n → get (with_joined h set heap) n ≡ get h n
joined_other h None heap n ne = refl
joined_other h (Some set) heap n ne = get-with_member_other h set.0 heap n ne

left_other : (h : Held) (set : Option MTLResidencySet) (heap : MTLHeap) (n : ℕ) → IsNotSet set n → get (with_left h set heap) n ≡ get h n
left_other h None heap n ne = refl
left_other h (Some set) heap n ne = get-without_member_other h set.0 heap n ne

pub holds_set : (set : Option MTLResidencySet) (first held : Held) → HoldsFirst set first held → HoldsSet held set
holds_set None first held h = tt
holds_set (Some set) first held h = subst IsSetEntry (sym h.residency.at) tt

-- what changes of an entry and of the set, and what of all others
pub record Changes (set : Option MTLResidencySet) (held now : Held) (heap : MTLHeap) (e : Option Entry) (change : List MTLHeap → List MTLHeap) : Type 0 where
  pub at : get now heap.0 ≡ e
  pub others : (n : ℕ) → n ≢ heap.0 → IsNotSet set n → get now n ≡ get held n
  pub member : (s : MTLResidencySet) (members committed : List MTLHeap) → set ≡ Some s → get held s.0 ≡ Some (Set members committed) → get now s.0 ≡ Some (Set (change members) committed)

module _ (set : Option MTLResidencySet) (first held now : Held) (heap : MTLHeap) (e : Option Entry) (change : List MTLHeap → List MTLHeap) (apart : IsNotSet set heap.0)
    (c : Changes set held now heap e change) (new : get first heap.0 ≡ None) (h : HoldsFirst set first held) where
  set_now : (r : SetHasBlocks set first held) (n : ℕ) (s : MTLResidencySet) → set ≡ Some s → (members : List MTLHeap) × (committed : List MTLHeap) × (get held s.0 ≡ Some (Set members committed)) × (get first s.0 ≡ None)
  set_now r n s is = by set is r
    where
      by : (o : Option MTLResidencySet) → o ≡ Some s → SetHasBlocks o first held → (members : List MTLHeap) × (committed : List MTLHeap) × (get held s.0 ≡ Some (Set members committed)) × (get first s.0 ≡ None)
      by None is r = absurd (none_some s is)
      by (Some k) is r =
          let same : k ≡ s = some_same k s is in
          (r.members, r.committed, ap (λ (x : MTLResidencySet). get held x.0) (sym same) ∙ r.at, ap (λ (x : MTLResidencySet). get first x.0) (sym same) ∙ r.new)

  -- no other block changes
  pub other_blocks : (n : ℕ) → n ≢ heap.0 → blocks_of first now n ≡ blocks_of first held n
  other_blocks n ne =
      ⊎_elim
      (λ out. same_block first held now n (c.others n ne out))
      (λ is.
      let s = set_now h.residency n (record { 0 = n }) is in
      no_set_block first now n (change s.0) s.1 (c.member (record { 0 = n }) s.0 s.1 is s.2) ∙ sym (no_set_block first held n s.0 s.1 s.2))
      (at_set set n)

  stays_now : (n : ℕ) (x : Entry) → get first n ≡ Some x → get now n ≡ Some x
  stays_now n x is =
      ⊎_elim
      (λ out. c.others n (λ same. none_some x (sym (ap (get first) same ∙ new) ∙ is)) out ∙ h.stays n x is)
      (λ own. let s = set_now h.residency n (record { 0 = n }) own in absurd (none_some x (sym s.3 ∙ is)))
      (at_set set n)

  pub holds_now : (entry_block e ≡ None → e ≡ None) → SetHasBlocks set first now → HoldsFirst set first now
  holds_now known r = record {
    stays = stays_now;
    came = λ n fresh out none.
        ⊎_elim
        (λ same. ap (get now) same ∙ c.at ∙ known (ap entry_block (sym c.at ∙ ap (get now) (sym same)) ∙ none))
        (λ ne. let same = c.others n ne out in same ∙ h.came n fresh out (ap entry_block (sym same) ∙ none))
        (cases_eq n heap.0);
    residency = r;
  }

-- ---- a heap comes

module _ (set : Option MTLResidencySet) (first held now : Held) (heap : MTLHeap) (desc : HeapDescriptor) (t size : ℕ) (kind : heap_type desc ≡ Some t) (fresh : get held heap.0 ≡ None)
    (is : now ≡ with_joined (insert held heap.0 (Heap desc size)) set heap) (h : HoldsFirst set first held) where
  abbrev e : Entry
  e = Heap desc size

  abbrev grow : List MTLHeap → List MTLHeap
  grow members = add_member members heap

  new : get first heap.0 ≡ None
  new = first_none first held set h heap.0 fresh

  out : IsNotSet set heap.0
  out = not_set set first held h.residency heap.0 (λ members committed held_set. none_some (Set members committed) (sym fresh ∙ held_set))

  joins_by : (o : Option MTLResidencySet) → (s : MTLResidencySet) (members committed : List MTLHeap) → o ≡ Some s → IsNotSet o heap.0 → get held s.0 ≡ Some (Set members committed)
      → get (with_joined (insert held heap.0 e) o heap) s.0 ≡ Some (Set (grow members) committed)
  joins_by None s members committed own apart at = absurd (none_some s own)
  joins_by (Some k) s members committed own apart at =
      let same : k ≡ s = some_same k s own in
      let there : get (insert held heap.0 e) k.0 ≡ Some (Set members committed) =
      get-insert_other held heap.0 k.0 e (λ alike. apart (sym alike)) ∙ ap (λ (x : MTLResidencySet). get held x.0) same ∙ at in
      ap (λ (x : MTLResidencySet). get (with_member (insert held heap.0 e) k.0 heap) x.0) (sym same) ∙ get-with_member (insert held heap.0 e) k.0 heap members committed there

  changes : Changes set held now heap (Some e) grow
  changes = record {
    at = ap (λ (k : Held). get k heap.0) is ∙ joined_other (insert held heap.0 e) set heap heap.0 out ∙ get-insert_same held heap.0 e;
    others = λ n ne apart. ap (λ (k : Held). get k n) is ∙ joined_other (insert held heap.0 e) set heap n apart ∙ get-insert_other held heap.0 n e ne;
    member = λ s members committed own at. ap (λ (k : Held). get k s.0) is ∙ joins_by set s members committed own out at;
  }

  now_block : blocks_of first now heap.0 ≡ Some (as_block t size)
  now_block = (λ i. new_block (new i) (changes.at i)) ∙ heap_block desc t size kind

  pub heap_adds : Adds (blocks_of first held) heap.0 (as_block t size) (blocks_of first now)
  heap_adds = record {
    was_free = no_block first held heap.0 fresh;
    held = now_block;
    others = other_blocks set first held now heap (Some e) grow out changes new h;
  }

  grown : (s : MTLResidencySet) → set ≡ Some s → HasBlocks s first held → HasBlocks s first now
  grown s own r =
      let outside : In r.members heap → ⊥ =
      λ within. is_some_none (blocks_of first held heap.0) (no_block first held heap.0 fresh) (r.live heap (contains_of r.members heap within)) in
      let same : (x : MTLHeap) → x.0 ≢ heap.0 → blocks_of first now x.0 ≡ blocks_of first held x.0 = λ x ne. other_blocks set first held now heap (Some e) grow out changes new h x.0 ne in
      let more : List MTLHeap = r.members ++ heap ∷ [] in
      let is_more : grow r.members ≡ more = added r.members heap outside in
      record {
        members = more;
        committed = r.committed;
        new = r.new;
        at = changes.member s r.members r.committed own r.at ∙ ap (λ ms. Some (Set ms r.committed)) is_more;
        live = λ x within.
            ⊎_elim
            (λ alike. some_of (blocks_of first now x.0) (as_block t size) (ap (blocks_of first now) alike ∙ now_block))
            (λ ne. ⊎_elim
            (λ was. subst IsSome (sym (same x ne)) (r.live x (contains_of r.members x was)))
            (λ last. ⊎_elim (λ (one : heap ≡ x). absurd (ne (ap (λ (y : MTLHeap). y.0) (sym one)))) (λ none. absurd none) last)
            (in_either r.members (heap ∷ []) x (in_of more x within)))
            (cases_eq x.0 heap.0);
        all = λ x some.
            ⊎_elim
            (λ alike. contains_of more x (in_right r.members (heap ∷ []) x (inl (same_heap heap x (sym alike)))))
            (λ ne. contains_of more x (in_left r.members (heap ∷ []) x (in_of r.members x (r.all x (subst IsSome (same x ne) some)))))
            (cases_eq x.0 heap.0);
        once = distinct_push r.members heap outside r.once;
      }

  residency : (o : Option MTLResidencySet) → set ≡ o → SetHasBlocks o first held → SetHasBlocks o first now
  residency None own r = tt
  residency (Some s) own r = grown s own r

  pub heap_comes : HoldsFirst set first now
  heap_comes =
      holds_now set first held now heap (Some e) grow out changes new h
      (λ none. absurd (none_some (as_block t size) (sym none ∙ heap_block desc t size kind)))
      (residency set refl h.residency)

  joins : (o : Option MTLResidencySet) → set ≡ o → SetHasBlocks o first held → residency_of now o ≡ joined (residency_of held o) (Some heap)
  joins None own r = refl
  joins (Some s) own r =
      ap entry_residency (changes.member s r.members r.committed own r.at) ∙ ap (λ (x : Option Entry). joined (entry_residency x) (Some heap)) (sym r.at)

  -- the heap joins the set
  pub heap_joins : residency_of now set ≡ joined (residency_of held set) (Some heap)
  heap_joins = joins set refl h.residency

-- ---- a heap goes

removed_there : (h : Held) (n : ℕ) (x : Option Entry) → get h n ≡ x → IsHeapEntry x → get (remove_if_heap h n x) n ≡ None
removed_there h n None is heap = absurd heap
removed_there h n (Some (Heap desc size)) is heap = get-remove_same h n
removed_there h n (Some (Set members committed)) is heap = absurd heap

set_no_heap : (x : Option Entry) (members committed : List MTLHeap) → x ≡ Some (Set members committed) → IsHeapEntry x → ⊥
set_no_heap x members committed is heap = subst IsHeapEntry is heap

module _ (set : Option MTLResidencySet) (first held now : Held) (heap : MTLHeap) (some : IsSome (blocks_of first held heap.0)) (is : now ≡ without_heap (with_left held set heap) heap.0)
    (h : HoldsFirst set first held) where
  abbrev shrink : List MTLHeap → List MTLHeap
  shrink members = remove_member members heap

  abbrev beside : Held
  beside = with_left held set heap

  was : (get first heap.0 ≡ None) × IsHeapEntry (get held heap.0)
  was = block_heap first held heap.0 some

  apart : IsNotSet set heap.0
  apart = not_set set first held h.residency heap.0 (λ members committed held_set. set_no_heap (get held heap.0) members committed held_set was.1)

  left_heap : IsHeapEntry (get beside heap.0)
  left_heap = subst IsHeapEntry (sym (left_other held set heap heap.0 apart)) was.1

  leaves_by : (o : Option MTLResidencySet) → (s : MTLResidencySet) (members committed : List MTLHeap) → o ≡ Some s → IsNotSet o heap.0 → get held s.0 ≡ Some (Set members committed)
      → get (without_heap (with_left held o heap) heap.0) s.0 ≡ Some (Set (shrink members) committed)
  leaves_by None s members committed own other at = absurd (none_some s own)
  leaves_by (Some k) s members committed own other at =
      let same : k ≡ s = some_same k s own in
      let there : get held k.0 ≡ Some (Set members committed) = ap (λ (x : MTLResidencySet). get held x.0) same ∙ at in
      ap (λ (x : MTLResidencySet). get (without_heap (without_member held k.0 heap) heap.0) x.0) (sym same)
      ∙ get-without_heap_other (without_member held k.0 heap) heap.0 k.0 (λ alike. other (sym alike))
      ∙ get-without_member held k.0 heap members committed there

  goes : Changes set held now heap None shrink
  goes = record {
    at = ap (λ (k : Held). get k heap.0) is ∙ removed_there beside heap.0 (get beside heap.0) refl left_heap;
    others = λ n ne out. ap (λ (k : Held). get k n) is ∙ get-without_heap_other beside heap.0 n ne ∙ left_other held set heap n out;
    member = λ s members committed own at. ap (λ (k : Held). get k s.0) is ∙ leaves_by set s members committed own apart at;
  }

  gone : blocks_of first now heap.0 ≡ None
  gone = no_block first now heap.0 goes.at

  pub heap_removes : Removes (blocks_of first held) heap.0 (blocks_of first now)
  heap_removes = record { gone = gone; others = other_blocks set first held now heap None shrink apart goes was.0 h }

  shrunk : (s : MTLResidencySet) → set ≡ Some s → HasBlocks s first held → HasBlocks s first now
  shrunk s own r =
      let same : (x : MTLHeap) → x.0 ≢ heap.0 → blocks_of first now x.0 ≡ blocks_of first held x.0 = λ x ne. other_blocks set first held now heap None shrink apart goes was.0 h x.0 ne in
      record {
        members = shrink r.members;
        committed = r.committed;
        new = r.new;
        at = goes.member s r.members r.committed own r.at;
        live = λ x within.
            let k = of_remaining r.members heap x (in_of (shrink r.members) x within) in
            subst IsSome (sym (same x k.1)) (r.live x (contains_of r.members x k.0));
        all = λ x yet.
            let ne : x.0 ≢ heap.0 = λ alike. is_some_none (blocks_of first now x.0) (ap (blocks_of first now) alike ∙ gone) yet in
            contains_of (shrink r.members) x (in_remaining r.members heap x (in_of r.members x (r.all x (subst IsSome (same x ne) yet))) ne);
        once = distinct_remaining r.members heap r.once;
      }

  shrinks : (o : Option MTLResidencySet) → set ≡ o → SetHasBlocks o first held → SetHasBlocks o first now
  shrinks None own r = tt
  shrinks (Some s) own r = shrunk s own r

  pub heap_goes : HoldsFirst set first now
  heap_goes = holds_now set first held now heap None shrink apart goes was.0 h (λ none. refl) (shrinks set refl h.residency)

  leaves : (o : Option MTLResidencySet) → set ≡ o → SetHasBlocks o first held → residency_of now o ≡ left (residency_of held o) heap
  leaves None own r = refl
  leaves (Some s) own r = ap entry_residency (goes.member s r.members r.committed own r.at) ∙ ap (λ (x : Option Entry). left (entry_residency x) heap) (sym r.at)

  -- the heap leaves the set
  pub heap_leaves : residency_of now set ≡ left (residency_of held set) heap
  heap_leaves = leaves set refl h.residency

-- ---- a commit

module _ (set : MTLResidencySet) (first held now : Held) (is : now ≡ with_commit held set.0) (h : HoldsFirst (Some set) first held) where
  abbrev r : HasBlocks set first held
  r = h.residency

  there : get now set.0 ≡ Some (Set r.members r.members)
  there = ap (λ (k : Held). get k set.0) is ∙ get-with_commit held set.0 r.members r.committed r.at

  elsewhere : (n : ℕ) → n ≢ set.0 → get now n ≡ get held n
  elsewhere n ne = ap (λ (k : Held). get k n) is ∙ get-with_commit_other held set.0 n ne

  pub commit_blocks : (n : ℕ) → blocks_of first now n ≡ blocks_of first held n
  commit_blocks n =
      ⊎_elim
      (λ same. ap (blocks_of first now) same ∙ no_set_block first now set.0 r.members r.members there ∙ sym (no_set_block first held set.0 r.members r.committed r.at) ∙ ap (blocks_of first held) (sym same))
      (λ ne. same_block first held now n (elsewhere n ne))
      (cases_eq n set.0)

  pub commit_holds : HoldsFirst (Some set) first now
  commit_holds = record {
    stays = λ n e at. elsewhere n (λ same. none_some e (sym (ap (get first) same ∙ r.new) ∙ at)) ∙ h.stays n e at;
    came = λ n fresh out none. elsewhere n out ∙ h.came n fresh out (ap entry_block (sym (elsewhere n out)) ∙ none);
    residency = record {
      members = r.members;
      committed = r.members;
      new = r.new;
      at = there;
      live = λ heap within. subst IsSome (sym (commit_blocks heap.0)) (r.live heap within);
      all = λ heap some. r.all heap (subst IsSome (commit_blocks heap.0) some);
      once = r.once;
    };
  }

  pub commit_sets : residency_of now (Some set) ≡ committed (residency_of held (Some set))
  commit_sets = ap entry_residency there ∙ ap (λ (x : Option Entry). committed (entry_residency x)) (sym r.at)

-- what a commit leaves
pub record Commits (set : Option MTLResidencySet) (first held now : Held) : Type 0 where
  pub holds : HoldsFirst set first now
  pub blocks : (n : ℕ) → blocks_of first now n ≡ blocks_of first held n
  pub residency : residency_of now set ≡ committed (residency_of held set)

pub commits : (set : Option MTLResidencySet) (first held now : Held) → now ≡ with_committed held set → HoldsFirst set first held → Commits set first held now
commits None first held now is h = record { holds = subst (HoldsFirst None first) (sym is) h; blocks = λ n. ap (λ k. blocks_of first k n) is; residency = refl }
commits (Some set) first held now is h = record { holds = commit_holds set first held now is h; blocks = commit_blocks set first held now is h; residency = commit_sets set first held now is h }

-- ---- no blocks are left

no_members : (set : MTLResidencySet) (first held : Held) (r : HasBlocks set first held) → ((n : ℕ) → blocks_of first held n ≡ None) → r.members ≡ []
no_members set first held r none = by r.members (λ heap within. is_some_none (blocks_of first held heap.0) (none heap.0) (r.live heap within))
  where
    by : (members : List MTLHeap) → ((heap : MTLHeap) → Contains members heap → ⊥) → members ≡ []
    by [] none = refl
    by (m ∷ ms) none = absurd (none m (contains_of (m ∷ ms) m (inl refl)))

-- beside the set, what isn't a block is what was held at first
pub beside_blocks : (set : Option MTLResidencySet) (first held : Held) → HoldsFirst set first held → (n : ℕ) → IsNotSet set n → blocks_of first held n ≡ None → get held n ≡ get first n
beside_blocks set first held h n out none = by (get first n) refl
  where
    by : (x : Option Entry) → get first n ≡ x → get held n ≡ get first n
    by None is = h.came n is out (ap (λ y. new_block y (get held n)) (sym is) ∙ none) ∙ sym is
    by (Some e) is = h.stays n e is ∙ sym is

-- the device holds what it held at first, and the set without members
pub all_left : (set : Option MTLResidencySet) (first held : Held) → HoldsFirst set first held → ((n : ℕ) → blocks_of first held n ≡ None) → held ≡ left_behind first set (residency_of held set)
all_left None first held h none = held_alike held first (λ n. beside_blocks None first held h n tt (none n))
all_left (Some set) first held h none =
    let r = h.residency in
    let alone_set : Held = insert first set.0 (Set [] r.committed) in
    let alone : held ≡ alone_set =
    held_alike held alone_set (λ n.
    ⊎_elim
    (λ same. ap (get held) same ∙ r.at ∙ ap (λ ms. Some (Set ms r.committed)) (no_members set first held r none) ∙ sym (get-insert_same first set.0 (Set [] r.committed)) ∙ ap (get alone_set) (sym same))
    (λ ne. beside_blocks (Some set) first held h n ne (none n) ∙ sym (get-insert_other first set.0 n (Set [] r.committed) ne))
    (cases_eq n set.0)) in
    alone ∙ ap (λ x. left_behind first (Some set) (entry_residency x)) (sym r.at)
