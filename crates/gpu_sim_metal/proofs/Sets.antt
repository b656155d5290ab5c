-- What a change of one set makes of what is held, and of the room that sets have.
use Rattle.std.proofs.Common.{◌≡◌, ◌≢◌, ℕ, zero, suc, ◌+◌, ◌≤◌, List, [], ◌∷◌, ◌++◌, length, Option, Some, None, option_map, is_some, true, false, Result, Ok, Err, IfOk, OnErr, if◌then◌else◌, refl}
use Rattle.std.proofs.Common.{sym, ap, subst, ◌∙◌, arith, ⊎_elim, length-append}
use Rattle.std.proofs.lemmas.Bool.{cases_eq, cases_lt}
use Rattle.std.specs.FinMap.{get, insert, remove}
use Rattle.gpu_device.specs.declared.metal.types.MTLHeap.{MTLHeap}
use Rattle.gpu_device.specs.Metal.{Entry, Held, IsHeap, IsHeapEntry, change_set, remove_if_heap, without_heap, entry_members, members_of, entry_committed, committed_of}
use Rattle.gpu_device.specs.Metal as device
use Rattle.gpu_sim_base.specs.Numbers.{item_at, with_item_at}
use Rattle.gpu_sim_base.specs.NumbersLaws.{get-held}
use Rattle.gpu_sim_base.proofs.Holding.{removed, item_gone, replaced, put_back, put_twice, item_put, item_apart, no_item, item_added, item_beside, length_put}
use Rattle.gpu_sim_metal.specs.Objects.{entry_of, is_heap, held_by, set_in, HasRoom, AllHaveRoom}
use Rattle.gpu_sim_metal.specs.declared.objects.Object.{Object}
use Rattle.gpu_sim_metal.specs.declared.objects.Object.TheVariants.{Heap, Set}
use Rattle.gpu_sim_metal.specs.declared.residency_set.ResidencySet.{ResidencySet}

set_is : (x : Option Object) (s : ResidencySet) → set_in x ≡ Some s → x ≡ Some (Set s)
set_is None s e = cc
set_is (Some (Heap desc size)) s e = cc
set_is (Some (Set t)) s e = cc

-- ---- what is held

pub changed : (ss : List (Option Object)) (n : ℕ) (s t : ResidencySet) (f : List MTLHeap → List MTLHeap → Entry) → set_in (item_at ss n) ≡ Some s
    → entry_of (Set t) ≡ f s.members.items s.committed.items
    → held_by (with_item_at (with_item_at ss n None) n (Some (Set t))) ≡ change_set (held_by ss) n (get (held_by ss) n) f
changed ss n s t f e becomes =
    let is : item_at ss n ≡ Some (Set s) = set_is (item_at ss n) s e in
    ap held_by (put_twice ss n None (Some (Set t)))
    ∙ replaced entry_of ss n (Set s) (Set t) is
    ∙ ap (insert (held_by ss) n) becomes
    ∙ sym (ap (λ x. change_set (held_by ss) n x f) (get-held entry_of ss n ∙ ap (option_map entry_of) is))

no_set : (h : Held) (n : ℕ) (x : Option Object) (f : List MTLHeap → List MTLHeap → Entry) → set_in x ≡ None → h ≡ change_set h n (option_map entry_of x) f
no_set h n None f e = refl
no_set h n (Some (Heap desc size)) f e = refl
no_set h n (Some (Set s)) f e = cc

pub unchanged : (ss : List (Option Object)) (n : ℕ) (f : List MTLHeap → List MTLHeap → Entry) → set_in (item_at ss n) ≡ None
    → held_by ss ≡ change_set (held_by ss) n (get (held_by ss) n) f
unchanged ss n f e = no_set (held_by ss) n (item_at ss n) f e ∙ sym (ap (λ x. change_set (held_by ss) n x f) (get-held entry_of ss n))

pub set_entry : (t : ResidencySet) (members committed : List MTLHeap) → t.members.items ≡ members → t.committed.items ≡ committed
    → entry_of (Set t) ≡ device.Set members committed
set_entry t members committed m c = ap (λ l. device.Set l t.committed.items) m ∙ ap (device.Set members) c

-- a set that is put back with the same heaps
pub kept : (ss : List (Option Object)) (n : ℕ) (s t : ResidencySet) → set_in (item_at ss n) ≡ Some s → t.members.items ≡ s.members.items
    → t.committed.items ≡ s.committed.items → held_by (with_item_at (with_item_at ss n None) n (Some (Set t))) ≡ held_by ss
kept ss n s t e members committed =
    ap held_by (put_twice ss n None (Some (Set t)))
    ∙ put_back entry_of ss n (Set s) (Set t) (set_is (item_at ss n) s e) (set_entry t s.members.items s.committed.items members committed)

-- ---- room

pub room_in : (ss : List (Option Object)) (n k : ℕ) (s : ResidencySet) → HasRoom k (item_at ss n) → set_in (item_at ss n) ≡ Some s → k ≤ s.room
room_in ss n k s has e = subst (HasRoom k) (set_is (item_at ss n) s e) has

no_set_room : (x : Option Object) (k : ℕ) → set_in x ≡ None → HasRoom k x
no_set_room None k e = omega arith
no_set_room (Some (Heap desc size)) k e = omega arith
no_set_room (Some (Set s)) k e = cc

pub room_without_set : (ss : List (Option Object)) (n k : ℕ) → set_in (item_at ss n) ≡ None → HasRoom k (item_at ss n)
room_without_set ss n k e = no_set_room (item_at ss n) k e

pub item_there : (ss : List (Option Object)) (n : ℕ) (s t : ResidencySet) → set_in (item_at ss n) ≡ Some s
    → item_at (with_item_at (with_item_at ss n None) n (Some (Set t))) n ≡ Some (Set t)
item_there ss n s t e = ap (λ l. item_at l n) (put_twice ss n None (Some (Set t))) ∙ item_put ss n (Set s) (Set t) (set_is (item_at ss n) s e)

pub item_elsewhere : (ss : List (Option Object)) (n : ℕ) (t : ResidencySet) (q : ℕ) → q ≢ n
    → item_at (with_item_at (with_item_at ss n None) n (Some (Set t))) q ≡ item_at ss q
item_elsewhere ss n t q ne = ap (λ l. item_at l q) (put_twice ss n None (Some (Set t))) ∙ item_apart ss n (Some (Set t)) q ne

pub roomy_put : (ss : List (Option Object)) (n k : ℕ) (s t : ResidencySet) → AllHaveRoom k ss → set_in (item_at ss n) ≡ Some s → k ≤ t.room
    → AllHaveRoom k (with_item_at (with_item_at ss n None) n (Some (Set t)))
roomy_put ss n k s t all e le q =
    ⊎_elim
    (λ (at_n : q ≡ n). subst (λ j. HasRoom k (item_at (with_item_at (with_item_at ss n None) n (Some (Set t))) j)) (sym at_n)
    (subst (HasRoom k) (sym (item_there ss n s t e)) le))
    (λ ne. subst (HasRoom k) (sym (item_elsewhere ss n t q ne)) (all q))
    (cases_eq q n)

pub roomy_added : (ss : List (Option Object)) (k : ℕ) (o : Object) → AllHaveRoom k ss → HasRoom k (Some o) → AllHaveRoom k (ss ++ Some o ∷ [])
roomy_added ss k o all has q =
    ⊎_elim
    (λ (last : q ≡ suc (length ss)). subst (λ j. HasRoom k (item_at (ss ++ Some o ∷ []) j)) (sym last)
    (subst (HasRoom k) (sym (item_added ss (Some o))) has))
    (λ ne. subst (HasRoom k) (sym (item_beside ss (Some o) q ne)) (all q))
    (cases_eq q (suc (length ss)))

-- ---- a heap that is held has a number that was given out

pub heap_positive : (ss : List (Option Object)) (h : ℕ) → IsHeap (held_by ss) h → 1 ≤ h
heap_positive ss zero is = absurd (subst IsHeapEntry (get-held entry_of ss 0) is)
heap_positive ss (suc i) is = omega arith

pub heap_within : (ss : List (Option Object)) (h : ℕ) → IsHeap (held_by ss) h → h ≤ length ss
heap_within ss h is =
    ⊎_elim
    (λ beyond. absurd (subst IsHeapEntry (get-held entry_of ss h ∙ ap (option_map entry_of) (no_item ss h beyond)) is))
    (λ le. omega (arith, le))
    (cases_lt (length ss) h)

-- ---- the slots after a set was taken out, changed and put back

pub after : (ss ts us : List (Option Object)) (n : ℕ) (r : Option ResidencySet) (s t : ResidencySet) → ts ≡ (if is_some r then (with_item_at ss n None) else ss)
    → r ≡ Some s → us ≡ with_item_at ts n (Some (Set t)) → us ≡ with_item_at (with_item_at ss n None) n (Some (Set t))
after ss ts us n r s t taken is put =
    put ∙ ap (λ l. with_item_at l n (Some (Set t))) (taken ∙ ap (λ (x : Option ResidencySet). if is_some x then (with_item_at ss n None) else ss) is)

pub none_taken : (ss ts : List (Option Object)) (n : ℕ) (r : Option ResidencySet) → ts ≡ (if is_some r then (with_item_at ss n None) else ss) → r ≡ None → ts ≡ ss
none_taken ss ts n r taken is = taken ∙ ap (λ (x : Option ResidencySet). if is_some x then (with_item_at ss n None) else ss) is

pub roomy_after : (ss us : List (Option Object)) (n k : ℕ) (s t : ResidencySet) → us ≡ with_item_at (with_item_at ss n None) n (Some (Set t))
    → AllHaveRoom k ss → set_in (item_at ss n) ≡ Some s → s.room ≤ t.room → AllHaveRoom k us
roomy_after ss us n k s t is all e le =
    let enough : k ≤ s.room = room_in ss n k s (all n) e in
    subst (AllHaveRoom k) (sym is) (roomy_put ss n k s t all e (omega (arith, enough, le)))

pub length_after : (ss us : List (Option Object)) (n : ℕ) (t : ResidencySet) → us ≡ with_item_at (with_item_at ss n None) n (Some (Set t)) → length us ≡ length ss
length_after ss us n t is = ap length is ∙ length_put (with_item_at ss n None) n (Some (Set t)) ∙ length_put ss n None

-- ---- an object that is added, or a heap that goes

pub roomy_add : {A E : Type 0} (ss us : List (Option Object)) (k : ℕ) (o : Object) (r : Result A E) → AllHaveRoom k ss → HasRoom k (Some o)
    → IfOk r (λ n. us ≡ ss ++ Some o ∷ []) → OnErr r (us ≡ ss) → AllHaveRoom k us
roomy_add ss us k o (Ok n) all has is same = subst (AllHaveRoom k) (sym is) (roomy_added ss k o all has)
roomy_add ss us k o (Err e) all has is same = subst (AllHaveRoom k) (sym same) all

pub length_add : {A E : Type 0} (ss us : List (Option Object)) (o : Object) (r : Result A E)
    → IfOk r (λ n. us ≡ ss ++ Some o ∷ []) → OnErr r (us ≡ ss) → length us ≤ length ss + 1
length_add ss us o (Ok n) is same = let long : length (ss ++ Some o ∷ []) ≡ length ss + 1 = simp length-append (omega arith) in omega (arith, ap length is, long)
length_add ss us o (Err e) is same = omega (arith, ap length same)

pub roomy_removed : (ss : List (Option Object)) (n k : ℕ) → AllHaveRoom k ss → AllHaveRoom k (with_item_at ss n None)
roomy_removed ss n k all q =
    ⊎_elim
    (λ (at_n : q ≡ n). subst (λ j. HasRoom k (item_at (with_item_at ss n None) j)) (sym at_n)
    (subst (HasRoom k) (sym (item_gone ss n)) (omega arith)))
    (λ ne. subst (HasRoom k) (sym (item_apart ss n None q ne)) (all q))
    (cases_eq q n)

heap_goes : (h : Held) (n : ℕ) (x : Option Object) → is_heap x ≡ true → remove h n ≡ remove_if_heap h n (option_map entry_of x)
heap_goes h n None is = cc
heap_goes h n (Some (Heap desc size)) is = refl
heap_goes h n (Some (Set s)) is = cc

no_heap_stays : (h : Held) (n : ℕ) (x : Option Object) → is_heap x ≡ false → h ≡ remove_if_heap h n (option_map entry_of x)
no_heap_stays h n None is = refl
no_heap_stays h n (Some (Heap desc size)) is = cc
no_heap_stays h n (Some (Set s)) is = refl

pub heap_removed : (ss : List (Option Object)) (n : ℕ) → is_heap (item_at ss n) ≡ true → held_by (with_item_at ss n None) ≡ without_heap (held_by ss) n
heap_removed ss n is =
    removed entry_of ss n ∙ heap_goes (held_by ss) n (item_at ss n) is ∙ ap (remove_if_heap (held_by ss) n) (sym (get-held entry_of ss n))

pub heap_not_there : (ss : List (Option Object)) (n : ℕ) → is_heap (item_at ss n) ≡ false → held_by ss ≡ without_heap (held_by ss) n
heap_not_there ss n is = no_heap_stays (held_by ss) n (item_at ss n) is ∙ ap (remove_if_heap (held_by ss) n) (sym (get-held entry_of ss n))

-- ---- what a set tells

members_in : (x : Option Object) → entry_members (option_map entry_of x) ≡ option_map (λ (s : ResidencySet). s.members.items) (set_in x)
members_in None = refl
members_in (Some (Heap desc size)) = refl
members_in (Some (Set s)) = refl

committed_in : (x : Option Object) → entry_committed (option_map entry_of x) ≡ option_map (λ (s : ResidencySet). s.committed.items) (set_in x)
committed_in None = refl
committed_in (Some (Heap desc size)) = refl
committed_in (Some (Set s)) = refl

pub members_are : (ss : List (Option Object)) (n : ℕ) → members_of (held_by ss) n ≡ option_map (λ (s : ResidencySet). s.members.items) (set_in (item_at ss n))
members_are ss n = ap entry_members (get-held entry_of ss n) ∙ members_in (item_at ss n)

pub committed_are : (ss : List (Option Object)) (n : ℕ) → committed_of (held_by ss) n ≡ option_map (λ (s : ResidencySet). s.committed.items) (set_in (item_at ss n))
committed_are ss n = ap entry_committed (get-held entry_of ss n) ∙ committed_in (item_at ss n)
