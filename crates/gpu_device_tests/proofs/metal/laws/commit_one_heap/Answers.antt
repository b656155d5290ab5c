use Rattle.std.proofs.Common.{◌≡◌, ◌≢◌, ℕ, [], ◌∷◌, Some, None, refl, sym, ap, subst, ◌∙◌, arith}
use Rattle.std.specs.FinMap.{get, insert}
use Rattle.gpu_device.proofs.HeapsAndSets.{get-with_member, get-with_member_other, get-without_member, get-with_commit, get-with_commit_other}
use Rattle.gpu_device.proofs.Maps.{get-insert_same, get-insert_other}
use Rattle.gpu_device.specs.declared.metal.types.MTLHeap.{MTLHeap}
use Rattle.gpu_device.specs.Metal.{Entry, Set, Held, IsHeapEntry, IsSetEntry, with_member, without_member, with_commit, remove_member}
use Rattle.gpu_device_tests.proofs.metal.laws.commit_one_heap.Goals as goal

apart : (h : Held) (n m : ℕ) → get h n ≡ None → get h m ≡ Some (Set [] []) → m ≢ n
apart h n m new is = λ same. subst IsSetEntry (ap (get h) same ∙ new) (subst IsSetEntry (sym is) tt)

set_beside_new : (h k : Held) (n m : ℕ) (e : Entry) → k ≡ insert h n e → get h n ≡ None → get h m ≡ Some (Set [] []) → get k m ≡ Some (Set [] [])
set_beside_new h k n m e holds new is = ap (λ x. get x m) holds ∙ get-insert_other h n m e (apart h n m new is) ∙ is

new_heap : (h k : Held) (n : ℕ) (e : Entry) → k ≡ insert h n e → get k n ≡ Some e
new_heap h k n e holds = ap (λ x. get x n) holds ∙ get-insert_same h n e

-- a set with this heap as its one member, and with it as its one committed member, too
added : (h k : Held) (s : ℕ) (heap : MTLHeap) → k ≡ with_member h s heap → get h s ≡ Some (Set [] []) → get k s ≡ Some (Set (heap ∷ []) [])
added h k s heap adds is = ap (λ x. get x s) adds ∙ get-with_member h s heap [] [] is

committed : (h k : Held) (s : ℕ) (heap : MTLHeap) → k ≡ with_commit h s → get h s ≡ Some (Set (heap ∷ []) []) → get k s ≡ Some (Set (heap ∷ []) (heap ∷ []))
committed h k s heap commits is = ap (λ x. get x s) commits ∙ get-with_commit h s (heap ∷ []) [] is

none_left : (heap : MTLHeap) → remove_member (heap ∷ []) heap ≡ []
none_left heap = grind arith

removed : (h k : Held) (s : ℕ) (heap : MTLHeap) → k ≡ without_member h s heap → get h s ≡ Some (Set (heap ∷ []) (heap ∷ [])) → get k s ≡ Some (Set [] (heap ∷ []))
removed h k s heap removes is = ap (λ x. get x s) removes ∙ get-without_member h s heap (heap ∷ []) (heap ∷ []) is ∙ ap (λ members. Some (Set members (heap ∷ []))) (none_left heap)

pub add_allocation-requires : goal.add_allocation-requires
add_allocation-requires g c =
    let met = c.in_ok-heap.ensures in
    record {
      set = subst IsSetEntry (sym (set_beside_new _ _ _ _ _ met.holds met.number.1 c.requires)) tt;
      heap = subst IsHeapEntry (sym (new_heap _ _ _ _ met.holds)) tt;
    }

pub remove_allocation-requires : goal.remove_allocation-requires
remove_allocation-requires g c =
    let met = c.in_ok-heap.ensures in
    let ne = λ (same : c.in_ok-heap.heap.0 ≡ c.args.set.0). apart _ _ _ met.number.1 c.requires (sym same) in
    let is = set_beside_new _ _ _ _ _ met.holds met.number.1 c.requires in
    record {
      set = subst IsSetEntry (sym (committed _ _ _ _ c.commit.ensures.commits (added _ _ _ _ c.add_allocation.ensures.adds is))) tt;
      heap = subst IsHeapEntry (sym (ap (λ x. get x c.in_ok-heap.heap.0) c.commit.ensures.commits ∙ get-with_commit_other _ _ _ ne
          ∙ ap (λ x. get x c.in_ok-heap.heap.0) c.add_allocation.ensures.adds ∙ get-with_member_other _ _ _ _ ne ∙ new_heap _ _ _ _ met.holds)) tt;
    }

pub returns-clause-granted : goal.returns-clause-granted
returns-clause-granted g c =
    let met = c.in_ok-heap.ensures in
    let is = set_beside_new _ _ _ _ _ met.holds met.number.1 c.requires in
    removed _ _ _ _ c.remove_allocation.ensures.removes (committed _ _ _ _ c.commit.ensures.commits (added _ _ _ _ c.add_allocation.ensures.adds is))
