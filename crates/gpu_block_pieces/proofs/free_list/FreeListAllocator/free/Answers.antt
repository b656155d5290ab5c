use Rattle.std.proofs.Common.{◌≡◌, ◌+◌, ℕ, ap, sym, subst, arith}
use Rattle.std.specs.Int.NonZero.{non_zero_u64_get}
use Rattle.gpu_block_pieces.specs.FreeList.{FreeList, Counted, SomeExtent}
use Rattle.gpu_block_pieces.specs.Changes.{Releases}
use Rattle.gpu_block_pieces.specs.Indexed.{IsFreed}
use Rattle.gpu_block_pieces.specs.Chunks.{HoldsChunkId, free_list_of}
use Rattle.gpu_block_pieces.proofs.Releasing.{Released, released_at, none_live}
use Rattle.gpu_block_pieces.proofs.Separation.{releases_separated}
use Rattle.gpu_block_pieces.proofs.Sound.{sound_block}
use Rattle.gpu_block_pieces.proofs.Ordered.{ordered_block}
use Rattle.gpu_block_pieces.proofs.Covering.{sound_covered}
use Rattle.gpu_block_pieces.proofs.FoundByChunkId.{released_there}
use Rattle.gpu_block_pieces.proofs.Amounts.{bytes_of, released_bytes}
use Rattle.gpu_block_pieces.proofs.free_list.FreeListAllocator.free.Goals as goal
use Rattle.gpu_block_pieces.proofs.free_list.FreeListAllocator.free.Goals.{In-Some-free}
use Rattle.std.specs.Prelude.{IfSome, IsSomeAnd}

is_freed : (c : In-Some-free) → IsFreed c.self.inside.chunks.items (non_zero_u64_get c.in-Some.id) c.in-Some-free.freed c.free.new.self.items
is_freed c = subst (λ (n : ℕ). IsFreed c.self.inside.chunks.items n c.in-Some-free.freed c.free.new.self.items) c.get.ensures.value c.in-Some-free.ensures.freed

the_release : (c : In-Some-free) → Released c.self.inside.chunks.size c.self.inside.granularity c.self.inside.counter c.self.inside.chunks.items c.free.new.self.items
    (non_zero_u64_get c.in-Some.id)
the_release c =
    let r = released_there c.self.inside.chunks.items c.free.new.self.items (non_zero_u64_get c.in-Some.id) c.in-Some-free.freed c.self.invariant.1.distinct (is_freed c) in
    released_at c.self.inside.chunks.size c.self.inside.granularity c.self.inside.counter c.self.inside.chunks.items c.free.new.self.items r.index (non_zero_u64_get c.in-Some.id)
    c.self.invariant.1 r.held r.released

pub returns-in_default-free-clause-not_live : goal.returns-in_default-free-clause-not_live
returns-in_default-free-clause-not_live c =
    let i = c.self.inside in
    let none : (k : ℕ) → HoldsChunkId i.chunks.items (non_zero_u64_get c.in-Some.id) k → ⊥ =
    λ k h. c.in_default-free.ensures.freed.0 k (subst (λ n. HoldsChunkId i.chunks.items n k) (sym c.get.ensures.value) h) in
    subst (λ o. IfSome o (λ n. SomeExtent c.args.self.now.block (λ x. x.chunk_id ≡ non_zero_u64_get n) → ⊥)) (sym c.in-Some.is)
    (subst (λ (b : FreeList). SomeExtent b (λ x. x.chunk_id ≡ non_zero_u64_get c.in-Some.id) → ⊥) (ap (λ (v : Counted). v.block) c.self.view_is)
    (none_live i.chunks.size i.granularity i.counter i.chunks.items (non_zero_u64_get c.in-Some.id) none))

the_bytes : (c : In-Some-free) → bytes_of c.self.inside.chunks.items ≡ c.in-Some-free.freed + bytes_of c.free.new.self.items
the_bytes c =
    released_bytes c.self.inside.chunks.items c.free.new.self.items (non_zero_u64_get c.in-Some.id) c.in-Some-free.freed c.self.invariant.1.distinct (is_freed c)

pub overflow_sub-self : goal.overflow_sub-self
overflow_sub-self c =
    let b = the_bytes ((goal.at.overflow_sub-self c).In-Some-free) in
    let i = c.self.invariant.4 in
    omega arith

pub invariant_of-self-2 : goal.invariant_of-self-2
invariant_of-self-2 c =
    let at = (goal.at.invariant_of-self-2 c).In-Some-free in
    let i = c.self.inside in
    let r = the_release at in
    let b = the_bytes at in
    let held = c.self.invariant.4 in
    rw c.free.ensures.size (
      c.self.invariant.0,
      r.are,
      releases_separated (free_list_of i.chunks.size i.granularity i.counter i.chunks.items) (non_zero_u64_get c.in-Some.id)
          (free_list_of i.chunks.size i.granularity i.counter c.free.new.self.items) c.self.invariant.2 r.releases,
      c.self.invariant.3,
      omega arith,
    )

pub returns-clause-freed : goal.returns-clause-freed
returns-clause-freed c =
    let i = c.self.inside in
    let new = free_list_of i.chunks.size i.granularity i.counter c.free.new.self.items in
    rw c.free.ensures.size (subst (λ o. IsSomeAnd o (λ n. Releases c.args.self.now.block (non_zero_u64_get n) new)) (sym c.in-Some.is)
    (subst (λ b. Releases b (non_zero_u64_get c.in-Some.id) new) (ap (λ (v : Counted). v.block) c.self.view_is) (the_release ((goal.at.returns-clause-freed c).In-Some-free)).releases))

pub returns-clause-sound : goal.returns-clause-sound
returns-clause-sound c = rw c.free.ensures.size
    (sound_block c.free.new.self.items c.self.inside.chunks.size c.self.inside.granularity c.self.inside.counter (the_release ((goal.at.returns-clause-sound c).In-Some-free)).are)

pub returns-clause-separated : goal.returns-clause-separated
returns-clause-separated c = releases_separated (free_list_of c.self.inside.chunks.size c.self.inside.granularity c.self.inside.counter c.self.inside.chunks.items) (non_zero_u64_get c.in-Some.id)
    (free_list_of c.self.inside.chunks.size c.self.inside.granularity c.self.inside.counter c.free.new.self.items) c.self.invariant.2
    (the_release ((goal.at.returns-clause-separated c).In-Some-free)).releases

pub returns-clause-covered : goal.returns-clause-covered
returns-clause-covered c =
    let at = (goal.at.returns-clause-covered c).In-Some-free in
    let i = c.self.inside in
    rw c.free.ensures.size (sound_covered (free_list_of i.chunks.size i.granularity i.counter c.free.new.self.items)
    (sound_block c.free.new.self.items i.chunks.size i.granularity i.counter (the_release at).are))

pub returns-clause-ordered : goal.returns-clause-ordered
returns-clause-ordered c = rw c.free.ensures.size
    (ordered_block c.free.new.self.items c.self.inside.chunks.size c.self.inside.granularity c.self.inside.counter (the_release ((goal.at.returns-clause-ordered c).In-Some-free)).are)
