-- A change of a block of either form has one outcome.
use Rattle.std.proofs.Common.{◌≡◌, ℕ, List, sym, ap, ◌∙◌, inl, inr, Option, Some, None}
use Rattle.std.specs.Prelude.{IsSome}
use Rattle.std.proofs.lemmas.Bool.{false≢true}
use Rattle.gpu_values.specs.declared.error.AllocationError.TheVariants.{OutOfMemory}
use Rattle.gpu_block_pieces.specs.FreeList.{FreeList}
use Rattle.gpu_block_pieces.specs.Request.{Request}
use Rattle.gpu_block_pieces.specs.Changes.{Said, Relabels}
use Rattle.gpu_block.specs.Block.{Block, free_list, dedicated, TakesIn, ReleasesIn, RelabelsIn, IsAllocateRefusalIn, IsSoundBlock}
use Rattle.gpu_block_pieces.proofs.OneOutcome.{takes_once, takes_or_none, releases_once, same_block}

pub take_once_in : (old : Block) (r : Request) (o p n m : ℕ) (new next : Block) → IsSoundBlock old → TakesIn old r o n new → TakesIn old r p m next → (o ≡ p) × (n ≡ m) × (new ≡ next)
take_once_in (free_list old) r o p n m (free_list new) (free_list next) sound t u =
    let s = takes_once old r o p n m new next sound.one_gap t u in
    (s.offsets, s.numbers, ap free_list s.blocks)
take_once_in (free_list old) r o p n m (free_list new) (dedicated next) sound t u = absurd u
take_once_in (free_list old) r o p n m (dedicated new) next sound t u = absurd t
take_once_in (dedicated old) r o p n m (dedicated new) (dedicated next) sound t u =
    (t.2 ∙ sym u.2, t.3 ∙ sym u.3, ap dedicated (t.4 ∙ sym u.4))
take_once_in (dedicated old) r o p n m (dedicated new) (free_list next) sound t u = absurd u
take_once_in (dedicated old) r o p n m (free_list new) next sound t u = absurd t

not_empty : {X : Type 0} (o : Option X) → IsSome o → o ≡ None → ⊥
not_empty None h e = absurd (false≢true h)
not_empty (Some x) h e = cc

pub take_or_none_in : (old : Block) (r : Request) (o n : ℕ) (new : Block) → TakesIn old r o n new → IsAllocateRefusalIn old r OutOfMemory → ⊥
take_or_none_in (free_list old) r o n (free_list new) t h = takes_or_none old r o n new t h
take_or_none_in (free_list old) r o n (dedicated new) t h = t
take_or_none_in (dedicated old) r o n (dedicated new) t h =
    elim h [
      | inl a ↦ not_empty old.piece a.0 t.0
      | inr b ↦ elim b [ inl a ↦ absurd cc | inr a ↦ absurd cc ]
    ]
take_or_none_in (dedicated old) r o n (free_list new) t h = t

pub release_once_in : (old : Block) (n : ℕ) (new next : Block) → IsSoundBlock old → ReleasesIn old n new → ReleasesIn old n next → new ≡ next
release_once_in (free_list old) n (free_list new) (free_list next) sound t u = ap free_list (releases_once old n new next sound t u)
release_once_in (free_list old) n (free_list new) (dedicated next) sound t u = absurd u
release_once_in (free_list old) n (dedicated new) next sound t u = absurd t
release_once_in (dedicated old) n (dedicated new) (dedicated next) sound t u = ap dedicated (t.2 ∙ sym u.2)
release_once_in (dedicated old) n (dedicated new) (free_list next) sound t u = absurd u
release_once_in (dedicated old) n (free_list new) next sound t u = absurd t

relabels_once : (old : FreeList) (n : ℕ) (said : Said) (new next : FreeList) → Relabels old n said new → Relabels old n said next → new ≡ next
relabels_once old n said new next t u =
    same_block new next (t.same.0 ∙ sym u.same.0) (t.same.1 ∙ sym u.same.1) (t.same.2 ∙ sym u.same.2) (t.extents ∙ sym u.extents) (t.same.3 ∙ sym u.same.3)

pub relabel_once_in : (old : Block) (n : ℕ) (said : Said) (new next : Block) → RelabelsIn old n said new → RelabelsIn old n said next → new ≡ next
relabel_once_in (free_list old) n said (free_list new) (free_list next) t u = ap free_list (relabels_once old n said new next t u)
relabel_once_in (free_list old) n said (free_list new) (dedicated next) t u = absurd u
relabel_once_in (free_list old) n said (dedicated new) next t u = absurd t
relabel_once_in (dedicated old) n said (dedicated new) (dedicated next) t u = ap dedicated (t.2 ∙ sym u.2)
relabel_once_in (dedicated old) n said (dedicated new) (free_list next) t u = absurd u
relabel_once_in (dedicated old) n said (free_list new) next t u = absurd t
