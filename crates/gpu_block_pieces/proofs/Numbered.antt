-- The numbers of gaps and of pieces, chunk by chunk, and why a new name is refused.
use Rattle.std.proofs.Common.{◌≡◌, ℕ, List, [], ◌∷◌, ◌||◌, refl, sym, ap, ◌∙◌, subst, eqb, Bool, inl, inr, Option, Some}
use Rattle.std.specs.List.{list_any, cons_option}
use Rattle.std.specs.Int.NonZero.{non_zero_u64_get}
use Rattle.std.specs.declared.num.NonZeroU64.{NonZeroU64}
use Rattle.gpu_block_pieces.specs.FreeList.{FreeList, SomeExtent, has_gap_chunk_id}
use Rattle.std.specs.Prelude.{Result, Ok, Err, IfErr, IsErrAnd}
use Rattle.gpu_values.specs.declared.error.AllocationError.{AllocationError}
use Rattle.gpu_values.specs.declared.error.AllocationError.TheVariants.{HostOutOfMemory}
use Rattle.gpu_values.specs.Refusal.{Refusal, refusal_of, host_out_of_memory}
use Rattle.gpu_block_pieces.specs.BlockRefusal.{no_piece_fault, IsRenameRefusal}
use Rattle.gpu_block_chunks.specs.declared.chunk.Chunk.{Chunk}
use Rattle.gpu_values.specs.declared.allocation_type.AllocationType.{AllocationType}
use Rattle.gpu_values.specs.declared.allocation_type.AllocationType.TheVariants.{Free, Linear, NonLinear}
use Rattle.gpu_block_pieces.specs.Chunks.{is_gap_by, gap_by, gaps_of, free_list_of, extent, HoldsChunkId}
use Rattle.gpu_block_pieces.proofs.Views.{contains_chunk}
use Rattle.gpu_block_pieces.proofs.Releasing.{none_live}

one_more : (k : AllocationType) (c : Chunk) (n : ℕ) (gs : List (ℕ × ℕ)) → list_any (λ g. eqb g.1 n) (cons_option (gap_by k c) gs) ≡ (is_gap_by k n c || list_any (λ g. eqb g.1 n) gs)
one_more Free c n gs = refl
one_more Linear c n gs = refl
one_more NonLinear c n gs = refl

-- a gap has the number where a free chunk has it
pub gap_of_chunks : (n : ℕ) (cs : List Chunk) → list_any (λ g. eqb g.1 n) (gaps_of cs) ≡ list_any (λ c. is_gap_by c.kind n c) cs
gap_of_chunks n [] = refl
gap_of_chunks n (c ∷ cs) = one_more c.kind c n (gaps_of cs) ∙ ap (λ b. is_gap_by c.kind n c || b) (gap_of_chunks n cs)

-- why a number that no live piece has is not renamed
pub rename_none : (b : FreeList) (id : Option NonZeroU64) (n : NonZeroU64) (refusal : Refusal) (t : Bool) → id ≡ Some n → (SomeExtent b (λ x. x.chunk_id ≡ non_zero_u64_get n) → ⊥)
    → has_gap_chunk_id b (non_zero_u64_get n) ≡ t → refusal ≡ no_piece_fault t → IsRenameRefusal b id refusal
rename_none b id n refusal t is none gap e =
    subst (λ o. IsRenameRefusal b o refusal) (sym is) (inl (none, e ∙ ap (λ u. no_piece_fault u) (sym gap)))

-- a live piece's new name is refused for lack of host memory alone
pub rename_live : (b : FreeList) (id : Option NonZeroU64) (n : NonZeroU64) (refusal : Refusal) → id ≡ Some n → SomeExtent b (λ x. x.chunk_id ≡ non_zero_u64_get n) → refusal ≡ host_out_of_memory →
    IsRenameRefusal b id refusal
rename_live b id n refusal is live e = subst (λ o. IsRenameRefusal b o refusal) (sym is) (inr (live, e))

pub gap_in_view : (size g counter : ℕ) (cs : List Chunk) (v : FreeList) (n : ℕ) → free_list_of size g counter cs ≡ v → has_gap_chunk_id v n ≡ list_any (λ c. is_gap_by c.kind n c) cs
gap_in_view size g counter cs v n e = ap (λ b. has_gap_chunk_id b n) (sym e) ∙ gap_of_chunks n cs

pub live_in_view : (size g counter : ℕ) (cs : List Chunk) (v : FreeList) (n i : ℕ) → free_list_of size g counter cs ≡ v → HoldsChunkId cs n i → SomeExtent v (λ x. x.chunk_id ≡ n)
live_in_view size g counter cs v n i e h =
    subst (λ b. SomeExtent b (λ x. x.chunk_id ≡ n)) e (extent h.chunk, contains_chunk cs h.front h.back h.chunk h.split h.live, h.numbered)

pub gap_told : (size g counter : ℕ) (cs ds : List Chunk) (v : FreeList) (n m : ℕ) (t : Bool) → free_list_of size g counter cs ≡ v → ds ≡ cs → m ≡ n → t ≡ list_any (λ c. is_gap_by c.kind m c) ds →
    has_gap_chunk_id v n ≡ t
gap_told size g counter cs ds v n m t e same chunk_id h =
    gap_in_view size g counter cs v n e ∙ sym (h ∙ (ap (λ ys. list_any (λ c. is_gap_by c.kind m c) ys) same ∙ ap (λ k. list_any (λ c. is_gap_by c.kind k c) cs) chunk_id))

pub none_in_view : (size g counter : ℕ) (cs ds : List Chunk) (v : FreeList) (n m : ℕ) → free_list_of size g counter cs ≡ v → ds ≡ cs → m ≡ n → ((k : ℕ) → HoldsChunkId ds m k → ⊥) → SomeExtent v
    (λ x. x.chunk_id ≡ n) → ⊥
none_in_view size g counter cs ds v n m e same chunk_id none live =
    none_live size g counter cs n (λ k h. none k (subst (λ (xs : List Chunk). HoldsChunkId xs m k) (sym same) (subst (λ i. HoldsChunkId cs i k) (sym chunk_id) h)))
    (subst (λ (b : FreeList). SomeExtent b (λ x. x.chunk_id ≡ n)) (sym e) live)

pub rename_host : {V : Type 0} (res : Result V AllocationError) (b : FreeList) (id : Option NonZeroU64) → IsErrAnd res (λ e. e ≡ HostOutOfMemory) → IsRenameRefusal b id host_out_of_memory → IfErr res
    (λ e. IsRenameRefusal b id (refusal_of e))
rename_host (Ok x) b id e h = tt
rename_host (Err x) b id e h = subst (λ y. IsRenameRefusal b id (refusal_of y)) (sym e) h
