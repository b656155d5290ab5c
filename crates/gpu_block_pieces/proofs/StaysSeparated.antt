-- What each step of the allocator keeps.
use Rattle.std.proofs.Common.{◌≡◌, ℕ, ◌<◌, List, refl, sym, ap, ◌∙◌, subst}
use Rattle.std.specs.Prelude.{IsTrue}
use Rattle.std.specs.Int.{is_power_of_two}
use Rattle.gpu_block_pieces.proofs.Powers.{power_from_test, positive_from_test}
use Rattle.gpu_block_chunks.specs.declared.chunk.Chunk.{Chunk}
use Rattle.gpu_values.specs.declared.error.AllocationError.{AllocationError}
use Rattle.gpu_block_pieces.specs.FreeList.{FreeList, IsGap}
use Rattle.gpu_block_pieces.specs.Request.{Request}
use Rattle.gpu_block_pieces.specs.Changes.{Takes}
use Rattle.gpu_block_pieces.specs.BlockRefusal.{IsAllocateRefusal}
use Rattle.gpu_block_pieces.specs.Laws.{IsSound, IsPageSeparated, IsLongEnough, IsForChunkIds}
use Rattle.gpu_block_pieces.specs.Chunks.{AreChunks, free_list_of}
use Rattle.gpu_block_pieces.proofs.Placing.{Takes-at}
use Rattle.gpu_block_pieces.proofs.Sound.{sound_block}
use Rattle.gpu_block_pieces.proofs.Separation.{takes_separated}
use Rattle.gpu_block_pieces.proofs.FitLaw.{law_of_refusal}

pub separated_after : (size g k counter after : ℕ) (cs new : List Chunk) (r : Request) (o n : ℕ) → IsTrue (is_power_of_two g) → k ≡ g → 0 < r.size → AreChunks cs size counter → IsPageSeparated
    (free_list_of size g counter cs) → Takes (free_list_of size k counter cs) r o n (free_list_of size k after new) → IsPageSeparated (free_list_of size g after new)
separated_after size g k counter after cs new r o n pg same some are apart t =
    takes_separated (free_list_of size g counter cs) r o n (free_list_of size g after new) (positive_from_test g pg) some (sound_block cs size g counter are) apart
    (Takes-at size g k counter after cs new (free_list_of size g counter cs) r o n n refl same refl t)

pub granularity_of : (size g counter : ℕ) (cs : List Chunk) (v : FreeList) (k : ℕ) → free_list_of size g counter cs ≡ v → k ≡ v.granularity → k ≡ g
granularity_of size g counter cs v k e h = h ∙ sym (ap (λ b. b.granularity) e)

pub law_at : (size g counter : ℕ) (cs : List Chunk) (v : FreeList) (r : Request) (err : AllocationError) → free_list_of size g counter cs ≡ v → AreChunks cs size counter → IsTrue (is_power_of_two g)
    → IsTrue (is_power_of_two r.alignment) → 0 < r.size → IsAllocateRefusal v r err → (s t : ℕ) → IsGap v s t → IsLongEnough v r s t → IsForChunkIds v err
law_at size g counter cs v r err e are pg pa some cause s t gap long =
    law_of_refusal v r s t err (subst (λ b. IsSound b) e (sound_block cs size g counter are)) (power_from_test v.granularity (subst (λ b. IsTrue (is_power_of_two b.granularity)) e pg))
    (power_from_test r.alignment pa) some gap long cause

-- ---- a take, with all that it keeps

pub record Stepped (v : FreeList) (r : Request) (o n size g after : ℕ) (new : List Chunk) : Type 0 where
  pub are : AreChunks new size after
  pub separated : IsPageSeparated (free_list_of size g after new)
  pub takes : Takes v r o n (free_list_of size g after new)

pub stepped : (v : FreeList) (r : Request) (o n chunk_id size g k counter after : ℕ) (cs new : List Chunk) → free_list_of size g counter cs ≡ v → k ≡ v.granularity → n ≡ chunk_id → IsTrue
    (is_power_of_two g) → 0 < r.size → AreChunks cs size counter → IsPageSeparated (free_list_of size g counter cs) → AreChunks new size after → Takes (free_list_of size k counter cs) r o chunk_id
    (free_list_of size k after new) → Stepped v r o n size g after new
stepped v r o n chunk_id size g k counter after cs new e h m pg some are apart are' t =
    record {
      are = are';
      separated = separated_after size g k counter after cs new r o chunk_id pg (granularity_of size g counter cs v k e h) some are apart t;
      takes = Takes-at size g k counter after cs new v r o n chunk_id e h m t;
    }
