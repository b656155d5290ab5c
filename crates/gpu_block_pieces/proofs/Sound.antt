-- The block that laid-out chunks show is sound.
use Rattle.std.proofs.Common.{◌≡◌, ℕ, ◌+◌, ◌<◌, ◌≤◌, List, [], ◌∷◌, ◌++◌, get_or, refl, sym, ap, ◌∙◌, subst, inl, inr, arith}
use Rattle.std.specs.Prelude.{All, Contains}
use Rattle.std.proofs.lemmas.List.Elements.{All-weaker, All-nil, All-cons, All-contains, Contains-append_cases}
use Rattle.gpu_block_chunks.specs.declared.chunk.Chunk.{Chunk}
use Rattle.gpu_block_pieces.specs.FreeList.{Extent}
use Rattle.gpu_block_pieces.specs.Laws.{IsSound}
use Rattle.gpu_block_chunks.specs.ChunkList.{IsFree, Covers, AreDistinct}
use Rattle.gpu_block_pieces.specs.Chunks.{AreChunks, IsChunk, extent, extents_of, gaps_of, free_list_of}
use Rattle.gpu_block_pieces.proofs.Tiling.{around, Covers-le}
use Rattle.gpu_block_pieces.proofs.Views.{free_or_live, gaps-free, gaps-live, contains_mid, Member, all_members, member_of, earlier, same, later}
use Rattle.gpu_block_pieces.proofs.GapStarts.{order_in}
use Rattle.gpu_block_pieces.proofs.Takings.{each_of}
use Rattle.gpu_block_pieces.proofs.Numbers.{Not, one_at}

within_chunk : (cs : List Chunk) (size counter : ℕ) → AreChunks cs size counter → (x : Extent) → Member cs x → (x.start ≤ x.offset) × (x.offset < x.end) × (x.end ≤ size)
within_chunk cs size counter are x m =
    let r = around m.front m.chunk m.back 0 size (subst (λ (xs : List Chunk). Covers xs 0 size) m.split are.covers) in
    let le = Covers-le m.back (m.chunk.start + m.chunk.size) size r.after in
    let at = (each_of counter m.front m.chunk m.back (subst (λ (xs : List Chunk). All (IsChunk counter) xs) m.split are.each)).at in
    let a = at.after in let b = at.before in
    rw m.same (a, b, le)

-- the gap's chunk, by its entry
pub record GapMember (cs : List Chunk) (p : ℕ × ℕ) : Type 0 where
  pub front : List Chunk
  pub chunk : Chunk
  pub back : List Chunk
  pub split : cs ≡ front ++ chunk ∷ back
  pub free : IsFree chunk.kind
  pub start : p.0 ≡ chunk.start
  pub chunk_id : p.1 ≡ chunk.chunk_id

GapMember-more : (c : Chunk) (cs : List Chunk) (p : ℕ × ℕ) → GapMember cs p → GapMember (c ∷ cs) p
GapMember-more c cs p m = record { front = c ∷ m.front; chunk = m.chunk; back = m.back; split = ap (λ ys. c ∷ ys) m.split; free = m.free; start = m.start; chunk_id = m.chunk_id }

all_gap_members : (cs : List Chunk) → All (GapMember cs) (gaps_of cs)
all_gap_members [] = All-nil (GapMember [])
all_gap_members (c ∷ cs) =
    let rest : All (GapMember (c ∷ cs)) (gaps_of cs) = All-weaker (GapMember cs) (GapMember (c ∷ cs)) (GapMember-more c cs) (gaps_of cs) (all_gap_members cs) in
    elim (free_or_live c.kind) [
      | inl f ↦ subst (λ (xs : List (ℕ × ℕ)). All (GapMember (c ∷ cs)) xs) (sym (gaps-free c cs f))
          (All-cons (GapMember (c ∷ cs)) (c.start, c.chunk_id) (gaps_of cs) (record { front = []; chunk = c; back = cs; split = refl; free = f; start = refl; chunk_id = refl }) rest)
      | inr l ↦ subst (λ (xs : List (ℕ × ℕ)). All (GapMember (c ∷ cs)) xs) (sym (gaps-live c cs l)) rest
    ]

pub gap_member : (cs : List Chunk) (p : ℕ × ℕ) → Contains (gaps_of cs) p → GapMember cs p
gap_member cs p h = All-contains (GapMember cs) (gaps_of cs) p (all_gap_members cs) h

-- two chunks of one number are one
same_chunk : (cs front back f b : List Chunk) (c d : Chunk) → AreDistinct cs → cs ≡ front ++ c ∷ back → cs ≡ f ++ d ∷ b → c.chunk_id ≡ d.chunk_id → c ≡ d
same_chunk cs front back f b c d h p q e =
    let one = one_at front back c (subst (λ (xs : List Chunk). AreDistinct xs) p h) in
    let in' : Contains (front ++ c ∷ back) d = subst (λ (xs : List Chunk). Contains xs d) (sym q ∙ p) (contains_mid f b d) in
    elim (Contains-append_cases front (c ∷ back) d in') [
      | inl l ↦ absurd (All-contains (Not c.chunk_id) front d one.0 l (sym e))
      | inr r ↦ elim (Contains-append_cases (c ∷ []) back d r) [
        | inl here ↦ (let z : here.0 ≡ 0 = (let l = here.1 in omega arith) in subst (λ k. get_or (c ∷ []) k d ≡ d) z here.2)
        | inr l ↦ absurd (All-contains (Not c.chunk_id) back d one.1 l (sym e))
      ]
    ]

pub sound_block : (cs : List Chunk) (size g counter : ℕ) → AreChunks cs size counter → IsSound (free_list_of size g counter cs)
sound_block cs size g counter are =
    record {
      within = All-weaker (Member cs) (λ x. (x.start ≤ x.offset) × (x.offset < x.end) × (x.end ≤ size)) (within_chunk cs size counter are) (extents_of cs) (all_members cs);
      apart = λ x y hx hy.
          let m = member_of cs x hx in
          let n = member_of cs y hy in
          let ex : x.end ≡ m.chunk.start + m.chunk.size = ap (λ k. k.end) m.same in
          let sx : x.start ≡ m.chunk.start = ap (λ k. k.start) m.same in
          let ey : y.end ≡ n.chunk.start + n.chunk.size = ap (λ k. k.end) n.same in
          let sy : y.start ≡ n.chunk.start = ap (λ k. k.start) n.same in
          elim (order_in cs size m.front m.back n.front n.back m.chunk n.chunk are.covers m.split n.split) [
            | earlier l o ↦ inr (inr (omega arith))
            | same u v ↦ inl (m.same ∙ (ap extent v ∙ sym n.same))
            | later l o ↦ inr (inl (omega arith))
          ];
      one_number = λ x y hx hy e.
          let m = member_of cs x hx in
          let n = member_of cs y hy in
          let ex : x.chunk_id ≡ m.chunk.chunk_id = ap (λ k. k.chunk_id) m.same in
          let ey : y.chunk_id ≡ n.chunk.chunk_id = ap (λ k. k.chunk_id) n.same in
          m.same ∙ (ap extent (same_chunk cs m.front m.back n.front n.back m.chunk n.chunk are.distinct m.split n.split (sym ex ∙ (e ∙ ey))) ∙ sym n.same);
      one_gap = λ s k k' hk hk'.
          let m = gap_member cs (s, k) hk in
          let n = gap_member cs (s, k') hk' in
          let ms : s ≡ m.chunk.start = m.start in let ns : s ≡ n.chunk.start = n.start in
          let mp = (around m.front m.chunk m.back 0 size (subst (λ (xs : List Chunk). Covers xs 0 size) m.split are.covers)).nonempty in
          let np = (around n.front n.chunk n.back 0 size (subst (λ (xs : List Chunk). Covers xs 0 size) n.split are.covers)).nonempty in
          elim (order_in cs size m.front m.back n.front n.back m.chunk n.chunk are.covers m.split n.split) [
            | earlier l o ↦ absurd (omega arith)
            | same u v ↦ m.chunk_id ∙ (ap (λ c. c.chunk_id) v ∙ sym n.chunk_id)
            | later l o ↦ absurd (omega arith)
          ];
    }
