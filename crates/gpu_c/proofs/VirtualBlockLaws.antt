-- Laws of blocks that are cut into pieces.
use Rattle.std.proofs.Common.{◌≡◌, ℕ, true, sym, ap, ◌∙◌, subst, Some, None}
use Rattle.std.specs.Prelude.{Contains}
use Rattle.std.proofs.lemmas.Bool.{false≢true}
use Rattle.gpu_block_pieces.specs.FreeList.{Extent, FindsPlace}
use Rattle.gpu_block.specs.Block.{Block, free_list, dedicated, extents_of, is_shared, IsSoundBlock}
use Rattle.gpu_c.specs.VirtualBlock.{IsLivePiece}
use Rattle.gpu_c.specs.declared.virtual_block_values.VirtualPiece.{VirtualPiece}

-- a number is one piece's
pub one_piece : (b : Block) (x y : Extent) → is_shared b ≡ true → IsSoundBlock b → Contains (extents_of b) x → Contains (extents_of b) y → x.chunk_id ≡ y.chunk_id → x ≡ y
one_piece (free_list b) x y general sound cx cy e = sound.one_number x y cx cy e
one_piece (dedicated b) x y general sound cx cy e = absurd (false≢true general)

-- no piece has the number that a look-up didn't find
pub none_lives : (b' b : Block) (piece : VirtualPiece) (n : ℕ) → b' ≡ b → n ≡ piece.number → FindsPlace (extents_of b') n None → IsLivePiece b piece → ⊥
none_lives b' b piece n same named h live = let l = subst (λ (z : Block). IsLivePiece z piece) (sym same) live in h l.1.0 l.1.1 (l.1.2 ∙ sym named)

-- a piece that lies elsewhere isn't the one that is named
pub lives_elsewhere : (b' b : Block) (piece : VirtualPiece) (n : ℕ) (place : ℕ × ℕ) → b' ≡ b → n ≡ piece.number → is_shared b' ≡ true → IsSoundBlock b' → FindsPlace (extents_of b') n (Some place) →
    (place.0 ≡ piece.offset → ⊥) → IsLivePiece b piece → ⊥
lives_elsewhere b' b piece n place same named general sound h other live =
    let l = subst (λ (z : Block). IsLivePiece z piece) (sym same) live in
    let is = one_piece b' h.0 l.1.0 general sound h.1 l.1.1 (h.2 ∙ (named ∙ sym l.1.2)) in
    other (sym h.3 ∙ (ap (λ (x : Extent). x.offset) is ∙ l.1.3))
