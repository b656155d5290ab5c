-- Live pieces share no byte, and lie in blocks of their own numbers.
use Rattle.std.proofs.Common.{◌≡◌, ◌≢◌, ◌∙◌, ◌⊎◌, sym, inl, inr, ⊎_elim, ℕ, Bool, true}
use Rattle.gpu_core.specs.Slots.{AreSound}
use Rattle.gpu_core.specs.declared.piece.Piece.{Piece}
use Rattle.gpu_core.specs.Apart.{AreDistinct}
use Rattle.gpu_core.specs.Blocks.{Slots, slots_at}
use Rattle.gpu_core.proofs.Apart.{found, pieces_apart}
use Rattle.gpu_pool.specs.Held.{HoldsJustBlocks}
use Rattle.gpu_pool.specs.Live.{IsLive, AreBytesApart}
use Rattle.gpu_pool.specs.Source.{HeldBlocks}

module _ {H : Type 0} (eq : H → H → Bool) (number : H → ℕ) (alike : (a b : H) → eq a b ≡ true → number a ≡ number b) (held : HeldBlocks) (ss : Slots H) (h : HoldsJustBlocks number held ss)
    (pages : ℕ → ℕ) (sound : (t : ℕ) → AreSound (pages t) (slots_at ss t)) where
  pub live_apart : (t : ℕ) (p : Piece H) (u : ℕ) (q : Piece H) → IsLive eq ss t p → IsLive eq ss u q → AreDistinct t p u q → (number p.handle ≢ number q.handle) ⊎ AreBytesApart p q
  live_apart t p u q live_p live_q other =
      let f = found eq ss t p live_p in
      let k = found eq ss u q live_q in
      ⊎_elim
      (λ (away : t ≡ u → p.slot ≡ q.slot → ⊥).
      inl (λ same.
      let numbers : number f.s.handle ≡ number k.s.handle = alike f.s.handle p.handle f.handle ∙ same ∙ sym (alike k.s.handle q.handle k.handle) in
      let place = h.one_block t p.slot u q.slot f.s k.s f.at k.at numbers in
      away place.0 place.1))
      (λ apart. inr apart)
      (pieces_apart eq ss (λ v. (pages v, sound v)) t p u q live_p live_q other)
