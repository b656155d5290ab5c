use Rattle.std.proofs.Common.{◌≡◌, ℕ, ◌-◌, ◌*◌, ◌%◌, ◌^◌, ◌<◌, ◌⊎◌, inl, inr, sym, ap, subst, ◌∙◌, bit_and, get_or, arith}
use Rattle.std.proofs.lemmas.Nat.{and_mask, one_shl}
use Rattle.std.proofs.lemmas.List.{get_or_read}
use Rattle.gpu_block_chunks.specs.Eras.{newest, own_chain}
use Rattle.gpu_block_chunks.proofs.Eras.{of_era, own_within}
use Rattle.gpu_block_chunks.proofs.chain.eras.Eras.chain_of.Goals.{then-loop-era-test+else-chunk_id-index, else-loop-era-test}
use Rattle.gpu_block_chunks.proofs.chain.eras.Eras.chain_of.Goals as goal

last : (c : goal.Left-loop-era) → (c.loop-era.era ≡ 0) ⊎ (get_or c.args.self.now.since.items (c.loop-era.era - 1) 0 < c.args.chunk_id)
last c =
    elim c.loop-era-test.branch [
      | then-loop-era-test+else-chunk_id-index w ↦
          let some = w.loop-era-test.true in
          let within = c.loop-era.invariant.within in
          inr (subst (λ (n : ℕ). n < c.args.chunk_id) (get_or_read c.args.self.now.since.items (c.loop-era.era - 1) w.index.result.now (omega arith) w.index.ensures 0) w.if-chunk_id-index.false)
      | else-loop-era-test w ↦ inl (let test = w.loop-era-test.false in omega arith)
    ]

masked : (c : goal.Left-loop-era) → bit_and c.args.chunk_id ((1 * 2 ^ c.loop-era.era) % 2 ^ 64 - 1) ≡ own_chain c.args.self.now c.args.chunk_id
masked c =
    let k = c.args.chunk_id in
    let within = c.loop-era.invariant.within in
    let few = c.requires in
    ap (λ (n : ℕ). bit_and k (n - 1)) (one_shl c.loop-era.era 64 (omega arith)) ∙ and_mask k c.loop-era.era
    ∙ ap (λ (n : ℕ). k % n) (sym (c.loop-era.invariant.same ∙ of_era c.args.self.now.since.items c.loop-era.era k (last c)))

pub returns-clause-value : goal.returns-clause-value
returns-clause-value c = masked c

pub returns-clause-within : goal.returns-clause-within
returns-clause-within c = subst (λ (n : ℕ). n < 2 ^ newest c.args.self.now) (sym (masked c)) (own_within c.args.self.now c.args.chunk_id)
