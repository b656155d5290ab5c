use Rattle.std.proofs.Common.{◌≡◌, ℕ, ◌+◌, ◌^◌, ◌<◌, ◌≤◌, length, ap, ◌∙◌, inl, inr, pow_mono, arith}
use Rattle.std.proofs.lemmas.Bool.{cases_lt}
use Rattle.gpu_block_chunks.specs.Eras.{newest}
use Rattle.gpu_block_chunks.proofs.Eras.{doubled}
use Rattle.gpu_block_chunks.proofs.IdsOf.{later_found}
use Rattle.gpu_block_chunks.proofs.chain.chunk_ids.ChunkIds.add_chains_to.Goals as goal

-- so few chains are of an early era
early : (era count : ℕ) → 2 ^ era < count → count < 2 ^ 32 → era < 32
early era count less few =
    elim (cases_lt era 32) [
      | inl lt ↦ lt
      | inr ge ↦ absurd (let grown : 2 ^ 32 ≤ 2 ^ era = pow_mono ge in omega arith)
    ]

-- the heads of twice as many chains are there
headed : (c : goal.In_ok-begin) → 2 ^ newest c.begin.new.self ≤ length c.loop-self.self.heads.items
headed c =
    let next = ap (λ (n : ℕ). 2 ^ n) c.in_ok-begin.ensures.newest ∙ doubled (newest c.loop-self.self.eras) in
    let heads = ap length c.loop-self.invariant.heads in
    let few = c.loop-self-test.true in
    let chains = c.chains.ensures in
    let enough = c.requires.heads in
    omega arith

pub loop-self-preserved : goal.loop-self-preserved
loop-self-preserved c =
    let loop = c.loop-self.self in
    let next = c.in_ok-begin.ensures.newest in
    let chains = c.chains.ensures in
    let less = c.loop-self-test.true in
    let few : newest loop.eras < 32 = early (newest loop.eras) c.args.count (omega arith) c.requires.few in
    record {
      found = λ chunks found.
          later_found loop.eras c.begin.new.self loop.heads.items loop.followers.items chunks (c.loop-self.invariant.found chunks found) (omega arith) (omega arith) (headed c)
          c.begin.ensures.latest c.begin.ensures.kept;
      few = omega arith;
      short = omega (arith, ap (λ (n : ℕ). 2 ^ n) next, doubled (newest loop.eras));
      heads = c.loop-self.invariant.heads;
      followers = c.loop-self.invariant.followers;
      latest = c.begin.ensures.latest ∙ c.loop-self.invariant.latest;
    }

pub returns-in_err-begin-clause-found : goal.returns-in_err-begin-clause-found
returns-in_err-begin-clause-found c = λ chunks found.
    let loop = c.loop-self.self in
    let had = c.loop-self.invariant.found chunks found in
    let same = ap length c.in_err-begin.ensures.refused in
    let few = had.eras_few in
    let headed : 2 ^ newest c.begin.new.self ≤ length loop.heads.items = omega (arith, ap (λ (n : ℕ). 2 ^ n) same, had.headed) in
    later_found loop.eras c.begin.new.self loop.heads.items loop.followers.items chunks had (omega arith) (omega arith) headed c.begin.ensures.latest c.begin.ensures.kept
