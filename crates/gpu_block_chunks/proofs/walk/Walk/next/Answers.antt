use Rattle.std.proofs.Common.{◌∙◌, ◌++◌, ap, sym, Some, arith}
use Rattle.std.proofs.lemmas.Grind.{common_steps}
use Rattle.gpu_block_chunks.specs.Chain.{walked}
use Rattle.gpu_block_chunks.proofs.Listing.{from_none, empty_of}
use Rattle.gpu_block_chunks.proofs.walk.Walk.next.Goals as goal

pub returns-in-None-clause-chunk : goal.returns-in-None-clause-chunk
returns-in-None-clause-chunk c =
    let none = ap (λ xs. xs ++ walked c.self.inside.chain c.self.inside.at) (empty_of c.self.inside.listed.now c.in_default.ensures.cases) ∙ ap (λ o. walked o c.self.inside.at) c.in_ok-chain.was
    ∙ ap (λ o. walked (Some c.in_ok-chain.chain) o) c.in_ok-at.was ∙ from_none c.in_ok-at.at c.in_ok-chain.chain.now.chunks c.in-None.ensures.value in
    (sym c.self.view_is ∙ none, sym c.self.view_is ∙ none)

pub returns-in-Some-chunk-clause-chunk : goal.returns-in-Some-chunk-clause-chunk
returns-in-Some-chunk-clause-chunk c = grind (arith, common_steps)
