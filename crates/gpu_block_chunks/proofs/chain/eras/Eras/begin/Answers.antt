use Rattle.std.proofs.Common.{◌≡◌, ℕ, ◌%◌, ◌^◌, ◌∷◌, ◌++◌, List, [], length, sym, ap, ◌∙◌}
use Rattle.gpu_block_chunks.specs.Eras.{chains_when_new}
use Rattle.gpu_block_chunks.proofs.Eras.{chains_kept, chains_new}
use Rattle.gpu_block_chunks.proofs.chain.eras.Eras.begin.Goals as goal

begun : (c : goal.After-push_reserved) → c.push_reserved.new.self.items ≡ c.args.self.now.since.items ++ c.args.self.now.latest ∷ []
begun c = c.push_reserved.ensures.items ∙ ap (λ (xs : List ℕ). xs ++ c.args.self.now.latest ∷ []) c.in_ok-reserve.ensures.items

pub returns-clause-kept : goal.returns-clause-kept
returns-clause-kept c = λ k early.
    ap (λ (xs : List ℕ). k % chains_when_new xs (length xs) k) (begun c) ∙ ap (λ (n : ℕ). k % n) (chains_kept c.args.self.now.since.items c.args.self.now.latest k early)

pub returns-clause-new : goal.returns-clause-new
returns-clause-new c = λ k late.
    ap (λ (xs : List ℕ). k % chains_when_new xs (length xs) k) (begun c) ∙ ap (λ (n : ℕ). k % n) (chains_new c.args.self.now.since.items c.args.self.now.latest k late)
    ∙ ap (λ (xs : List ℕ). k % 2 ^ length xs) (sym (begun c))
