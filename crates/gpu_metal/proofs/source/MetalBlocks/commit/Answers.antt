use Rattle.std.proofs.Common.{◌≡◌, ◌∙◌, refl, ℕ, subst}
use Rattle.gpu_metal.specs.Source.{SourceState, CommitsSet, blocks_of}
use Rattle.gpu_metal.proofs.Changing.{Commits, commits}
use Rattle.gpu_metal.proofs.source.MetalBlocks.commit.Goals as goal
use Rattle.gpu_metal.proofs.source.MetalBlocks.commit.Goals.{After-commit_set}

done : (g : _) (c : After-commit_set g) → (let V = g.D.MetalDevice in let i = c.self.inside in Commits i.set (V.held i.first.value) (V.held i.device) (V.held c.commit_set.new.device))
done g c =
    let V = g.D.MetalDevice in
    let i = c.self.inside in
    commits i.set (V.held i.first.value) (V.held i.device) (V.held c.commit_set.new.device) c.commit_set.ensures.held_is c.self.invariant.1

pub invariant_of-self : goal.invariant_of-self
invariant_of-self g c = (c.commit_set.ensures.constant ∙ c.self.invariant.0, (done g (goal.at.invariant_of-self g c).After-commit_set).holds)

pub returns-clause-commits : goal.returns-clause-commits
returns-clause-commits g c =
    let V = g.D.MetalDevice in
    let i = c.self.inside in
    let after = c.commit_set.new.device in
    let here : CommitsSet V (record { device = i.device; first = i.first.value; set = i.set }) (record { device = after; first = i.first.value; set = i.set }) =
    record { commits = c.commit_set.ensures; residency = (done g (goal.at.returns-clause-commits g c).After-commit_set).residency; state = refl } in
    subst (λ (s : SourceState g.row.D.Denot). CommitsSet V s (record { device = after; first = i.first.value; set = i.set })) c.self.view_is here

pub returns-clause-blocks : goal.returns-clause-blocks
returns-clause-blocks g c =
    let V = g.D.MetalDevice in
    let i = c.self.inside in
    let now = V.held c.commit_set.new.device in
    subst (λ (s : SourceState g.row.D.Denot). (n : ℕ) → blocks_of (V.held i.first.value) now n ≡ blocks_of (V.held s.first) (V.held s.device) n) c.self.view_is
    (done g (goal.at.returns-clause-blocks g c).After-commit_set).blocks
