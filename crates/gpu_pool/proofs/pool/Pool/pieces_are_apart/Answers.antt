use Rattle.std.proofs.Common.{subst, ℕ}
use Rattle.gpu_core.specs.Slots.{AreSound}
use Rattle.gpu_core.specs.Blocks.{slots_at, EachKeepsOneEmptyAtMost}
use Rattle.gpu_core.proofs.Apart.{piece_inside, pieces_pages}
use Rattle.gpu_pool.specs.Held.{HoldsJustBlocks}
use Rattle.gpu_pool.specs.State.{State, kind_at, IsSoundAt}
use Rattle.gpu_pool.proofs.Apart.{live_apart}
use Rattle.gpu_pool.proofs.pool.Pool.pieces_are_apart.Goals as goal
use Rattle.gpu_pool.proofs.pool.Pool.pieces_are_apart.Goals.{After-blocks_are_sound}

sound : (g : _) (c : After-blocks_are_sound g) → (t : ℕ) → AreSound (kind_at (g.S.BlockSource.kinds c.args.self.now.source) t).1 (slots_at c.args.self.now.slots t)
sound g c t =
    let B = g.S.BlockSource in
    let i = c.self.inside in
    subst (λ (s : State g.row.S.Denot g.row.S-Handle.Denot). AreSound (kind_at (B.kinds s.source) t).1 (slots_at s.slots t)) c.self.view_is
    (subst (λ ks. IsSoundAt ks i.requests.slots t) c.self.invariant.1 (c.blocks_are_sound.ensures.sound t))

pub returns-clause-inside : goal.returns-clause-inside
returns-clause-inside g c = λ t p live.
    let s = c.args.self.now in
    piece_inside g.S.Handle.PartialEq.eq (kind_at (g.S.BlockSource.kinds s.source) t).1 s.slots t (sound g (goal.at.returns-clause-inside g c).After-blocks_are_sound t) p live

pub returns-clause-apart : goal.returns-clause-apart
returns-clause-apart g c =
    let B = g.S.BlockSource in
    let s = c.args.self.now in
    let holds : HoldsJustBlocks B.number (B.held s.source) s.slots =
    subst (λ (k : State g.row.S.Denot g.row.S-Handle.Denot). HoldsJustBlocks B.number (B.held k.source) k.slots) c.self.view_is c.self.invariant.2 in
    live_apart g.S.Handle.PartialEq.eq B.number g.met.S.BlockSource.same (B.held s.source) s.slots holds (λ t. (kind_at (B.kinds s.source) t).1) (sound g (goal.at.returns-clause-apart g c).After-blocks_are_sound)

pub returns-clause-pages : goal.returns-clause-pages
returns-clause-pages g c = λ t p q live_p live_q.
    let s = c.args.self.now in
    pieces_pages g.S.Handle.PartialEq.eq (kind_at (g.S.BlockSource.kinds s.source) t).1 s.slots t (sound g (goal.at.returns-clause-pages g c).After-blocks_are_sound t) p q live_p live_q

pub returns-clause-sound : goal.returns-clause-sound
returns-clause-sound g c = sound g (goal.at.returns-clause-sound g c).After-blocks_are_sound

pub returns-clause-empty : goal.returns-clause-empty
returns-clause-empty g c =
    subst (λ (s : State g.row.S.Denot g.row.S-Handle.Denot). EachKeepsOneEmptyAtMost s.slots) c.self.view_is c.blocks_are_sound.ensures.empty
