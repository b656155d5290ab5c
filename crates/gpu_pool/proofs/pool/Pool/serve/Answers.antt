use Rattle.std.proofs.Common.{Ok, Err, Result}
use Rattle.gpu_core.specs.declared.piece.Piece.{Piece}
use Rattle.gpu_values.specs.Refusal.{Refusal, refusal_of}
use Rattle.gpu_pool.specs.Allocate.{request_at, AsksOf}
use Rattle.gpu_pool.specs.Source.{result_of}
use Rattle.gpu_pool.specs.Begin.{Begins}
use Rattle.gpu_pool.specs.RequestState.{RequestState}
use Rattle.gpu_pool.specs.declared.requests.Begun.TheVariants as begun
use Rattle.gpu_pool.proofs.Agreeing.{Ends, piece, refused, granted, declined}
use Rattle.gpu_pool.proofs.Outcomes.{Outcome, outcome}
use Rattle.gpu_pool.proofs.pool.Pool.serve.Goals as goal
use Rattle.gpu_pool.proofs.pool.Pool.serve.Goals.{After-begin, In-Err, In-Ok-Piece, In-Ok-Question, After-granted, After-declined}

abbrev Left : (g : _) (c : After-begin g) → Result (Piece g.row.S-Handle.Denot) Refusal → g.row.S.Denot → RequestState g.row.S-Handle.Denot → Type 0
Left g c answer after new = Outcome g.S.BlockSource c.args.index c.args.request.now c.args.extra c.args.self.now answer after new

left : (g : _) (c : After-begin g) (answer : Result (Piece g.row.S-Handle.Denot) Refusal) (after : g.row.S.Denot) (new : RequestState g.row.S-Handle.Denot)
    → Ends (AsksOf g.S.BlockSource) c.args.index c.args.request.now c.args.extra c.self.inside.source c.self.inside.requests answer after new → Left g c answer after new
left g c = outcome g.S.BlockSource c.args.index c.args.request.now c.args.extra c.self.inside.source c.self.inside.requests c.self.invariant c.blocks_are_sound.ensures.types c.args.self.now c.self.view_is c.requires.there

-- ---- no question

no_block : (g : _) (c : In-Err g) → Left g (goal.at.returns-in-Err-clause-allocates g c).After-begin (Err (refusal_of c.in-Err.error)) c.self.inside.source c.begin.new.self
no_block g c =
    left g (goal.at.returns-in-Err-clause-allocates g c).After-begin _ _ _
    (refused (AsksOf g.S.BlockSource) c.args.index c.args.request.now c.args.extra c.self.inside.source c.self.inside.requests c.self.invariant.0 c.in-Err.error c.begin.new.self c.in-Err.ensures.begins)

pub returns-in-Err-clause-allocates : goal.returns-in-Err-clause-allocates
returns-in-Err-clause-allocates g c = (no_block g c).allocates

shared : (g : _) (c : In-Ok-Piece g) → Left g (goal.at.invariant_of-self-in-Ok-Piece g c).After-begin (Ok c.in-Ok-Piece.piece) c.self.inside.source c.begin.new.self
shared g c =
    let b : Begins (request_at c.args.index c.args.request.now tt) c.self.inside.requests (Ok (begun.Piece c.in-Ok-Piece.piece)) c.begin.new.self = rw c.in-Ok-Piece.field-0-is at c.in-Ok-Piece.ensures.begins in
    left g (goal.at.invariant_of-self-in-Ok-Piece g c).After-begin _ _ _
    (piece (AsksOf g.S.BlockSource) c.args.index c.args.request.now c.args.extra c.self.inside.source c.self.inside.requests c.self.invariant.0 c.in-Ok-Piece.piece c.begin.new.self b)

pub invariant_of-self-in-Ok-Piece : goal.invariant_of-self-in-Ok-Piece
invariant_of-self-in-Ok-Piece g c = (shared g c).invariant

-- ---- a question

asked : (g : _) (c : In-Ok-Question g) → Begins (request_at c.args.index c.args.request.now tt) c.self.inside.requests (Ok (begun.Question c.in-Ok-Question.question)) c.begin.new.self
asked g c = rw c.in-Ok-Question.field-0-is at c.in-Ok-Question.ensures.begins

block_there : (g : _) (c : After-granted g) → Left g (goal.at.invariant_of-self-in-Ok g c).After-begin (result_of c.granted.result) c.ask.new.self c.granted.new.self
block_there g c =
    let f = goal.at.invariant_of-self-in-Ok g c in
    left g f.After-begin _ _ _
    (granted (AsksOf g.S.BlockSource) c.args.index c.args.request.now c.args.extra c.self.inside.source c.self.inside.requests c.self.invariant.0 c.in-Ok-Question.question c.begin.new.self (asked g f.In-Ok-Question)
    c.ask.new.self c.in-Ok.handle c.granted.result c.granted.new.self (let e = c.in-Ok.ensures in record { exactly = e.asked; held = e.held; constant = e.constant }) c.granted.ensures.grants)

pub invariant_of-self-in-Ok : goal.invariant_of-self-in-Ok
invariant_of-self-in-Ok g c = (block_there g c).invariant

pub returns-in-Ok-clause-allocates : goal.returns-in-Ok-clause-allocates
returns-in-Ok-clause-allocates g c = (block_there g c).allocates

not_there : (g : _) (c : After-declined g) → Left g (goal.at.invariant_of-self-in-Err-ask g c).After-begin (Err (refusal_of c.in-Err-ask.error)) c.ask.new.self c.declined.new.self
not_there g c =
    let f = goal.at.invariant_of-self-in-Err-ask g c in
    left g f.After-begin _ _ _
    (declined (AsksOf g.S.BlockSource) c.args.index c.args.request.now c.args.extra c.self.inside.source c.self.inside.requests c.self.invariant.0 c.in-Ok-Question.question c.begin.new.self (asked g f.In-Ok-Question)
    c.ask.new.self (refusal_of c.in-Err-ask.error) c.declined.result c.declined.new.self (let e = c.in-Err-ask.ensures in record { exactly = e.asked; held = e.held; constant = e.constant }) c.declined.ensures.declines)

pub invariant_of-self-in-Err-ask : goal.invariant_of-self-in-Err-ask
invariant_of-self-in-Err-ask g c = (not_there g c).invariant

pub returns-in-Err-ask-clause-allocates : goal.returns-in-Err-ask-clause-allocates
returns-in-Err-ask-clause-allocates g c = (not_there g c).allocates
