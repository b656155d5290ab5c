use Rattle.std.proofs.Common.{◌≡◌, ◌∙◌, ◌%◌, ap, refl, Ok, Err, Some, None}
use Rattle.gpu_values.specs.Refusal.{host_out_of_memory, refusal_of}
use Rattle.gpu_core.specs.TypeTake.{asked}
use Rattle.gpu_pool.specs.Allocate.{NoHostMemory}
use Rattle.gpu_pool.specs.Allocation.{piece_of}
use Rattle.gpu_pool.specs.Live as live
use Rattle.gpu_pool.specs.Move.{Proposes}
use Rattle.gpu_pool.proofs.Giving.{second_place}
use Rattle.gpu_pool.proofs.Moving.{placed, unplaced, refused, others}
use Rattle.gpu_pool.proofs.pool.Pool.propose_move_named.Goals as goal
use Rattle.gpu_pool.proofs.pool.Pool.propose_move_named.Goals.{In-Ok-None}

pub returns-in-Err-clause-proposes : goal.returns-in-Err-clause-proposes
returns-in-Err-clause-proposes g c = record { answer = Err host_out_of_memory; proposes = (NoHostMemory, (refl, refl)); returns = ap refusal_of c.in-Err.ensures.cause }

-- ---- a second place

pub returns-in-Ok-Some-clause-proposes : goal.returns-in-Ok-Some-clause-proposes
returns-in-Ok-Some-clause-proposes g c =
    let is = c.allocation_of.ensures in
    record {
      answer = Ok (Some c.in-Ok-Some.to);
      proposes = rw (c.in-Ok-Some.field-0-is, c.piece.ensures) at c.in-Ok-Some.ensures.proposes;
      returns = record { piece = is.piece; memory_type = is.memory_type; has_name = is.has_name ∙ c.in-Ok.ensures.name };
    }

pub returns-in-Ok-Some-clause-gives : goal.returns-in-Ok-Some-clause-gives
returns-in-Ok-Some-clause-gives g c =
    let a = c.args in
    let eq = g.S.Handle.PartialEq.eq in
    let t = a.from.now.memory_type_index in
    let q = c.in-Ok-Some.to in
    let old = a.self.now in
    let new = c.propose_move.new.self in
    let e = c.in-Ok-Some.ensures in
    let proposes : Proposes eq t (piece_of a.from.now) (asked a.request.now) old (Ok (Some q)) new = rw (c.in-Ok-Some.field-0-is, c.piece.ensures) at e.proposes in
    let gives : live.IsNewlyLive eq old.slots new.slots t q × (q.offset % a.request.now.alignment ≡ 0) × (q.size ≡ a.request.now.size) = rw c.in-Ok-Some.field-0-is at e.gives in
    second_place eq a.request.now.alignment old.slots new.slots a.from.now c.allocation_of.result _ q c.allocation_of.ensures gives.0 gives.1 (gives.2 ∙ c.requires.whole)
    (placed eq t (piece_of a.from.now) (asked a.request.now) old new q proposes).proposes.proposes.ahead

pub returns-in-Ok-Some-clause-others : goal.returns-in-Ok-Some-clause-others
returns-in-Ok-Some-clause-others g c =
    let a = c.args in
    others g.S.Handle.PartialEq.eq a.from.now.memory_type_index c.piece.result (asked a.request.now) a.self.now c.propose_move.new.self (Ok c.in-Ok-Some.field-0) c.in-Ok-Some.ensures.proposes

pub returns-in-Ok-Some-clause-keeps : goal.returns-in-Ok-Some-clause-keeps
returns-in-Ok-Some-clause-keeps g c = λ b live. c.propose_move.ensures.keeps b.memory_type_index (piece_of b) live

-- ---- none

pub returns-in-Ok-None-clause-proposes : goal.returns-in-Ok-None-clause-proposes
returns-in-Ok-None-clause-proposes g c = record { answer = Ok None; proposes = rw (c.in-Ok-None.field-0-is, c.piece.ensures) at c.in-Ok-None.ensures.proposes; returns = tt }

same_none : (g : _) (c : In-Ok-None g) → c.propose_move.new.self ≡ c.args.self.now
same_none g c =
    let a = c.args in
    let old = a.self.now in
    let new = c.propose_move.new.self in
    let proposes : Proposes g.S.Handle.PartialEq.eq a.from.now.memory_type_index c.piece.result (asked a.request.now) old (Ok None) new = rw c.in-Ok-None.field-0-is at c.in-Ok-None.ensures.proposes in
    unplaced g.S.Handle.PartialEq.eq a.from.now.memory_type_index c.piece.result (asked a.request.now) old new proposes

pub returns-in-Ok-None-clause-none : goal.returns-in-Ok-None-clause-none
returns-in-Ok-None-clause-none g c = λ _. same_none g (goal.at.returns-in-Ok-None-clause-none g c).In-Ok-None

pub returns-in-Ok-None-clause-others : goal.returns-in-Ok-None-clause-others
returns-in-Ok-None-clause-others g c =
    let a = c.args in
    others g.S.Handle.PartialEq.eq a.from.now.memory_type_index c.piece.result (asked a.request.now) a.self.now c.propose_move.new.self (Ok c.in-Ok-None.field-0) c.in-Ok-None.ensures.proposes

pub returns-in-Ok-None-clause-keeps : goal.returns-in-Ok-None-clause-keeps
returns-in-Ok-None-clause-keeps g c = λ b live. c.propose_move.ensures.keeps b.memory_type_index (piece_of b) live

-- ---- a refusal

pub returns-in-Err-propose_move-clause-proposes : goal.returns-in-Err-propose_move-clause-proposes
returns-in-Err-propose_move-clause-proposes g c = record {
  answer = Err (refusal_of c.in-Err-propose_move.error);
  proposes = rw c.piece.ensures at c.in-Err-propose_move.ensures.proposes;
  returns = refl;
}

pub returns-in-Err-propose_move-clause-refused : goal.returns-in-Err-propose_move-clause-refused
returns-in-Err-propose_move-clause-refused g c =
    let a = c.args in
    refused g.S.Handle.PartialEq.eq a.from.now.memory_type_index c.piece.result (asked a.request.now) a.self.now c.propose_move.new.self (refusal_of c.in-Err-propose_move.error) c.in-Err-propose_move.ensures.proposes

pub returns-in-Err-propose_move-clause-others : goal.returns-in-Err-propose_move-clause-others
returns-in-Err-propose_move-clause-others g c =
    let a = c.args in
    others g.S.Handle.PartialEq.eq a.from.now.memory_type_index c.piece.result (asked a.request.now) a.self.now c.propose_move.new.self (Err (refusal_of c.in-Err-propose_move.error))
    c.in-Err-propose_move.ensures.proposes

pub returns-in-Err-propose_move-clause-keeps : goal.returns-in-Err-propose_move-clause-keeps
returns-in-Err-propose_move-clause-keeps g c = λ b live. c.propose_move.ensures.keeps b.memory_type_index (piece_of b) live
