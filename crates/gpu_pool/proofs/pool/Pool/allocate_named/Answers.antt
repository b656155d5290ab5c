use Rattle.std.proofs.Common.{◌∙◌, ap, refl, Ok, Err}
use Rattle.gpu_values.specs.Refusal.{host_out_of_memory, refusal_of}
use Rattle.gpu_pool.specs.Allocate.{NoHostMemory}
use Rattle.gpu_pool.specs.Allocation.{piece_of}
use Rattle.gpu_pool.proofs.Giving.{given_live}
use Rattle.gpu_pool.proofs.pool.Pool.allocate_named.Goals as goal

pub returns-in-Err-clause-allocates : goal.returns-in-Err-clause-allocates
returns-in-Err-clause-allocates g c = record { answer = Err host_out_of_memory; allocates = (NoHostMemory, (refl, refl)); returns = ap refusal_of c.in-Err.ensures.cause }

pub returns-in-Ok-allocate-clause-allocates : goal.returns-in-Ok-allocate-clause-allocates
returns-in-Ok-allocate-clause-allocates g c =
    let is = c.allocation_of.ensures in
    record {
      answer = Ok c.in-Ok-allocate.piece;
      allocates = c.in-Ok-allocate.ensures.allocates;
      returns = record { piece = is.piece; memory_type = is.memory_type; has_name = is.has_name ∙ c.in-Ok.ensures.name };
    }

pub returns-in-Err-allocate-clause-allocates : goal.returns-in-Err-allocate-clause-allocates
returns-in-Err-allocate-clause-allocates g c = record { answer = Err (refusal_of c.in-Err-allocate.error); allocates = c.in-Err-allocate.ensures.allocates; returns = refl }

pub returns-in-Ok-allocate-clause-keeps : goal.returns-in-Ok-allocate-clause-keeps
returns-in-Ok-allocate-clause-keeps g c = λ a live. c.allocate.ensures.keeps a.memory_type_index (piece_of a) live

pub returns-in-Ok-allocate-clause-live : goal.returns-in-Ok-allocate-clause-live
returns-in-Ok-allocate-clause-live g c =
    given_live _ c.args.self.now.slots c.allocate.new.self.slots c.args.index _ c.in-Ok-allocate.piece c.allocation_of.result c.allocation_of.ensures c.in-Ok-allocate.ensures.live
