use Rattle.std.proofs.Common.{rules, ◌≡◌, ◌∙◌, sym, subst, Some}
use Rattle.std.specs.Int.NonZero.{non_zero_u64_get}
use Rattle.gpu_block.specs.Block.{ReleasesIn, IsSoundBlock}
use Rattle.gpu_block.specs.SubAllocator.{block_of}
use Rattle.gpu_block_session.specs.BlockSession.{State, piece_at, Freeing}
use Rattle.gpu_block_session.specs.declared.block.reply.Reply.TheVariants.{Freed}
use Rattle.gpu_block_session.proofs.BlockOwning.{owns_released, released_size}
use Rattle.gpu_block_session.proofs.block.session.BlockSession.free.Goals as goal
use Rattle.gpu_block_session.proofs.block.session.BlockSession.free.Goals.{After-unwrap}

abbrev before : After-unwrap → State
before c = record { block = block_of c.self.inside.block; bound = c.self.inside.bound.entries }

bound_before : (c : After-unwrap) → piece_at (before c) c.args.key ≡ Some c.in-Some.chunk
bound_before c = sym c.remove.ensures.value ∙ c.in-Some.is

the_release : (c : After-unwrap) → ReleasesIn (block_of c.self.inside.block) (non_zero_u64_get c.in-Some.chunk) (block_of c.free.new.self)
the_release c = rw c.unwrap.ensures at c.free.ensures.freed

the_soundness : (c : After-unwrap) → IsSoundBlock (block_of c.free.new.self)
the_soundness c = rw c.unwrap.ensures at c.free.ensures.sound

pub invariant_of-self : goal.invariant_of-self
invariant_of-self c = (
  released_size (block_of c.self.inside.block) (non_zero_u64_get c.in-Some.chunk) (block_of c.free.new.self) (the_release c) ∙ c.self.invariant.0,
  c.free.ensures.pages
      c.self.inside.granularity c.self.invariant.1,
  owns_released (before c) c.args.key c.in-Some.chunk (block_of c.free.new.self) c.remove.new.self.entries c.self.invariant.2 (bound_before c)
      (the_release c) (the_soundness c) c.remove.ensures.updates.0,
)

pub returns-in-Some : goal.returns-in-Some
returns-in-Some c =
    subst (λ s. Freeing s c.args.key Freed (record { block = block_of c.free.new.self; bound = c.remove.new.self.entries })) c.self.view_is
    (c.in-Some.chunk, bound_before c, the_release c, c.remove.ensures.entries)

pub returns-in-None : goal.returns-in-None
returns-in-None c = search rules
