use Rattle.std.proofs.Common.{ℕ, Option, set, subst}
use Rattle.gpu_block_chunks.specs.ChunkIds.{link_at, ChangesLink}
use Rattle.gpu_block_chunks.proofs.IdRows.{put_behind}
use Rattle.gpu_block_chunks.proofs.chain.chunk_ids.link.Goals as goal

pub returns-clause-links : goal.returns-clause-links
returns-clause-links c =
    let heads = c.args.heads.now in
    let fs = c.args.followers.now.items in
    let set_follower = c.set_follower in
    let links = subst (λ (l : Option ℕ). ChangesLink (link_at heads (set fs c.args.slot c.follower.result)) (link_at set_follower.new.heads set_follower.new.followers.items) c.args.chain c.args.before l)
    c.new.ensures set_follower.ensures.links in
    put_behind heads fs set_follower.new.heads set_follower.new.followers.items c.args.chain c.args.before c.args.slot c.follower.result
    c.requires.other c.requires.slot c.follower.ensures links
