use Rattle.std.proofs.Common.{ℕ, List, Option, Result, Ok, Err, sym, subst, arith}
use Rattle.std.specs.Prelude.{OnOk, OnErr}
use Rattle.gpu_block_chunks.specs.ChunkIds.{AreFound}
use Rattle.gpu_block_chunks.proofs.IdsOf.{more_found}
use Rattle.gpu_block_chunks.proofs.chain.chunk_ids.ChunkIds.reserve_to.Goals as goal

either : {A B P Q R : Type 0} (result : Result A B) → OnOk result P → OnErr result Q → (P → R) → (Q → R) → R
either (Ok a) done failed to from = to done
either (Err e) done failed to from = from failed

pub returns-clause-found : goal.returns-clause-found
returns-clause-found c = λ chunks found.
    let ids = c.add_chains_to.new.self in
    let heads = ids.heads.items in
    let fs = ids.followers.items in
    let more = c.saturating_sub-more.result in
    let had : AreFound ids.eras heads fs chunks = c.add_chains_to.ensures.found chunks (c.add_heads_to.ensures.found chunks found) in
    let short = had.short in
    let few = had.chained.few in
    let most = c.if-slots-gt-MOST.false in
    let enough = c.in_ok-add_chains_to.ensures.enough in
    let now = c.len.ensures in
    let rest = c.saturating_sub-more.ensures in
    either c.add_followers.result c.add_followers.ensures.longer c.add_followers.ensures.same
    (λ longer. subst (λ (xs : List (Option ℕ)). AreFound ids.eras heads xs chunks) (sym longer) (more_found ids.eras heads fs chunks more had (omega arith) (omega arith)))
    (λ same. subst (λ (xs : List (Option ℕ)). AreFound ids.eras heads xs chunks) (sym same) had)
