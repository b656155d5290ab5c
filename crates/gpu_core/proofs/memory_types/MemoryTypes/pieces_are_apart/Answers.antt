use Rattle.gpu_core.specs.Types.{slots_of, type_of, MemoryTypesInvariant}
use Rattle.gpu_core.proofs.Apart.{piece_inside, pieces_apart, pieces_pages}
use Rattle.gpu_core.proofs.Types.{type_sound, type_empty}
use Rattle.gpu_core.proofs.memory_types.MemoryTypes.pieces_are_apart.Goals as goal

pub returns-clause-inside : goal.returns-clause-inside
returns-clause-inside g c =
    let types = c.args.self.now in
    let kept : MemoryTypesInvariant types = rw (← c.self.view_is) c.self.invariant.kept in
    λ t p live. piece_inside g.H.PartialEq.eq (type_of types t).granularity (slots_of types) t (type_sound types kept t) p live

pub returns-clause-apart : goal.returns-clause-apart
returns-clause-apart g c =
    let types = c.args.self.now in
    let kept : MemoryTypesInvariant types = rw (← c.self.view_is) c.self.invariant.kept in
    pieces_apart g.H.PartialEq.eq (slots_of types) (λ t. ((type_of types t).granularity, type_sound types kept t))

pub returns-clause-pages : goal.returns-clause-pages
returns-clause-pages g c =
    let types = c.args.self.now in
    let kept : MemoryTypesInvariant types = rw (← c.self.view_is) c.self.invariant.kept in
    λ t p q live_p live_q. pieces_pages g.H.PartialEq.eq (type_of types t).granularity (slots_of types) t (type_sound types kept t) p q live_p live_q

pub returns-clause-empty : goal.returns-clause-empty
returns-clause-empty g c =
    let types = c.args.self.now in
    let kept : MemoryTypesInvariant types = rw (← c.self.view_is) c.self.invariant.kept in
    type_empty types kept
