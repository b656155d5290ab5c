use Rattle.std.proofs.Common.{◌≡◌, refl, subst, length}
use Rattle.gpu_core.specs.Blocks.{EachKeepsOneEmptyAtMost}
use Rattle.gpu_core.specs.Types.{kinds}
use Rattle.gpu_core.proofs.Types.{type_empty}
use Rattle.gpu_pool.specs.State.{IsSoundAt}
use Rattle.gpu_pool.proofs.Owning.{sound_at, as_many}
use Rattle.gpu_pool.specs.RequestState.{RequestState}
use Rattle.gpu_pool.proofs.requests.Requests.blocks_are_sound.Goals as goal

pub returns-clause-sound : goal.returns-clause-sound
returns-clause-sound g c = λ t. let i = c.self.inside in
    subst (λ (s : RequestState g.row.H.Denot). IsSoundAt s.kinds s.slots t) c.self.view_is (sound_at i.types (kinds i.types) refl c.self.invariant.0 t)

pub returns-clause-types : goal.returns-clause-types
returns-clause-types g c = let i = c.self.inside in
    subst (λ (s : RequestState g.row.H.Denot). length s.slots ≡ length s.kinds) c.self.view_is (as_many i.types (kinds i.types) refl)

pub returns-clause-empty : goal.returns-clause-empty
returns-clause-empty g c = let i = c.self.inside in
    subst (λ (s : RequestState g.row.H.Denot). EachKeepsOneEmptyAtMost s.slots) c.self.view_is (type_empty i.types c.self.invariant.0)
