use Rattle.std.proofs.Common.{◌≡◌}
use Rattle.gpu_core.specs.Types.{slots_of}
use Rattle.gpu_pool.specs.Free.{GivesBackAll}
use Rattle.gpu_pool.specs.Handles.{all_handles}
use Rattle.gpu_pool.specs.Held.{HoldsJust}
use Rattle.gpu_pool.proofs.free.give_back_all.Given as goal

-- what is left goes back as it would have from the start
abbrev pub invariant-loop-handle : goal.invariant-loop-handle
invariant-loop-handle g l =
    let B = g.S.BlockSource in
    record {
      holds : HoldsJust B.number (B.held l.source) l.handle-iterator;
      gives_back : (final : _) → GivesBackAll B.gives_back l.source l.handle-iterator final → GivesBackAll B.gives_back l.initial.source (all_handles (slots_of l.types)) final;
      constant : B.kinds l.source ≡ B.kinds l.initial.source;
    }
