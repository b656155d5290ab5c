use Rattle.std.proofs.Common.{refl, []}
use Rattle.gpu_ring.specs.Calls.{empty_ring}
use Rattle.gpu_ring.proofs.Never.{serves, kept_first}
use Rattle.gpu_ring.proofs.laws.large_ring_never_refuses.Goals as goal

pub returns : goal.returns
returns c = λ room calls.
    let a = c.args in
    serves a.most a.most_a_frame a.most_frames c.requires.some a.size c.requires.large calls (record { ring = empty_ring a.size room; frames = []; current = 0 }) refl
    (kept_first a.most a.most_a_frame a.most_frames c.requires.some a.size room c.requires.sized)
