-- A trace that is followed from before its first line, and what is drawn of it.
use Rattle.std.proofs.Common.{ℕ, List, Option, Some, None, refl}
use Rattle.std.specs.Prelude.{IfSome}
use Rattle.std.specs.Io.KnownBytes.{Appends, Keeps}
use Rattle.gpu_block_session.specs.Replay.{ReplaysTrace}
use Rattle.gpu_block_session.specs.declared.replay.Replayed.{Replayed}
use Rattle.gpu_block_session.specs.declared.replay.Replayed.TheVariants as replays
use Rattle.gpu_report.specs.Timeline.{timeline_svg}
use Rattle.gpu_picture.specs.Follow.{IsStart, Follows}
use Rattle.gpu_picture.specs.WholeTrace.{DrawsTrace}
use Rattle.gpu_picture.specs.declared.follow.Followed.{Followed}
use Rattle.gpu_picture.specs.declared.drawn.Drawn.TheVariants.{Whole, Bad}
use Rattle.gpu_picture.specs.declared.whole_trace.Wanted.TheVariants.{OverTime}

-- what is replayed of the known bytes, from before the first line on
abbrev pub FollowsKnown : Option (List ℕ) → Replayed Followed → Type 0
FollowsKnown known r = IfSome known (λ input. (x : Followed) × IsStart x × ReplaysTrace Follows x input r)

pub started : (known : Option (List ℕ)) (first : Followed) (r : Replayed Followed) → IsStart first → IfSome known (λ input. ReplaysTrace Follows first input r) → FollowsKnown known r
started None first r is h = tt
started (Some input) first r is h = (first, is, h)

keeps : (written : Option (List ℕ)) → Keeps written written
keeps None = tt
keeps (Some bytes) = refl

-- where a line is bad, nothing is written
pub bad_drawn : (known : Option (List ℕ)) (number : ℕ) (written : Option (List ℕ)) → FollowsKnown known (replays.Bad number)
    → IfSome known (λ input. DrawsTrace OverTime input (Bad number) written written)
bad_drawn None number written h = tt
bad_drawn (Some input) number written h = (h.0, h.1, h.2, keeps written)

pub whole_drawn : (known : Option (List ℕ)) (followed : Followed) (old new : Option (List ℕ)) → FollowsKnown known (replays.Whole followed)
    → Appends old new (timeline_svg followed.samples.items) → IfSome known (λ input. DrawsTrace OverTime input Whole old new)
whole_drawn None followed old new h drawn = tt
whole_drawn (Some input) followed old new h drawn = (h.0, h.1, followed, h.2, drawn)
