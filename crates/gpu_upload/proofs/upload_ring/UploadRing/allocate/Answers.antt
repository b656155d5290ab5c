use Rattle.std.proofs.Common.{ℕ, ◌<◌, subst}
use Rattle.std.specs.Prelude.{IfSome}
use Rattle.gpu_ring.specs.Line.{Apart}
use Rattle.gpu_upload.specs.Upload.{LiesTaken}
use Rattle.gpu_upload.specs.UploadState.{UploadState}
use Rattle.gpu_upload.proofs.Pieces.{apart_at}
use Rattle.gpu_upload.proofs.upload_ring.UploadRing.allocate.Goals as goal

pub returns-clause-apart : goal.returns-clause-apart
returns-clause-apart c =
    let r = c.self.inside.ring in
    subst (λ (u : UploadState). IfSome c.allocate.result (λ o. (p m : ℕ) → 0 < m → LiesTaken u p m → Apart p m o c.args.size)) c.self.view_is
    (apart_at r.size r.tail r.taken c.args.size c.allocate.result c.allocate.ensures.apart)
