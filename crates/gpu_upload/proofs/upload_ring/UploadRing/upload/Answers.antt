use Rattle.std.proofs.Common.{subst, length}
use Rattle.gpu_vulkan.specs.declared.allocation.Allocation.{Allocation}
use Rattle.gpu_upload.specs.Upload.{Writes}
use Rattle.gpu_upload.proofs.upload_ring.UploadRing.upload.Goals as goal

pub returns-clause-kept : goal.returns-clause-kept
returns-clause-kept g c = λ p bytes some lies has.
    let V = g.D.VulkanDevice in
    let wrote : Writes V c.args.self.now.allocation c.args.allocator.now c.in_ok-offset.offset c.args.bytes.now c.write.new.allocator =
    subst (λ (a : Allocation). Writes V a c.args.allocator.now c.in_ok-offset.offset c.args.bytes.now c.write.new.allocator) c.in_ok-offset.ensures.same c.write.ensures in
    wrote.kept p bytes (c.in_ok-offset.ensures.apart p (length bytes) some lies) has
