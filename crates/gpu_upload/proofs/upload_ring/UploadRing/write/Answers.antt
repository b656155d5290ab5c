use Rattle.std.proofs.Common.{◌≡◌, ◌∙◌, ◌+◌, ◌≤◌, ap, sym, subst, refl, length, Some, arith}
use Rattle.std.specs.Prelude.{IsSome}
use Rattle.gpu_device.specs.Held.{range_in}
use Rattle.gpu_device.proofs.Writes.{range_is_there}
use Rattle.gpu_vulkan.specs.Lends.{written_at}
use Rattle.gpu_upload.specs.Upload.{Writes}
use Rattle.gpu_upload.specs.UploadState.{UploadState}
use Rattle.gpu_upload.proofs.Ranges.{range_kept, range_written}
use Rattle.gpu_upload.proofs.upload_ring.UploadRing.write.Goals as goal

pub returns : goal.returns
returns g c =
    let V = g.D.VulkanDevice in
    let i = c.self.inside in
    let s = c.args.allocator.now in
    let o = c.args.offset in
    let xs = c.slice_mut.result.now in
    let ws = c.write_at.new.memory in
    let lent = c.slice_mut.ensures in
    let wrote = c.write_at.ensures in
    let long : length ws ≡ length xs = wrote.long in
    let only = lent.isolated ws (long ∙ lent.len) in
    let size : length xs ≡ c.args.self.now.allocation.size = lent.len ∙ ap (λ (u : UploadState). u.allocation.size) c.self.view_is in
    let inside = c.requires.inside in
    let fits : o + length c.args.bytes.now ≤ length ws = omega (arith, inside, size, long) in
    subst (λ (u : UploadState). Writes V u.allocation s o c.args.bytes.now (written_at V s i.allocation ws)) c.self.view_is
    (record {
      after = ws;
      changes = only;
      written = range_written ws c.args.bytes.now _ o only.own fits wrote.written;
      kept = λ p bytes apart has.
          let there : IsSome (range_in p (length bytes) (Some xs)) = subst (λ b. IsSome (range_in p (length bytes) b)) lent.value (subst IsSome (sym has) refl) in
          let room = range_is_there (Some xs) p (length bytes) there in
          range_kept xs ws bytes _ _ p (length bytes) lent.value only.own room (omega (arith, room, long)) (wrote.others p (length bytes) apart) has;
    })
