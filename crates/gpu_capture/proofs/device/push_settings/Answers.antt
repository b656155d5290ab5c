use Rattle.std.proofs.Common.{◌++◌, List, ℕ, ap, append_assoc, ◌∙◌}
use Rattle.gpu_capture.specs.Devices.{sizes_line}
use Rattle.gpu_capture.specs.Line.{line_of}
use Rattle.gpu_capture.specs.Vulkan.{granularity_words}
use Rattle.gpu_capture.proofs.device.push_settings.Goals as goal

pub returns : goal.returns
returns c =
    c.in_ok-push_sizes.ensures ∙ (ap (λ (bs : List ℕ). bs ++ sizes_line c.args.sizes) c.in_ok-write.ensures.bytes
    ∙ append_assoc _ (line_of (granularity_words c.args.granularity)) (sizes_line c.args.sizes))
