use Rattle.std.proofs.Common.{arith}
use Rattle.std.proofs.lemmas.Grind.{common_steps}
use Rattle.gpu_trace_text.specs.MetalCommand.{FitsTexture}
use Rattle.gpu_trace_text.proofs.MetalMeaning.{no_texture}
use Rattle.gpu_trace_text.proofs.metal.command.texture.Goals as goal

pub returns-in_default-texture_of : goal.returns-in_default-texture_of
returns-in_default-texture_of c = no_texture c.args.arguments.now _ c.in_default-texture_of.ensures

pub returns : goal.returns
returns c =
    let told = c.in-Some-texture_of.ensures in
    let fits : FitsTexture c.in-Some-texture_of.texture = record { mode_fits = told.0; width_fits = omega arith; height_fits = omega arith; bytes_fit = omega arith } in
    grind (arith, common_steps, fits)
