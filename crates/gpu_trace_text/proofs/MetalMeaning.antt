-- Which commands a line of words can say.
use Rattle.std.proofs.Common.{◌≡◌, ◌≢◌, ℕ, ◌<◌, ◌^◌, List, ◌∷◌, get_or}
use Rattle.std.specs.Borrow.{Bor}
use Rattle.std.specs.Fmt.{decimal}
use Rattle.std.specs.Prelude.{codes}
use Rattle.gpu_device.specs.declared.metal.types.StorageMode.{StorageMode}
use Rattle.gpu_run.specs.declared.metal.command.Other.{Other}
use Rattle.gpu_run.specs.declared.metal.command.Other.TheVariants.{Texture}
use Rattle.gpu_trace_text.specs.MetalCommand as commands
use Rattle.gpu_trace_text.specs.MetalCommand.{mode_word, FitsMode}
use Rattle.gpu_trace_text.specs.Spelled.{Spells}
use Rattle.gpu_block_session.specs.Words.{texts}

-- four words that aren't a texture's say no command
pub no_texture : (arguments : List (Bor (List ℕ))) (d : Bor (List ℕ))
    → ((m : StorageMode) (w h b : ℕ) → FitsMode m → w < 2 ^ 64 → h < 2 ^ 64 → b < 2 ^ 64 → (get_or arguments 1 d).now ≡ mode_word m → (get_or arguments 2 d).now ≡ decimal w
    → (get_or arguments 3 d).now ≡ decimal h → (get_or arguments 4 d).now ≢ decimal b)
    → (c : Other) → Spells commands.words commands.OtherFits (codes "texture" ∷ texts arguments) c → ⊥
no_texture (k ∷ m ∷ w ∷ h ∷ b ∷ rest) d none (Texture key t name) s =
    let f = s.fits.1 in
    let is = s.is in
    none t.storage_mode t.width t.height t.bytes_per_texel f.mode_fits f.width_fits f.height_fits f.bytes_fit (cc) (cc) (cc) (cc)
no_texture arguments d none (Texture key t name) s = let is = s.is in cc
no_texture arguments d none c s = let is = s.is in cc
