-- Which settings a line of words can say.
use Rattle.std.proofs.Common.{◌≡◌, ◌≢◌, ℕ, ◌<◌, ◌^◌, List, ◌∷◌, get_or}
use Rattle.std.specs.Prelude.{codes}
use Rattle.std.specs.Borrow.{Bor}
use Rattle.std.specs.Fmt.{decimal}
use Rattle.gpu_trace_text.specs.declared.device.setting.Setting.{Setting}
use Rattle.gpu_trace_text.specs.declared.device.setting.Setting.TheVariants.{Sizes, Refuse}
use Rattle.gpu_trace_text.specs.Setting.{words, SettingFits, IsShared}
use Rattle.gpu_trace_text.specs.Spelled.{Spells}
use Rattle.gpu_block_session.specs.Words.{texts}

pub last_size_only : (arguments : List (Bor (List ℕ))) (d : Bor (List ℕ)) → ((n : ℕ) → n < 2 ^ 64 → (get_or arguments 3 d).now ≢ decimal n) → (x : Setting)
    → Spells words SettingFits (codes "sizes" ∷ texts arguments) x → ⊥
last_size_only (a ∷ b ∷ m ∷ k ∷ rest) d h (Sizes x y z w) f = h w f.fits.3 (let i = f.is in cc)
last_size_only arguments d h (Sizes x y z w) f = let i = f.is in cc
last_size_only arguments d h s f = let i = f.is in cc

pub sizes_shared : (s : Setting) (rest : List (List ℕ)) → codes "sizes" ∷ rest ≡ words s → IsShared s
sizes_shared (Sizes device host max_device max_host) rest e = tt
sizes_shared (Refuse question refusal) rest e = tt
sizes_shared s rest e = cc

pub refuse_shared : (s : Setting) (rest : List (List ℕ)) → codes "refuse" ∷ rest ≡ words s → IsShared s
refuse_shared (Sizes device host max_device max_host) rest e = tt
refuse_shared (Refuse question refusal) rest e = tt
refuse_shared s rest e = cc
