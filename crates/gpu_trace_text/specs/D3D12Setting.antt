-- What a configuration line of a DirectX 12 trace says. Each has one spelling.
use Rattle.std.specs.Prelude.{ℕ, ℤ, List, [], ◌∷◌, Result, Ok, Err, codes, FitsSigned}
use Rattle.std.specs.Int.{w32}
use Rattle.std.specs.Fmt.{signed_decimal}
use Rattle.gpu_device.specs.declared.d3d12.types.ResourceHeapTier.{ResourceHeapTier}
use Rattle.gpu_capture.specs.D3D12.{tier_word}
use Rattle.gpu_trace_text.specs.Setting as settings
use Rattle.gpu_trace_text.specs.declared.d3d12.setting.Setting.{Setting}
use Rattle.gpu_trace_text.specs.declared.d3d12.setting.Setting.TheVariants.{Tier, Interface, Shared}
use Rattle.gpu_trace_text.specs.declared.d3d12.setting.Version.{Version}
use Rattle.gpu_trace_text.specs.declared.d3d12.setting.Version.TheVariants.{Device, Device10, Device12}

-- the heap tier, or the code with which the device can't tell it
abbrev pub tier_words : Result ResourceHeapTier ℤ → List (List ℕ)
tier_words (Ok tier) = tier_word tier ∷ []
tier_words (Err code) = codes "refused" ∷ signed_decimal code ∷ []

-- the word for an interface
abbrev pub version_word : Version → List ℕ
version_word Device = codes "device"
version_word Device10 = codes "device10"
version_word Device12 = codes "device12"

-- block sizes and refusals are the same in each sort of traces
abbrev pub words : Setting → List (List ℕ)
words (Tier tier) = codes "tier" ∷ tier_words tier
words (Interface version) = codes "version" ∷ version_word version ∷ []
words (Shared s) = settings.words s

-- a code has 32 bits, and a sign
abbrev pub FitsTier : Result ResourceHeapTier ℤ → Type 0
FitsTier (Ok tier) = Unit {0}
FitsTier (Err code) = FitsSigned w32 code

-- what its numbers may be
abbrev pub SettingFits : Setting → Type 0
SettingFits (Tier tier) = FitsTier tier
SettingFits (Interface version) = Unit {0}
SettingFits (Shared s) = settings.FitsShared s
