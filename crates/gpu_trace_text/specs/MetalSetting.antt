-- What a configuration line of a Metal trace says. Each has one spelling.
use Rattle.std.specs.Prelude.{ℕ, List, [], ◌∷◌, codes}
use Rattle.gpu_capture.specs.Metal.{yes_word, residency_words}
use Rattle.gpu_trace_text.specs.Setting as settings
use Rattle.gpu_trace_text.specs.declared.metal.setting.Setting.{Setting}
use Rattle.gpu_trace_text.specs.declared.metal.setting.Setting.TheVariants.{Sets, Residency, Shared}

-- block sizes and refusals are the same in each sort of traces
abbrev pub words : Setting → List (List ℕ)
words (Sets b) = codes "sets" ∷ yes_word b ∷ []
words (Residency b) = residency_words b
words (Shared s) = settings.words s

-- what its numbers may be
abbrev pub SettingFits : Setting → Type 0
SettingFits (Sets b) = Unit {0}
SettingFits (Residency b) = Unit {0}
SettingFits (Shared s) = settings.FitsShared s
