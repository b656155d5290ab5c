-- Classes of lengths.
use Rattle.std.specs.Prelude.{ℕ, ◌+◌, ◌-◌, ◌*◌, ◌/◌, ◌^◌, ◌<◌, ◌≡◌, min}
use Rattle.std.specs.Int.{w64, leading_zeros}
use Rattle.gpu_block_gaps.specs.declared.class.Scale.{Scale}

-- how many binary digits of a length its class doesn't tell
abbrev pub untold : ℕ → ℕ → ℕ
untold digits length = 64 - leading_zeros w64 length - (digits + 1)

-- the class of a length: those with a digit more are of later classes, and among those with as many the digits that are told count
abbrev pub class_number : ℕ → ℕ → ℕ
class_number digits length = untold digits length * 2 ^ digits + length / 2 ^ untold digits length

-- how many classes the lengths of 64 bits have
abbrev pub class_count : ℕ → ℕ
class_count digits = (65 - digits) * 2 ^ digits

-- the class of a length on a scale: longer ones than those of the last class share that
abbrev pub class_on : Scale → ℕ → ℕ
class_on scale length = min (class_number scale.digits length) scale.last

-- the classes of the scale have numbers of 32 bits, and so has their count
abbrev pub IsFew : Scale → Type 0
IsFew scale = (scale.digits < 24) × (scale.last + 1 < 2 ^ 32)

-- the last class is that of the length
abbrev pub EndsAt : Scale → ℕ → Type 0
EndsAt scale longest = scale.last ≡ class_number scale.digits longest
