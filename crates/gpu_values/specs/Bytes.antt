-- The text of an amount of bytes.
use Rattle.std.specs.Prelude.{◌≡◌, ℕ, ◌+◌, ◌-◌, ◌*◌, ◌/◌, ◌%◌, ◌^◌, ◌<◌, ◌≤◌, ◌⊎◌, ◌==◌, if◌then◌else◌, List, ◌++◌, codes}
use Rattle.std.specs.Fmt.{decimal}

-- h is the whole number nearest to n / d, and the even one of two that are as near
pub record IsNearest (n d h : ℕ) : Type 0 where
  pub below : 2 * n ≤ (2 * h + 1) * d
  pub above : 2 * h * d ≤ 2 * n + d
  pub even : (2 * n ≡ (2 * h + 1) * d) ⊎ (2 * h * d ≡ 2 * n + d) → h % 2 ≡ 0

-- n is divided by 1024, rounding down, until it is below 1024: that takes k divisions, and the last one divides m
pub record IsDivided (n k m : ℕ) : Type 0 where
  pub often : (1024 ^ k ≤ n) × (n < 1024 ^ (k + 1))
  pub last : m ≡ n / 1024 ^ (k - 1)

-- the unit after k divisions
abbrev pub unit_text : ℕ → List ℕ
unit_text k =
    if k == 1 then codes "KB" else (if k == 2 then codes "MB" else (if k == 3 then codes "GB" else (if k == 4 then codes "TB" else (if k == 5 then codes "PB" else codes "EB"))))

-- two decimals
abbrev pub hundredths_text : ℕ → List ℕ
hundredths_text h = decimal (h / 100) ++ (codes "." ++ (decimal (h / 10 % 10) ++ decimal (h % 10)))

-- below 1024 bytes the number; else what the last division divides, over 1024
abbrev pub IsBytesText : ℕ → List ℕ → Type 0
IsBytesText n text =
    ((n < 1024) × (text ≡ decimal n ++ codes ".00 B"))
    ⊎ ((k : ℕ) × (m : ℕ) × (h : ℕ) × (1024 ≤ n) × IsDivided n k m × IsNearest (100 * m) 1024 h × (text ≡ hundredths_text h ++ (codes " " ++ unit_text k)))
