-- What is read of a printed number.
use Rattle.std.proofs.Common.{◌≡◌, ℕ, List, Option, Some, None, decimal, refl, ap, ◌∙◌, subst}
use Rattle.std.specs.Prelude.{Result, Ok, Err, MatchOption, ok_or}
use Rattle.std.specs.Str.Parse.{ParsesUnsigned}
use Rattle.std.proofs.lemmas.Fmt.{parse-decimal}
use Rattle.json.specs.Json.{Json}
use Rattle.json.specs.Find.{as_number}
use Rattle.gpu_report.specs.Values.{number_of}
use Rattle.gpu_report.specs.Fits.{NumberFits}

abbrev answer : Result ℕ (List ℕ) → Option ℕ
answer (Ok n) = Some n
answer (Err text) = None

answer-ok_or : (read : Option ℕ) (text : List ℕ) → read ≡ answer (ok_or read text)
answer-ok_or None text = refl
answer-ok_or (Some n) text = refl

-- what `as_u64` says of a value
abbrev IsRead : Json → Option ℕ → Type 0
IsRead j read = MatchOption (as_number j) (read ≡ None) (λ text. ParsesUnsigned 64 10 text (ok_or read text))

read-number_of : (n : ℕ) (read : Option ℕ) → NumberFits n → IsRead (number_of n) read → read ≡ Some n
read-number_of n read fits said =
    let text : List ℕ = decimal n in
    answer-ok_or read text ∙ ap answer (parse-decimal 64 n text (ok_or read text) fits fits refl said)

pub reads_number : (j : Json) (read : Option ℕ) → IsRead j read → (n : ℕ) → NumberFits n → j ≡ number_of n → read ≡ Some n
reads_number j read said n fits e = read-number_of n read fits (subst (λ k. IsRead k read) e said)
