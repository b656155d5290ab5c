use Rattle.std.proofs.Common.{◌≡◌, ◌<◌, List, [], ◌∷◌, ℕ, min, length, take, arith, refl, ap, ◌∙◌}
use Rattle.std.specs.Prelude.{map}
use Rattle.std.proofs.lemmas.List.{take_min}
use Rattle.std.proofs.lemmas.Bool.Decides.{nat_tests}
use Rattle.std.proofs.lemmas.Grind.{common_steps}
use Rattle.gpu_capture.specs.Line.{name_byte, name_word}
use Rattle.gpu_capture.proofs.words.push_name.Goals as goal

empty : (name : List ℕ) → length name ≡ 0 → 95 ∷ [] ≡ name_word name
unfolding name_word
empty [] e = refl
empty (b ∷ bs) e = absurd (omega arith)

some : (name : List ℕ) → 0 < length name → map name_byte (take (min (length name) 64) name) ≡ name_word name
unfolding name_word
some [] lt = absurd (omega arith)
some (b ∷ bs) lt =
    let same : min (length (b ∷ bs)) 64 ≡ min 64 (length (b ∷ bs)) = omega arith in
    ap (λ k. map name_byte (take k (b ∷ bs))) same ∙ ap (map name_byte) (take_min 64 (b ∷ bs))

pub returns-then-is_empty : goal.returns-then-is_empty
returns-then-is_empty c =
    let none : length c.args.name.now ≡ 0 = grind (arith, nat_tests) in
    let is = empty c.args.name.now none in
    rw (← is) (grind (arith, common_steps))

pub returns : goal.returns
returns c =
    let more : 0 < length c.args.name.now = grind (arith, nat_tests) in
    let is = some c.args.name.now more in
    rw (← is) (grind (arith, common_steps))
