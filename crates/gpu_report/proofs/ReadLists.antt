-- Lists inside a value.
use Rattle.std.proofs.Common.{◌≡◌, ℕ, ◌≤◌, true, false, List, [], ◌∷◌, ◌++◌, map, refl, sym, ap, ◌∙◌, append_assoc, arith}
use Rattle.std.specs.List.{flat_map, All, AllByRecursion}
use Rattle.std.proofs.lemmas.List.Elements.{recursion_from_All}
use Rattle.json.specs.Json.{Json}
use Rattle.json.specs.Value.{items_of}
use Rattle.json.specs.Tree.{depth, items_depth, HasNumbers, ItemsHaveNumbers}
use Rattle.gpu_report.specs.Json.{listed}
use Rattle.gpu_report.proofs.Texts.{text_of, items_text, text-then}

module _ {X : Type 0} (value : X → Json) where
  -- ---- texts

  module _ (text : X → List ℕ) (same : (x : X) → text_of (value x) [] ≡ text x) where
    one : (x : X) (rest : List ℕ) → text_of (value x) rest ≡ text x ++ rest
    one x rest = text-then (value x) rest ∙ ap (λ l. l ++ rest) (same x)

    others : (xs : List X) (rest : List ℕ) → items_text true (items_of (map value xs)) rest ≡ flat_map (λ y. 44 ∷ text y) xs ++ 93 ∷ rest
    others [] rest = refl
    others (x ∷ xs) rest =
        ap (λ l. 44 ∷ text_of (value x) l) (others xs rest)
        ∙ ap (λ l. 44 ∷ l) (one x (flat_map (λ y. 44 ∷ text y) xs ++ 93 ∷ rest) ∙ sym (append_assoc (text x) (flat_map (λ y. 44 ∷ text y) xs) (93 ∷ rest)))

    pub text-listed : (xs : List X) (rest : List ℕ) → items_text false (items_of (map value xs)) rest ≡ listed text xs ++ 93 ∷ rest
    text-listed [] rest = refl
    text-listed (x ∷ xs) rest =
        ap (text_of (value x)) (others xs rest)
        ∙ one x (flat_map (λ y. 44 ∷ text y) xs ++ 93 ∷ rest) ∙ sym (append_assoc (text x) (flat_map (λ y. 44 ∷ text y) xs) (93 ∷ rest))

  -- ---- numbers

  numbers-within : (P : X → Type 0) → ((x : X) → P x → HasNumbers (value x)) → (xs : List X) → AllByRecursion P xs → ItemsHaveNumbers (items_of (map value xs))
  numbers-within P each [] h = tt
  numbers-within P each (x ∷ xs) h = (each x h.0, numbers-within P each xs h.1)

  pub numbers-listed : (P : X → Type 0) → ((x : X) → P x → HasNumbers (value x)) → (xs : List X) → All P xs → ItemsHaveNumbers (items_of (map value xs))
  numbers-listed P each xs h = numbers-within P each xs (recursion_from_All P xs h)

  -- ---- nesting

  pub depth-listed : (most : ℕ) → ((x : X) → depth (value x) ≤ most) → (xs : List X) → items_depth (items_of (map value xs)) ≤ most
  depth-listed most each [] = omega arith
  depth-listed most each (x ∷ xs) = omega (arith, each x, depth-listed most each xs)
