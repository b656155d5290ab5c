-- What words say, where each thing that can be said has one spelling: its words, where it fits.
use Rattle.std.specs.Prelude.{◌≡◌, ℕ, List, Option, Some, None}

-- the line says this, or nothing of the kind
abbrev pub OneOf : {A : Type 0} → (List (List ℕ) → A → Type 0) → List (List ℕ) → Option A → Type 0
OneOf Is line (Some a) = Is line a
OneOf {A} Is line None = (a : A) → Is line a → ⊥

module _ {A : Type 0} (words : A → List (List ℕ)) (Fits : A → Type 0) where
  -- the line is its words
  pub record Spells (line : List (List ℕ)) (a : A) : Type 0 where
    pub is : line ≡ words a
    pub fits : Fits a

  -- the line is this one's words, or no one's
  abbrev pub Says : List (List ℕ) → Option A → Type 0
  Says = OneOf Spells
