-- What a line says, whatever came before it, in the words of its sort of traces.
use Rattle.std.specs.Prelude.{◌≡◌, ◌≢◌, ℕ, List, [], ◌∷◌, codes}
use Rattle.std.specs.Str.{IsAscii}
use Rattle.gpu_block_session.specs.Line.{IsBlank}
use Rattle.gpu_block_session.specs.Words.{words_of}
use Rattle.gpu_trace_text.specs.declared.dialect.Line.{Line}
use Rattle.gpu_trace_text.specs.declared.dialect.Line.TheVariants as lines

-- the end of the configuration
abbrev pub new_words : List (List ℕ)
new_words = codes "new" ∷ []

-- the end of the trace
abbrev pub destroy_words : List (List ℕ)
destroy_words = codes "destroy" ∷ []

-- by which words a setting, a command and what else there is are said
module _ {S C O : Type 0} (IsSetting : List (List ℕ) → S → Type 0) (IsCommand : List (List ℕ) → C → Type 0) (IsOther : List (List ℕ) → O → Type 0) where
  -- words that say nothing
  pub record SaysNothing (words : List (List ℕ)) : Type 0 where
    pub setting : (s : S) → IsSetting words s → ⊥
    pub command : (c : C) → IsCommand words c → ⊥
    pub other : (o : O) → IsOther words o → ⊥
    pub new : words ≢ new_words
    pub destroy : words ≢ destroy_words

  -- words that say a command, and nothing that only this sort of traces says
  pub record IsAsked (words : List (List ℕ)) (c : C) : Type 0 where
    pub says : IsCommand words c
    pub alone : (o : O) → IsOther words o → ⊥

  -- what words say
  abbrev pub Reads : List (List ℕ) → Line S C O → Type 0
  Reads words lines.Blank = ⊥
  Reads words (lines.Configures s) = IsSetting words s
  Reads words lines.New = words ≡ new_words
  Reads words (lines.Asks c) = IsAsked words c
  Reads words (lines.Other o) = IsOther words o
  Reads words lines.Destroy = words ≡ destroy_words
  Reads words lines.Bad = SaysNothing words

  -- an ASCII line whose words say that
  pub record IsSaid (line : List ℕ) (l : Line S C O) : Type 0 where
    pub ascii : IsAscii line
    pub reads : Reads (words_of line) l

  -- a line that gives nothing and says nothing
  pub record IsNothing (line : List ℕ) : Type 0 where
    pub gives : IsBlank line → ⊥
    pub says : IsAscii line → SaysNothing (words_of line)

  -- what a line says: nothing, if it is blank; what can't be read; or what its words say
  abbrev pub Means : List ℕ → Line S C O → Type 0
  Means line lines.Blank = IsBlank line
  Means line lines.Bad = IsNothing line
  Means line l = IsSaid line l
