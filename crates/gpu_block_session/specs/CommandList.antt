-- A list of commands, one after another.
use Rattle.std.specs.Prelude.{◌≡◌, List, [], ◌∷◌}

-- each command is served from the state that the one before it left
abbrev pub IsRun : {S C R : Type 0} → (serves : S → C → R → S → Type 0) → List C → List R → (old new : S) → Type 0
IsRun serves [] [] old new = new ≡ old
IsRun {S} serves (command ∷ commands) (reply ∷ replies) old new = (mid : S) × serves old command reply mid × IsRun serves commands replies mid new
IsRun serves _ _ old new = ⊥
