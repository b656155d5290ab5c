-- A run, command by command.
use Rattle.std.proofs.Common.{◌≡◌, ℕ, ◌+◌, ◌<◌, List, [], ◌∷◌, ◌++◌, length, take, get_or, refl, ap, sym, subst, ◌∙◌}
use Rattle.std.proofs.lemmas.List.{take_more}
use Rattle.gpu_block_session.specs.CommandList.{IsRun}

-- a run goes on by one command
pub run_more : {S C R : Type 0} (serves : S → C → R → S → Type 0) (commands : List C) (replies : List R) (command : C) (reply : R) (old mid new : S)
    → IsRun serves commands replies old mid → serves mid command reply new → IsRun serves (commands ++ command ∷ []) (replies ++ reply ∷ []) old new
run_more serves [] [] command reply old mid new same step = (new, subst (λ s. serves s command reply new) same step, refl)
run_more serves [] (r ∷ replies) command reply old mid new run step = absurd run
run_more serves (c ∷ commands) [] command reply old mid new run step = absurd run
run_more serves (c ∷ commands) (r ∷ replies) command reply old mid new run step =
    (run.0, run.1, run_more serves commands replies command reply run.0 mid new run.2 step)

-- the commands up to the next one
pub take_next : {C : Type 0} (commands : List C) (i : ℕ) (command : C) → i < length commands → command ≡ get_or commands i command → take (i + 1) commands ≡ take i commands ++ command ∷ []
take_next commands i command lt at = take_more commands i command lt ∙ ap (λ c. take i commands ++ c ∷ []) (sym at)
