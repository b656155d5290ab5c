-- A line's first word tells the sort of its command, so that two readings of a line are admitted alike.
use Rattle.std.proofs.Common.{◌≡◌, refl, sym, ap, ◌∙◌, subst, Bool, true, false, ℕ, List, [], ◌∷◌, Option, Some, None}
use Rattle.std.specs.Prelude.{codes}
use Rattle.std.specs.List.{onto_first}
use Rattle.std.specs.Str.{bytes_eq}
use Rattle.gpu_block_session.specs.Words.{words_of}
use Rattle.gpu_block_session.specs.Line.{IsBlank, IsRemark}
use Rattle.gpu_plan_session.specs.declared.command.Command.{Command}
use Rattle.gpu_plan_session.specs.declared.command.Command.TheVariants.{Plan, Add, Solve}
use Rattle.gpu_plan_session.specs.declared.plan_stage.PlanStage.{PlanStage}
use Rattle.gpu_plan_session.specs.PlanWords.{words}
use Rattle.gpu_plan_session.specs.PlanSort.{PlanSort, opens_plan, uses_plan, sort_of_command}
use Rattle.gpu_plan_session.specs.PlanStage.{Admits}
use Rattle.gpu_plan_session.specs.Line.{SaysCommand, SaysNothing}
use Rattle.gpu_plan_session.specs.PlanTrace.{IsBad}

abbrev choose : Bool → PlanSort → Option PlanSort → Option PlanSort
choose true a b = Some a
choose false a b = b

-- the sort of the commands that begin with this word
abbrev by_word : List ℕ → Option PlanSort
by_word w = choose (bytes_eq w (codes "plan")) opens_plan (choose (bytes_eq w (codes "resource")) uses_plan (choose (bytes_eq w (codes "solve")) uses_plan None))

abbrev by_words : List (List ℕ) → Option PlanSort
by_words [] = None
by_words (w ∷ ws) = by_word w

of_command : (c : Command) → by_words (words c) ≡ Some (sort_of_command c)
of_command (Plan page) = refl
of_command (Add key resource name) = refl
of_command Solve = refl

sort_said : (line : List ℕ) (c : Command) → SaysCommand line c → by_words (words_of line) ≡ Some (sort_of_command c)
sort_said line c said = ap by_words said.spells.is ∙ of_command c

remark_word : (ws : List (List ℕ)) → by_words (onto_first 35 ws) ≡ None
remark_word [] = refl
remark_word (w ∷ ws) = refl

blank_sort : (line : List ℕ) → IsRemark line → by_words (words_of line) ≡ None
blank_sort [] h = refl
blank_sort (b ∷ bs) h = rw h (remark_word (words_of bs))

not_blank : (line : List ℕ) (c : Command) → SaysCommand line c → IsBlank line → ⊥
not_blank line c said blank =
    let both : Some (sort_of_command c) ≡ None = sym (sort_said line c said) ∙ blank_sort line blank.remark in
    cc

one_sort : (line : List ℕ) (c d : Command) → SaysCommand line c → SaysCommand line d → sort_of_command d ≡ sort_of_command c
one_sort line c d said also =
    let both : Some (sort_of_command d) ≡ Some (sort_of_command c) = sym (sort_said line d also) ∙ sort_said line c said in
    cc

-- a command that may not come next, however its line is read
pub out_of_order : (stage : PlanStage) (line : List ℕ) (c : Command) → SaysCommand line c → (Admits stage (sort_of_command c) → ⊥) → IsBad stage line
out_of_order stage line c said not = record {
  gives = not_blank line c said;
  says = λ d also a. not (subst (Admits stage) (one_sort line c d said also) a);
}

pub says_nothing : (stage : PlanStage) (line : List ℕ) → SaysNothing line → IsBad stage line
says_nothing stage line nothing = record { gives = nothing.gives; says = λ c said a. nothing.says c said }
