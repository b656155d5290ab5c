-- A line's first word tells the sort of its command, so that two readings of a line are admitted alike.
use Rattle.std.proofs.Common.{◌≡◌, refl, sym, ap, ◌∙◌, subst, Bool, true, false, ℕ, List, [], ◌∷◌, Option, Some, None}
use Rattle.std.specs.Prelude.{codes}
use Rattle.std.specs.List.{onto_first}
use Rattle.std.specs.Str.{bytes_eq}
use Rattle.gpu_block_session.specs.declared.block.command.Command.{Command}
use Rattle.gpu_block_session.specs.declared.block.command.Command.TheVariants.{Block, Allocate, Free, Report}
use Rattle.gpu_block_session.specs.declared.block_stage.BlockStage.{BlockStage}
use Rattle.gpu_block_session.specs.Words.{words_of}
use Rattle.gpu_block_session.specs.BlockWords.{words}
use Rattle.gpu_block_session.specs.BlockSort.{BlockSort, opens_block, uses_block, reports, sort_of_command}
use Rattle.gpu_block_session.specs.BlockStage.{Admits}
use Rattle.gpu_block_session.specs.Line.{IsBlank, IsRemark, SaysCommand, SaysNothing}
use Rattle.gpu_block_session.specs.BlockTrace.{IsBad}

abbrev choose : Bool → BlockSort → Option BlockSort → Option BlockSort
choose true a b = Some a
choose false a b = b

-- the sort of the commands that begin with this word
abbrev by_word : List ℕ → Option BlockSort
by_word w =
    choose (bytes_eq w (codes "block")) opens_block
    (choose (bytes_eq w (codes "take")) uses_block
    (choose (bytes_eq w (codes "give")) uses_block
    (choose (bytes_eq w (codes "report")) reports None)))

abbrev by_words : List (List ℕ) → Option BlockSort
by_words [] = None
by_words (w ∷ ws) = by_word w

of_command : (c : Command) → by_words (words c) ≡ Some (sort_of_command c)
of_command (Block side min max count granularity) = refl
of_command (Allocate key size alignment kind name) = refl
of_command (Free key) = refl
of_command Report = refl

sort_said : (line : List ℕ) (c : Command) → SaysCommand line c → by_words (words_of line) ≡ Some (sort_of_command c)
sort_said line c said = ap by_words said.spells.is ∙ of_command c

remark_word : (ws : List (List ℕ)) → by_words (onto_first 35 ws) ≡ None
remark_word [] = refl
remark_word (w ∷ ws) = refl

blank_sort : (line : List ℕ) → IsRemark line → by_words (words_of line) ≡ None
blank_sort [] h = refl
blank_sort (b ∷ bs) h = rw h (remark_word (words_of bs))

not_blank : (line : List ℕ) (c : Command) → SaysCommand line c → IsBlank line → ⊥
not_blank line c said blank =
    let both : Some (sort_of_command c) ≡ None = sym (sort_said line c said) ∙ blank_sort line blank.remark in
    cc

one_sort : (line : List ℕ) (c d : Command) → SaysCommand line c → SaysCommand line d → sort_of_command d ≡ sort_of_command c
one_sort line c d said also =
    let both : Some (sort_of_command d) ≡ Some (sort_of_command c) = sym (sort_said line d also) ∙ sort_said line c said in
    cc

-- a command that may not come next, however its line is read
pub out_of_order : (stage : BlockStage) (line : List ℕ) (c : Command) → SaysCommand line c → (Admits stage (sort_of_command c) → ⊥) → IsBad stage line
out_of_order stage line c said not = record {
  gives = not_blank line c said;
  says = λ d also a. not (subst (Admits stage) (one_sort line c d said also) a);
}

pub says_nothing : (stage : BlockStage) (line : List ℕ) → SaysNothing line → IsBad stage line
says_nothing stage line nothing = record { gives = nothing.gives; says = λ c said a. nothing.says c said }
