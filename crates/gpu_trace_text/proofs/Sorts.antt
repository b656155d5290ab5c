-- A line's first word tells its sort, so that two readings of a line are admitted alike.
use Rattle.std.proofs.Common.{◌≡◌, refl, sym, ap, ◌∙◌, subst, Bool, true, false, ℕ, List, [], ◌∷◌}
use Rattle.std.specs.Prelude.{codes}
use Rattle.std.specs.List.{onto_first}
use Rattle.std.specs.Str.{bytes_eq}
use Rattle.gpu_run.specs.declared.command.Command.TheVariants as asked
use Rattle.gpu_run.specs.declared.vulkan.command.Other.{Other}
use Rattle.gpu_run.specs.declared.vulkan.command.Other.TheVariants as others
use Rattle.gpu_block_session.specs.declared.block.command.Command as block_commands
use Rattle.gpu_block_session.specs.declared.block.command.Command.TheVariants as blocks
use Rattle.gpu_trace_text.specs.declared.device.setting.Setting as settings
use Rattle.gpu_trace_text.specs.declared.device.setting.Setting.TheVariants.{Heap, MemoryType, Granularity, Sizes, Refuse}
use Rattle.gpu_trace_text.specs.declared.dialect.Line.TheVariants as lines
use Rattle.gpu_trace_text.specs.declared.reply.Reply.{Reply}
use Rattle.gpu_block_session.specs.declared.outcome.Outcome.{Outcome}
use Rattle.gpu_block_session.specs.declared.outcome.Outcome.TheVariants.{Nothing, Replied, Bad}
use Rattle.gpu_trace_text.specs.declared.stage.Stage.{Stage}
use Rattle.gpu_block_session.specs.Words.{words_of}
use Rattle.gpu_block_session.specs.BlockWords as block
use Rattle.gpu_trace_text.specs.Setting as setting
use Rattle.gpu_trace_text.specs.Ask as ask
use Rattle.gpu_trace_text.specs.Command.{words, CommandFits}
use Rattle.gpu_block_session.specs.Line.{IsBlank, IsRemark}
use Rattle.gpu_trace_text.specs.Dialect as dialect
use Rattle.gpu_trace_text.specs.Line.{Line, Reads, Means}
use Rattle.gpu_trace_text.specs.Spelled.{Spells}
use Rattle.gpu_block_session.specs.BlockSort.{opens_block, uses_block, reports, sort_of_command}
use Rattle.gpu_trace_text.specs.Sort.{Sort, of_block, describes, sets_page, sets_sizes, makes, asks, destroys, says_nothing, sort_of, sort_of_setting}
use Rattle.gpu_trace_text.specs.Stage.{Admits, AdmitsSort, Does}
use Rattle.gpu_trace_text.specs.BlockOrDevice.{AnyStageServes}

abbrev IsSaid : List ℕ → Line → Type 0
IsSaid = dialect.IsSaid (Spells setting.words setting.SettingFits) (Spells (words ask.request_words ask.words) (CommandFits ask.FitsRequest ask.OtherFits)) (Spells block.words block.CommandFits)

abbrev pub choose : Bool → Sort → Sort → Sort
choose true a b = a
choose false a b = b

-- the sort of the lines that begin with this word
abbrev pub by_word : List ℕ → Sort
by_word w =
    choose (bytes_eq w (codes "block")) (of_block opens_block)
    (choose (bytes_eq w (codes "take")) (of_block uses_block)
    (choose (bytes_eq w (codes "give")) (of_block uses_block)
    (choose (bytes_eq w (codes "report")) (of_block reports)
    (choose (bytes_eq w (codes "heap")) describes
    (choose (bytes_eq w (codes "type")) describes
    (choose (bytes_eq w (codes "refuse")) describes
    (choose (bytes_eq w (codes "granularity")) sets_page
    (choose (bytes_eq w (codes "sizes")) sets_sizes
    (choose (bytes_eq w (codes "new")) makes
    (choose (bytes_eq w (codes "destroy")) destroys
    (choose (bytes_eq w (codes "alloc")) asks
    (choose (bytes_eq w (codes "move")) asks
    (choose (bytes_eq w (codes "null")) asks
    (choose (bytes_eq w (codes "free")) asks
    (choose (bytes_eq w (codes "rename")) asks
    (choose (bytes_eq w (codes "write")) asks
    (choose (bytes_eq w (codes "read")) asks
    (choose (bytes_eq w (codes "leaks")) asks
    (choose (bytes_eq w (codes "capacity")) asks
    (choose (bytes_eq w (codes "budget")) asks says_nothing))))))))))))))))))))

abbrev pub by_words : List (List ℕ) → Sort
by_words [] = says_nothing
by_words (w ∷ ws) = by_word w

of_command : (c : block_commands.Command) → by_words (block.words c) ≡ of_block (sort_of_command c)
of_command (blocks.Block side min max count granularity) = refl
of_command (blocks.Allocate key size alignment kind name) = refl
of_command (blocks.Free key) = refl
of_command blocks.Report = refl

pub of_setting : (s : settings.Setting) → by_words (setting.words s) ≡ sort_of_setting s
of_setting (Heap size) = refl
of_setting (MemoryType flags heap) = refl
of_setting (Granularity bytes) = refl
of_setting (Sizes device host max_device max_host) = refl
of_setting (Refuse question refusal) = refl

of_other : (o : Other) → by_words (ask.words o) ≡ asks
of_other (others.Null key) = refl
of_other o = refl

-- a reading that says something
abbrev pub Says : Line → Type 0
Says lines.Blank = ⊥
Says lines.Bad = ⊥
Says l = Unit {0}

pub sort_read : (ws : List (List ℕ)) (l : Line) → Says l → Reads ws l → by_words ws ≡ sort_of l
sort_read ws lines.Blank s r = absurd s
sort_read ws (lines.Other c) s r = ap by_words r.is ∙ of_command c
sort_read ws (lines.Configures c) s r = ap by_words r.is ∙ of_setting c
sort_read ws lines.New s r = ap by_words r
-- `report` is read as a line of block traces
sort_read ws (lines.Asks asked.Report) s r = absurd (r.alone blocks.Report (record { is = r.says.is; fits = tt }))
sort_read ws (lines.Asks (asked.Other o)) s r = ap by_words r.says.is ∙ of_other o
sort_read ws (lines.Asks c) s r = ap by_words r.says.is
sort_read ws lines.Destroy s r = ap by_words r
sort_read ws lines.Bad s r = absurd s

-- ---- blank lines

remark_word : (ws : List (List ℕ)) → by_words (onto_first 35 ws) ≡ says_nothing
remark_word [] = refl
remark_word (w ∷ ws) = refl

blank_sort : (line : List ℕ) → IsRemark line → by_words (words_of line) ≡ says_nothing
blank_sort [] h = refl
blank_sort (b ∷ bs) h = rw h (remark_word (words_of bs))

something : (l : Line) → Says l → sort_of l ≡ says_nothing → ⊥
something lines.Blank s e = s
something lines.Bad s e = s
something (lines.Configures (Heap size)) s e = cc
something l s e = cc

not_blank : (line : List ℕ) (l : Line) → Says l → IsSaid line l → IsBlank line → ⊥
not_blank line l s said blank = something l s (sym (sort_read (words_of line) l s said.reads) ∙ blank_sort line blank.remark)

-- ---- two readings

to_sort : (stage : Stage) (l : Line) → Says l → Admits stage l → AdmitsSort stage (sort_of l)
to_sort stage lines.Blank s a = absurd s
to_sort stage lines.Bad s a = absurd s
to_sort stage l s a = a

from_sort : (stage : Stage) (l : Line) → Says l → AdmitsSort stage (sort_of l) → Admits stage l
from_sort stage lines.Blank s a = absurd s
from_sort stage lines.Bad s a = absurd s
from_sort stage l s a = a

said_alike : (stage : Stage) (line : List ℕ) (l m : Line) → Says l → Says m → IsSaid line l → IsSaid line m → Admits stage m → Admits stage l
said_alike stage line l m s t said also a =
    let same : sort_of m ≡ sort_of l = sym (sort_read (words_of line) m t also.reads) ∙ sort_read (words_of line) l s said.reads in
    from_sort stage l s (subst (AdmitsSort stage) same (to_sort stage m t a))

-- beside a reading that says something
said_beside : (stage : Stage) (line : List ℕ) (l m : Line) → Says l → IsSaid line l → Means line m → Admits stage m → Admits stage l
said_beside stage line l lines.Blank s said means a = absurd (not_blank line l s said means)
said_beside stage line l lines.Bad s said means a = absurd a
said_beside stage line l m s said means a = said_alike stage line l m s tt said means a

nothing_beside : (stage : Stage) (line : List ℕ) (m : Line) → Means line lines.Bad → Means line m → Admits stage m → ⊥
nothing_beside stage line lines.Blank bad means a = bad.gives means
nothing_beside stage line (lines.Other c) bad means a = (bad.says means.ascii).other c means.reads
nothing_beside stage line (lines.Configures c) bad means a = (bad.says means.ascii).setting c means.reads
nothing_beside stage line lines.New bad means a = (bad.says means.ascii).new means.reads
nothing_beside stage line (lines.Asks c) bad means a = (bad.says means.ascii).command c means.reads.says
nothing_beside stage line lines.Destroy bad means a = (bad.says means.ascii).destroy means.reads
nothing_beside stage line lines.Bad bad means a = a

alike : (stage : Stage) (line : List ℕ) (l m : Line) → Means line l → Means line m → Admits stage m → Admits stage l
alike stage line lines.Blank m means also a = tt
alike stage line lines.Bad m means also a = nothing_beside stage line m means also a
alike stage line l m means also a = said_beside stage line l m tt means also a

pub served : (old new : Stage) (line : List ℕ) (l : Line) (o : Outcome Reply) → Means line l → Does old l o new → AnyStageServes old line o new
served old new line l Nothing means did = (l, means, did)
served old new line l (Replied r) means did = (l, means, did)
served old new line l Bad means did = λ m also a. did (alike old line l m means also a)
