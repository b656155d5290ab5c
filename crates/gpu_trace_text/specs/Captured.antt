-- What the reader makes of the lines that a capture wrote.
use Rattle.std.specs.Prelude.{◌≡◌, ℕ, ◌<◌, ◌^◌, ◌∷◌, ◌++◌, List, Option, string_bytes}
use Rattle.gpu_capture.specs.declared.request.VulkanRequest.{VulkanRequest}
use Rattle.gpu_capture.specs.declared.request.Request as requests
use Rattle.gpu_capture.specs.Line.{line_of, name_word}
use Rattle.gpu_capture.specs.Requests.{alloc_line, move_line}
use Rattle.gpu_capture.specs.Words.{budget_words, free_words}
use Rattle.gpu_run.specs.declared.vulkan.command.Request.{Request}
use Rattle.gpu_run.specs.declared.command.Command as commands
use Rattle.gpu_run.specs.declared.command.Command.TheVariants.{Alloc, Move, Free, SetBudget, Other}
use Rattle.gpu_run.specs.declared.vulkan.command.Other.TheVariants.{Rename}
use Rattle.gpu_block_session.specs.Run.{lines_of}
use Rattle.gpu_trace_text.specs.Ask.{FitsRequirements, FitsScheme}
use Rattle.gpu_trace_text.specs.Command.{FitsBudget}
use Rattle.gpu_trace_text.specs.Dialect.{new_words, destroy_words}
use Rattle.gpu_trace_text.specs.Line.{Line}
use Rattle.gpu_trace_text.specs.declared.dialect.Line as all_lines
use Rattle.gpu_trace_text.specs.declared.dialect.Line.TheVariants as lines

-- the text begins with a line that can't be read as anything but this; behind it the rest is read
pub record BeginsWith {L : Type 0} (Means : List ℕ → L → Type 0) (Is : L → Type 0) (text rest : List ℕ) : Type 0 where
  pub line : List ℕ
  pub split : lines_of text ≡ line ∷ lines_of rest
  pub reads : (l : L) → Means line l → Is l

-- the line asks for an allocation under this number, and for what
abbrev pub IsAlloc : {S R A O : Type 0} → (number : ℕ) → (R → Type 0) → all_lines.Line S (commands.Command R A) O → Type 0
IsAlloc number Is (lines.Asks (Alloc key q)) = (key ≡ number) × Is q
IsAlloc number Is _ = ⊥

-- the line asks for a second place
abbrev pub IsMove : {S R A O : Type 0} → (from to : ℕ) → (R → Type 0) → all_lines.Line S (commands.Command R A) O → Type 0
IsMove from to Is (lines.Asks (Move key second q)) = (key ≡ from) × (second ≡ to) × Is q
IsMove from to Is _ = ⊥

-- Each line that a capture writes is read as what it was written of, and as nothing else: by what a line means, the words of settings and
-- what they fit, and the requests of captures with what they fit and what is read of them.
pub record ReadsBack {S R A O Q : Type 0} (Means : List ℕ → all_lines.Line S (commands.Command R A) O → Type 0) (setting : S → List (List ℕ)) (FitsSetting : S → Type 0)
    (request : Q → requests.Request) (Fits : Q → Type 0) (Is : Q → R → Type 0) : Type 0 where
  -- an allocation: its number, what was asked for, and its name as a trace has it
  pub allocation : (number : ℕ) (q : Q) (rest : List ℕ) → number < 2 ^ 64 → Fits q → BeginsWith Means (IsAlloc number (Is q)) (alloc_line number (request q) ++ rest) rest
  -- a second place that was asked for
  pub second_place : (from to : ℕ) (q : Q) (rest : List ℕ) → from < 2 ^ 64 → to < 2 ^ 64 → Fits q → BeginsWith Means (IsMove from to (Is q)) (move_line from to (request q) ++ rest) rest
  pub free : (number : ℕ) (rest : List ℕ) → number < 2 ^ 64 → BeginsWith Means (λ l. l ≡ lines.Asks (Free number)) (line_of (free_words number) ++ rest) rest
  pub budget : (t : ℕ) (budget : Option ℕ) (rest : List ℕ) → t < 2 ^ 64 → FitsBudget budget
      → BeginsWith Means (λ l. l ≡ lines.Asks (SetBudget t budget)) (line_of (budget_words t budget) ++ rest) rest
  -- the reader's words of a setting are the capture's
  pub configures : (s : S) (rest : List ℕ) → FitsSetting s → BeginsWith Means (λ l. l ≡ lines.Configures s) (line_of (setting s) ++ rest) rest
  -- the end of the configuration, and that of the trace
  pub new : (rest : List ℕ) → BeginsWith Means (λ l. l ≡ lines.New) (line_of new_words ++ rest) rest
  pub destroy : (rest : List ℕ) → BeginsWith Means (λ l. l ≡ lines.Destroy) (line_of destroy_words ++ rest) rest

-- what a request's numbers may be; its name may be any bytes
pub record FitsCaptured (r : VulkanRequest) : Type 0 where
  pub requirements_fit : FitsRequirements r.requirements
  pub scheme_fits : FitsScheme r.scheme

-- the same is asked for, under a name as a trace has it
pub record IsRequest (r : VulkanRequest) (q : Request) : Type 0 where
  pub size : q.requirements.size ≡ r.requirements.size
  pub alignment : q.requirements.alignment ≡ r.requirements.alignment
  pub bits : q.requirements.memory_type_bits ≡ r.requirements.memory_type_bits
  pub location : q.location ≡ r.location
  pub linear : q.linear ≡ r.linear
  pub scheme : q.scheme ≡ r.scheme
  pub name : string_bytes q.name ≡ name_word r.name.now

abbrev pub IsRename : (number : ℕ) → (name : List ℕ) → Line → Type 0
IsRename number name (lines.Asks (Other (Rename key read))) = (key ≡ number) × (string_bytes read ≡ name_word name)
IsRename number name _ = ⊥
