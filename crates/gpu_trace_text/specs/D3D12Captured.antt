-- What the reader of DirectX 12 traces makes of the lines that a capture wrote.
use Rattle.std.specs.Prelude.{◌≡◌, ℕ, ◌<◌, ◌^◌, List, string_bytes}
use Rattle.gpu_capture.specs.declared.request.Category as captured
use Rattle.gpu_capture.specs.declared.request.Category.TheVariants.{Buffer, Target, Texture}
use Rattle.gpu_capture.specs.declared.request.D3D12Request.{D3D12Request}
use Rattle.gpu_capture.specs.Line.{name_word}
use Rattle.gpu_d3d12.specs.declared.category.ResourceCategory.{ResourceCategory}
use Rattle.gpu_d3d12.specs.declared.category.ResourceCategory.TheVariants as categories
use Rattle.gpu_run.specs.declared.d3d12.command.Request.{Request}
use Rattle.gpu_run.specs.declared.command.Command.TheVariants.{Other}
use Rattle.gpu_run.specs.declared.d3d12.command.Other.TheVariants.{Rename}
use Rattle.gpu_trace_text.specs.D3D12Line.{Line}
use Rattle.gpu_trace_text.specs.declared.dialect.Line.TheVariants as lines

-- what a request's numbers may be; its name may be any bytes
pub record FitsCaptured (r : D3D12Request) : Type 0 where
  pub size_fits : r.size < 2 ^ 64
  pub alignment_fits : r.alignment < 2 ^ 64

-- a capture's category is the allocator's
abbrev pub category_of : captured.Category → ResourceCategory
category_of Buffer = categories.Buffer
category_of Target = categories.RtvDsvTexture
category_of Texture = categories.OtherTexture

-- the same is asked for, under a name as a trace has it
pub record IsRequest (r : D3D12Request) (q : Request) : Type 0 where
  pub size : q.size ≡ r.size
  pub alignment : q.alignment ≡ r.alignment
  pub location : q.location ≡ r.location
  pub category : q.category ≡ category_of r.category
  pub name : string_bytes q.name ≡ name_word r.name.now

abbrev pub IsRename : (number : ℕ) → (name : List ℕ) → Line → Type 0
IsRename number name (lines.Asks (Other (Rename key read))) = (key ≡ number) × (string_bytes read ≡ name_word name)
IsRename number name _ = ⊥
